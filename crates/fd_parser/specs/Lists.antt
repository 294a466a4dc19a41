-- Things of one kind with commas between them.
use Rattle.std.specs.Prelude.{List, [], ◌∷◌}
use Rattle.fd_lexer.specs.declared.token.SignKind.{SignKind}
use Rattle.fd_lexer.specs.declared.token.SignKind.TheVariants.{ParRight, Comma}
use Rattle.fd_lexer.specs.View.{Tok, Sign}

-- thing {, thing}
pub data AreListed {X : Type 0} (IsOne : List Tok → X → List Tok → Type 0) : List Tok → List X → List Tok → Type 0 where
  last_one : {ts us : List Tok} {x : X} → IsOne ts x us → AreListed IsOne ts (x ∷ []) us
  one_more : {ts us vs : List Tok} {x : X} {xs : List X} → IsOne ts x (Sign Comma ∷ us) → AreListed IsOne us xs vs → AreListed IsOne ts (x ∷ xs) vs

-- What can stand behind a thing in a list: a comma, the parenthesis that closes the list, or the line's end.
abbrev pub EndsElementAt : SignKind → Type 0
EndsElementAt Comma = Unit {0}
EndsElementAt ParRight = Unit {0}
EndsElementAt s = ⊥

unfoldable pub EndsElement : List Tok → Type 0
EndsElement [] = Unit {0}
EndsElement (Sign s ∷ ts) = EndsElementAt s
EndsElement (t ∷ ts) = ⊥

-- What can stand behind a list.
abbrev pub EndsListAt : SignKind → Type 0
EndsListAt ParRight = Unit {0}
EndsListAt s = ⊥

unfoldable pub EndsList : List Tok → Type 0
EndsList [] = Unit {0}
EndsList (Sign s ∷ ts) = EndsListAt s
EndsList (t ∷ ts) = ⊥
