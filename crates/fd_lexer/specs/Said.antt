-- What the logical lines of a text say.
use Rattle.std.specs.Prelude.{◌≡◌, ℕ, List, [], ◌∷◌, ◌++◌}
use Rattle.fd_lexer.specs.declared.token.Token.{Token}
use Rattle.fd_lexer.specs.View.{Tok, TokenLine, tok_at}
use Rattle.fd_lexer.specs.Physical.{Physical}
use Rattle.fd_lexer.specs.Logical.{number_of, HasTokens}

-- what tokens of a text say, one after the other
abbrev pub said : List ℕ → List Token → List Tok
said text [] = []
said text (t ∷ ts) = tok_at text t.start t.end t.kind ++ said text ts

-- a logical line of the text has this number, and its tokens say this
pub record Says (text : List ℕ) (l : List Physical) (t : TokenLine) : Type 0 where
  pub tokens : List Token
  pub have : HasTokens l tokens
  pub number_is : t.number ≡ number_of l
  pub toks_are : t.toks ≡ said text tokens

-- logical lines, and what each of them says
pub data AreSaid (text : List ℕ) : List (List Physical) → List TokenLine → Type 0 where
  nothing_said : AreSaid text [] []
  one_said : {l : List Physical} {t : TokenLine} {ls : List (List Physical)} {ts : List TokenLine} → Says text l t → AreSaid text ls ts → AreSaid text (l ∷ ls) (t ∷ ts)
