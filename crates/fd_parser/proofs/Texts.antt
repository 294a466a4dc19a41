-- Names and words, and lines that begin with no name.
use Rattle.std.proofs.Common.{◌≡◌, ℕ, List, [], ◌∷◌, refl, sym}
use Rattle.std.proofs.lemmas.Bool.{eqb-true, eq-eqb}
use Rattle.std.specs.Prelude.{Bool, true, false, ◌==◌, ◌&&◌, ◌↔◌, IsTrue}
use Rattle.fd_lexer.specs.View.{Tok, Name, Num, Words, Dot, Sign}
use Rattle.fd_parser.specs.Scans.{is_text, begins_with, is_assignment, is_while, is_while_group, is_numbered_do}

text_itself : (w : List ℕ) → is_text w w ≡ true
text_itself [] = refl
text_itself (a ∷ as_) = rw (eq-eqb a a refl) (text_itself as_)

text_in : (s w : List ℕ) → s ≡ w → is_text s w ≡ true
text_in s w e = rw e (text_itself w)

same_cons : {a b : ℕ} {as_ bs : List ℕ} → a ≡ b → as_ ≡ bs → a ∷ as_ ≡ b ∷ bs
same_cons e f = rw (e, f) refl

both : (x y : Bool) → (x && y) ≡ true → (x ≡ true) × (y ≡ true)
both true y e = (refl, e)
both false y e = absurd cc

text_out : (s w : List ℕ) → is_text s w ≡ true → s ≡ w
text_out [] [] e = refl
text_out [] (b ∷ bs) e = absurd cc
text_out (a ∷ as_) [] e = absurd cc
text_out (a ∷ as_) (b ∷ bs) e = let p = both (a == b) (is_text as_ bs) e in same_cons (eqb-true a b p.0) (text_out as_ bs p.1)

not_text : (x : Bool) (s w : List ℕ) → is_text s w ≡ x → (s ≡ w → false ≡ true) → false ≡ x
not_text true s w e h = h (text_out s w e)
not_text false s w e h = refl

pub text_is : (x : Bool) (s w : List ℕ) → IsTrue x ↔ (s ≡ w) → x ≡ is_text s w
text_is true s w h = sym (text_in s w (h.0 refl))
text_is false s w h = not_text (is_text s w) s w refl h.1

pub no_word : (ws : List (List ℕ)) (ts : List Tok) → ((s : List ℕ) (us : List Tok) → ts ≡ Name s ∷ us → ⊥) → false ≡ begins_with ws ts
no_word ws [] n = refl
no_word ws (Name s ∷ us) n = absurd (n s us refl)
no_word ws (Num z ∷ us) n = refl
no_word ws (Words s ∷ us) n = refl
no_word ws (Dot w ∷ us) n = refl
no_word ws (Sign s ∷ us) n = refl

pub no_assignment : (ts : List Tok) → ((s : List ℕ) (us : List Tok) → ts ≡ Name s ∷ us → ⊥) → false ≡ is_assignment ts
no_assignment [] n = refl
no_assignment (Name s ∷ us) n = absurd (n s us refl)
no_assignment (Num z ∷ us) n = refl
no_assignment (Words s ∷ us) n = refl
no_assignment (Dot w ∷ us) n = refl
no_assignment (Sign s ∷ us) n = refl

pub no_while : (ts : List Tok) → ((s : List ℕ) (us : List Tok) → ts ≡ Name s ∷ us → ⊥) → false ≡ is_while ts
no_while [] n = refl
no_while (Name s ∷ us) n = absurd (n s us refl)
no_while (Num z ∷ us) n = refl
no_while (Words s ∷ us) n = refl
no_while (Dot w ∷ us) n = refl
no_while (Sign s ∷ us) n = refl

pub no_while_group : (ts : List Tok) → ((s : List ℕ) (us : List Tok) → ts ≡ Name s ∷ us → ⊥) → false ≡ is_while_group ts
no_while_group [] n = refl
no_while_group (Name s ∷ us) n = absurd (n s us refl)
no_while_group (Num z ∷ us) n = refl
no_while_group (Words s ∷ us) n = refl
no_while_group (Dot w ∷ us) n = refl
no_while_group (Sign s ∷ us) n = refl

pub no_numbered_do : (ts : List Tok) → ((s : List ℕ) (us : List Tok) → ts ≡ Name s ∷ us → ⊥) → false ≡ is_numbered_do ts
no_numbered_do [] n = refl
no_numbered_do (Name s ∷ us) n = absurd (n s us refl)
no_numbered_do (Num z ∷ us) n = refl
no_numbered_do (Words s ∷ us) n = refl
no_numbered_do (Dot w ∷ us) n = refl
no_numbered_do (Sign s ∷ us) n = refl
