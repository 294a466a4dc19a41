-- What a quoted text stands for.
use Rattle.std.proofs.Common.{◌≡◌, ℕ, false, List, [], ◌∷◌, ◌++◌, refl, ap, inl, inr}
use Rattle.std.specs.Prelude.{◌==◌}
use Rattle.std.proofs.lemmas.Bool.{eqb-true}
use Rattle.std.proofs.lemmas.Bool.Decides.{nat_tests}
use Rattle.std.proofs.Common.{arith}
use Rattle.fd_lexer.specs.View.{unquoted}
use Rattle.fd_lexer.specs.Words.{IsQuoted, close, quote, byte, doubled}
use Rattle.fd_lexer.proofs.Fronts.{cases_of}

pub content_of : {bs rest : List ℕ} → IsQuoted bs rest → (content : List ℕ) × (bs ≡ doubled content ++ 39 ∷ rest)
content_of (close h) = ([], refl)
content_of (quote d) = let c = content_of d in (39 ∷ c.0, ap (λ (bs : List ℕ). 39 ∷ (39 ∷ bs)) c.1)
content_of (byte {b = b} n d) =
    let c = content_of d in
    let e : (b == 39) ≡ false = grind (arith, nat_tests) in
    (b ∷ c.0, rw e (ap (λ (bs : List ℕ). b ∷ bs) c.1))

pub unquoted-doubled : (content : List ℕ) → unquoted (doubled content) ≡ content
unquoted-doubled [] = refl
unquoted-doubled (b ∷ bs) = elim (cases_of (b == 39)) [
  | inl e ↦ let f : b ≡ 39 = eqb-true b 39 e in rw (e, f) (ap (λ (cs : List ℕ). 39 ∷ cs) (unquoted-doubled bs))
  | inr e ↦ rw (e, e) (ap (λ (cs : List ℕ). b ∷ cs) (unquoted-doubled bs))
]
