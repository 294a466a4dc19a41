-- The values of two expressions.
use Rattle.std.proofs.Common.{◌≡◌, ℤ, ◌≤◌, [], ◌∷◌, Ok, refl, arith}
use Rattle.fd_prog.specs.Outcomes.{and_then}
use Rattle.fd_prog.specs.Expressions.{Expression, Expressions, End, More}
use Rattle.fd_prog.specs.Values.{Readings, value_of, values_of, pair_of}
use Rattle.fd_prog.specs.WellFormed.{count_of}

-- two expressions with these values have this pair
pub pair_of-values : (r : Readings) (d e : Expression) (es : Expressions) (x y : ℤ) → count_of (More d (More e es)) ≤ 2 → value_of r d ≡ Ok x → value_of r e ≡ Ok y
    → and_then (values_of r (More d (More e es))) (λ xs. Ok (pair_of xs)) ≡ Ok (x ∷ (y ∷ []))
pair_of-values r d e End x y two first second = rw (first, second) refl
pair_of-values r d e (More f es) x y two first second = absurd (omega arith)
