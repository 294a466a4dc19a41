-- The iteration count of a DO.
use Rattle.std.proofs.Common.{◌≡◌, ℕ, zero, suc, ℤ, pos, negsuc, ◌≤ℤ◌, ◌+ℤ◌, ◌-ℤ◌, unsigned_abs, refl, ap, ◌∙◌, false, Result, Ok, Err, arith, of_z, w64}
use Rattle.std.specs.Prelude.{int_div}
use Rattle.std.specs.Result.{OkIff, result_unwrap_or}
use Rattle.std.proofs.lemmas.Int.{ints}
use Rattle.std.proofs.lemmas.Bool.Decides.{nat_tests}
use Rattle.fd_base.specs.Numbers.{is_zero, at_least_zero, exact_trip_count}

-- a cast to an unsigned number that fails leaves 0
pub unwrap_or-cast : {E : Type 0} (r : Result ℕ E) (q : ℤ) → OkIff r (pos 0 ≤ℤ q) (unsigned_abs q) → result_unwrap_or r 0 ≡ at_least_zero q
unwrap_or-cast (Ok n) (pos m) h = h.1
unwrap_or-cast (Ok n) (negsuc m) h = absurd h.0.le
unwrap_or-cast (Err e) (pos m) h = absurd (h (omega (arith, ints)))
unwrap_or-cast (Err e) (negsuc m) h = refl

pub is_zero-bits : (z : ℤ) → (of_z w64 z ≡ 0 → ⊥) → is_zero z ≡ false
is_zero-bits (pos zero) h = absurd (h refl)
is_zero-bits (pos (suc n)) h = grind (arith, nat_tests)
is_zero-bits (negsuc n) h = refl

-- the count from the quotient that the code divides out
pub trip_count_from : {E : Type 0} (first last step span divisor quotient : ℤ) (r : Result ℕ E) (count : ℕ) → is_zero step ≡ false → span ≡ last -ℤ first +ℤ step → divisor ≡ step → quotient ≡ int_div span divisor → OkIff r (pos 0 ≤ℤ quotient) (unsigned_abs quotient) → count ≡ result_unwrap_or r 0 → Ok count ≡ exact_trip_count first last step
trip_count_from first last step span divisor quotient r count nonzero s d q cast u =
    let e : at_least_zero quotient ≡ at_least_zero (int_div (last -ℤ first +ℤ step) step) = cc in
    rw nonzero (ap Ok (u ∙ unwrap_or-cast r quotient cast ∙ e))
