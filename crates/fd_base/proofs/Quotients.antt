-- Quotients rounded toward zero, and what is left.
use Rattle.std.proofs.Common.{◌≡◌, ℤ, ◌+ℤ◌, ◌-ℤ◌, ◌*ℤ◌, arith}
use Rattle.std.specs.Prelude.{int_div, int_rem}
use Rattle.std.proofs.lemmas.Int.{ints, quot-rem}

left_of_sum : (q r a : ℤ) → q +ℤ r ≡ a → a -ℤ q ≡ r
left_of_sum q r a e = omega (arith, ints)

-- what is left of a number less the divisor times the quotient is the remainder
pub remainder_is : (a b : ℤ) → a -ℤ int_div a b *ℤ b ≡ int_rem a b
remainder_is a b = left_of_sum (int_div a b *ℤ b) (int_rem a b) a (quot-rem a b)
