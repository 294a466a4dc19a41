-- Numbers of elements are below the size of the shape.
use Rattle.std.proofs.Common.{◌≡◌, ℕ, ◌+◌, ◌*◌, ◌<◌, ℤ, pos, negsuc, Bool, true, false, cond, List, get_or, nat_lt, Option, Some, None, Result, Ok, Err, IfOk, refl, sym, arith}
use Rattle.std.proofs.lemmas.Bool.Decides.{nat_tests}
use Rattle.std.proofs.Math.Nat.{mul-le-mul_left}
use Rattle.fd_base.specs.declared.numbers.FaultKind.{FaultKind}
use Rattle.fd_base.specs.declared.shapes.Shape.{Shape}
use Rattle.fd_base.specs.Shapes.{extent_of, offset_of, column_major, ordinal_of, size_of, within}

within-below : (bound n : ℕ) (z : ℤ) → within bound z ≡ Some n → n < bound
within-below bound n (pos m) h = by (nat_lt m bound) refl h
  where
    by : (b : Bool) → nat_lt m bound ≡ b → cond b (Some m) None ≡ Some n → n < bound
    by true e h = let same : m ≡ n = cc in grind (arith, nat_tests)
    by false e h = absurd (cc)
within-below bound n (negsuc m) h = absurd (cc)

inside : (a b i j : ℕ) → i < a → j < b → i + a * j < a * b
inside a b i j h k = omega (arith, h, mul-le-mul_left {m = j + 1} {n = b} a (omega (arith, k)), spread)
  where
    spread : a * (j + 1) ≡ a * j + a
    spread = grind arith

column-below : (shape : Shape) (p q : Option ℕ) (n : ℕ) → ((i : ℕ) → p ≡ Some i → i < extent_of shape 0) → ((j : ℕ) → q ≡ Some j → j < extent_of shape 1) → column_major shape p q ≡ Ok n → n < size_of shape
column-below shape (Some i) (Some j) n h k e =
    let same : i + extent_of shape 0 * j ≡ n = cc in
    omega (arith, same, inside (extent_of shape 0) (extent_of shape 1) i j (h i refl) (k j refl))
column-below shape (Some i) None n h k e = absurd (cc)
column-below shape None q n h k e = absurd (cc)

-- the number of an element is below the size
pub ordinal-below : (shape : Shape) (xs : List ℤ) (n : ℕ) → ordinal_of shape xs ≡ Ok n → n < size_of shape
ordinal-below shape xs n e =
    column-below shape (offset_of shape 0 (get_or xs 0 (pos 0))) (offset_of shape 1 (get_or xs 1 (pos 0))) n
    (λ i h. within-below (extent_of shape 0) i _ h) (λ j h. within-below (extent_of shape 1) j _ h) e

pub ordinal-inside : (shape : Shape) (xs : List ℤ) (r : Result ℕ FaultKind) → r ≡ ordinal_of shape xs → IfOk r (λ n. n < size_of shape)
ordinal-inside shape xs (Ok n) e = ordinal-below shape xs n (sym e)
ordinal-inside shape xs (Err k) e = tt
