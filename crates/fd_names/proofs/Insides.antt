-- A target puts an array inside a dimension of its decomposition exactly where each element lies in it.
use Rattle.std.proofs.Common.{◌≡◌, ℕ, zero, suc, ◌<◌, ◌≤◌, ◌^◌, ℤ, pos, negsuc, ◌+ℤ◌, ◌-ℤ◌, Bool, true, false, ◌&&◌, refl, Option, None, Some, unsigned_abs, nat_lt, arith}
use Rattle.std.specs.Prelude.{int_le, int_lt}
use Rattle.std.proofs.lemmas.Bool.Decides.{nat_tests}
use Rattle.std.proofs.Math.Dec.{T}
use Rattle.std.proofs.lemmas.Float.{T_from_true}
use Rattle.std.proofs.lemmas.Int.{ints}
use lib.Signed.{◌≤ℤ◌, ◌<ℤ◌, le_z_yes, lt_z_yes}
use Rattle.fd_base.specs.Numbers.{fits_i64}
use Rattle.fd_base.specs.Shapes.{extent_of, low_of}
use Rattle.fd_base.specs.declared.shapes.Shape.{Shape}
use Rattle.fd_prog.specs.Mapped.{IsBounded}
use Rattle.fd_names.specs.Alignments.{inside_by, is_inside, offset_of}
use Rattle.fd_names.specs.Inside.{IsElement, IsSubscript, IsTarget, LiesWithin, NamesDimension, subscript_by}
use Rattle.fd_names.specs.declared.alignments.Aim.{Aim}

-- ---- tests

le_from : (a b : ℤ) → int_le a b ≡ true → a ≤ℤ b
le_from a b h = le_z_yes (T_from_true (int_le a b) h)

lt_from : (a b : ℤ) → int_lt a b ≡ true → a <ℤ b
lt_from a b h = lt_z_yes (T_from_true (int_lt a b) h)

true_of : (b : Bool) → T b → b ≡ true
true_of true h = refl
true_of false h = absurd h

le_is : (a b : ℤ) → a ≤ℤ b → int_le a b ≡ true
le_is a b h = true_of (int_le a b) h.le

lt_is : (a b : ℤ) → a <ℤ b → int_lt a b ≡ true
lt_is a b h = true_of (int_lt a b) h.lt

below_from : (a b : ℕ) → nat_lt a b ≡ true → a < b
below_from a b h = grind (arith, nat_tests)

below_is : (a b : ℕ) → a < b → nat_lt a b ≡ true
below_is a b h = grind (arith, nat_tests)

both_from : (a b : Bool) → (a && b) ≡ true → (a ≡ true) × (b ≡ true)
both_from true true h = (refl, refl)
both_from true false h = absurd cc
both_from false b h = absurd cc

both_is : (a b : Bool) → a ≡ true → b ≡ true → (a && b) ≡ true
both_is true b p q = q
both_is false b p q = absurd cc

five_from : (a b c d e : Bool) → (a && b && c && d && e) ≡ true → (a ≡ true) × (d ≡ true) × (e ≡ true)
five_from true true true true true h = (refl, refl, refl)
five_from true true true true false h = absurd cc
five_from true true true false e h = absurd cc
five_from true true false d e h = absurd cc
five_from true false c d e h = absurd cc
five_from false b c d e h = absurd cc

five_is : (a b c d e : Bool) → a ≡ true → b ≡ true → c ≡ true → d ≡ true → e ≡ true → (a && b && c && d && e) ≡ true
five_is true true true true true p q r s t = refl
five_is true true true true false p q r s t = absurd cc
five_is true true true false e p q r s t = absurd cc
five_is true true false d e p q r s t = absurd cc
five_is true false c d e p q r s t = absurd cc
five_is false b c d e p q r s t = absurd cc

-- ---- inside, so each element lies in it

constant_least : (offset low : ℤ) → pos 0 ≤ℤ (offset -ℤ low) → low ≤ℤ offset
constant_least offset low h = omega (arith, ints)

constant_most : (offset low : ℤ) (extent : ℕ) → (offset -ℤ low) <ℤ pos extent → offset <ℤ (low +ℤ pos extent)
constant_most offset low extent h = omega (arith, ints)

subscript_least : (i offset low onto : ℤ) → pos 0 ≤ℤ (low +ℤ (offset -ℤ onto)) → low ≤ℤ i → onto ≤ℤ (i +ℤ offset)
subscript_least i offset low onto h l = omega (arith, ints)

subscript_most : (i offset low onto : ℤ) (extent room : ℕ) → (low +ℤ (offset -ℤ onto) +ℤ pos extent) ≤ℤ pos room → i <ℤ (low +ℤ pos extent) → (i +ℤ offset) <ℤ (onto +ℤ pos room)
subscript_most i offset low onto extent room h m = omega (arith, ints)

lies_by : (o : Option ℕ) (shape onto : Shape) (t : ℕ) (offset : ℤ) → inside_by o shape (extent_of onto t) (offset -ℤ low_of onto t) ≡ true → (subs : ℕ → ℤ) → IsElement shape subs → IsSubscript onto t (subscript_by o offset subs)
lies_by None shape onto t offset h subs el =
    let f = both_from (int_le (pos 0) (offset -ℤ low_of onto t)) (int_lt (offset -ℤ low_of onto t) (pos (extent_of onto t))) h in
    record { least = constant_least offset (low_of onto t) (le_from _ _ f.0); most = constant_most offset (low_of onto t) (extent_of onto t) (lt_from _ _ f.1) }
lies_by (Some k) shape onto t offset h subs el =
    let shift = offset -ℤ low_of onto t in
    let f = five_from (nat_lt k shape.dims) (nat_lt k 2) (fits_i64 shift) (int_le (pos 0) (low_of shape k +ℤ shift)) (int_le (low_of shape k +ℤ shift +ℤ pos (extent_of shape k)) (pos (extent_of onto t))) h in
    let e = el k (below_from k shape.dims f.0) in
    record { least = subscript_least (subs k) offset (low_of shape k) (low_of onto t) (le_from _ _ f.1) e.least; most = subscript_most (subs k) offset (low_of shape k) (low_of onto t) (extent_of shape k) (extent_of onto t) (le_from _ _ f.2) e.most }

pub inside_lies : (shape onto : Shape) (t : ℕ) (a : Aim) → is_inside shape onto t a ≡ true → LiesWithin shape onto t a
inside_lies shape onto t a h = lies_by a.dim shape onto t (offset_of a) h

-- ---- each element lies in it, so inside

abbrev least_subs : Shape → ℕ → ℤ
least_subs shape dim = low_of shape dim

abbrev greatest_subs : Shape → ℕ → ℤ
greatest_subs shape dim = low_of shape dim +ℤ pos (extent_of shape dim) -ℤ pos 1

bounded : (shape : Shape) (dim : ℕ) → shape.dims ≤ 2 → IsBounded shape 0 → IsBounded shape 1 → dim < shape.dims → IsBounded shape dim
bounded shape zero d f s h = f
bounded shape (suc zero) d f s h = s
bounded shape (suc (suc dim)) d f s h = absurd (omega (arith, h, d))

same_least : (low : ℤ) → low ≤ℤ low
same_least low = omega (arith, ints)

same_most : (low : ℤ) (extent : ℕ) → 1 ≤ extent → low <ℤ (low +ℤ pos extent)
same_most low extent h = omega (arith, ints)

last_least : (low : ℤ) (extent : ℕ) → 1 ≤ extent → low ≤ℤ (low +ℤ pos extent -ℤ pos 1)
last_least low extent h = omega (arith, ints)

last_most : (low : ℤ) (extent : ℕ) → (low +ℤ pos extent -ℤ pos 1) <ℤ (low +ℤ pos extent)
last_most low extent = omega (arith, ints)

least_element : (shape : Shape) → shape.dims ≤ 2 → IsBounded shape 0 → IsBounded shape 1 → IsElement shape (least_subs shape)
least_element shape d f s dim h = record { least = same_least (low_of shape dim); most = same_most (low_of shape dim) (extent_of shape dim) (bounded shape dim d f s h).least }

greatest_element : (shape : Shape) → shape.dims ≤ 2 → IsBounded shape 0 → IsBounded shape 1 → IsElement shape (greatest_subs shape)
greatest_element shape d f s dim h = record { least = last_least (low_of shape dim) (extent_of shape dim) (bounded shape dim d f s h).least; most = last_most (low_of shape dim) (extent_of shape dim) }

fits_small : (z : ℤ) → unsigned_abs z ≤ 2 ^ 33 → fits_i64 z ≡ true
fits_small (pos n) h = below_is n (2 ^ 63) (omega (arith, h))
fits_small (negsuc n) h = below_is n (2 ^ 63) (omega (arith, h))

shift_small : (low shift : ℤ) (extent bound : ℕ) → unsigned_abs low ≤ 2 ^ 31 → pos 0 ≤ℤ (low +ℤ shift) → (low +ℤ shift +ℤ pos extent) ≤ℤ pos bound → bound ≤ 262144 → unsigned_abs shift ≤ 2 ^ 33
shift_small low shift extent bound l a b e = omega (arith, ints)

constant_first : (offset low : ℤ) → low ≤ℤ offset → pos 0 ≤ℤ (offset -ℤ low)
constant_first offset low h = omega (arith, ints)

constant_last : (offset low : ℤ) (extent : ℕ) → offset <ℤ (low +ℤ pos extent) → (offset -ℤ low) <ℤ pos extent
constant_last offset low extent h = omega (arith, ints)

position_first : (offset low onto : ℤ) → onto ≤ℤ (low +ℤ offset) → pos 0 ≤ℤ (low +ℤ (offset -ℤ onto))
position_first offset low onto h = omega (arith, ints)

position_last : (offset low onto : ℤ) (extent room : ℕ) → (low +ℤ pos extent -ℤ pos 1 +ℤ offset) <ℤ (onto +ℤ pos room) → (low +ℤ (offset -ℤ onto) +ℤ pos extent) ≤ℤ pos room
position_last offset low onto extent room h = omega (arith, ints)

below_two : (k n : ℕ) → k < n → n ≤ 2 → k < 2
below_two k n h d = omega arith

inside_from : (o : Option ℕ) (shape onto : Shape) (t : ℕ) (offset : ℤ) → shape.dims ≤ 2 → IsBounded shape 0 → IsBounded shape 1 → IsBounded onto t → NamesDimension shape o
    → ((subs : ℕ → ℤ) → IsElement shape subs → IsSubscript onto t (subscript_by o offset subs)) → inside_by o shape (extent_of onto t) (offset -ℤ low_of onto t) ≡ true
inside_from None shape onto t offset d f s b n h =
    let e = h (least_subs shape) (least_element shape d f s) in
    both_is (int_le (pos 0) (offset -ℤ low_of onto t)) (int_lt (offset -ℤ low_of onto t) (pos (extent_of onto t))) (le_is _ _ (constant_first offset (low_of onto t) e.least)) (lt_is _ _ (constant_last offset (low_of onto t) (extent_of onto t) e.most))
inside_from (Some k) shape onto t offset d f s b n h = by (h (least_subs shape) (least_element shape d f s)).least (h (greatest_subs shape) (greatest_element shape d f s)).most
  where
    by : low_of onto t ≤ℤ (least_subs shape k +ℤ offset) → (greatest_subs shape k +ℤ offset) <ℤ (low_of onto t +ℤ pos (extent_of onto t)) → inside_by (Some k) shape (extent_of onto t) (offset -ℤ low_of onto t) ≡ true
    by l g =
        let shift = offset -ℤ low_of onto t in
        let first = position_first offset (low_of shape k) (low_of onto t) l in
        let last = position_last offset (low_of shape k) (low_of onto t) (extent_of shape k) (extent_of onto t) g in
        let small = shift_small (low_of shape k) shift (extent_of shape k) (extent_of onto t) (bounded shape k d f s n).low first last b.most in
        five_is (nat_lt k shape.dims) (nat_lt k 2) (fits_i64 shift) (int_le (pos 0) (low_of shape k +ℤ shift)) (int_le (low_of shape k +ℤ shift +ℤ pos (extent_of shape k)) (pos (extent_of onto t)))
        (below_is k shape.dims n) (below_is k 2 (below_two k shape.dims n d)) (fits_small shift small) (le_is _ _ first) (le_is _ _ last)

pub lies_inside : (shape onto : Shape) (t : ℕ) (a : Aim) → IsTarget shape onto t a → LiesWithin shape onto t a → is_inside shape onto t a ≡ true
lies_inside shape onto t a m h = inside_from a.dim shape onto t (offset_of a) m.dims m.first m.second m.room m.dim h
