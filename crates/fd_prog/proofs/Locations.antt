-- The location form of a reference says where its element lies, and there it has the owner of that position.
use Rattle.std.proofs.Common.{◌≡◌, ℕ, zero, suc, ◌+◌, ◌*◌, ◌/◌, ◌%◌, ◌<◌, ◌≤◌, ℤ, pos, negsuc, ◌+ℤ◌, ◌-ℤ◌, ◌≤ℤ◌, List, [], ◌∷◌, get_or, Option, Some, None, Bool, true, false, nat_lt, if◌then◌else◌, Ok, Err, refl, sym, ap, ◌∙◌, arith}
use Rattle.std.proofs.lemmas.Bool.{ltb-true}
use Rattle.std.proofs.lemmas.Int.{ints}
use Rattle.std.proofs.lemmas.List.FromFn.{get_or-map-range_with_len}
use Rattle.std.proofs.lemmas.Nat.{div-mul-add, mod-mul-add}
use Rattle.std.proofs.Math.Nat.{mod-eq_of_lt}
use Rattle.fd_base.specs.declared.numbers.FaultKind.{FaultKind}
use Rattle.fd_base.specs.declared.shapes.Along.{Along}
use Rattle.fd_base.specs.declared.shapes.Along.TheVariants.{Fixed, Dim}
use Rattle.fd_base.specs.declared.shapes.Dist.{Dist}
use Rattle.fd_base.specs.declared.shapes.Dist.TheVariants.{Block, Cyclic, BlockCyclic, Irregular, Later}
use Rattle.fd_base.specs.declared.shapes.Shape.{Shape}
use Rattle.fd_base.specs.Numbers.{at_least_zero, exact, fits_i64}
use Rattle.fd_base.specs.Places.{IsAligned, offset_at, subscript_at, position_of, owner_in, owners_in, owner_of_position, regular_owners}
use Rattle.fd_base.specs.Shapes.{extent_of, low_of, size_of, within, offset_of, column_major, ordinal_of}
use Rattle.fd_prog.specs.Outcomes.{and_then}
use Rattle.fd_prog.specs.Values.{Readings}
use Rattle.fd_prog.specs.Forms.{LinearForm, Sum, LinearForms, NoForms, Part}
use Rattle.fd_prog.specs.FormValues.{form_value, part_values, terms_value}
use Rattle.fd_prog.specs.Homes.{plus_number, form_at, subscript_along}
use Rattle.fd_prog.specs.Placing.{line_of_positions, place_by}
use Rattle.fd_prog.proofs.Runs.{and_then-ok}

-- ---- the subscripts of an element

-- a number inside its bound is that far above 0
inside : (bound : ℕ) (z : ℤ) (n : ℕ) → within bound z ≡ Some n → (z ≡ pos n) × (n < bound)
inside bound (pos m) n e = inside_by bound m n (nat_lt m bound) (ltb-true m bound) e
  where
    inside_by : (bound m n : ℕ) (b : Bool) → (b ≡ true → m < bound) → (if b then Some m else None) ≡ Some n → (pos m ≡ pos n) × (n < bound)
    inside_by bound m n true t e =
        let same : m ≡ n = cc in
        (ap pos same, rw (← same) (t refl))
    inside_by bound m n false t e = absurd cc
inside bound (negsuc m) n e = absurd cc

-- an element's number, by the offsets of its two subscripts
by_offsets : (shape : Shape) (i j : Option ℕ) (e : ℕ) → column_major shape i j ≡ Ok e → (m : ℕ) × (n : ℕ) × (i ≡ Some m) × (j ≡ Some n) × (e ≡ m + extent_of shape 0 * n)
by_offsets shape (Some m) (Some n) e h = (m, n, refl, refl, cc)
by_offsets shape (Some m) None e h = absurd cc
by_offsets shape None j e h = absurd cc

above : (x low : ℤ) (n : ℕ) → x -ℤ low ≡ pos n → low +ℤ pos n ≡ x
above x low n e = omega (arith, ints)

first_offset : (m n extent : ℕ) → m < extent → (m + extent * n) % extent ≡ m
first_offset m n extent h = ap (λ k. k % extent) (omega arith) ∙ mod-mul-add n extent m h

second_offset : (m n extent : ℕ) → m < extent → (m + extent * n) / extent ≡ n
second_offset m n extent h = ap (λ k. k / extent) (omega arith) ∙ div-mul-add n extent m h

-- the subscripts of the element that two subscripts name are these
pub subscript_is : (shape : Shape) (xs : List ℤ) (e dim : ℕ) → dim < 2 → ordinal_of shape xs ≡ Ok e → subscript_at shape dim e ≡ get_or xs dim (pos 0)
subscript_is shape xs e zero l h =
    let o = by_offsets shape (offset_of shape 0 (get_or xs 0 (pos 0))) (offset_of shape 1 (get_or xs 1 (pos 0))) e h in
    let first = inside (extent_of shape 0) (get_or xs 0 (pos 0) -ℤ low_of shape 0) o.0 o.2 in
    let offset : offset_at shape 0 e ≡ o.0 = ap (λ k. k % extent_of shape 0) o.4 ∙ first_offset o.0 o.1 (extent_of shape 0) first.1 in
    ap (λ k. low_of shape 0 +ℤ pos k) offset ∙ above (get_or xs 0 (pos 0)) (low_of shape 0) o.0 first.0
subscript_is shape xs e (suc zero) l h =
    let o = by_offsets shape (offset_of shape 0 (get_or xs 0 (pos 0))) (offset_of shape 1 (get_or xs 1 (pos 0))) e h in
    let first = inside (extent_of shape 0) (get_or xs 0 (pos 0) -ℤ low_of shape 0) o.0 o.2 in
    let second = inside (extent_of shape 1) (get_or xs 1 (pos 0) -ℤ low_of shape 1) o.1 o.3 in
    let offset : offset_at shape 1 e ≡ o.1 = ap (λ k. k / extent_of shape 0) o.4 ∙ second_offset o.0 o.1 (extent_of shape 0) first.1 in
    ap (λ k. low_of shape 1 +ℤ pos k) offset ∙ above (get_or xs 1 (pos 0)) (low_of shape 1) o.1 second.0
subscript_is shape xs e (suc (suc dim)) l h = absurd (omega (arith, l))

-- ---- the values of forms

exact-ok : (z x : ℤ) → exact z ≡ Ok x → z ≡ x
exact-ok z x e = exact_by z x (fits_i64 z) e
  where
    exact_by : (z x : ℤ) (b : Bool) → (if b then Ok z else Err FaultKind.Overflow) ≡ Ok x → z ≡ x
    exact_by z x true e = cc
    exact_by z x false e = absurd cc

-- the form of a subscript has the subscript's value; one that is missing is 0
pub form_at-value : (r : Readings) (vs : List ℤ) (fs : LinearForms) (xs : List ℤ) (dim : ℕ) → part_values r vs fs ≡ Ok xs → form_value r vs (form_at fs dim) ≡ Ok (get_or xs dim (pos 0))
form_at-value r vs NoForms xs dim e =
    let same : [] ≡ xs = cc in
    rw (← same) refl
form_at-value r vs (Part f fs) xs dim e =
    let a = and_then-ok (and_then (form_value r vs f) exact) (λ x. and_then (part_values r vs fs) (λ ys. Ok (x ∷ ys))) xs e in
    let b = and_then-ok (form_value r vs f) exact a.0 a.1 in
    let c = and_then-ok (part_values r vs fs) (λ ys. Ok (a.0 ∷ ys)) xs a.2 in
    let same : a.0 ∷ c.0 ≡ xs = cc in
    let rest : (d : ℕ) → form_value r vs (form_at fs d) ≡ Ok (get_or c.0 d (pos 0)) = λ d. form_at-value r vs fs c.0 d c.1 in
    at_part r vs f fs xs dim a.0 c.0 (b.1 ∙ ap Ok (exact-ok b.0 a.0 b.2)) same rest
  where
    at_part : (r : Readings) (vs : List ℤ) (f : LinearForm) (fs : LinearForms) (xs : List ℤ) (dim : ℕ) (x : ℤ) (ys : List ℤ) → form_value r vs f ≡ Ok x → x ∷ ys ≡ xs → ((d : ℕ) → form_value r vs (form_at fs d) ≡ Ok (get_or ys d (pos 0))) → form_value r vs (form_at (Part f fs) dim) ≡ Ok (get_or xs dim (pos 0))
    at_part r vs f fs xs zero x ys v s rest = rw (← s) v
    at_part r vs f fs xs (suc dim) x ys v s rest = rw (← s) (rest dim)

regroup : (y c z : ℤ) → y +ℤ (c +ℤ z) ≡ y +ℤ c +ℤ z
regroup y c z = omega (arith, ints)

-- a number more is that much more
pub plus_number-value : (r : Readings) (vs : List ℤ) (f : LinearForm) (x z : ℤ) → form_value r vs f ≡ Ok x → form_value r vs (plus_number f z) ≡ Ok (x +ℤ z)
plus_number-value r vs (Sum ts c) x z e =
    let a = and_then-ok (terms_value r vs ts) (λ y. Ok (y +ℤ c)) x e in
    let same : a.0 +ℤ c ≡ x = cc in
    rw a.1 (ap Ok (regroup a.0 c z ∙ ap (λ k. k +ℤ z) same))

-- ---- locations

from_zero : (z : ℤ) → pos 0 ≤ℤ z → pos (at_least_zero z) ≡ z
from_zero (pos n) h = refl
from_zero (negsuc n) h = absurd (omega (arith, ints, h))

at_zero : (z : ℤ) → pos 0 +ℤ z ≡ z
at_zero z = omega (arith, ints)

not_below : (low shift : ℤ) (n : ℕ) → pos 0 ≤ℤ (low +ℤ shift) → pos 0 ≤ℤ (low +ℤ pos n +ℤ shift)
not_below low shift n h = omega (arith, ints)

shifted : (x shift low p : ℤ) → p ≡ x +ℤ shift → x +ℤ (shift +ℤ low) ≡ p +ℤ low
shifted x shift low p e = omega (arith, ints)

-- the value of the location form is the element's position, above the lower bound
pub location-value : (shape : Shape) (along : Along) (low : ℤ) (extent : ℕ) (r : Readings) (vs : List ℤ) (fs : LinearForms) (xs : List ℤ) (e : ℕ) → shape.dims ≤ 2 → IsAligned shape along extent
    → part_values r vs fs ≡ Ok xs → ordinal_of shape xs ≡ Ok e → form_value r vs (subscript_along along low fs) ≡ Ok (pos (position_of shape along e) +ℤ low)
location-value shape (Fixed position) low extent r vs fs xs e d a v o = ap Ok (at_zero (pos position +ℤ low))
location-value shape (Dim dim shift) low extent r vs fs xs e d a v o =
    let l : dim < 2 = omega (arith, a.0, d) in
    let s : subscript_at shape dim e ≡ get_or xs dim (pos 0) = subscript_is shape xs e dim l o in
    let p : pos (position_of shape (Dim dim shift) e) ≡ subscript_at shape dim e +ℤ shift = from_zero (subscript_at shape dim e +ℤ shift) (not_below (low_of shape dim) shift (offset_at shape dim e) a.1) in
    plus_number-value r vs (form_at fs dim) (get_or xs dim (pos 0)) (shift +ℤ low) (form_at-value r vs fs xs dim v)
    ∙ ap Ok (shifted (get_or xs dim (pos 0)) shift low (pos (position_of shape (Dim dim shift) e)) (p ∙ ap (λ x. x +ℤ shift) s))

-- ---- owners

-- a position along a dimension, as an element of the line of its positions, is itself
pub line_position : (extent position : ℕ) → position < extent → position_of (line_of_positions extent) (Dim 0 (pos 0)) position ≡ position
line_position extent position h = ap (λ k. at_least_zero (pos 0 +ℤ pos k +ℤ pos 0)) (mod-eq_of_lt h) ∙ zero_more position
  where
    zero_more : (n : ℕ) → at_least_zero (pos 0 +ℤ pos n +ℤ pos 0) ≡ n
    zero_more n = omega arith

owner-regular : (shape : Shape) (along : Along) (extent : ℕ) (dist : Dist) (ranks e : ℕ) → e < size_of shape → owner_in (regular_owners shape along extent dist ranks) e ≡ owner_of_position dist extent ranks (position_of shape along e)
unfolding regular_owners
owner-regular shape along extent dist ranks e h = get_or-map-range_with_len (λ element. owner_of_position dist extent ranks (position_of shape along element)) 0 (size_of shape) e e 0 h (omega arith)

pub line_size : (extent position : ℕ) → position < extent → position < size_of (line_of_positions extent)
line_size extent position h = omega arith

-- an element has the owner of its position along the distributed dimension
pub same_owner : (shape : Shape) (along : Along) (extent : ℕ) (dist : Dist) (ranks e : ℕ) → e < size_of shape → position_of shape along e < extent → owner_in (regular_owners shape along extent dist ranks) e ≡ owner_in (regular_owners (line_of_positions extent) (Dim 0 (pos 0)) extent dist ranks) (position_of shape along e)
same_owner shape along extent dist ranks e h p =
    owner-regular shape along extent dist ranks e h
    ∙ (ap (owner_of_position dist extent ranks) (sym (line_position extent (position_of shape along e) p))
    ∙ sym (owner-regular (line_of_positions extent) (Dim 0 (pos 0)) extent dist ranks (position_of shape along e) (line_size extent (position_of shape along e) p)))

-- the same by the places that an attribute gives
pub same_place : (shape : Shape) (along : Along) (extent : ℕ) (dist : Dist) (ranks e : ℕ) → e < size_of shape → position_of shape along e < extent
    → owner_in (owners_in (place_by dist shape along extent ranks)) e ≡ owner_in (owners_in (place_by dist (line_of_positions extent) (Dim 0 (pos 0)) extent ranks)) (position_of shape along e)
same_place shape along extent Block ranks e h p = same_owner shape along extent Block ranks e h p
same_place shape along extent Cyclic ranks e h p = same_owner shape along extent Cyclic ranks e h p
same_place shape along extent (BlockCyclic size) ranks e h p = same_owner shape along extent (BlockCyclic size) ranks e h p
same_place shape along extent Irregular ranks e h p = refl
same_place shape along extent Later ranks e h p = refl
