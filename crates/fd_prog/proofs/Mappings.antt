-- The owner of an element is the owner of its position, in every mapping.
use Rattle.std.proofs.Common.{◌≡◌, ℕ, zero, suc, ◌+◌, ◌*◌, ◌/◌, ◌%◌, ◌<◌, ◌≤◌, ◌==◌, ℤ, pos, ◌+ℤ◌, ◌-ℤ◌, ◌≤ℤ◌, Bool, true, false, cond, nat_lt, List, [], ◌∷◌, map, length, get_or, slice_get, All, Option, Some, None, option_map, option_and_then, unwrap_or, slice_index_or, subst, Result, Ok, Err, refl, sym, ap, ap₂, ◌∙◌, arith}
use Rattle.std.specs.List.{range_with_len}
use Rattle.std.proofs.Math.Nat.{mul-le-mul_left}
use Rattle.std.proofs.lemmas.Bool.{eqb-true}
use Rattle.std.proofs.lemmas.Int.{ints}
use Rattle.std.proofs.lemmas.List.FromFn.{get_or-map-range_with_len, length-map-range_with_len}
use Rattle.std.proofs.lemmas.Nat.{div_below, mod_below}
use Rattle.std.proofs.lemmas.Option.{get_or_from_slice_get, slice_get-map, slice_get_within}
use Rattle.fd_base.specs.declared.shapes.Along.{Along}
use Rattle.fd_base.specs.declared.shapes.Along.TheVariants.{Fixed, Dim}
use Rattle.fd_base.specs.declared.shapes.Dist.{Dist}
use Rattle.fd_base.specs.declared.shapes.Dist.TheVariants.{Block, Cyclic, BlockCyclic, Irregular, Later}
use Rattle.fd_base.specs.declared.shapes.Shape.{Shape}
use Rattle.fd_base.specs.Numbers.{at_least_zero}
use Rattle.fd_base.specs.Places.{Place, Whole, Unset, Split, IsAligned, is_owner, irregular_owners, offset_at, owner_by_map, owner_by_value, owner_in, owner_of_position, owners_by, position_of, regular_owners, subscript_at}
use Rattle.fd_base.specs.Shapes.{IsShape, extent_of, low_of, size_of}
use Rattle.fd_prog.specs.declared.program.Array.{Array}
use Rattle.fd_prog.specs.declared.program.Decomp.{Decomp}
use Rattle.fd_prog.specs.declared.statement.Remapped.{Remapped}
use Rattle.fd_prog.specs.declared.statement.Remapped.TheVariants.{Map, Regular}
use Rattle.fd_prog.specs.Programs.{CheckedProgram}
use Rattle.fd_prog.specs.Stores.{Store}
use Rattle.fd_prog.specs.Homes.{Distribution, distribution_of, distribution_over}
use Rattle.fd_prog.specs.Mapped.{IsInside, IsMapped, IsMappedArray, LiesInside}
use Rattle.fd_prog.specs.Mappings.{AreConsistent, Mapping, array_place, decomp_place, extent_along, first_mapping, given_place, is_aligned_with, redistributed, redistributed_array, redistributed_decomp}
use Rattle.fd_prog.specs.Placing.{line_of_positions, place_by, place_of_array, place_of_decomp}
use Rattle.fd_prog.proofs.Locations.{line_position, line_size, same_owner}

-- ---- positions

from_zero : (z : ℤ) (n : ℕ) → pos 0 ≤ℤ z → (z +ℤ pos 1) ≤ℤ pos n → at_least_zero z < n
from_zero (pos m) n h k = omega (arith, ints, k)
from_zero (ℤ.negsuc m) n h k = absurd (omega (arith, ints, h))

offset-lt : (shape : Shape) (dim element : ℕ) → dim < 2 → element < size_of shape → offset_at shape dim element < extent_of shape dim
offset-lt shape zero element l h = mod_below element (extent_of shape 0) (first_positive (extent_of shape 0) (extent_of shape 1) h)
  where
    first_positive : (a b : ℕ) → element < a * b → 0 < a
    first_positive zero b h = absurd (omega (arith, h))
    first_positive (suc a) b h = omega arith
offset-lt shape (suc zero) element l h = div_below element (extent_of shape 0) (extent_of shape 1) (first_positive (extent_of shape 0) (extent_of shape 1) h) (omega (arith, h, swap (extent_of shape 0) (extent_of shape 1)))
  where
    first_positive : (a b : ℕ) → element < a * b → 0 < a
    first_positive zero b h = absurd (omega (arith, h))
    first_positive (suc a) b h = omega arith

    swap : (a b : ℕ) → a * b ≡ b * a
    swap a b = omega arith
offset-lt shape (suc (suc dim)) element l h = absurd (omega (arith, l))

-- every element of an aligned array has a position
pub position-lt : (shape : Shape) (along : Along) (extent element : ℕ) → shape.dims ≤ 2 → IsAligned shape along extent → element < size_of shape → position_of shape along element < extent
position-lt shape (Fixed position) extent element d a h = a
position-lt shape (Dim dim shift) extent element d a h =
    let l : dim < 2 = omega (arith, a.0, d) in
    let o = offset-lt shape dim element l h in
    from_zero (subscript_at shape dim element +ℤ shift) extent (low (low_of shape dim) shift (offset_at shape dim element) a.1)
    (high (low_of shape dim) shift (offset_at shape dim element) (extent_of shape dim) extent o a.2)
  where
    low : (b s : ℤ) (n : ℕ) → pos 0 ≤ℤ (b +ℤ s) → pos 0 ≤ℤ (b +ℤ pos n +ℤ s)
    low b s n k = omega (arith, ints, k)

    high : (b s : ℤ) (n m e : ℕ) → n < m → (b +ℤ s +ℤ pos m) ≤ℤ pos e → (b +ℤ pos n +ℤ s +ℤ pos 1) ≤ℤ pos e
    high b s n m e k j = omega (arith, ints, k, j)

-- ---- owners

-- an element's owner is that of its position
pub owner-by : (f : ℕ → ℕ) (shape : Shape) (along : Along) (element : ℕ) → element < size_of shape → owner_in (owners_by f shape along) element ≡ f (position_of shape along element)
owner-by f shape along element h = get_or-map-range_with_len (λ e. f (position_of shape along e)) 0 (size_of shape) element element 0 h (omega arith)

-- also where positions are seen as the elements of a line
pub owner-of-position : (f : ℕ → ℕ) (shape : Shape) (along : Along) (extent element : ℕ) → element < size_of shape → position_of shape along element < extent
    → owner_in (owners_by f shape along) element ≡ owner_in (owners_by f (line_of_positions extent) (Dim 0 (pos 0))) (position_of shape along element)
owner-of-position f shape along extent element h k =
    owner-by f shape along element h
    ∙ (ap f (sym (line_position extent (position_of shape along element) k))
    ∙ sym (owner-by f (line_of_positions extent) (Dim 0 (pos 0)) (position_of shape along element) (line_size extent (position_of shape along element) k)))

-- there is an owner for each element
pub owners-length : (f : ℕ → ℕ) (shape : Shape) (along : Along) → length (owners_by f shape along) ≡ size_of shape
owners-length f shape along = length-map-range_with_len (λ e. f (position_of shape along e)) 0 (size_of shape)

-- ---- places

-- the places that an attribute gives to an array and to the line of its positions
same_by : (dist : Dist) (shape : Shape) (along : Along) (extent ranks element rank : ℕ) → element < size_of shape → position_of shape along element < extent
    → is_owner (place_by dist shape along extent ranks) element rank ≡ is_owner (place_by dist (line_of_positions extent) (Dim 0 (pos 0)) extent ranks) (position_of shape along element) rank
same_by Block shape along extent ranks element rank h k = ap (λ o. o == rank) (same_owner shape along extent Block ranks element h k)
same_by Cyclic shape along extent ranks element rank h k = ap (λ o. o == rank) (same_owner shape along extent Cyclic ranks element h k)
same_by (BlockCyclic size) shape along extent ranks element rank h k = ap (λ o. o == rank) (same_owner shape along extent (BlockCyclic size) ranks element h k)
same_by Irregular shape along extent ranks element rank h k = refl
same_by Later shape along extent ranks element rank h k = refl

-- the same of what a DISTRIBUTE gives
same_given : (s : Store) (given : Remapped) (shape : Shape) (along : Along) (extent ranks element rank : ℕ) → element < size_of shape → position_of shape along element < extent
    → is_owner (given_place s ranks given shape along extent) element rank ≡ is_owner (given_place s ranks given (line_of_positions extent) (Dim 0 (pos 0)) extent) (position_of shape along element) rank
same_given s (Map array) shape along extent ranks element rank h k = ap (λ o. o == rank) (owner-of-position (owner_by_map (slice_index_or s.arrays array []) ranks) shape along extent element h k)
same_given s (Regular dist) shape along extent ranks element rank h k = same_by dist shape along extent ranks element rank h k

-- an aligned array's element has a position of its decomposition
aligned : (p : CheckedProgram) (array decomp : ℕ) (a : Array) (d : Decomp) → IsMapped p → slice_get p.arrays array ≡ Some a → a.decomp ≡ Some decomp → slice_get p.decomps decomp ≡ Some d
    → (a.shape.dims ≤ 2) × IsAligned a.shape a.along (extent_of d.shape d.dim)
aligned p array decomp a d mapped ea eo ed =
    let lt = (slice_get_within p.arrays array a ea) in
    let P : Array → Type 0 = IsMappedArray p in
    let here = subst P (get_or_from_slice_get p.arrays array a a ea) (mapped.arrays array a lt) in
    let I : Option ℕ → Type 0 = IsInside p a in
    let L : Option Decomp → Type 0 = LiesInside a in
    (here.shape.dims.1, subst L ed (subst I eo here.inside))

at_map : {A B : Type 0} (f : A → B) (xs : List A) (i : ℕ) (x : A) (d : B) → slice_get xs i ≡ Some x → get_or (map f xs) i d ≡ f x
at_map f xs i x d e = get_or_from_slice_get (map f xs) i (f x) d (slice_get-map f xs i ∙ ap (option_map f) e)

-- the places of an array and of its decomposition before a program runs
same_first : (o : Option Dist) (decomp : ℕ) (low : ℤ) (shape : Shape) (along : Along) (extent ranks element rank : ℕ) → element < size_of shape → position_of shape along element < extent
    → is_owner (unwrap_or (option_map (λ (d : Distribution). place_by d.dist shape d.along d.extent ranks) (option_map (λ dist. record { decomp = decomp; along = along; low = low; extent = extent; dist = dist }) o)) Whole) element rank
    ≡ is_owner (unwrap_or (option_map (λ (dist : Dist). place_by dist (line_of_positions extent) (Dim 0 (pos 0)) extent ranks) o) Whole) (position_of shape along element) rank
same_first None decomp low shape along extent ranks element rank h k = refl
same_first (Some dist) decomp low shape along extent ranks element rank h k = same_by dist shape along extent ranks element rank h k

-- the mapping before a program runs is consistent
pub first-consistent : (p : CheckedProgram) (ranks : ℕ) → IsMapped p → AreConsistent p (array_place (first_mapping p ranks)) (decomp_place (first_mapping p ranks))
first-consistent p ranks mapped = record { owners = λ array decomp a d ea eo ed element rank inside. at array decomp a d ea eo ed element rank inside (aligned p array decomp a d mapped ea eo ed) }
  where
    placed : (a : Array) (decomp : ℕ) (d : Decomp) → a.decomp ≡ Some decomp → slice_get p.decomps decomp ≡ Some d → distribution_of p a ≡ distribution_over decomp a.along d
    placed a decomp d eo ed = ap (option_and_then (λ number. option_and_then (distribution_over number a.along) (slice_get p.decomps number))) eo ∙ ap (option_and_then (distribution_over decomp a.along)) ed

    at : (array decomp : ℕ) (a : Array) (d : Decomp) → slice_get p.arrays array ≡ Some a → a.decomp ≡ Some decomp → slice_get p.decomps decomp ≡ Some d → (element rank : ℕ) → element < size_of a.shape
        → (a.shape.dims ≤ 2) × IsAligned a.shape a.along (extent_of d.shape d.dim)
        → is_owner (array_place (first_mapping p ranks) array) element rank ≡ is_owner (decomp_place (first_mapping p ranks) decomp) (position_of a.shape a.along element) rank
    at array decomp a d ea eo ed element rank inside lies =
        ap (λ place. is_owner place element rank) (at_map (place_of_array p ranks) p.arrays array a Whole ea ∙ ap (λ o. unwrap_or (option_map (λ (x : Distribution). place_by x.dist a.shape x.along x.extent ranks) o) Whole) (placed a decomp d eo ed))
        ∙ (same_first d.dist decomp (low_of d.shape d.dim) a.shape a.along (extent_of d.shape d.dim) ranks element rank inside (position-lt a.shape a.along (extent_of d.shape d.dim) element lies.0 lies.1 inside)
        ∙ sym (ap (λ place. is_owner place (position_of a.shape a.along element) rank) (at_map (place_of_decomp ranks) p.decomps decomp d Whole ed)))

-- and so is that behind a DISTRIBUTE
pub redistributed-consistent : (p : CheckedProgram) (s : Store) (ranks decomp : ℕ) (given : Remapped) (m : Mapping) → IsMapped p → AreConsistent p (array_place m) (decomp_place m)
    → AreConsistent p (array_place (redistributed p s ranks decomp given m)) (decomp_place (redistributed p s ranks decomp given m))
redistributed-consistent p s ranks decomp given m mapped before =
    record { owners = λ array number a d ea eo ed element rank inside. at array number a d ea eo ed element rank inside (aligned p array number a d mapped ea eo ed) }
  where
    next : Mapping
    next = redistributed p s ranks decomp given m

    of_array : (array number : ℕ) (a : Array) → slice_get p.arrays array ≡ Some a → a.decomp ≡ Some number
        → array_place next array ≡ cond (number == decomp) (given_place s ranks given a.shape a.along (extent_along p decomp)) (array_place m array)
    of_array array number a ea eo =
        get_or-map-range_with_len (λ k. unwrap_or (option_map (redistributed_array p s ranks decomp given (array_place m k)) (slice_get p.arrays k)) Whole) 0 (length p.arrays) array array Whole (slice_get_within p.arrays array a ea) (omega arith)
        ∙ (ap (λ o. unwrap_or (option_map (redistributed_array p s ranks decomp given (array_place m array)) o) Whole) ea
        ∙ ap (λ o. cond (is_aligned_with decomp o) (given_place s ranks given a.shape a.along (extent_along p decomp)) (array_place m array)) eo)

    of_decomp : (number : ℕ) (d : Decomp) → slice_get p.decomps number ≡ Some d
        → decomp_place next number ≡ cond (number == decomp) (given_place s ranks given (line_of_positions (extent_along p decomp)) (Dim 0 (pos 0)) (extent_along p decomp)) (decomp_place m number)
    of_decomp number d ed = get_or-map-range_with_len (λ k. redistributed_decomp p s ranks decomp given (decomp_place m k) k) 0 (length p.decomps) number number Whole (slice_get_within p.decomps number d ed) (omega arith)

    by : (b : Bool) (array number : ℕ) (a : Array) (d : Decomp) → (number == decomp) ≡ b → slice_get p.arrays array ≡ Some a → a.decomp ≡ Some number → slice_get p.decomps number ≡ Some d → (element rank : ℕ) → element < size_of a.shape
        → (a.shape.dims ≤ 2) × IsAligned a.shape a.along (extent_of d.shape d.dim)
        → is_owner (cond b (given_place s ranks given a.shape a.along (extent_along p decomp)) (array_place m array)) element rank
        ≡ is_owner (cond b (given_place s ranks given (line_of_positions (extent_along p decomp)) (Dim 0 (pos 0)) (extent_along p decomp)) (decomp_place m number)) (position_of a.shape a.along element) rank
    by false array number a d same ea eo ed element rank inside lies = before.owners array number a d ea eo ed element rank inside
    by true array number a d same ea eo ed element rank inside lies =
        let one : number ≡ decomp = eqb-true number decomp same in
        let along : extent_along p decomp ≡ extent_of d.shape d.dim = ap (extent_along p) (sym one) ∙ ap (λ o. unwrap_or (option_map (λ (x : Decomp). extent_of x.shape x.dim) o) 0) ed in
        same_given s given a.shape a.along (extent_along p decomp) ranks element rank inside
        (rw along (position-lt a.shape a.along (extent_of d.shape d.dim) element lies.0 lies.1 inside))

    at : (array number : ℕ) (a : Array) (d : Decomp) → slice_get p.arrays array ≡ Some a → a.decomp ≡ Some number → slice_get p.decomps number ≡ Some d → (element rank : ℕ) → element < size_of a.shape
        → (a.shape.dims ≤ 2) × IsAligned a.shape a.along (extent_of d.shape d.dim)
        → is_owner (array_place next array) element rank ≡ is_owner (decomp_place next number) (position_of a.shape a.along element) rank
    at array number a d ea eo ed element rank inside lies =
        ap (λ place. is_owner place element rank) (of_array array number a ea eo)
        ∙ (by (number == decomp) array number a d refl ea eo ed element rank inside lies
        ∙ sym (ap (λ place. is_owner place (position_of a.shape a.along element) rank) (of_decomp number d ed)))
