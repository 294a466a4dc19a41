-- What a mapping gives: owners among the ranks, before a program runs and behind a DISTRIBUTE.
use Rattle.std.proofs.Common.{◌≡◌, ◌≢◌, ℕ, zero, suc, ◌*◌, ◌/◌, ◌<◌, ◌≤◌, ◌==◌, max, ℤ, pos, negsuc, ◌+ℤ◌, Bool, true, false, cond, [], length, get_or, slice_get, slice_index_or, Option, Some, None, option_map, unwrap_or, refl, sym, subst, ap, ◌∙◌, arith}
use Rattle.std.specs.Int.{div_ceil}
use Rattle.std.proofs.lemmas.Bool.{eq-eqb, eqb-true}
use Rattle.std.proofs.lemmas.Int.{int_rem_euclid_is, ints}
use Rattle.std.proofs.lemmas.List.Elements.{All-from_get_or}
use Rattle.std.proofs.lemmas.List.FromFn.{get_or-map-range_with_len}
use Rattle.std.proofs.lemmas.Nat.{mod_below}
use Rattle.std.proofs.lemmas.Option.{slice_get_within}
use Rattle.fd_base.specs.declared.shapes.Along.{Along}
use Rattle.fd_base.specs.declared.shapes.Dist.{Dist}
use Rattle.fd_base.specs.declared.shapes.Dist.TheVariants.{Block, Cyclic, BlockCyclic, Irregular, Later}
use Rattle.fd_base.specs.declared.shapes.Shape.{Shape}
use Rattle.fd_base.specs.Numbers.{at_least_zero}
use Rattle.fd_base.specs.Places.{Whole, Split, IsAligned, owner_by_map, owner_by_value, owner_in, owner_of_position, owners_by, position_of, regular_owners}
use Rattle.fd_base.specs.Shapes.{size_of}
use Rattle.fd_prog.specs.declared.program.Array.{Array}
use Rattle.fd_prog.specs.declared.statement.Remapped.{Remapped}
use Rattle.fd_prog.specs.declared.statement.Remapped.TheVariants.{Map, Regular}
use Rattle.fd_prog.specs.Programs.{CheckedProgram}
use Rattle.fd_prog.specs.Stores.{Store}
use Rattle.fd_prog.specs.Mappings.{Mapping, array_place, extent_along, given_place, is_aligned_with, redistributed, redistributed_array}
use Rattle.fd_prog.specs.Placing.{place_by}
use Rattle.fd_prog.proofs.Mappings.{owner-by, owners-length, position-lt}
use Rattle.decomp_map.proofs.Regular.{block_owner}
use Rattle.rank_part.specs.Owned.{HasOwners}

-- ---- arrays

-- the place of an array behind a DISTRIBUTE
behind : (p : CheckedProgram) (s : Store) (ranks decomp : ℕ) (given : Remapped) (m : Mapping) (array : ℕ) (a : Array) → slice_get p.arrays array ≡ Some a
    → array_place (redistributed p s ranks decomp given m) array ≡ redistributed_array p s ranks decomp given (array_place m array) a
behind p s ranks decomp given m array a ea =
    get_or-map-range_with_len (λ k. unwrap_or (option_map (redistributed_array p s ranks decomp given (array_place m k)) (slice_get p.arrays k)) Whole) 0 (length p.arrays) array array Whole (slice_get_within p.arrays array a ea) (omega arith)
    ∙ ap (λ o. unwrap_or (option_map (redistributed_array p s ranks decomp given (array_place m array)) o) Whole) ea

-- an array that is aligned with the decomposition has what the DISTRIBUTE gives
pub given-to : (p : CheckedProgram) (s : Store) (ranks decomp : ℕ) (given : Remapped) (m : Mapping) (array : ℕ) (a : Array) → slice_get p.arrays array ≡ Some a → a.decomp ≡ Some decomp
    → array_place (redistributed p s ranks decomp given m) array ≡ given_place s ranks given a.shape a.along (extent_along p decomp)
given-to p s ranks decomp given m array a ea eo =
    behind p s ranks decomp given m array a ea
    ∙ (ap (λ o. cond (is_aligned_with decomp o) (given_place s ranks given a.shape a.along (extent_along p decomp)) (array_place m array)) eo
    ∙ ap (λ b. cond b (given_place s ranks given a.shape a.along (extent_along p decomp)) (array_place m array)) (eq-eqb decomp decomp refl))

-- every other array has its place as before
pub left-alone : (p : CheckedProgram) (s : Store) (ranks decomp : ℕ) (given : Remapped) (m : Mapping) (array : ℕ) (a : Array) → slice_get p.arrays array ≡ Some a → a.decomp ≢ Some decomp
    → array_place (redistributed p s ranks decomp given m) array ≡ array_place m array
left-alone p s ranks decomp given m array a ea differs =
    behind p s ranks decomp given m array a ea
    ∙ ap (λ b. cond b (given_place s ranks given a.shape a.along (extent_along p decomp)) (array_place m array)) (by a.decomp refl)
  where
    at : (number : ℕ) (b : Bool) → a.decomp ≡ Some number → (number == decomp) ≡ b → (number == decomp) ≡ false
    at number true eo e = absurd (differs (eo ∙ ap Some (eqb-true number decomp e)))
    at number false eo e = e

    by : (o : Option ℕ) → a.decomp ≡ o → is_aligned_with decomp a.decomp ≡ false
    by None eo = ap (is_aligned_with decomp) eo
    by (Some number) eo = ap (is_aligned_with decomp) eo ∙ at number (number == decomp) eo refl

-- by a map an element's owner is what the map's value at the element's position gives
pub owner-by-map : (s : Store) (ranks map_array : ℕ) (shape : Shape) (along : Along) (element : ℕ) → element < size_of shape
    → owner_in (owners_by (owner_by_map (slice_index_or s.arrays map_array []) ranks) shape along) element ≡ owner_by_value ranks (get_or (slice_index_or s.arrays map_array []) (position_of shape along element) (pos 0))
owner-by-map s ranks map_array shape along element h = owner-by (owner_by_map (slice_index_or s.arrays map_array []) ranks) shape along element h

-- ---- owners are ranks

-- an attribute gives each position a rank of the run
owner-lt : (dist : Dist) (extent ranks position : ℕ) → 0 < ranks → position < extent → owner_of_position dist extent ranks position < ranks
owner-lt Block extent ranks position h k = rw (block_owner extent ranks position h k) (mod_below (position / max (div_ceil extent ranks) 1) ranks h)
owner-lt Cyclic extent ranks position h k = mod_below position ranks h
owner-lt (BlockCyclic size) extent ranks position h k = mod_below (position / size) ranks h
owner-lt Irregular extent ranks position h k = h
owner-lt Later extent ranks position h k = h

plus_none : (a q : ℕ) → pos a +ℤ pos (0 * suc q) ≡ pos a
plus_none a q = omega (arith, ints)

past : (a q : ℕ) → negsuc a +ℤ pos (suc a * suc q) ≡ pos (suc a * q)
past a q = omega (arith, ints)

-- and so does a map's value
value-lt : (ranks : ℕ) (v : ℤ) → 0 < ranks → owner_by_value ranks v < ranks
value-lt zero v h = absurd (omega (arith, h))
value-lt (suc q) (pos a) h = subst (λ z. at_least_zero z < suc q) (sym (int_rem_euclid_is (pos a) (pos (suc q)) (suc q) 0 a h refl (plus_none a q))) (mod_below a (suc q) h)
value-lt (suc q) (negsuc a) h = subst (λ z. at_least_zero z < suc q) (sym (int_rem_euclid_is (negsuc a) (pos (suc q)) (suc q) (suc a) (suc a * q) h refl (past a q))) (mod_below (suc a * q) (suc q) h)

-- so the elements of an aligned array have owners among the ranks
split-owners : (f : ℕ → ℕ) (shape : Shape) (along : Along) (ranks : ℕ) → ((element : ℕ) → element < size_of shape → f (position_of shape along element) < ranks) → HasOwners ranks (size_of shape) (Split (owners_by f shape along))
split-owners f shape along ranks h = (
  owners-length f shape along,
  All-from_get_or (λ owner. owner < ranks) (owners_by f shape along) 0 (λ i lt. let small : i < size_of shape = omega (arith, lt, owners-length f shape along) in rw (owner-by f shape along i small) (h i small)),
)

by_attribute : (dist : Dist) (shape : Shape) (along : Along) (extent ranks : ℕ) → 0 < ranks → ((element : ℕ) → element < size_of shape → position_of shape along element < extent) → HasOwners ranks (size_of shape) (place_by dist shape along extent ranks)
unfolding regular_owners
by_attribute Block shape along extent ranks h inside = split-owners (owner_of_position Block extent ranks) shape along ranks (λ e lt. owner-lt Block extent ranks (position_of shape along e) h (inside e lt))
by_attribute Cyclic shape along extent ranks h inside = split-owners (owner_of_position Cyclic extent ranks) shape along ranks (λ e lt. owner-lt Cyclic extent ranks (position_of shape along e) h (inside e lt))
by_attribute (BlockCyclic size) shape along extent ranks h inside = split-owners (owner_of_position (BlockCyclic size) extent ranks) shape along ranks (λ e lt. owner-lt (BlockCyclic size) extent ranks (position_of shape along e) h (inside e lt))
by_attribute Irregular shape along extent ranks h inside = tt
by_attribute Later shape along extent ranks h inside = tt

-- what a DISTRIBUTE gives has owners among the ranks
pub given-owners : (s : Store) (given : Remapped) (shape : Shape) (along : Along) (extent ranks : ℕ) → 0 < ranks → shape.dims ≤ 2 → IsAligned shape along extent → HasOwners ranks (size_of shape) (given_place s ranks given shape along extent)
given-owners s (Map array) shape along extent ranks h d a =
    split-owners (owner_by_map (slice_index_or s.arrays array []) ranks) shape along ranks (λ e lt. value-lt ranks (get_or (slice_index_or s.arrays array []) (position_of shape along e) (pos 0)) h)
given-owners s (Regular dist) shape along extent ranks h d a = by_attribute dist shape along extent ranks h (λ e lt. position-lt shape along extent e d a lt)

-- and so has every place before the program runs
pub first-owners : (dist : Dist) (shape : Shape) (along : Along) (extent ranks : ℕ) → 0 < ranks → shape.dims ≤ 2 → IsAligned shape along extent → HasOwners ranks (size_of shape) (place_by dist shape along extent ranks)
first-owners dist shape along extent ranks h d a = by_attribute dist shape along extent ranks h (λ e lt. position-lt shape along extent e d a lt)
