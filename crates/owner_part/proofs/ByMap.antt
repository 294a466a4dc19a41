-- Positions along a distributed dimension, and the owners that a map gives them.
use Rattle.std.proofs.Common.{◌≡◌, ℕ, ◌*◌, ◌<◌, ◌≤◌, ℤ, pos, ◌+ℤ◌, ◌≤ℤ◌, ◌<ℤ◌, List, IfSome, Option, Some, None, length, map, slice_get, option_map, unwrap_or, slice_index_or, sym, ap, subst, ◌∙◌, arith}
use Rattle.std.specs.List.{range_with_len}
use Rattle.std.proofs.lemmas.Int.{ints}
use Rattle.std.proofs.lemmas.List.{get_or-map, length-map}
use Rattle.std.proofs.lemmas.List.FromFn.{fill_by_all}
use Rattle.std.proofs.lemmas.Simd.{map-map}
use Rattle.fd_base.specs.declared.shapes.Along.{Along}
use Rattle.fd_base.specs.declared.shapes.Along.TheVariants.{Dim}
use Rattle.fd_base.specs.declared.shapes.Shape.{Shape}
use Rattle.fd_base.specs.Numbers.{at_least_zero}
use Rattle.fd_base.specs.Places.{IsAligned, irregular_owners, offset_at, owner_by_map, owner_by_value, owners_by, position_of, subscript_at}
use Rattle.fd_base.specs.Shapes.{extent_of, low_of, size_of}
use Rattle.fd_prog.specs.declared.program.Array.{Array}
use Rattle.fd_prog.specs.declared.program.Decomp.{Decomp}
use Rattle.fd_prog.specs.Programs.{CheckedProgram}
use Rattle.fd_prog.specs.Mapped.{IsDecomp, IsInside, IsMapped, IsMappedArray, LiesInside}
use Rattle.fd_prog.specs.Mappings.{extent_along}
use Rattle.fd_prog.specs.Placing.{line_of_positions}
use Rattle.fd_prog.proofs.Locations.{line_position}
use Rattle.fd_prog.proofs.Mappings.{position-lt}
use Rattle.owner_part.proofs.Shifts.{extent_small, found_in}

-- ---- one element

pub from_low : (shape : Shape) (dim : ℕ) (shift : ℤ) (extent element : ℕ) → IsAligned shape (Dim dim shift) extent → pos 0 ≤ℤ (subscript_at shape dim element +ℤ shift)
from_low shape dim shift extent element h = further (low_of shape dim) shift (offset_at shape dim element) h.1
  where
    further : (b s : ℤ) (n : ℕ) → pos 0 ≤ℤ (b +ℤ s) → pos 0 ≤ℤ (b +ℤ pos n +ℤ s)
    further b s n k = omega (arith, ints, k)

below : (z : ℤ) (n : ℕ) → pos 0 ≤ℤ z → at_least_zero z < n → z <ℤ pos n
below (pos m) n h l = omega (arith, ints, l)
below (ℤ.negsuc m) n h l = absurd (omega (arith, ints, h))

pub below_extent : (shape : Shape) (dim : ℕ) (shift : ℤ) (extent element : ℕ) → shape.dims ≤ 2 → IsAligned shape (Dim dim shift) extent → element < size_of shape → (subscript_at shape dim element +ℤ shift) <ℤ pos extent
below_extent shape dim shift extent element d h l =
    below (subscript_at shape dim element +ℤ shift) extent (from_low shape dim shift extent element h) (position-lt shape (Dim dim shift) extent element d h l)

-- ---- all elements

-- the owners by the map's values of the elements
pub owners_of_elements : (values : List ℤ) (ranks : ℕ) (shape : Shape) (along : Along)
    → irregular_owners (map (λ element. slice_index_or values (position_of shape along element) (pos 0)) (range_with_len 0 (size_of shape))) ranks ≡ owners_by (owner_by_map values ranks) shape along
owners_of_elements values ranks shape along = map-map (owner_by_value ranks) (λ element. slice_index_or values (position_of shape along element) (pos 0)) (range_with_len 0 (size_of shape))

-- the owners of the positions themselves
pub owners_of_positions : (values : List ℤ) (ranks : ℕ) → irregular_owners values ranks ≡ owners_by (owner_by_map values ranks) (line_of_positions (length values)) (Dim 0 (pos 0))
owners_of_positions values ranks =
    let n = length values in
    fill_by_all (λ k. owner_by_map values ranks (position_of (line_of_positions n) (Dim 0 (pos 0)) k)) (irregular_owners values ranks) (n * 1) 0
    (length-map values (owner_by_value ranks) ∙ sym (omega arith))
    (λ k l.
    let h : k < n = omega (arith, l) in
    get_or-map (owner_by_value ranks) values k (pos 0) 0 h ∙ ap (owner_by_map values ranks) (sym (line_position n k h)))

-- ---- arrays of a program

-- the distributed dimension of a decomposition has few positions
pub few_positions : (p : CheckedProgram) (decomp : ℕ) → IsMapped p → extent_along p decomp ≤ 262144
few_positions p decomp mapped = by (slice_get p.decomps decomp) (found_in IsDecomp p.decomps decomp mapped.decomps)
  where
    by : (found : Option Decomp) → IfSome found IsDecomp → unwrap_or (option_map (λ (d : Decomp). extent_of d.shape d.dim) found) 0 ≤ 262144
    by None h = omega arith
    by (Some d) h = extent_small d h d.dim (omega (arith, h.dim, h.dims))

-- an array that is aligned with a decomposition lies inside its distributed dimension
pub aligned_with : (p : CheckedProgram) (a : Array) (decomp : ℕ) → IsMappedArray p a → a.decomp ≡ Some decomp → IsAligned a.shape a.along (extent_along p decomp)
aligned_with p a decomp m e = by (slice_get p.decomps decomp) (subst (IsInside p a) e m.inside)
  where
    by : (found : Option Decomp) → LiesInside a found → IsAligned a.shape a.along (unwrap_or (option_map (λ (d : Decomp). extent_of d.shape d.dim) found) 0)
    by None h = absurd h
    by (Some d) h = h
