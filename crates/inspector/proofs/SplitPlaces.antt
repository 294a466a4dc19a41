-- Places that are split over the ranks.
use Rattle.std.proofs.Common.{◌≡◌, ℕ, ◌<◌, All, get_or, sym, subst, arith}
use Rattle.std.specs.List.{range_with_len}
use Rattle.std.proofs.lemmas.List.Elements.{All-filter, All-from_get_or}
use Rattle.std.proofs.lemmas.List.FromFn.{get_or-range_with_len, length-range_with_len}
use Rattle.fd_base.specs.Places.{Place, Whole, Unset, Split}
use Rattle.fd_base.specs.Shapes.{size_of}
use Rattle.fd_prog.specs.Programs.{CheckedProgram}
use Rattle.fd_prog.specs.Homes.{Executor, EveryRank, RankZero, OwnerOf}
use Rattle.fd_prog.specs.Items.{LinearItem}
use Rattle.fd_prog.specs.Mappings.{extent_along}
use Rattle.fd_prog.specs.Needs.{Sight, is_needed, needs}
use Rattle.fd_prog.specs.Stores.{shape_of}
use Rattle.inspector.specs.Placed.{HasPositions, IsHomePlace, IsHomeSplit}
use Rattle.owner_part.specs.Placed.{HasElement, HasElements, IsSplit}

-- ---- elements

-- a number below that of the elements is one of them
pub has_element : (place : Place) (n element : ℕ) → HasElements place n → element < n → HasElement place element
has_element Whole n element h k = h
has_element Unset n element h k = h
has_element (Split owners) n element h k = omega (arith, h, k)

pub split_from : (place : Place) (n : ℕ) → HasElements place n → IsSplit place
split_from Whole n h = h
split_from Unset n h = h
split_from (Split owners) n h = tt

pub home_split_from : (p : CheckedProgram) (place : ℕ → Place) (home : Executor) → HasPositions p place home → IsHomeSplit place home
home_split_from p place EveryRank h = tt
home_split_from p place RankZero h = tt
home_split_from p place (OwnerOf l) h = split_from (place l.decomp) (extent_along p l.decomp) h

-- the same place has the elements
pub elements_at : (place at : Place) (n : ℕ) → HasElements place n → at ≡ place → HasElements at n
elements_at place at n h e = subst (λ (q : Place). HasElements q n) (sym e) h

-- the place of a home alone has the positions too
pub positions_at : (p : CheckedProgram) (place : ℕ → Place) (home : Executor) (at : Place) → HasPositions p place home → IsHomePlace place home at → HasPositions p (λ decomp. at) home
positions_at p place EveryRank at h e = tt
positions_at p place RankZero at h e = tt
positions_at p place (OwnerOf l) at h e = elements_at (place l.decomp) at (extent_along p l.decomp) h e

-- the needs are elements of the array's place
pub needs_inside : (s : Sight) (x : LinearItem) (rank limit : ℕ) → HasElements (s.array_place x.array) (size_of (shape_of s.program x.array)) → All (HasElement (s.array_place x.array)) (needs s x rank limit)
needs_inside s x rank limit h =
    All-filter (is_needed s x rank limit) (HasElement (s.array_place x.array)) (range_with_len 0 (size_of (shape_of s.program x.array)))
    (All-from_get_or (HasElement (s.array_place x.array)) (range_with_len 0 (size_of (shape_of s.program x.array))) 0
    (λ i l.
    let below : i < size_of (shape_of s.program x.array) = omega (arith, l, length-range_with_len 0 (size_of (shape_of s.program x.array))) in
    has_element (s.array_place x.array) (size_of (shape_of s.program x.array)) (get_or (range_with_len 0 (size_of (shape_of s.program x.array))) i 0) h
    (omega (arith, below, get_or-range_with_len 0 (size_of (shape_of s.program x.array)) i 0 below))))
