-- Where the elements of an array live: which rank owns each, and its number among those that its owner has.
use Rattle.std.specs.Prelude.{ℕ, zero, suc, ◌+◌, ◌-◌, ◌/◌, ◌%◌, ◌<◌, ◌==◌, Bool, false, ℤ, pos, ◌+ℤ◌, ◌≤ℤ◌, List, [], map, get_or, take, count_by}
use Rattle.std.specs.Int.{int_rem_euclid}
use Rattle.std.specs.List.{range_with_len}
use Rattle.fd_base.specs.declared.shapes.Shape.{Shape}
use Rattle.fd_base.specs.declared.shapes.Along.{Along}
use Rattle.fd_base.specs.declared.shapes.Along.TheVariants.{Fixed, Dim}
use Rattle.fd_base.specs.declared.shapes.Dist.{Dist}
use Rattle.fd_base.specs.declared.shapes.Dist.TheVariants.{Block, Cyclic, BlockCyclic, Irregular, Later}
use Rattle.fd_base.specs.Numbers.{at_least_zero}
use Rattle.fd_base.specs.Shapes.{low_of, extent_of, size_of}

-- the place of an array: every rank has all of it, it isn't placed yet, or the owners of its elements in order
pub data Place : Type 0 where
  Whole : Place
  Unset : Place
  Split : List ℕ → Place

-- the owners of the elements of a place that is split over the ranks
abbrev pub owners_in : Place → List ℕ
owners_in Whole = []
owners_in Unset = []
owners_in (Split owners) = owners

-- the rank that owns an element
abbrev pub owner_in : List ℕ → ℕ → ℕ
owner_in owners element = get_or owners element 0

-- the local number of an element: how many smaller elements its owner has
abbrev pub local_in : List ℕ → ℕ → ℕ
local_in owners element = count_by (λ other. other == owner_in owners element) (take element owners)

-- a rank owns an element: the place is split over the ranks, and the element's owner is that rank
abbrev pub is_owner : Place → ℕ → ℕ → Bool
is_owner Whole element rank = false
is_owner Unset element rank = false
is_owner (Split owners) element rank = owner_in owners element == rank

-- how many elements a rank has
abbrev pub count_in : List ℕ → ℕ → ℕ
count_in owners rank = count_by (λ owner. owner == rank) owners

-- ---- the owners that a DISTRIBUTE gives

-- how far the subscript of an element is above the lower bound of a dimension: the first subscript varies fastest
abbrev pub offset_at : Shape → ℕ → ℕ → ℕ
offset_at shape zero element = element % extent_of shape 0
offset_at shape (suc dim) element = element / extent_of shape 0

-- the subscript of an element in a dimension
abbrev pub subscript_at : Shape → ℕ → ℕ → ℤ
subscript_at shape dim element = low_of shape dim +ℤ pos (offset_at shape dim element)

-- the zero-based position of an element along the distributed dimension
abbrev pub position_of : Shape → Along → ℕ → ℕ
position_of shape (Fixed position) element = position
position_of shape (Dim dim shift) element = at_least_zero (subscript_at shape dim element +ℤ shift)

-- every element has a position below the extent of the distributed dimension
abbrev pub IsAligned : Shape → Along → ℕ → Type 0
IsAligned shape (Fixed position) extent = position < extent
IsAligned shape (Dim dim shift) extent =
    (dim < shape.dims) × (pos 0 ≤ℤ (low_of shape dim +ℤ shift)) × ((low_of shape dim +ℤ shift +ℤ pos (extent_of shape dim)) ≤ℤ pos extent)

-- the attribute is one of the three whose owners are a formula of the position
abbrev pub IsRegular : Dist → Type 0
IsRegular Block = Unit {0}
IsRegular Cyclic = Unit {0}
IsRegular (BlockCyclic size) = 0 < size
IsRegular Irregular = ⊥
IsRegular Later = ⊥

-- the size of the blocks that deal `extent` positions to as many ranks, one each: the quotient rounded up
abbrev pub block_size : ℕ → ℕ → ℕ
block_size extent ranks = (extent + ranks - 1) / ranks

-- the owner of a position, by the attribute, the extent of the dimension and the number of ranks
abbrev pub owner_of_position : Dist → ℕ → ℕ → ℕ → ℕ
owner_of_position Block extent ranks position = position / block_size extent ranks
owner_of_position Cyclic extent ranks position = position % ranks
owner_of_position (BlockCyclic size) extent ranks position = (position / size) % ranks
owner_of_position Irregular extent ranks position = 0
owner_of_position Later extent ranks position = 0

-- the owners of the elements in order, where the owner of each position along the distributed dimension is told
abbrev pub owners_by : (ℕ → ℕ) → Shape → Along → List ℕ
owners_by owner shape along = map (λ element. owner (position_of shape along element)) (range_with_len 0 (size_of shape))

-- the same where the attribute is regular
unfoldable pub regular_owners : Shape → Along → ℕ → Dist → ℕ → List ℕ
regular_owners shape along extent dist ranks = owners_by (owner_of_position dist extent ranks) shape along

-- the owner that a map value gives: its non-negative remainder by the number of ranks
abbrev pub owner_by_value : ℕ → ℤ → ℕ
owner_by_value ranks value = at_least_zero (int_rem_euclid value (pos ranks))

-- the owners of positions in order, where a map has a value for each
abbrev pub irregular_owners : List ℤ → ℕ → List ℕ
irregular_owners values ranks = map (owner_by_value ranks) values

-- the owner of a position by a map, which has a value for each
abbrev pub owner_by_map : List ℤ → ℕ → ℕ → ℕ
owner_by_map values ranks position = owner_by_value ranks (get_or values position (pos 0))
