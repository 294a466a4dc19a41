-- The positions of an array along the distributed dimension of its decomposition.
use Rattle.std.specs.Prelude.{ℕ, ◌+◌, ◌*◌, ◌/◌, ◌%◌, ◌==◌, ◌^◌, ◌<◌, Bool, List, map}
use Rattle.std.specs.List.{range_with_len}
use Rattle.decomp_map.specs.declared.positions.Positions.{Positions}

-- a rank gets a position, where blocks of `block` positions go to the ranks in turn
abbrev pub is_dealt : ℕ → ℕ → ℕ → ℕ → Bool
is_dealt block ranks rank position = (position / block) % ranks == rank

-- the position of a rank with so many of its own before it
abbrev pub position_of_number : ℕ → ℕ → ℕ → ℕ → ℕ
position_of_number block ranks rank number = (number / block * ranks + rank) * block + number % block

-- the rank to which the index-th of the positions is dealt, as blocks go to the ranks in turn
abbrev pub owner_at : Positions → ℕ → ℕ
owner_at positions index = ((positions.start + index) / positions.block) % positions.ranks

-- a rank owns the index-th of the positions
abbrev pub is_owned : Positions → ℕ → ℕ → Bool
is_owned positions rank index = owner_at positions index == rank

-- the owners of elements that repeat the positions `outer` times, each position with `inner` elements side by side
unfoldable pub owners_laid : ℕ → ℕ → ℕ → Positions → List ℕ
owners_laid inner width outer positions =
    map (λ element. owner_at positions ((element / inner) % width)) (range_with_len 0 (outer * width * inner))

-- the elements have numbers of 32 bits, and so have the positions
pub record IsLaid (inner width outer : ℕ) (positions : Positions) : Type 0 where
  pub elements : outer * width * inner < 2 ^ 32
  pub positions_end : positions.start + width < 2 ^ 32
