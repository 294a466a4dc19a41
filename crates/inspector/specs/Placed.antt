-- Which places the needs of an item depend on.
use Rattle.std.specs.Prelude.{◌≡◌, ℕ}
use Rattle.fd_base.specs.Places as places
use Rattle.fd_prog.specs.Programs.{CheckedProgram}
use Rattle.fd_prog.specs.Homes.{Executor, EveryRank, RankZero, OwnerOf}
use Rattle.fd_prog.specs.Mappings.{extent_along}
use Rattle.owner_part.specs.Placed.{HasElements, IsSplit}

-- the decomposition of a home has a place, which is split over the ranks and has the positions of the distributed dimension
abbrev pub HasPositions : CheckedProgram → (ℕ → places.Place) → Executor → Type 0
HasPositions p place EveryRank = Unit {0}
HasPositions p place RankZero = Unit {0}
HasPositions p place (OwnerOf l) = HasElements (place l.decomp) (extent_along p l.decomp)

-- the decomposition of a home has a place that is split over the ranks
abbrev pub IsHomeSplit : (ℕ → places.Place) → Executor → Type 0
IsHomeSplit place EveryRank = Unit {0}
IsHomeSplit place RankZero = Unit {0}
IsHomeSplit place (OwnerOf l) = IsSplit (place l.decomp)

-- a place is that of a home's decomposition, where the home has one
abbrev pub IsHomePlace : (ℕ → places.Place) → Executor → places.Place → Type 0
IsHomePlace place EveryRank home = Unit {0}
IsHomePlace place RankZero home = Unit {0}
IsHomePlace place (OwnerOf l) home = home ≡ place l.decomp
