-- Which ranks execute at a home.
use Rattle.std.specs.Prelude.{ℕ, ◌<◌, ◌==◌, Bool, All, length}
use Rattle.std.specs.Int.{bit_at}
use Rattle.fd_base.specs.Places as places
use Rattle.fd_base.specs.Places.{is_owner}
use Rattle.fd_prog.specs.Homes.{ExecutorBy, EveryRank, RankZero, OwnerOf, executes_by}
use Rattle.owner_part.specs.declared.ranks.HomeAt.{HomeAt}
use Rattle.owner_part.specs.declared.ranks.HomeAt.TheVariants.{All as Everywhere, Root, Element}
use Rattle.owner_part.specs.declared.ranks.RankSet.{RankSet}

-- a rank is in a set of ranks
abbrev pub has_rank : RankSet → ℕ → Bool
has_rank s rank = bit_at s.0 rank == 1

-- a home, with the owner told by the element
abbrev pub executor_at : HomeAt → ExecutorBy ℕ
executor_at Everywhere = EveryRank
executor_at Root = RankZero
executor_at (Element element) = OwnerOf element

-- a rank executes at a home: any rank, rank 0, or the owner of the element
abbrev pub executes : places.Place → HomeAt → ℕ → Bool
executes place home rank = executes_by (is_owner place) (executor_at home) rank

-- the place is split over the ranks, and has the element
abbrev pub HasOwner : places.Place → ℕ → ℕ → Type 0
HasOwner places.Whole element ranks = ⊥
HasOwner places.Unset element ranks = ⊥
HasOwner (places.Split owners) element ranks = (element < length owners) × All (λ owner. owner < ranks) owners

-- the same where the home is that of an element
abbrev pub HasHome : places.Place → HomeAt → ℕ → Type 0
HasHome place Everywhere ranks = Unit {0}
HasHome place Root ranks = Unit {0}
HasHome place (Element element) ranks = HasOwner place element ranks
