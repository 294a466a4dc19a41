-- Places that are split over the ranks of a run.
use Rattle.std.specs.Prelude.{◌≡◌, ℕ, ◌<◌, length, All}
use Rattle.fd_base.specs.Places.{Place, Whole, Unset, Split}

-- where a place is split over so many ranks, each of so many elements has one of them as its owner
abbrev pub HasOwners : ℕ → ℕ → Place → Type 0
HasOwners ranks size Whole = Unit {0}
HasOwners ranks size Unset = Unit {0}
HasOwners ranks size (Split owners) = (length owners ≡ size) × All (λ owner. owner < ranks) owners
