-- Where the elements of arrays and the positions of decompositions are, as it is kept.
use Rattle.std.specs.Prelude.{◌≡◌, ℕ, ◌==◌, ◌<◌, Bool, false, All, List, [], ◌∷◌, length, Option, Some, None, unwrap_or, if◌then◌else◌}
use Rattle.fd_base.specs.Places as places
use Rattle.owner_part.specs.declared.place.Place.{Place}
use Rattle.owner_part.specs.declared.place.Place.TheVariants as stored
use Rattle.owner_part.specs.declared.place.Placed.{Placed}
use Rattle.owner_part.specs.declared.place.Placed.TheVariants.{Array, Decomp}

abbrev pub place_of : Place → places.Place
place_of stored.Whole = places.Whole
place_of (stored.Regular owners) = places.Split owners
place_of (stored.Irregular owners) = places.Split owners
place_of stored.Unset = places.Unset

-- ---- lists of places

-- both are one array, or one decomposition
abbrev pub is_same : Placed → Placed → Bool
is_same (Array a) (Array b) = a == b
is_same (Array a) (Decomp b) = false
is_same (Decomp a) (Array b) = false
is_same (Decomp a) (Decomp b) = a == b

-- the place in the first pair that names an array or a decomposition, if one does
abbrev pub place_told : List (Placed × Place) → Placed → Option places.Place
place_told [] name = None
place_told (pair ∷ pairs) name = if is_same pair.0 name then Some (place_of pair.1) else place_told pairs name

-- the place by the list; every rank has all of what no pair names
abbrev pub place_by_name : List (Placed × Place) → Placed → places.Place
place_by_name pairs name = unwrap_or (place_told pairs name) places.Whole

-- the places by the numbers of the arrays and of the decompositions
abbrev pub array_place : List (Placed × Place) → ℕ → places.Place
array_place pairs array = place_by_name pairs (Array array)

abbrev pub decomp_place : List (Placed × Place) → ℕ → places.Place
decomp_place pairs decomp = place_by_name pairs (Decomp decomp)

-- ---- elements of a place

-- a place is split over the ranks
abbrev pub IsSplit : places.Place → Type 0
IsSplit places.Whole = ⊥
IsSplit places.Unset = ⊥
IsSplit (places.Split owners) = Unit {0}

-- a place is split over the ranks, and has the element
abbrev pub HasElement : places.Place → ℕ → Type 0
HasElement places.Whole element = ⊥
HasElement places.Unset element = ⊥
HasElement (places.Split owners) element = element < length owners

-- a place is split over the ranks, and has so many elements
abbrev pub HasElements : places.Place → ℕ → Type 0
HasElements places.Whole n = ⊥
HasElements places.Unset n = ⊥
HasElements (places.Split owners) n = length owners ≡ n

-- a place is split over the ranks below a bound
abbrev pub IsSplitBelow : ℕ → places.Place → Type 0
IsSplitBelow ranks places.Whole = ⊥
IsSplitBelow ranks places.Unset = ⊥
IsSplitBelow ranks (places.Split owners) = All (λ owner. owner < ranks) owners
