-- What a table keeps of the owners of the elements.
use Rattle.std.specs.Prelude.{◌≡◌, ℕ, zero, suc, ◌^◌, ◌<◌, ◌==◌, List, [], ◌∷◌, ◌++◌, All, if◌then◌else◌, length, map}
use Rattle.std.specs.List.{range_with_len}
use Rattle.fd_base.specs.Places.{local_in, owner_in}

-- the elements of a rank among the first so many, ascending
unfoldable pub elements_below : List ℕ → ℕ → ℕ → List ℕ
elements_below owners rank zero = []
elements_below owners rank (suc n) = elements_below owners rank n ++ (if owner_in owners n == rank then n ∷ [] else [])

-- the elements of a rank
abbrev pub elements_of : List ℕ → ℕ → List ℕ
elements_of owners rank = elements_below owners rank (length owners)

-- the local numbers of the elements in order
abbrev pub locals_of : List ℕ → List ℕ
locals_of owners = map (local_in owners) (range_with_len 0 (length owners))

-- a table keeps the local number of each element, and the elements of each rank
pub record IsTable (owners locals : List ℕ) (elements : List (List ℕ)) : Type 0 where
  pub small : length owners < 2 ^ 32
  pub ranks : All (λ owner. owner < length elements) owners
  pub locals_are : locals ≡ locals_of owners
  pub elements_are : elements ≡ map (elements_of owners) (range_with_len 0 (length elements))
