-- The places that a DISTRIBUTE by a map array gives.
use Rattle.std.specs.Prelude.{◌≡◌, ℕ, ◌==◌, ◌<◌, ℤ, pos, List, [], length, slice_get, slice_index_or, Option, Some, None, option_and_then, unwrap_or, if◌then◌else◌}
use Rattle.fd_base.specs.declared.shapes.Along.{Along}
use Rattle.fd_base.specs.declared.shapes.Along.TheVariants.{Dim}
use Rattle.fd_base.specs.declared.shapes.Shape.{Shape}
use Rattle.fd_base.specs.Places as places
use Rattle.fd_base.specs.Places.{owner_by_map, owners_by}
use Rattle.fd_prog.specs.declared.program.Array as program
use Rattle.fd_prog.specs.declared.statement.Remapped.TheVariants.{Map}
use Rattle.fd_prog.specs.Mappings as mappings
use Rattle.fd_prog.specs.Mappings.{Mapping, extent_along, given_among, installed, is_aligned_with}
use Rattle.fd_prog.specs.Placing.{line_of_positions}
use Rattle.fd_prog.specs.Programs.{CheckedProgram}
use Rattle.fd_prog.specs.Stores.{Store}
use Rattle.owner_part.specs.declared.place.Place.{Place}
use Rattle.owner_part.specs.declared.place.Placed.{Placed}
use Rattle.owner_part.specs.declared.place.Placed.TheVariants.{Array, Decomp}
use Rattle.owner_part.specs.Placed.{place_told}

-- the place of the elements of a shape, where a map has a value for each position along a dimension
abbrev pub place_by_map : List ℤ → ℕ → Shape → Along → places.Place
place_by_map values ranks shape along = places.Split (owners_by (owner_by_map values ranks) shape along)

-- the place that an array gets: none where it isn't aligned with the decomposition
abbrev pub new_place : ℕ → List ℤ → ℕ → program.Array → Option places.Place
new_place decomp values ranks a = if is_aligned_with decomp a.decomp then Some (place_by_map values ranks a.shape a.along) else None

-- the same of the array with a number: none where there is no such array
abbrev pub new_place_at : CheckedProgram → ℕ → List ℤ → ℕ → ℕ → Option places.Place
new_place_at p decomp values ranks array = option_and_then (new_place decomp values ranks) (slice_get p.arrays array)

-- the place that the distributed dimension of a decomposition gets: none where it is that of another
abbrev pub new_decomp_place : CheckedProgram → ℕ → List ℤ → ℕ → ℕ → Option places.Place
new_decomp_place p decomp values ranks number =
    if number == decomp then Some (place_by_map values ranks (line_of_positions (extent_along p decomp)) (Dim 0 (pos 0))) else None

-- a list tells the places of the arrays that are aligned with a decomposition and of its distributed dimension, by the values of a map, and no others
pub record TellsNewPlaces (p : CheckedProgram) (decomp : ℕ) (values : List ℤ) (ranks : ℕ) (told : List (Placed × Place)) : Type 0 where
  pub arrays : (array : ℕ) → place_told told (Array array) ≡ new_place_at p decomp values ranks array
  pub decomps : (number : ℕ) → place_told told (Decomp number) ≡ new_decomp_place p decomp values ranks number

-- a mapping differs from an earlier one exactly where a list tells a place, which it has
pub record IsUpdated (p : CheckedProgram) (told : List (Placed × Place)) (before after : Mapping) : Type 0 where
  pub arrays : (array : ℕ) → array < length p.arrays → mappings.array_place after array ≡ unwrap_or (place_told told (Array array)) (mappings.array_place before array)
  pub decomps : (number : ℕ) → number < length p.decomps → mappings.decomp_place after number ≡ unwrap_or (place_told told (Decomp number)) (mappings.decomp_place before number)

-- the places behind each DISTRIBUTE of the decomposition by a map that has these values then are those that the list tells, and all others stay
abbrev pub IsInstalled : CheckedProgram → ℕ → List ℤ → ℕ → List (Placed × Place) → Type 0
IsInstalled p decomp values ranks told =
    (number map : ℕ) (s : Store) (m : Mapping) → slice_get (given_among p.body) number ≡ Some (Map map) → slice_index_or s.arrays map [] ≡ values
    → IsUpdated p told m (installed p ranks decomp number s m)
