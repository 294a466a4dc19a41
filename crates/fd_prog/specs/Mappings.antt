-- Where the arrays and the decompositions of a program are placed while it runs.
use Rattle.std.specs.Prelude.{◌≡◌, ℕ, ◌==◌, ◌<◌, pos, Bool, false, List, [], ◌∷◌, ◌++◌, map, length, get_or, slice_get, slice_index_or, Option, Some, None, option_map, unwrap_or, if◌then◌else◌}
use Rattle.std.specs.List.{range_with_len}
use Rattle.fd_base.specs.declared.shapes.Along.{Along}
use Rattle.fd_base.specs.declared.shapes.Along.TheVariants.{Dim}
use Rattle.fd_base.specs.declared.shapes.Shape.{Shape}
use Rattle.fd_base.specs.Places.{Place, Whole, Split, is_owner, owner_by_map, owners_by, position_of}
use Rattle.fd_base.specs.Shapes.{extent_of, size_of}
use Rattle.fd_prog.specs.declared.program.Array.{Array}
use Rattle.fd_prog.specs.declared.program.Decomp.{Decomp}
use Rattle.fd_prog.specs.declared.statement.Remapped.{Remapped}
use Rattle.fd_prog.specs.declared.statement.Remapped.TheVariants.{Map, Regular}
use Rattle.fd_prog.specs.Programs.{CheckedProgram}
use Rattle.fd_prog.specs.Placing.{line_of_positions, place_by, place_of_array, place_of_decomp}
use Rattle.fd_prog.specs.Statements.{Statement, Assign, If, Do, While, Read, Print, Continue, Distribute, Statements, Empty, Then}
use Rattle.fd_prog.specs.Stores.{Store, readings_of}
use Rattle.fd_prog.specs.Needs.{Sight}

-- the place of each array, and that of the distributed dimension of each decomposition, position by position
pub record Mapping : Type 0 where
  pub arrays : List Place
  pub decomps : List Place

-- the mapping before a program runs
abbrev pub first_mapping : CheckedProgram → ℕ → Mapping
first_mapping p ranks = record { arrays = map (place_of_array p ranks) p.arrays; decomps = map (place_of_decomp ranks) p.decomps }

-- the places by the numbers of the arrays and of the decompositions
abbrev pub array_place : Mapping → ℕ → Place
array_place m array = get_or m.arrays array Whole

abbrev pub decomp_place : Mapping → ℕ → Place
decomp_place m decomp = get_or m.decomps decomp Whole

-- what a rank sees of a store and a mapping
abbrev pub sight_of : CheckedProgram → Store → Mapping → Sight
sight_of p s m = record { program = p; readings = readings_of p s; array_place = array_place m; decomp_place = decomp_place m }

-- ---- executed DISTRIBUTEs

abbrev mutual
  -- what the DISTRIBUTEs that are executed give, in source order, by which they are numbered from 0
  pub given_in : Statement → List Remapped
  given_in (Assign line target e) = []
  given_in (If line c so otherwise) = given_among so ++ given_among otherwise
  given_in (Do line var first last by body) = given_among body
  given_in (While line c body) = given_among body
  given_in (Read line target) = []
  given_in (Print line items) = []
  given_in (Continue line) = []
  given_in (Distribute line decomp given) = given ∷ []

  pub given_among : Statements → List Remapped
  given_among Empty = []
  given_among (Then s ss) = given_in s ++ given_among ss

-- the place that a DISTRIBUTE gives to the elements of a shape along a dimension of this extent: a map has an owner for each position, by its values at that moment
abbrev pub given_place : Store → ℕ → Remapped → Shape → Along → ℕ → Place
given_place s ranks (Map array) shape along extent = Split (owners_by (owner_by_map (slice_index_or s.arrays array []) ranks) shape along)
given_place s ranks (Regular dist) shape along extent = place_by dist shape along extent ranks

-- an array is aligned with a decomposition
abbrev pub is_aligned_with : ℕ → Option ℕ → Bool
is_aligned_with decomp None = false
is_aligned_with decomp (Some number) = number == decomp

-- the extent of the distributed dimension of a decomposition
abbrev pub extent_along : CheckedProgram → ℕ → ℕ
extent_along p decomp = unwrap_or (option_map (λ (d : Decomp). extent_of d.shape d.dim) (slice_get p.decomps decomp)) 0

-- the place of an array behind a DISTRIBUTE of a decomposition: as it was where the array isn't aligned with that
abbrev pub redistributed_array : CheckedProgram → Store → ℕ → ℕ → Remapped → Place → Array → Place
redistributed_array p s ranks decomp given old a =
    if is_aligned_with decomp a.decomp then given_place s ranks given a.shape a.along (extent_along p decomp) else old

-- the same of a decomposition's own positions
abbrev pub redistributed_decomp : CheckedProgram → Store → ℕ → ℕ → Remapped → Place → ℕ → Place
redistributed_decomp p s ranks decomp given old number =
    if number == decomp then given_place s ranks given (line_of_positions (extent_along p decomp)) (Dim 0 (pos 0)) (extent_along p decomp) else old

-- the mapping behind a DISTRIBUTE of a decomposition, by the store at that moment
abbrev pub redistributed : CheckedProgram → Store → ℕ → ℕ → Remapped → Mapping → Mapping
redistributed p s ranks decomp given m = record {
  arrays = map (λ k. unwrap_or (option_map (redistributed_array p s ranks decomp given (array_place m k)) (slice_get p.arrays k)) Whole) (range_with_len 0 (length p.arrays));
  decomps = map (λ k. redistributed_decomp p s ranks decomp given (decomp_place m k) k) (range_with_len 0 (length p.decomps));
}

-- the mapping behind the executed DISTRIBUTE of this number; as it was where there is no such statement
abbrev pub installed : CheckedProgram → ℕ → ℕ → ℕ → Store → Mapping → Mapping
installed p ranks decomp number s m = unwrap_or (option_map (λ given. redistributed p s ranks decomp given m) (slice_get (given_among p.body) number)) m

-- ---- owners

-- whoever owns an element of an aligned array owns the element's position, and the other way round
pub record AreConsistent (p : CheckedProgram) (arrays decomps : ℕ → Place) : Type 0 where
  pub owners : (array decomp : ℕ) (a : Array) (d : Decomp) → slice_get p.arrays array ≡ Some a → a.decomp ≡ Some decomp → slice_get p.decomps decomp ≡ Some d
      → (element rank : ℕ) → element < size_of a.shape → is_owner (arrays array) element rank ≡ is_owner (decomps decomp) (position_of a.shape a.along element) rank
