-- DISTRIBUTE by a map array, a statement of the program.
use Rattle.std.specs.Prelude.{◌≡◌, ◌≢◌, ℕ, Bool, false, List, [], ◌∷◌, ◌++◌, flat_map, All, Contains, Some, None, IfSome, option_and_then, slice_get}
use Rattle.fd_base.specs.declared.shapes.Dist.{Dist}
use Rattle.fd_base.specs.declared.shapes.Dist.TheVariants.{Irregular, Later}
use Rattle.fd_base.specs.Shapes.{extent_of}
use Rattle.fd_prog.specs.declared.program.Array.{Array}
use Rattle.fd_prog.specs.declared.program.Decomp.{Decomp}
use Rattle.fd_prog.specs.declared.statement.Remapped.{Remapped}
use Rattle.fd_prog.specs.declared.statement.Remapped.TheVariants.{Map, Regular}
use Rattle.fd_prog.specs.Checked.{Reference, statement_references}
use Rattle.fd_prog.specs.Homes.{distribution_of}
use Rattle.fd_prog.specs.Mappings.{given_in, is_aligned_with}
use Rattle.fd_prog.specs.Programs.{CheckedProgram}
use Rattle.fd_prog.specs.Statements.{Statement, Assign, If, Do, While, Read, Print, Continue, Distribute, Statements, Empty, Then}

-- the array of this number is aligned with the decomposition
abbrev pub is_laid_on : CheckedProgram → ℕ → ℕ → Bool
is_laid_on p decomp array = is_aligned_with decomp (option_and_then (λ (a : Array). a.decomp) (slice_get p.arrays array))

-- an array that a DISTRIBUTE takes for its map is replicated, and has one dimension with an element for each position
pub record IsMap (p : CheckedProgram) (array extent : ℕ) : Type 0 where
  pub map : Array
  pub found : slice_get p.arrays array ≡ Some map
  pub replicated : distribution_of p map ≡ None
  pub dims : map.shape.dims ≡ 1
  pub positions : extent_of map.shape 0 ≡ extent

abbrev pub GivesMap : CheckedProgram → ℕ → Remapped → Type 0
GivesMap p extent (Map array) = IsMap p array extent
GivesMap p extent (Regular dist) = ⊥

-- the decompositions that these statements distribute
abbrev pub distributes : Statement → List ℕ
distributes (Assign line target e) = []
distributes (If line c so otherwise) = []
distributes (Do line var first last by body) = []
distributes (While line c body) = []
distributes (Read line target) = []
distributes (Print line items) = []
distributes (Continue line) = []
distributes (Distribute line decomp given) = decomp ∷ []

-- a DISTRIBUTE behind these statements: it gives an irregular decomposition its map, for the first time, and no statement before it names an array that is aligned with the decomposition
pub record IsDistribute (p : CheckedProgram) (before : List Statement) (decomp : ℕ) (given : Remapped) : Type 0 where
  pub decomposition : Decomp
  pub found : slice_get p.decomps decomp ≡ Some decomposition
  pub irregular : decomposition.dist ≡ Some Irregular
  pub map : GivesMap p (extent_of decomposition.shape decomposition.dim) given
  pub once : Contains (flat_map distributes before) decomp → ⊥
  pub early : All (λ (r : Reference). is_laid_on p decomp r.array ≡ false) (flat_map statement_references before)

-- a statement at the top level of a program behind these: in an IF or a loop there is no DISTRIBUTE
abbrev pub IsPlacedBehind : CheckedProgram → List Statement → Statement → Type 0
IsPlacedBehind p before (Assign line target e) = Unit {0}
IsPlacedBehind p before (If line c so otherwise) = given_in (If line c so otherwise) ≡ []
IsPlacedBehind p before (Do line var first last by body) = given_in (Do line var first last by body) ≡ []
IsPlacedBehind p before (While line c body) = given_in (While line c body) ≡ []
IsPlacedBehind p before (Read line target) = Unit {0}
IsPlacedBehind p before (Print line items) = Unit {0}
IsPlacedBehind p before (Continue line) = Unit {0}
IsPlacedBehind p before (Distribute line decomp given) = IsDistribute p before decomp given

abbrev pub ArePlacedBehind : CheckedProgram → List Statement → Statements → Type 0
ArePlacedBehind p before Empty = Unit {0}
ArePlacedBehind p before (Then s ss) = IsPlacedBehind p before s × ArePlacedBehind p (before ++ (s ∷ [])) ss

abbrev pub top_statements : Statements → List Statement
top_statements Empty = []
top_statements (Then s ss) = s ∷ top_statements ss

-- an attribute is one of those that a declaration gives, or its decomposition is among those that the program distributes
abbrev pub IsGiven : List ℕ → ℕ → Dist → Type 0
IsGiven given decomp dist = (dist ≡ Irregular → Contains given decomp) × (dist ≢ Later)

-- each DISTRIBUTE by a map stands where it may, and every irregular decomposition has one
pub record HasMaps (p : CheckedProgram) : Type 0 where
  pub placed : ArePlacedBehind p [] p.body
  pub given : (decomp : ℕ) (d : Decomp) → slice_get p.decomps decomp ≡ Some d → IfSome d.dist (IsGiven (flat_map distributes (top_statements p.body)) decomp)
