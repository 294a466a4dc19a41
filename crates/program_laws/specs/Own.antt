-- What the mapping of a program names.
use Rattle.std.specs.Prelude.{◌<◌, ◌≤◌, ◌^◌, unsigned_abs, length, All, IfSome}
use Rattle.fd_prog.specs.declared.program.Array.{Array}
use Rattle.fd_prog.specs.declared.statement.Remapped.{Remapped}
use Rattle.fd_prog.specs.declared.statement.Remapped.TheVariants.{Map, Regular}
use Rattle.fd_prog.specs.Homes.{Distribution}
use Rattle.fd_prog.specs.Programs.{CheckedProgram}
use Rattle.fd_prog.specs.Statements.{Statement, Assign, If, Do, While, Read, Print, Continue, Distribute, Statements, Empty, Then}

-- a map is an array of the program
abbrev pub IsOwnMap : CheckedProgram → Remapped → Type 0
IsOwnMap p (Map array) = array < length p.arrays
IsOwnMap p (Regular dist) = Unit {0}

abbrev mutual
  -- each DISTRIBUTE in a statement is of a decomposition of the program, and by a map of it
  pub HasOwnMaps : CheckedProgram → Statement → Type 0
  HasOwnMaps p (Assign line target e) = Unit {0}
  HasOwnMaps p (If line c so otherwise) = HaveOwnMaps p so × HaveOwnMaps p otherwise
  HasOwnMaps p (Do line var first last by body) = HaveOwnMaps p body
  HasOwnMaps p (While line c body) = HaveOwnMaps p body
  HasOwnMaps p (Read line target) = Unit {0}
  HasOwnMaps p (Print line items) = Unit {0}
  HasOwnMaps p (Continue line) = Unit {0}
  HasOwnMaps p (Distribute line decomp given) = (decomp < length p.decomps) × IsOwnMap p given

  pub HaveOwnMaps : CheckedProgram → Statements → Type 0
  HaveOwnMaps p Empty = Unit {0}
  HaveOwnMaps p (Then s ss) = HasOwnMaps p s × HaveOwnMaps p ss

-- arrays are aligned with decompositions of the program, and its DISTRIBUTEs name what it has
pub record HasOwn (p : CheckedProgram) : Type 0 where
  pub aligned : All (λ (a : Array). IfSome a.decomp (λ number. number < length p.decomps)) p.arrays
  pub distributed : HaveOwnMaps p p.body

-- references are numbered in 32 bits. The other counts keep limits of their own, and so do the forms in the subscripts of distributed references
pub record IsLimited (p : CheckedProgram) : Type 0 where
  pub sites : p.sites < 2 ^ 32

-- a distributed dimension is that of one of 16,384 decompositions, its positions begin at most 2^31 from 0, and there are 1 to 262,144
pub record IsSmallDimension (d : Distribution) : Type 0 where
  pub decomp : d.decomp < 16384
  pub low : unsigned_abs d.low ≤ 2 ^ 31
  pub least : 1 ≤ d.extent
  pub most : d.extent ≤ 262144
