-- Who executes a statement: every rank, rank 0, or the rank that owns what the statement sets.
use Rattle.std.specs.Prelude.{ℕ, zero, suc, ◌==◌, ℤ, pos, ◌+ℤ◌, Bool, true, List, slice_get, Option, Some, None, option_map, option_and_then, Result, Ok}
use Rattle.fd_base.specs.declared.shapes.Along.{Along}
use Rattle.fd_base.specs.declared.shapes.Along.TheVariants.{Fixed, Dim}
use Rattle.fd_base.specs.declared.shapes.Dist.{Dist}
use Rattle.fd_base.specs.Shapes.{low_of, extent_of}
use Rattle.fd_prog.specs.declared.form.FormRefusal.{FormRefusal}
use Rattle.fd_prog.specs.declared.form.Home.{Home}
use Rattle.fd_prog.specs.declared.form.Home.TheVariants as stored
use Rattle.fd_prog.specs.declared.program.Array.{Array}
use Rattle.fd_prog.specs.declared.program.Decomp.{Decomp}
use Rattle.fd_prog.specs.Outcomes.{and_then}
use Rattle.fd_prog.specs.Expressions.{Expressions}
use Rattle.fd_prog.specs.Statements.{Target, ToScalar, ToElement, Statement, Assign, If, Do, While, Read, Print, Continue, Distribute}
use Rattle.fd_prog.specs.Programs.{CheckedProgram}
use Rattle.fd_prog.specs.Forms.{LinearForm, Sum, LinearForms, NoForms, Part, linear_form_of}
use Rattle.fd_prog.specs.FormOf.{constant, forms_of_expressions}

-- ---- distributed arrays

-- how an array is distributed: the number of its decomposition, where its elements lie along the distributed dimension, the bounds of that dimension, and its attribute
pub record Distribution : Type 0 where
  pub decomp : ℕ
  pub along : Along
  pub low : ℤ
  pub extent : ℕ
  pub dist : Dist

-- the same by the decomposition, which gives none where it is distributed nowhere
abbrev pub distribution_over : ℕ → Along → Decomp → Option Distribution
distribution_over number along d =
    option_map (λ dist. record { decomp = number; along = along; low = low_of d.shape d.dim; extent = extent_of d.shape d.dim; dist = dist }) d.dist

-- how an array is distributed, or none where it is replicated
abbrev pub distribution_of : CheckedProgram → Array → Option Distribution
distribution_of p a = option_and_then (λ number. option_and_then (distribution_over number a.along) (slice_get p.decomps number)) a.decomp

-- the same of the array of this number
abbrev pub distribution_at : CheckedProgram → ℕ → Option Distribution
distribution_at p array = option_and_then (distribution_of p) (slice_get p.arrays array)

-- ---- locations

-- a place along the distributed dimension of a decomposition, by the form of the decomposition's subscript there
pub record Location : Type 0 where
  pub decomp : ℕ
  pub form : LinearForm

-- a form and a number more
abbrev pub plus_number : LinearForm → ℤ → LinearForm
plus_number (Sum ts c) z = Sum ts (c +ℤ z)

-- the form of this number among some, counted from 0. Every sound reference has as many as its array has dimensions; one that is missing would be 0
abbrev pub form_at : LinearForms → ℕ → LinearForm
form_at NoForms dim = constant (pos 0)
form_at (Part f fs) zero = f
form_at (Part f fs) (suc dim) = form_at fs dim

-- the subscript of the decomposition along its distributed dimension, which begins at `low`: a constant, or the subscript of the array's dimension that lies along it, with what the alignment adds
abbrev pub subscript_along : Along → ℤ → LinearForms → LinearForm
subscript_along (Fixed position) low subs = constant (pos position +ℤ low)
subscript_along (Dim dim shift) low subs = plus_number (form_at subs dim) (shift +ℤ low)

-- where the element of a distributed array lies that these subscripts give
abbrev pub location_of : Distribution → LinearForms → Location
location_of d subs = record { decomp = d.decomp; form = subscript_along d.along d.low subs }

-- ---- homes

-- who executes: every rank, rank 0 alone, or the rank that owns what is told
pub data ExecutorBy (A : Type 0) : Type 0 where
  EveryRank : ExecutorBy A
  RankZero : ExecutorBy A
  OwnerOf : A → ExecutorBy A

-- the same where the owner is told by a location
abbrev pub Executor : Type 0
Executor = ExecutorBy Location

-- a rank executes, where a test says whether it owns what is told
abbrev pub executes_by : {A : Type 0} → (A → ℕ → Bool) → ExecutorBy A → ℕ → Bool
executes_by owns EveryRank rank = true
executes_by owns RankZero rank = rank == 0
executes_by owns (OwnerOf x) rank = owns x rank

abbrev pub executor_of : Home → Executor
executor_of stored.All = EveryRank
executor_of stored.Root = RankZero
executor_of (stored.At decomp form) = OwnerOf (record { decomp = decomp; form = linear_form_of form })

-- who sets an element of an array: its owner where the array is distributed. The scalars of `bound` are widened variables; a subscript past a limit of forms is refused
abbrev pub element_home : Option Distribution → List ℕ → Expressions → Result Executor FormRefusal
element_home None bound subs = Ok EveryRank
element_home (Some d) bound subs = and_then (forms_of_expressions bound subs) (λ fs. Ok (OwnerOf (location_of d fs)))

-- who sets a target
abbrev pub target_home : CheckedProgram → List ℕ → Target → Result Executor FormRefusal
target_home p bound (ToScalar s) = Ok EveryRank
target_home p bound (ToElement array subs site) = element_home (distribution_at p array) bound subs

-- who executes a statement: the owner does an assignment and a READ to a distributed array, rank 0 a PRINT, and all ranks everything else
abbrev pub home_of_statement : CheckedProgram → List ℕ → Statement → Result Executor FormRefusal
home_of_statement p bound (Assign line target e) = target_home p bound target
home_of_statement p bound (If line c so otherwise) = Ok EveryRank
home_of_statement p bound (Do line var first last by body) = Ok EveryRank
home_of_statement p bound (While line c body) = Ok EveryRank
home_of_statement p bound (Read line target) = target_home p bound target
home_of_statement p bound (Print line items) = Ok RankZero
home_of_statement p bound (Continue line) = Ok EveryRank
home_of_statement p bound (Distribute line decomp given) = Ok EveryRank
