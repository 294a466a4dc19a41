-- What every checked program keeps to, beyond that its names are its own.
use Rattle.std.specs.Prelude.{◌≡◌, ◌≢◌, ℕ, ◌+◌, ◌<◌, ◌≤◌, max, Bool, not, is_none, option_and_then, slice_get, List, [], ◌∷◌, ◌++◌, length, filter, flat_map, sum_by, All, AllPairs, Contains}
use Rattle.fd_base.specs.Shapes.{size_of}
use Rattle.fd_prog.specs.declared.program.Array.{Array}
use Rattle.fd_prog.specs.declared.program.Decomp.{Decomp}
use Rattle.fd_prog.specs.Expressions.{Expression, Number, Scalar, Element, Negated, Joined, Applied, Expressions, End, More}
use Rattle.fd_prog.specs.Conditions.{Condition, Fixed, Compared, Not, Both, Either}
use Rattle.fd_prog.specs.Statements.{Target, ToScalar, ToElement, PrintItem, Words, Value, Statement, Assign, If, Do, While, Read, Print, Continue, Distribute, Statements, Empty, Then}
use Rattle.fd_prog.specs.Programs.{CheckedProgram}
use Rattle.fd_prog.specs.Stores.{shape_of}
use Rattle.fd_prog.specs.WellFormed.{count_of, IsSoundProgram}
use Rattle.fd_prog.specs.Items.{ScalarName, all_names_set}

-- ---- references

-- a reference by its array, the number of its subscripts, and its own number
pub record Reference : Type 0 where
  pub array : ℕ
  pub subs : ℕ
  pub site : ℕ

abbrev mutual
  -- the references in an expression, those in its subscripts among them, from left to right
  pub references_in : Expression → List Reference
  references_in (Number x) = []
  references_in (Scalar s) = []
  references_in (Element array subs site) = record { array = array; subs = count_of subs; site = site } ∷ references_among subs
  references_in (Negated a) = references_in a
  references_in (Joined op a b) = references_in a ++ references_in b
  references_in (Applied f args) = references_among args

  pub references_among : Expressions → List Reference
  references_among End = []
  references_among (More e es) = references_in e ++ references_among es

abbrev pub condition_references : Condition → List Reference
condition_references (Fixed b) = []
condition_references (Compared rel a b) = references_in a ++ references_in b
condition_references (Not c) = condition_references c
condition_references (Both c d) = condition_references c ++ condition_references d
condition_references (Either c d) = condition_references c ++ condition_references d

abbrev pub target_references : Target → List Reference
target_references (ToScalar s) = []
target_references (ToElement array subs site) = record { array = array; subs = count_of subs; site = site } ∷ references_among subs

abbrev pub item_references : PrintItem → List Reference
item_references (Words text) = []
item_references (Value e) = references_in e

abbrev mutual
  -- the references in a statement and all that stands in it
  pub statement_references : Statement → List Reference
  statement_references (Assign line target e) = target_references target ++ references_in e
  statement_references (If line c so otherwise) = condition_references c ++ (statements_references so ++ statements_references otherwise)
  statement_references (Do line var first last by body) = references_in first ++ (references_in last ++ (references_in by ++ statements_references body))
  statement_references (While line c body) = condition_references c ++ statements_references body
  statement_references (Read line target) = target_references target
  statement_references (Print line items) = flat_map item_references items
  statement_references (Continue line) = []
  statement_references (Distribute line decomp given) = []

  pub statements_references : Statements → List Reference
  statements_references Empty = []
  statements_references (Then s ss) = statement_references s ++ statements_references ss

-- ---- variables of loops

abbrev mutual
  -- no DO sets its own variable in its body
  pub KeepsVariables : Statement → Type 0
  KeepsVariables (Assign line target e) = Unit {0}
  KeepsVariables (If line c so otherwise) = KeepVariables so × KeepVariables otherwise
  KeepsVariables (Do line var first last by body) = (Contains (all_names_set body) (ScalarName var) → ⊥) × KeepVariables body
  KeepsVariables (While line c body) = KeepVariables body
  KeepsVariables (Read line target) = Unit {0}
  KeepsVariables (Print line items) = Unit {0}
  KeepsVariables (Continue line) = Unit {0}
  KeepsVariables (Distribute line decomp given) = Unit {0}

  pub KeepVariables : Statements → Type 0
  KeepVariables Empty = Unit {0}
  KeepVariables (Then s ss) = KeepsVariables s × KeepVariables ss

-- ---- limits

abbrev mutual
  -- how many statements there are, in all that stands in a statement too
  pub size_in : Statement → ℕ
  size_in (Assign line target e) = 1
  size_in (If line c so otherwise) = size_among so + size_among otherwise + 1
  size_in (Do line var first last by body) = size_among body + 1
  size_in (While line c body) = size_among body + 1
  size_in (Read line target) = 1
  size_in (Print line items) = 1
  size_in (Continue line) = 1
  size_in (Distribute line decomp given) = 1

  pub size_among : Statements → ℕ
  size_among Empty = 0
  size_among (Then s ss) = size_in s + size_among ss

abbrev mutual
  -- how many IFs and loops stand in one another
  pub depth_in : Statement → ℕ
  depth_in (Assign line target e) = 0
  depth_in (If line c so otherwise) = max (depth_among so) (depth_among otherwise) + 1
  depth_in (Do line var first last by body) = depth_among body + 1
  depth_in (While line c body) = depth_among body + 1
  depth_in (Read line target) = 0
  depth_in (Print line items) = 0
  depth_in (Continue line) = 0
  depth_in (Distribute line decomp given) = 0

  pub depth_among : Statements → ℕ
  depth_among Empty = 0
  depth_among (Then s ss) = max (depth_in s) (depth_among ss)

-- an array is replicated where it has no decomposition, or one that is nowhere distributed
abbrev pub is_replicated : CheckedProgram → Array → Bool
is_replicated p a = is_none (option_and_then (λ d. option_and_then (λ (x : Decomp). x.dist) (slice_get p.decomps d)) a.decomp)

-- the elements of the arrays that pass a test
abbrev pub elements_of : (Array → Bool) → List Array → ℕ
elements_of test arrays = sum_by (λ (a : Array). size_of a.shape) (filter test arrays)

-- what the rules on names, shapes and limits say of every program that is accepted
pub record IsCheckedProgram (p : CheckedProgram) : Type 0 where
  pub sound : IsSoundProgram p
  -- each reference has as many subscripts as its array has dimensions
  pub subscripts : All (λ (r : Reference). r.subs ≡ (shape_of p r.array).dims) (statements_references p.body)
  -- no two references have one number, and all numbers are below the program's
  pub apart : AllPairs (λ (r s : Reference). r.site ≢ s.site) (statements_references p.body)
  pub sites : All (λ (r : Reference). r.site < p.sites) (statements_references p.body)
  pub variables : KeepVariables p.body
  pub statements : size_among p.body ≤ 4096
  pub nesting : depth_among p.body ≤ 32
  pub names : length p.scalars + length p.decomps ≤ 16384
  pub arrays : length p.arrays ≤ 128
  pub replicated : elements_of (is_replicated p) p.arrays ≤ 65536
  pub distributed : elements_of (λ a. not (is_replicated p a)) p.arrays ≤ 262144
