-- The subscripts of distributed references: their forms, and the index arrays in them.
use Rattle.std.specs.Prelude.{◌≡◌, ℕ, IsTrue, List, [], ◌∷◌, ◌++◌, flat_map, All, Some, Ok, IsOk}
use Rattle.fd_prog.specs.Expressions.{Expression, Number, Scalar, Element, Negated, Joined, Applied, Expressions, End, More}
use Rattle.fd_prog.specs.Conditions.{Condition, Fixed, Compared, Not, Both, Either}
use Rattle.fd_prog.specs.Statements.{Target, ToScalar, ToElement, PrintItem, Words, Value, Statement, Assign, If, Do, While, Read, Print, Continue, Distribute, Statements, Empty, Then}
use Rattle.fd_prog.specs.Programs.{CheckedProgram}
use Rattle.fd_prog.specs.Forms.{LinearForms}
use Rattle.fd_prog.specs.FormOf.{forms_of_expressions}
use Rattle.fd_prog.specs.Homes.{Distribution, Executor, EveryRank, RankZero, distribution_at, home_of_statement}
use Rattle.fd_prog.specs.Items.{is_local}

-- a reference by its array and its subscripts
pub record Indexed : Type 0 where
  pub array : ℕ
  pub subs : Expressions

abbrev mutual
  -- the references in an expression, each before those in its subscripts
  pub elements_in : Expression → List Indexed
  elements_in (Number x) = []
  elements_in (Scalar s) = []
  elements_in (Element array subs site) = record { array = array; subs = subs } ∷ elements_among subs
  elements_in (Negated a) = elements_in a
  elements_in (Joined op a b) = elements_in a ++ elements_in b
  elements_in (Applied f args) = elements_among args

  pub elements_among : Expressions → List Indexed
  elements_among End = []
  elements_among (More e es) = elements_in e ++ elements_among es

abbrev pub condition_elements : Condition → List Indexed
condition_elements (Fixed b) = []
condition_elements (Compared rel a b) = elements_in a ++ elements_in b
condition_elements (Not c) = condition_elements c
condition_elements (Both c d) = condition_elements c ++ condition_elements d
condition_elements (Either c d) = condition_elements c ++ condition_elements d

-- the target itself, and the references in its subscripts
abbrev pub target_elements : Target → List Indexed
target_elements (ToScalar s) = []
target_elements (ToElement array subs site) = record { array = array; subs = subs } ∷ elements_among subs

abbrev pub item_elements : PrintItem → List Indexed
item_elements (Words text) = []
item_elements (Value e) = elements_in e

-- a reference in a subscript is to a replicated array, or whoever values it owns its element: the home is at its location
abbrev pub IsLocalTo : CheckedProgram → Executor → Indexed → Type 0
IsLocalTo p home x = (d : Distribution) → distribution_at p x.array ≡ Some d → (fs : LinearForms) → forms_of_expressions [] x.subs ≡ Ok fs → IsTrue (is_local d fs home)

-- the subscripts of a distributed reference have forms that keep the limits, and all that stands in them is local to the home. All ranks and rank 0 are at no location,
-- so in what they value all index arrays are replicated
pub record IsIndexed (p : CheckedProgram) (home : Executor) (x : Indexed) : Type 0 where
  pub forms : IsOk (forms_of_expressions [] x.subs)
  pub inner : All (IsLocalTo p home) (elements_among x.subs)

-- the same of those among some references that are distributed
abbrev pub AreIndexed : CheckedProgram → Executor → List Indexed → Type 0
AreIndexed p home xs = All (λ x. (d : Distribution) → distribution_at p x.array ≡ Some d → IsIndexed p home x) xs

abbrev mutual
  -- the distributed references in a statement, and in all that stands in it, are so: all ranks value conditions, bounds and targets, rank 0 a PRINT, and the home of an assignment its right side
  pub IsIndexedStatement : CheckedProgram → Statement → Type 0
  IsIndexedStatement p (Assign line target e) =
      AreIndexed p EveryRank (target_elements target) × ((home : Executor) → home_of_statement p [] (Assign line target e) ≡ Ok home → AreIndexed p home (elements_in e))
  IsIndexedStatement p (If line c so otherwise) = AreIndexed p EveryRank (condition_elements c) × AreIndexedStatements p so × AreIndexedStatements p otherwise
  IsIndexedStatement p (Do line var first last by body) =
      AreIndexed p EveryRank (elements_in first) × AreIndexed p EveryRank (elements_in last) × AreIndexed p EveryRank (elements_in by) × AreIndexedStatements p body
  IsIndexedStatement p (While line c body) = AreIndexed p EveryRank (condition_elements c) × AreIndexedStatements p body
  IsIndexedStatement p (Read line target) = AreIndexed p EveryRank (target_elements target)
  IsIndexedStatement p (Print line items) = AreIndexed p RankZero (flat_map item_elements items)
  IsIndexedStatement p (Continue line) = Unit {0}
  IsIndexedStatement p (Distribute line decomp given) = Unit {0}

  pub AreIndexedStatements : CheckedProgram → Statements → Type 0
  AreIndexedStatements p Empty = Unit {0}
  AreIndexedStatements p (Then s ss) = IsIndexedStatement p s × AreIndexedStatements p ss
