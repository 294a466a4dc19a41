-- What every checked program keeps to.
use Rattle.std.specs.Prelude.{◌≡◌, ℕ, ◌+◌, ◌<◌, ◌≤◌, length, All}
use Rattle.fd_base.specs.Shapes.{IsShape}
use Rattle.fd_prog.specs.declared.expression.Func.{Func}
use Rattle.fd_prog.specs.declared.expression.Func.TheVariants.{Mod, Abs, Min, Max}
use Rattle.fd_prog.specs.declared.program.Array.{Array}
use Rattle.fd_prog.specs.Expressions.{Expression, Number, Scalar, Element, Negated, Joined, Applied, Expressions, End, More}
use Rattle.fd_prog.specs.Conditions.{Condition, Fixed, Compared, Not, Both, Either}
use Rattle.fd_prog.specs.Statements.{Target, ToScalar, ToElement, PrintItem, Words, Value, Statement, Assign, If, Do, While, Read, Print, Continue, Distribute, Statements, Empty, Then}
use Rattle.fd_prog.specs.Programs.{CheckedProgram}

-- how many there are
abbrev pub count_of : Expressions → ℕ
count_of End = 0
count_of (More e es) = count_of es + 1

-- a function takes so many arguments
abbrev pub Takes : Func → ℕ → Type 0
Takes Mod n = n ≡ 2
Takes Abs n = n ≡ 1
Takes Min n = 2 ≤ n
Takes Max n = 2 ≤ n

-- how many scalars and arrays there are; they go by the numbers below
pub record Names : Type 0 where
  pub scalars : ℕ
  pub arrays : ℕ

abbrev mutual
  -- an expression names scalars and arrays that there are, has one or two subscripts at each reference and as many arguments as each function takes
  pub IsSound : Names → Expression → Type 0
  IsSound n (Number x) = Unit {0}
  IsSound n (Scalar s) = s < n.scalars
  IsSound n (Element array subs site) = (array < n.arrays) × (1 ≤ count_of subs) × (count_of subs ≤ 2) × AreSound n subs
  IsSound n (Negated a) = IsSound n a
  IsSound n (Joined op a b) = IsSound n a × IsSound n b
  IsSound n (Applied f args) = Takes f (count_of args) × AreSound n args

  pub AreSound : Names → Expressions → Type 0
  AreSound n End = Unit {0}
  AreSound n (More e es) = IsSound n e × AreSound n es

-- the same of a condition
abbrev pub IsSoundCondition : Names → Condition → Type 0
IsSoundCondition n (Fixed b) = Unit {0}
IsSoundCondition n (Compared rel a b) = IsSound n a × IsSound n b
IsSoundCondition n (Not c) = IsSoundCondition n c
IsSoundCondition n (Both c d) = IsSoundCondition n c × IsSoundCondition n d
IsSoundCondition n (Either c d) = IsSoundCondition n c × IsSoundCondition n d

-- the same of a target
abbrev pub IsSoundTarget : Names → Target → Type 0
IsSoundTarget n (ToScalar s) = s < n.scalars
IsSoundTarget n (ToElement array subs site) = (array < n.arrays) × (1 ≤ count_of subs) × (count_of subs ≤ 2) × AreSound n subs

-- the same of an item of a PRINT
abbrev pub IsSoundItem : Names → PrintItem → Type 0
IsSoundItem n (Words text) = Unit {0}
IsSoundItem n (Value e) = IsSound n e

abbrev mutual
  -- the same of a statement and all that stands in it
  pub IsSoundStatement : Names → Statement → Type 0
  IsSoundStatement n (Assign line target e) = IsSoundTarget n target × IsSound n e
  IsSoundStatement n (If line c so otherwise) = IsSoundCondition n c × AreSoundStatements n so × AreSoundStatements n otherwise
  IsSoundStatement n (Do line var first last by body) = (var < n.scalars) × IsSound n first × IsSound n last × IsSound n by × AreSoundStatements n body
  IsSoundStatement n (While line c body) = IsSoundCondition n c × AreSoundStatements n body
  IsSoundStatement n (Read line target) = IsSoundTarget n target
  IsSoundStatement n (Print line items) = All (IsSoundItem n) items
  IsSoundStatement n (Continue line) = Unit {0}
  IsSoundStatement n (Distribute line decomp given) = Unit {0}

  pub AreSoundStatements : Names → Statements → Type 0
  AreSoundStatements n Empty = Unit {0}
  AreSoundStatements n (Then s ss) = IsSoundStatement n s × AreSoundStatements n ss

-- the names that a program has
abbrev pub names_of : CheckedProgram → Names
names_of p = record { scalars = length p.scalars; arrays = length p.arrays }

-- every array has a shape, and every name in the program is one of its own
pub record IsSoundProgram (p : CheckedProgram) : Type 0 where
  pub shapes : All (λ (a : Array). IsShape a.shape) p.arrays
  pub body : AreSoundStatements (names_of p) p.body
