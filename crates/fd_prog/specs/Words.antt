-- Programs whose numbers fit 64 bits.
use Rattle.std.specs.Prelude.{◌≡◌, true}
use Rattle.fd_base.specs.Numbers.{fits_i64}
use Rattle.fd_prog.specs.Expressions.{Expression, Number, Scalar, Element, Negated, Joined, Applied, Expressions, End, More}
use Rattle.fd_prog.specs.Statements.{Statement, Assign, If, Do, While, Read, Print, Continue, Distribute, Statements, Empty, Then}

abbrev mutual
  -- the numbers that are written in an expression fit 64 bits
  pub HasWords : Expression → Type 0
  HasWords (Number n) = fits_i64 n ≡ true
  HasWords (Scalar s) = Unit {0}
  HasWords (Element array subs site) = HaveWords subs
  HasWords (Negated a) = HasWords a
  HasWords (Joined op a b) = HasWords a × HasWords b
  HasWords (Applied f args) = HaveWords args

  pub HaveWords : Expressions → Type 0
  HaveWords End = Unit {0}
  HaveWords (More e es) = HasWords e × HaveWords es

abbrev mutual
  -- the same of what gives a cell its number: the right side of an assignment, and the first bound of a DO
  pub SetsWords : Statement → Type 0
  SetsWords (Assign line target e) = HasWords e
  SetsWords (If line c so otherwise) = SetWords so × SetWords otherwise
  SetsWords (Do line var first last by body) = HasWords first × SetWords body
  SetsWords (While line c body) = SetWords body
  SetsWords (Read line target) = Unit {0}
  SetsWords (Print line items) = Unit {0}
  SetsWords (Continue line) = Unit {0}
  SetsWords (Distribute line decomp given) = Unit {0}

  pub SetWords : Statements → Type 0
  SetWords Empty = Unit {0}
  SetWords (Then s ss) = SetsWords s × SetWords ss
