-- What is made ready stands for what it was made from.
use Rattle.std.specs.Prelude.{◌≡◌, ℕ, ℤ, pos, neg_ℤ, List, [], ◌∷◌, map}
use Rattle.fd_prog.specs.declared.expression.Op2.TheVariants.{Add, Sub, Div}
use Rattle.fd_prog.specs.declared.expression.Func.TheVariants.{Mod}
use Rattle.fd_prog.specs.Expressions.{Expression, Expressions, Number, Scalar, Element, Joined, Applied, End, More, expression_of}
use Rattle.fd_prog.specs.Conditions.{Condition, Compared, condition_of}
use Rattle.fd_prog.specs.Statements.{Target, ToScalar, ToElement, Statement, Assign, If, Do, While, Read, Print, Continue, Distribute, Statements, Empty, Then, target_of, print_item_of}
use Rattle.seq_meaning.specs.declared.ready.Written.{Written}
use Rattle.seq_meaning.specs.declared.ready.Written.TheVariants.{Alone, Added, Taken}
use Rattle.seq_meaning.specs.declared.ready.Shifted.{Shifted}
use Rattle.seq_meaning.specs.declared.ready.Leaf.{Leaf}
use Rattle.seq_meaning.specs.declared.ready.Leaf.TheVariants as stored_leaf
use Rattle.seq_meaning.specs.declared.ready.ReadyExpr.{ReadyExpr}
use Rattle.seq_meaning.specs.declared.ready.ReadyExpr.TheVariants as stored
use Rattle.seq_meaning.specs.declared.ready.ReadyFew.{ReadyFew}
use Rattle.seq_meaning.specs.declared.ready.ReadyFew.TheVariants as stored_few
use Rattle.seq_meaning.specs.declared.ready.ReadyCond.{ReadyCond}
use Rattle.seq_meaning.specs.declared.ready.ReadyCond.TheVariants as stored_condition
use Rattle.seq_meaning.specs.declared.ready.ReadyTarget.{ReadyTarget}
use Rattle.seq_meaning.specs.declared.ready.ReadyTarget.TheVariants as stored_target
use Rattle.seq_meaning.specs.declared.ready.ReadyStmt.{ReadyStmt}
use Rattle.seq_meaning.specs.declared.ready.ReadyStmt.TheVariants as stored_statement
use Rattle.seq_meaning.specs.declared.ready.ReadyList.{ReadyList}
use Rattle.seq_meaning.specs.declared.ready.ReadyList.TheVariants as stored_list

-- the scalar as it is written: a number that is taken is the shift with its sign turned
abbrev pub as_written : Written → ℕ → ℤ → Expression
as_written Alone s shift = Scalar s
as_written Added s shift = Joined Add (Scalar s) (Number shift)
as_written Taken s shift = Joined Sub (Scalar s) (Number (neg_ℤ shift))

-- the shifted scalar
abbrev pub ready_shifted : Shifted → Expression
ready_shifted e = as_written e.written e.scalar e.shift

-- the leaf: a number, a scalar, or an element by shifted scalars
abbrev pub ready_leaf : Leaf → Expression
ready_leaf (stored_leaf.Num n) = Number n
ready_leaf (stored_leaf.Scalar s) = Scalar s
ready_leaf (stored_leaf.ShiftedRow array a site) = Element array (More (ready_shifted a) End) site
ready_leaf (stored_leaf.ShiftedGrid array both site) = Element array (More (ready_shifted both.first) (More (ready_shifted both.second) End)) site

-- the expression that a ready one stands for
abbrev pub ready_expression : ReadyExpr → Expression
ready_expression (stored.Num n) = Number n
ready_expression (stored.Scalar s) = Scalar s
ready_expression (stored.Above s n) = Joined Add (Scalar s) (Number n)
ready_expression (stored.Below s n) = Joined Sub (Scalar s) (Number n)
ready_expression (stored.Half s) = Joined Div (Scalar s) (Number (pos 2))
ready_expression (stored.ModTwo s) = Applied Mod (More (Scalar s) (More (Number (pos 2)) End))
ready_expression (stored.Quotient s n) = Joined Div (Scalar s) (Number n)
ready_expression (stored.Remainder s n) = Applied Mod (More (Scalar s) (More (Number n) End))
ready_expression (stored.ShiftedRow array a site) = Element array (More (ready_shifted a) End) site
ready_expression (stored.ShiftedGrid array both site) = Element array (More (ready_shifted both.value.first) (More (ready_shifted both.value.second) End)) site
ready_expression (stored.Row' array p a site) = Element array (More (ready_expression a) End) site
ready_expression (stored.Grid' array p a q b site) = Element array (More (ready_expression a) (More (ready_expression b) End)) site
ready_expression (stored.BinLeaves op both) = Joined op (ready_leaf both.value.left) (ready_leaf both.value.right)
ready_expression (stored.Bin' op p a q b) = Joined op (ready_expression a) (ready_expression b)
ready_expression (stored.Mod' p a q b) = Applied Mod (More (ready_expression a) (More (ready_expression b) End))
ready_expression (stored.AsIs e) = expression_of e.now

-- one or two expressions; of others nothing is said
abbrev pub IsFew : ReadyFew → Expressions → Type 0
IsFew (stored_few.One a) xs = xs ≡ More (ready_expression a) End
IsFew (stored_few.Two a b) xs = xs ≡ More (ready_expression a) (More (ready_expression b) End)
IsFew stored_few.Others xs = Unit {0}

-- the condition
abbrev pub ready_condition : ReadyCond → Condition
ready_condition (stored_condition.Cmp rel a b) = Compared rel (ready_expression a) (ready_expression b)
ready_condition (stored_condition.Against rel a n) = Compared rel (ready_expression a) (Number n)
ready_condition (stored_condition.AsIs c) = condition_of c.now

-- the target
abbrev pub ready_target : ReadyTarget → Target
ready_target (stored_target.Scalar s) = ToScalar s
ready_target (stored_target.ShiftedRow array a site) = ToElement array (More (ready_shifted a) End) site
ready_target (stored_target.ShiftedGrid array both site) = ToElement array (More (ready_shifted both.first) (More (ready_shifted both.second) End)) site
ready_target (stored_target.Row array a site) = ToElement array (More (ready_expression a) End) site
ready_target (stored_target.Grid array a b site) = ToElement array (More (ready_expression a) (More (ready_expression b) End)) site
ready_target (stored_target.AsIs target) = target_of target.now

abbrev mutual
  -- the statement
  pub ready_statement : ReadyStmt → Statement
  ready_statement (stored_statement.Assign line target e) = Assign line (ready_target target) (ready_expression e)
  ready_statement (stored_statement.If line c so otherwise) = If line (ready_condition c) (ready_statements so) (ready_statements otherwise)
  ready_statement (stored_statement.Do line var first last by body) = Do line var (expression_of first.now) (expression_of last.now) (expression_of by.now) (ready_statements body)
  ready_statement (stored_statement.While line c body) = While line (ready_condition c) (ready_statements body)
  ready_statement (stored_statement.Read line target) = Read line (ready_target target)
  ready_statement (stored_statement.Print line parts) = Print line (map print_item_of parts.now)
  ready_statement (stored_statement.Skip line) = Continue line
  ready_statement (stored_statement.Remap line decomp given) = Distribute line decomp given

  -- the statements in their order
  pub ready_statements : ReadyList → Statements
  ready_statements stored_list.End = Empty
  ready_statements (stored_list.More' p s q rest) = Then (ready_statement s) (ready_statements rest)

-- statements in front of others
abbrev pub in_front : List Statement → Statements → Statements
in_front [] rest = rest
in_front (x ∷ xs) rest = Then x (in_front xs rest)
