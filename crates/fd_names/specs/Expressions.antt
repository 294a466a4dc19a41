-- Expressions: what is wrong in them, what they name, and what they stand for.
use Rattle.std.specs.Prelude.{ℕ, ◌+◌, ◌++◌, Bool, not, nat_eq, nat_le, List, [], ◌∷◌}
use Rattle.fd_base.specs.declared.numbering.Line.{Line}
use Rattle.fd_ast.specs.declared.expression.Op.{Op}
use Rattle.fd_ast.specs.declared.expression.Op.TheVariants as op
use Rattle.fd_ast.specs.Tree.{ExprTree, ExprTrees, NoExprs}
use Rattle.fd_ast.specs.Tree as tree
use Rattle.fd_prog.specs.declared.expression.Func.{Func}
use Rattle.fd_prog.specs.declared.expression.Func.TheVariants.{Mod, Abs, Min, Max}
use Rattle.fd_prog.specs.declared.expression.Op2.{Op2}
use Rattle.fd_prog.specs.declared.expression.Op2.TheVariants as op2
use Rattle.fd_prog.specs.Expressions.{Expression, Number, Scalar, Element, Negated, Joined, Applied, Expressions, End, More}
use Rattle.fd_names.specs.declared.book.Seen.{Seen}
use Rattle.fd_names.specs.declared.names.Use.{Use}
use Rattle.fd_names.specs.declared.names.Use.TheVariants as as_name
use Rattle.fd_names.specs.declared.names.Callee.{Callee}
use Rattle.fd_names.specs.declared.names.Callee.TheVariants as callee
use Rattle.fd_names.specs.declared.refusal.Cause.{Cause}
use Rattle.fd_names.specs.declared.refusal.Cause.TheVariants.{NotDeclared, WrongShape}
use Rattle.fd_names.specs.First.{given}
use Rattle.fd_names.specs.Names.{Declared, use_of, callee_of, with_name, number_in, capped}

-- how many there are
abbrev pub count : ExprTrees → ℕ
count NoExprs = 0
count (tree.Expr e es) = 1 + count es

-- a function takes so many arguments
abbrev pub takes : Func → ℕ → Bool
takes Mod n = nat_eq n 2
takes Abs n = nat_eq n 1
takes Min n = nat_le 2 n
takes Max n = nat_le 2 n

-- ---- what is wrong

-- a name alone is a scalar or a constant
abbrev pub name_causes : Use → List Cause
name_causes as_name.Scalar = []
name_causes (as_name.Constant z) = []
name_causes (as_name.Array k d) = WrongShape ∷ []
name_causes (as_name.Decomp k d) = WrongShape ∷ []
name_causes as_name.Unknown = NotDeclared ∷ []

-- a name with so many subscripts or arguments
abbrev pub call_causes : Callee → ℕ → List Cause
call_causes (callee.Array k d) n = given (not (nat_eq n d)) WrongShape
call_causes (callee.Function f) n = given (not (takes f n)) WrongShape
call_causes callee.Unknown n = NotDeclared ∷ []

abbrev mutual
  -- all that is wrong in an expression on a line
  pub causes : Declared → Line → ExprTree → List Cause
  causes d l (tree.Number z) = []
  causes d l (tree.Named n) = name_causes (use_of d l n)
  causes d l (tree.Applied n es) = call_causes (callee_of d l n) (count es) ++ all_causes d l es
  causes d l (tree.Negated e) = causes d l e
  causes d l (tree.Joined o a b) = causes d l a ++ causes d l b

  pub all_causes : Declared → Line → ExprTrees → List Cause
  all_causes d l NoExprs = []
  all_causes d l (tree.Expr e es) = causes d l e ++ all_causes d l es

-- ---- what is named, in the order of the text

abbrev pub see_name : Use → List ℕ → Seen → Seen
see_name as_name.Scalar n s = record s { scalars = with_name s.scalars n }
see_name _ n s = s

-- one more reference
abbrev pub referred : Seen → Seen
referred s = record s { sites = s.sites + 1 }

abbrev pub see_callee : Callee → Seen → Seen
see_callee (callee.Array k d) s = referred s
see_callee _ s = s

abbrev mutual
  pub see : Declared → Line → ExprTree → Seen → Seen
  see d l (tree.Number z) s = s
  see d l (tree.Named n) s = see_name (use_of d l n) n s
  see d l (tree.Applied n es) s = see_all d l es (see_callee (callee_of d l n) s)
  see d l (tree.Negated e) s = see d l e s
  see d l (tree.Joined o a b) s = see d l b (see d l a s)

  pub see_all : Declared → Line → ExprTrees → Seen → Seen
  see_all d l NoExprs s = s
  see_all d l (tree.Expr e es) s = see_all d l es (see d l e s)

-- ---- what is meant

abbrev pub op_meant : Op → Op2
op_meant op.Add = op2.Add
op_meant op.Sub = op2.Sub
op_meant op.Mul = op2.Mul
op_meant op.Div = op2.Div

-- stands where something is wrong; it is in no program
abbrev pub nothing : Expression
nothing = Scalar 0

-- a scalar's number is its place among the names in the order in which they first stand
abbrev pub name_meant : Use → List ℕ → Seen → Expression
name_meant as_name.Scalar n s = Scalar (capped (number_in s.scalars n))
name_meant (as_name.Constant z) n s = Number z
name_meant (as_name.Array k d) n s = nothing
name_meant (as_name.Decomp k d) n s = nothing
name_meant as_name.Unknown n s = nothing

-- a reference's number is that of the references before it
abbrev pub call_meant : Callee → Expressions → Seen → Expression
call_meant (callee.Array k d) es s = Element k es s.sites
call_meant (callee.Function f) es s = Applied f es
call_meant callee.Unknown es s = nothing

abbrev mutual
  -- what an expression on a line stands for, behind what was seen before it
  pub meant : Declared → Line → ExprTree → Seen → Expression
  meant d l (tree.Number z) s = Number z
  meant d l (tree.Named n) s = name_meant (use_of d l n) n s
  meant d l (tree.Applied n es) s = call_meant (callee_of d l n) (all_meant d l es (see_callee (callee_of d l n) s)) s
  meant d l (tree.Negated e) s = Negated (meant d l e s)
  meant d l (tree.Joined o a b) s = Joined (op_meant o) (meant d l a s) (meant d l b (see d l a s))

  pub all_meant : Declared → Line → ExprTrees → Seen → Expressions
  all_meant d l NoExprs s = End
  all_meant d l (tree.Expr e es) s = More (meant d l e s) (all_meant d l es (see d l e s))
