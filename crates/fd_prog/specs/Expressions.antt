-- Expressions without where they lie in memory.
use Rattle.std.specs.Prelude.{ℕ, ℤ}
use Rattle.fd_prog.specs.declared.expression.Func.{Func}
use Rattle.fd_prog.specs.declared.expression.Op2.{Op2}
use Rattle.fd_prog.specs.declared.expression.Expr.{Expr}
use Rattle.fd_prog.specs.declared.expression.Expr.TheVariants as stored
use Rattle.fd_prog.specs.declared.expression.ExprList.{ExprList}
use Rattle.fd_prog.specs.declared.expression.ExprList.TheVariants as stored_list

mutual
  -- an expression; constants are numbers, scalars and arrays go by their numbers in the program
  pub data Expression : Type 0 where
    Number : ℤ → Expression
    Scalar : ℕ → Expression
    -- an array, the subscripts, and the number of the reference
    Element : ℕ → Expressions → ℕ → Expression
    Negated : Expression → Expression
    Joined : Op2 → Expression → Expression → Expression
    Applied : Func → Expressions → Expression

  -- expressions, one after the other
  pub data Expressions : Type 0 where
    End : Expressions
    More : Expression → Expressions → Expressions

abbrev mutual
  pub expression_of : Expr → Expression
  expression_of (stored.Num n) = Number n
  expression_of (stored.Scalar s) = Scalar s
  expression_of (stored.Elem' array subs site) = Element array (expressions_of subs) site
  expression_of (stored.Neg' p a) = Negated (expression_of a)
  expression_of (stored.Bin' op p a q b) = Joined op (expression_of a) (expression_of b)
  expression_of (stored.Call f args) = Applied f (expressions_of args)

  pub expressions_of : ExprList → Expressions
  expressions_of stored_list.End = End
  expressions_of (stored_list.More' p e q rest) = More (expression_of e) (expressions_of rest)
