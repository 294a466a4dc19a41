-- The bounds and the step of a DO: the scalars that they name, and their forms.
use Rattle.std.specs.Prelude.{◌≡◌, ℕ, List, [], ◌∷◌, ◌++◌, Option, Some, None, Result, Ok, Err}
use Rattle.fd_prog.specs.declared.expression.Expr.{Expr}
use Rattle.fd_prog.specs.declared.form.FormRefusal.{FormRefusal}
use Rattle.fd_prog.specs.declared.item.Widened.{Widened}
use Rattle.fd_prog.specs.Expressions.{Expression, Number, Scalar, Element, Negated, Joined, Applied, Expressions, End, More, expression_of}
use Rattle.fd_prog.specs.Items as items
use Rattle.section_num.specs.declared.names.Name.{Name}
use Rattle.section_num.specs.KeptNames.{names_of}

-- a DO with this variable, these bounds and this step, whose body sets these names
abbrev pub loop_of : ℕ → Expr × (Expr × Expr) → List items.Name → items.CountedLoop
loop_of var e sets = record { var = var; first = expression_of e.0; last = expression_of e.1.0; step = expression_of e.1.1; sets = sets }

-- the forms of these, where the scalars of `bound` are widened variables
abbrev pub forms_of : List ℕ → Expr × (Expr × Expr) → Result items.LinearLoop FormRefusal
forms_of bound e = items.loop_forms bound (loop_of 0 e [])

-- what is kept are their forms, or there are none
abbrev pub AreForms : Option Widened → Expr × (Expr × Expr) → Type 0
AreForms (Some w) e = forms_of [] e ≡ Ok (items.linear_loop_of w)
AreForms None e = (why : FormRefusal) × (forms_of [] e ≡ Err why)

abbrev mutual
  -- the scalars that an expression names
  pub scalars_in : Expression → List items.Name
  scalars_in (Number x) = []
  scalars_in (Scalar s) = items.ScalarName s ∷ []
  scalars_in (Element array subs site) = scalars_among subs
  scalars_in (Negated a) = scalars_in a
  scalars_in (Joined op a b) = scalars_in a ++ scalars_in b
  scalars_in (Applied f args) = scalars_among args

  pub scalars_among : Expressions → List items.Name
  scalars_among End = []
  scalars_among (More e es) = scalars_in e ++ scalars_among es

-- those that these name
abbrev pub all_scalars : Expr × (Expr × Expr) → List items.Name
all_scalars e = scalars_in (expression_of e.0) ++ (scalars_in (expression_of e.1.0) ++ scalars_in (expression_of e.1.1))

-- what is kept of these
pub record AreKept (names : List Name) (w : Option Widened) (e : Expr × (Expr × Expr)) : Type 0 where
  pub scalars : names_of names ≡ all_scalars e
  pub forms : AreForms w e
