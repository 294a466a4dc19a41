-- The loop that a DO is, by copies of its bounds and its step.
use Rattle.std.proofs.Common.{◌≡◌, ℕ, List, ap, ◌∙◌}
use Rattle.fd_prog.specs.Expressions.{Expression, expression_of}
use Rattle.fd_prog.specs.Items.{CountedLoop, Name}
use Rattle.fd_prog.specs.declared.expression.Expr.{Expr}
use Rattle.section_num.specs.Bounds.{loop_of}

abbrev pub loop_with : ℕ → Expression → Expression → Expression → List Name → CountedLoop
loop_with var first last step sets = record { var = var; first = first; last = last; step = step; sets = sets }

-- it is that of the bounds and the step themselves
pub same_loop : (var : ℕ) (e : Expr × (Expr × Expr)) (first last step : Expression) (sets all : List Name) → expression_of e.0 ≡ first → expression_of e.1.0 ≡ last → expression_of e.1.1 ≡ step → sets ≡ all
    → loop_of var e sets ≡ loop_with var first last step all
same_loop var e first last step sets all f g h i =
    ap (λ (x : Expression). loop_with var x (expression_of e.1.0) (expression_of e.1.1) sets) f
    ∙ (ap (λ (x : Expression). loop_with var first x (expression_of e.1.1) sets) g
    ∙ (ap (λ (x : Expression). loop_with var first last x sets) h ∙ ap (loop_with var first last step) i))
