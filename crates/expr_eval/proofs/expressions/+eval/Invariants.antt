use Rattle.std.proofs.Common.{◌+◌, ◌*◌, max}
use Rattle.fd_prog.specs.declared.expression.Expr.{size-Expr}
use Rattle.expr_eval.proofs.expressions.+eval.Given as goal

-- Each call is on less of the expression, or on the same expressions by a function further down.
abbrev pub decreases-call : goal.decreases-call
decreases-call g l = 5 * goal.size-call g l + 1

abbrev pub decreases-element : goal.decreases-element
decreases-element g l = 5 * goal.size-element g l + 2

abbrev pub decreases-element_apart : goal.decreases-element_apart
decreases-element_apart g l = 5 * goal.size-element_apart g l + 1

abbrev pub decreases-eval : goal.decreases-eval
decreases-eval g l = 5 * goal.size-eval g l

abbrev pub decreases-extreme_from : goal.decreases-extreme_from
decreases-extreme_from g l = 5 * goal.size-extreme_from g l

abbrev pub decreases-joined : goal.decreases-joined
decreases-joined g l = 5 * max (size-Expr l.left.now) (size-Expr l.right.now) + 4

abbrev pub decreases-negated : goal.decreases-negated
decreases-negated g l = 5 * goal.size-negated g l + 4

abbrev pub decreases-operand : goal.decreases-operand
decreases-operand g l = 5 * goal.size-operand g l + 3

abbrev pub decreases-pair : goal.decreases-pair
decreases-pair g l = 5 * goal.size-pair g l

abbrev pub decreases-value : goal.decreases-value
decreases-value g l = 5 * goal.size-value g l + 2

abbrev pub decreases-subscripted : goal.decreases-subscripted
decreases-subscripted g l = 5 * goal.size-subscripted g l

abbrev pub decreases-value_apart : goal.decreases-value_apart
decreases-value_apart g l = 5 * goal.size-value_apart g l + 1
