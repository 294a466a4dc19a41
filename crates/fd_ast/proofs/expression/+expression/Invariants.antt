use Rattle.std.proofs.Common.{◌≤◌}
use Rattle.fd_ast.specs.declared.expression.TExpr.{size-TExpr}
use Rattle.fd_ast.specs.declared.expression.TExprList.{size-TExprList}
use Rattle.fd_ast.proofs.expression.+expression.Given as goal

-- What is left is no deeper than the whole.
abbrev pub invariant-TExpr::drop-loop-self : goal.invariant-TExpr::drop-loop-self
invariant-TExpr::drop-loop-self l = size-TExpr l.self ≤ size-TExpr l.fn.self

abbrev pub invariant-TExprList::drop-loop-self : goal.invariant-TExprList::drop-loop-self
invariant-TExprList::drop-loop-self l = size-TExprList l.self ≤ size-TExprList l.fn.self
