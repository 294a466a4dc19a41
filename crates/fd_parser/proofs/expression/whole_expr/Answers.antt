use Rattle.std.proofs.lemmas.Result.{err_from_is_err_and}
use Rattle.fd_parser.proofs.LeftToRight.{ends_nothing}
use Rattle.fd_parser.proofs.expression.whole_expr.Goals as goal

pub returns-in_err-tree-clause-only : goal.returns-in_err-tree-clause-only
returns-in_err-tree-clause-only c = λ x d.
    let p = err_from_is_err_and c.from_residual.result c.from_residual.ensures.1 in
    rw (p.1, p.2) (c.in_err-tree.ensures.only x _ d ends_nothing)

pub returns-in_err-ended-clause-only : goal.returns-in_err-ended-clause-only
returns-in_err-ended-clause-only c = λ x d. absurd (c.in_err-ended.ensures.1 (c.in_ok-tree.ensures.only x _ d ends_nothing).1)

pub returns-clause-only : goal.returns-clause-only
returns-clause-only c = λ x d. (c.in_ok-tree.ensures.only x _ d ends_nothing).0
