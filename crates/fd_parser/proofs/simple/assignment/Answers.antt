use Rattle.std.proofs.lemmas.Result.{err_from_is_err_and}
use Rattle.fd_parser.proofs.SimpleRules.{assignment_parts, assigned_at, ends_equal, value_at}
use Rattle.fd_parser.proofs.simple.assignment.Goals as goal

pub returns-in_err-left-clause-only : goal.returns-in_err-left-clause-only
returns-in_err-left-clause-only c = λ x d.
    let p = err_from_is_err_and c.from_residual.result c.from_residual.ensures.1 in
    let q = assignment_parts d in
    rw (p.1, p.2) (c.in_err-left.ensures.only q.left _ q.target (ends_equal q.rest))

pub returns-in_err-rest-clause-only : goal.returns-in_err-rest-clause-only
returns-in_err-rest-clause-only c = λ x d.
    let q = assignment_parts d in
    absurd (c.in_err-rest.ensures.1 q.rest (c.in_ok-left.ensures.only q.left _ q.target (ends_equal q.rest)).1)

pub returns-in_err-value-clause-only : goal.returns-in_err-value-clause-only
returns-in_err-value-clause-only c = λ x d.
    let p = err_from_is_err_and c.from_residual-in_err-value.result c.from_residual-in_err-value.ensures.1 in
    let q = assignment_parts d in
    let e = c.in_ok-left.ensures.only q.left _ q.target (ends_equal q.rest) in
    rw (p.1, p.2) (c.in_err-value.ensures.only q.right (value_at c.in_ok-rest.ensures e.1 q.value))

pub returns-clause-found : goal.returns-clause-found
returns-clause-found c = assigned_at c.in_ok-left.ensures.found c.in_ok-rest.ensures c.in_ok-value.ensures.found

pub returns-clause-only : goal.returns-clause-only
returns-clause-only c = λ x d.
    let q = assignment_parts d in
    let e = c.in_ok-left.ensures.only q.left _ q.target (ends_equal q.rest) in
    let f = c.in_ok-value.ensures.only q.right (value_at c.in_ok-rest.ensures e.1 q.value) in
    rw (e.0, f) q.is
