use Rattle.std.proofs.Common.{refl}
use Rattle.std.proofs.lemmas.Result.{err_from_is_err_and}
use Rattle.fd_parser.proofs.FormRules.{if_head_at, if_then_at, logical_at, if_then_parts_at, logical_parts_at}
use Rattle.fd_parser.proofs.form.if_rest.Goals as goal

pub returns-in_err-condition-clause-only : goal.returns-in_err-condition-clause-only
returns-in_err-condition-clause-only c = λ f d.
    let p = err_from_is_err_and c.from_residual-in_err-condition.result c.from_residual-in_err-condition.ensures.1 in
    let q = if_head_at c.in_ok-inside.ensures d in
    rw (p.1, p.2) (c.in_err-condition.ensures.only q.tree q.rest q.head)

pub returns-then-is_then-clause-found : goal.returns-then-is_then-clause-found
returns-then-is_then-clause-found c = if_then_at c.in_ok-inside.ensures c.in_ok-condition.ensures.found (c.if-is_then.ensures.0 refl)

pub returns-then-is_then-clause-only : goal.returns-then-is_then-clause-only
returns-then-is_then-clause-only c = λ f d. if_then_parts_at c.in_ok-inside.ensures (c.if-is_then.ensures.0 refl) c.in_ok-condition.ensures.only d

pub returns-in_err-list-clause-only : goal.returns-in_err-list-clause-only
returns-in_err-list-clause-only c = λ f d.
    let p = err_from_is_err_and c.from_residual-in_err-list.result c.from_residual-in_err-list.ensures.1 in
    let q = logical_parts_at c.in_ok-inside.ensures (λ e. let g = c.if-is_then.ensures.1 e in absurd cc) c.in_ok-condition.ensures.only d in
    rw (p.1, p.2) (c.in_err-list.ensures.only q.stmts q.simple)

pub returns-clause-found : goal.returns-clause-found
returns-clause-found c = logical_at c.in_ok-inside.ensures c.in_ok-condition.ensures.found c.in_ok-list.ensures.found

pub returns-clause-only : goal.returns-clause-only
returns-clause-only c = λ f d.
    let q = logical_parts_at c.in_ok-inside.ensures (λ e. let g = c.if-is_then.ensures.1 e in absurd cc) c.in_ok-condition.ensures.only d in
    rw (c.in_ok-list.ensures.only q.stmts q.simple) q.is
