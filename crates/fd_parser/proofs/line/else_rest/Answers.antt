use Rattle.std.proofs.Common.{refl}
use Rattle.std.proofs.lemmas.Result.{err_from_is_err_and}
use Rattle.fd_parser.proofs.LineRules.{alone_at, with_if_at, alone_parts_at, with_if_parts_at, no_else_rest}
use Rattle.fd_parser.proofs.line.else_rest.Goals as goal

pub returns-then-is_over-clause-found : goal.returns-then-is_over-clause-found
returns-then-is_over-clause-found c = alone_at (c.if-is_over.ensures.0 refl)

pub returns-then-is_over-clause-only : goal.returns-then-is_over-clause-only
returns-then-is_over-clause-only c = λ f d. alone_parts_at (c.if-is_over.ensures.0 refl) d

pub returns-in_err-rest-clause-only : goal.returns-in_err-rest-clause-only
returns-in_err-rest-clause-only c = λ f d. absurd (no_else_rest (λ e. let g = c.if-is_over.ensures.1 e in absurd cc) c.in_err-rest.ensures.1 d)

pub returns-in_err-condition-clause-only : goal.returns-in_err-condition-clause-only
returns-in_err-condition-clause-only c = λ f d.
    let p = err_from_is_err_and c.from_residual-in_err-condition.result c.from_residual-in_err-condition.ensures.1 in
    let q = with_if_parts_at c.in_ok-rest.ensures d in
    rw (p.1, p.2) (c.in_err-condition.ensures.only q.tree q.rest)

pub returns-clause-found : goal.returns-clause-found
returns-clause-found c = with_if_at c.in_ok-rest.ensures c.in_ok-condition.ensures.found

pub returns-clause-only : goal.returns-clause-only
returns-clause-only c = λ f d.
    let q = with_if_parts_at c.in_ok-rest.ensures d in
    rw (c.in_ok-condition.ensures.only q.tree q.rest) q.is
