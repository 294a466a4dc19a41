use Rattle.std.proofs.lemmas.Result.{err_from_is_err_and}
use Rattle.fd_parser.proofs.Lists.{EndsElement-expr}
use Rattle.fd_parser.proofs.DeclarationRules.{definition_at, definition_parts_at}
use Rattle.fd_parser.proofs.declaration.definition.Goals as goal

pub returns-in_err-value-clause-only : goal.returns-in_err-value-clause-only
returns-in_err-value-clause-only c = λ x r d h.
    let p = err_from_is_err_and c.from_residual-in_err-value.result c.from_residual-in_err-value.ensures.1 in
    let q = definition_parts_at c.in-Some.ensures c.in_ok-rest.ensures d in
    rw (p.1, p.2) (c.in_err-value.ensures.only q.value r q.expr (EndsElement-expr r h))

pub returns-clause-found : goal.returns-clause-found
returns-clause-found c = rw c.in_ok-name.ensures (definition_at c.in-Some.ensures c.in_ok-rest.ensures c.in_ok-value.ensures.found)

pub returns-clause-only : goal.returns-clause-only
returns-clause-only c = λ x r d h.
    let q = definition_parts_at c.in-Some.ensures c.in_ok-rest.ensures d in
    let e = c.in_ok-value.ensures.only q.value r q.expr (EndsElement-expr r h) in
    (rw (c.in_ok-name.ensures, e.0) q.is, e.1)
