use Rattle.std.proofs.lemmas.Result.{err_from_is_err_and}
use Rattle.fd_parser.specs.Simple.{valued}
use Rattle.fd_parser.proofs.Lists.{EndsElement-expr}
use Rattle.fd_parser.proofs.SimpleRules.{quoted_at, quoted_parts_at, valued_parts}
use Rattle.fd_parser.proofs.simple.item.Goals as goal

pub returns-in-Some-clause-found : goal.returns-in-Some-clause-found
returns-in-Some-clause-found c = rw c.in_ok-text.ensures (quoted_at c.in-Some.ensures)

pub returns-in-Some-clause-only : goal.returns-in-Some-clause-only
returns-in-Some-clause-only c = λ x r d h. let e = quoted_parts_at c.in-Some.ensures d in (rw c.in_ok-text.ensures e.0, e.1)

pub returns-in_err-value-clause-only : goal.returns-in_err-value-clause-only
returns-in_err-value-clause-only c = λ x r d h.
    let p = err_from_is_err_and c.from_residual-in_err-value.result c.from_residual-in_err-value.ensures.1 in
    let q = valued_parts c.in_default.ensures d in
    rw (p.1, p.2) (c.in_err-value.ensures.only q.tree r q.value (EndsElement-expr r h))

pub returns-clause-found : goal.returns-clause-found
returns-clause-found c = valued c.in_ok-value.ensures.found

pub returns-clause-only : goal.returns-clause-only
returns-clause-only c = λ x r d h.
    let q = valued_parts c.in_default.ensures d in
    let e = c.in_ok-value.ensures.only q.tree r q.value (EndsElement-expr r h) in
    (rw e.0 q.is, e.1)
