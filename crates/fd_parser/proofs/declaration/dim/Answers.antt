use Rattle.std.proofs.lemmas.Result.{err_from_is_err_and}
use Rattle.fd_parser.specs.Declarations.{upper_bound}
use Rattle.fd_parser.proofs.Lists.{EndsElement-expr}
use Rattle.fd_parser.proofs.DeclarationRules.{bounds_at, dim_head, bounds_parts, upper_parts}
use Rattle.fd_parser.proofs.declaration.dim.Goals as goal

pub returns-in_err-first-clause-only : goal.returns-in_err-first-clause-only
returns-in_err-first-clause-only c = λ x r d h.
    let p = err_from_is_err_and c.from_residual.result c.from_residual.ensures.1 in
    let q = dim_head d h in
    rw (p.1, p.2) (c.in_err-first.ensures.only q.tree q.rest q.head q.ends)

pub returns-in_err-high-in-Some-clause-only : goal.returns-in_err-high-in-Some-clause-only
returns-in_err-high-in-Some-clause-only c = λ x r d h.
    let p = err_from_is_err_and c.from_residual-in_err-high-in-Some.result c.from_residual-in_err-high-in-Some.ensures.1 in
    let q = bounds_parts c.in-Some.ensures c.in_ok-first.ensures.only d h in
    rw (p.1, p.2) (c.in_err-high-in-Some.ensures.only q.high r q.second (EndsElement-expr r h))

pub returns-in_ok-high-in-Some-clause-found : goal.returns-in_ok-high-in-Some-clause-found
returns-in_ok-high-in-Some-clause-found c = bounds_at c.in_ok-first.ensures.found c.in-Some.ensures c.in_ok-high-in-Some.ensures.found

pub returns-in_ok-high-in-Some-clause-only : goal.returns-in_ok-high-in-Some-clause-only
returns-in_ok-high-in-Some-clause-only c = λ x r d h.
    let q = bounds_parts c.in-Some.ensures c.in_ok-first.ensures.only d h in
    let e = c.in_ok-high-in-Some.ensures.only q.high r q.second (EndsElement-expr r h) in
    (rw e.0 q.is, e.1)

pub returns-in-None-clause-found : goal.returns-in-None-clause-found
returns-in-None-clause-found c = upper_bound c.in_ok-first.ensures.found

pub returns-in-None-clause-only : goal.returns-in-None-clause-only
returns-in-None-clause-only c = λ x r d h. upper_parts c.in-None.ensures c.in_ok-first.ensures.only d h
