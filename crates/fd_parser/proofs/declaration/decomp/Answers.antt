use Rattle.std.proofs.lemmas.Result.{err_from_is_err_and}
use Rattle.fd_parser.proofs.Rules.{same_rest}
use Rattle.fd_parser.proofs.Lists.{list_right}
use Rattle.fd_parser.proofs.DeclarationRules.{decomp_at, decomp_parts_at}
use Rattle.fd_parser.proofs.declaration.decomp.Goals as goal

pub returns-in_err-list-clause-only : goal.returns-in_err-list-clause-only
returns-in_err-list-clause-only c = λ x r d h.
    let p = err_from_is_err_and c.from_residual-in_err-list.result c.from_residual-in_err-list.ensures.1 in
    let q = decomp_parts_at c.in-Some.ensures c.in_ok-inside.ensures d in
    rw (p.1, p.2) (c.in_err-list.ensures.only q.dims _ q.listed (list_right r))

pub returns-in_err-rest-clause-only : goal.returns-in_err-rest-clause-only
returns-in_err-rest-clause-only c = λ x r d h.
    let q = decomp_parts_at c.in-Some.ensures c.in_ok-inside.ensures d in
    absurd (c.in_err-rest.ensures.1 r (c.in_ok-list.ensures.only q.dims _ q.listed (list_right r)).1)

pub returns-clause-found : goal.returns-clause-found
returns-clause-found c = rw (c.in_ok-name.ensures, c.from_vec.ensures) (decomp_at c.in-Some.ensures c.in_ok-inside.ensures c.in_ok-list.ensures.found c.in_ok-rest.ensures)

pub returns-clause-only : goal.returns-clause-only
returns-clause-only c = λ x r d h.
    let q = decomp_parts_at c.in-Some.ensures c.in_ok-inside.ensures d in
    let e = c.in_ok-list.ensures.only q.dims _ q.listed (list_right r) in
    (rw (c.in_ok-name.ensures, c.from_vec.ensures, e.0) q.is, same_rest c.in_ok-rest.ensures e.1)
