use Rattle.std.proofs.lemmas.Result.{err_from_is_err_and}
use Rattle.fd_parser.proofs.Rules.{same_rest}
use Rattle.fd_parser.proofs.Lists.{list_right}
use Rattle.fd_parser.proofs.DeclarationRules.{scalar_at, array_at, array_parts_at}
use Rattle.fd_parser.proofs.declaration.entity.Goals as goal

pub returns-in_err-list-in-Some-after_sign-clause-only : goal.returns-in_err-list-in-Some-after_sign-clause-only
returns-in_err-list-in-Some-after_sign-clause-only c = λ x r d h.
    let p = err_from_is_err_and c.from_residual-in_err-list-in-Some-after_sign.result c.from_residual-in_err-list-in-Some-after_sign.ensures.1 in
    let q = array_parts_at c.in-Some.ensures c.in-Some-after_sign.ensures d h in
    rw (p.1, p.2) (c.in_err-list-in-Some-after_sign.ensures.only q.dims _ q.listed (list_right r))

pub returns-in_err-rest-in-Some-after_sign-clause-only : goal.returns-in_err-rest-in-Some-after_sign-clause-only
returns-in_err-rest-in-Some-after_sign-clause-only c = λ x r d h.
    let q = array_parts_at c.in-Some.ensures c.in-Some-after_sign.ensures d h in
    absurd (c.in_err-rest-in-Some-after_sign.ensures.1 r (c.in_ok-list-in-Some-after_sign.ensures.only q.dims _ q.listed (list_right r)).1)

pub returns-in_ok-rest-in-Some-after_sign-clause-found : goal.returns-in_ok-rest-in-Some-after_sign-clause-found
returns-in_ok-rest-in-Some-after_sign-clause-found c = rw (c.in_ok-name.ensures, c.from_vec.ensures) (array_at c.in-Some.ensures c.in-Some-after_sign.ensures c.in_ok-list-in-Some-after_sign.ensures.found c.in_ok-rest-in-Some-after_sign.ensures)

pub returns-in_ok-rest-in-Some-after_sign-clause-only : goal.returns-in_ok-rest-in-Some-after_sign-clause-only
returns-in_ok-rest-in-Some-after_sign-clause-only c = λ x r d h.
    let q = array_parts_at c.in-Some.ensures c.in-Some-after_sign.ensures d h in
    let e = c.in_ok-list-in-Some-after_sign.ensures.only q.dims _ q.listed (list_right r) in
    (rw (c.in_ok-name.ensures, c.from_vec.ensures, e.0) q.is, same_rest c.in_ok-rest-in-Some-after_sign.ensures e.1)

pub returns-in-None-clause-found : goal.returns-in-None-clause-found
returns-in-None-clause-found c = rw (c.in_ok-name.ensures, c.new.ensures) (scalar_at c.in-Some.ensures)
