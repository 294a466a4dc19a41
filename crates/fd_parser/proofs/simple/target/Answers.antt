use Rattle.std.proofs.lemmas.Result.{err_from_is_err_and}
use Rattle.fd_parser.proofs.Rules.{call_parts_at, name_parts_at}
use Rattle.fd_parser.proofs.SimpleRules.{target_primary, whole_at, element_at}
use Rattle.fd_parser.proofs.simple.target.Goals as goal

pub returns-in_err-list-in-Some-after_sign-clause-only : goal.returns-in_err-list-in-Some-after_sign-clause-only
returns-in_err-list-in-Some-after_sign-clause-only c = λ x r d h.
    let p = err_from_is_err_and c.from_residual-in_err-list-in-Some-after_sign.result c.from_residual-in_err-list-in-Some-after_sign.ensures.1 in
    let q = call_parts_at c.in-Some.ensures c.in-Some-after_sign.ensures (target_primary d) h in
    rw (p.1, p.2) (c.in_err-list-in-Some-after_sign.ensures.only q.trees r q.list)

pub returns-in_ok-list-in-Some-after_sign-clause-found : goal.returns-in_ok-list-in-Some-after_sign-clause-found
returns-in_ok-list-in-Some-after_sign-clause-found c = rw c.in_ok-name.ensures (element_at c.in-Some.ensures c.in-Some-after_sign.ensures c.in_ok-list-in-Some-after_sign.ensures.found)

pub returns-in_ok-list-in-Some-after_sign-clause-only : goal.returns-in_ok-list-in-Some-after_sign-clause-only
returns-in_ok-list-in-Some-after_sign-clause-only c = λ x r d h.
    let q = call_parts_at c.in-Some.ensures c.in-Some-after_sign.ensures (target_primary d) h in
    let e = c.in_ok-list-in-Some-after_sign.ensures.only q.trees r q.list in
    (rw (c.in_ok-name.ensures, e.0) q.applied, e.1)

pub returns-in-None-clause-found : goal.returns-in-None-clause-found
returns-in-None-clause-found c = rw c.in_ok-name.ensures (whole_at c.in-Some.ensures)

pub returns-in-None-clause-only : goal.returns-in-None-clause-only
returns-in-None-clause-only c = λ x r d h. let e = name_parts_at c.in-Some.ensures c.in-None.ensures (target_primary d) in (rw c.in_ok-name.ensures e.0, e.1)
