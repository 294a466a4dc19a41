use Rattle.std.proofs.lemmas.Result.{err_from_is_err_and}
use Rattle.fd_parser.proofs.Lists.{list_right}
use Rattle.fd_parser.proofs.SimpleRules.{same_tail}
use Rattle.fd_parser.proofs.MappingRules.{whole_array_at, dummies_at, dummies_parts_at, whole_parts_at, with_targets_in}
use Rattle.fd_parser.proofs.mapping.align_rest.Goals as goal

pub returns-in_err-dummies-clause-only : goal.returns-in_err-dummies-clause-only
returns-in_err-dummies-clause-only c = λ x d.
    let p = err_from_is_err_and c.from_residual-in_err-dummies.result c.from_residual-in_err-dummies.ensures.1 in
    let q = dummies_parts_at c.in-Some.ensures c.in-Some-after_sign.ensures d in
    rw (p.1, p.2) (c.in_err-dummies.ensures.only q.dummies _ q.listed (list_right q.rest))

pub returns-in_err-rest-clause-only : goal.returns-in_err-rest-clause-only
returns-in_err-rest-clause-only c = λ x d.
    let q = dummies_parts_at c.in-Some.ensures c.in-Some-after_sign.ensures d in
    absurd (c.in_err-rest.ensures.1 q.rest (c.in_ok-dummies.ensures.only q.dummies _ q.listed (list_right q.rest)).1)

pub returns-in_err-decomp-clause-only : goal.returns-in_err-decomp-clause-only
returns-in_err-decomp-clause-only c = λ x d.
    let p = err_from_is_err_and c.from_residual-in_err-decomp.result c.from_residual-in_err-decomp.ensures.1 in
    let q = dummies_parts_at c.in-Some.ensures c.in-Some-after_sign.ensures d in
    let e = c.in_ok-dummies.ensures.only q.dummies _ q.listed (list_right q.rest) in
    rw (p.1, p.2) (c.in_err-decomp.ensures.only q.decomp q.trees (with_targets_in (same_tail c.in_ok-rest.ensures e.1) q.targets))

pub returns-in-Some-after_sign-clause-found : goal.returns-in-Some-after_sign-clause-found
returns-in-Some-after_sign-clause-found c = rw (c.in_ok-array.ensures, c.from_vec.ensures) (dummies_at c.in-Some.ensures c.in-Some-after_sign.ensures c.in_ok-dummies.ensures.found c.in_ok-rest.ensures c.in_ok-decomp.ensures.found)

pub returns-in-Some-after_sign-clause-only : goal.returns-in-Some-after_sign-clause-only
returns-in-Some-after_sign-clause-only c = λ x d.
    let q = dummies_parts_at c.in-Some.ensures c.in-Some-after_sign.ensures d in
    let e = c.in_ok-dummies.ensures.only q.dummies _ q.listed (list_right q.rest) in
    let f = c.in_ok-decomp.ensures.only q.decomp q.trees (with_targets_in (same_tail c.in_ok-rest.ensures e.1) q.targets) in
    rw (c.in_ok-array.ensures, c.from_vec.ensures, e.0, f.0, f.1) q.is

pub returns-in_err-decomp-2-clause-only : goal.returns-in_err-decomp-2-clause-only
returns-in_err-decomp-2-clause-only c = λ x d.
    let p = err_from_is_err_and c.from_residual-in_err-decomp-2.result c.from_residual-in_err-decomp-2.ensures.1 in
    let q = whole_parts_at c.in-Some.ensures c.in_default-after_sign.ensures d in
    rw (p.1, p.2) (c.in_err-decomp-2.ensures.only q.decomp q.rest)

pub returns-clause-found : goal.returns-clause-found
returns-clause-found c = rw (c.in_ok-array.ensures, c.new.ensures) (whole_array_at c.in-Some.ensures c.in_ok-decomp-2.ensures.found)

pub returns-clause-only : goal.returns-clause-only
returns-clause-only c = λ x d.
    let q = whole_parts_at c.in-Some.ensures c.in_default-after_sign.ensures d in
    rw (c.in_ok-array.ensures, c.new.ensures, c.in_ok-decomp-2.ensures.only q.decomp q.rest) q.is
