use Rattle.std.proofs.lemmas.Result.{err_from_is_err_and}
use Rattle.fd_parser.specs.Conditions as grammar
use Rattle.fd_parser.proofs.Conditions.{cmp_parts, same_sign_at, sign_at, expr_at}
use Rattle.fd_parser.proofs.condition.comparison.Goals as goal

pub returns-in_err-left-clause-only : goal.returns-in_err-left-clause-only
returns-in_err-left-clause-only c = λ x r d h.
    let p = err_from_is_err_and c.from_residual.result c.from_residual.ensures.1 in
    let q = cmp_parts d in
    rw (p.1, p.2) (c.in_err-left.ensures.only q.left q.before q.first q.ends)

pub returns-in_err-rel-clause-only : goal.returns-in_err-rel-clause-only
returns-in_err-rel-clause-only c = λ x r d h.
    let q = cmp_parts d in
    let e = c.in_ok-left.ensures.only q.left q.before q.first q.ends in
    absurd (c.in_err-rel.ensures.1 q.rel q.behind (sign_at e.1 q.sign))

pub returns-in_err-right-clause-only : goal.returns-in_err-right-clause-only
returns-in_err-right-clause-only c = λ x r d h.
    let p = err_from_is_err_and c.from_residual-in_err-right.result c.from_residual-in_err-right.ensures.1 in
    let q = cmp_parts d in
    let e = c.in_ok-left.ensures.only q.left q.before q.first q.ends in
    let s = same_sign_at e.1 c.in_ok-rel.ensures q.sign in
    rw (p.1, p.2) (c.in_err-right.ensures.only q.right r (expr_at s.rest q.second) h)

pub returns-clause-found : goal.returns-clause-found
returns-clause-found c = grammar.comparison c.in_ok-left.ensures.found c.in_ok-rel.ensures c.in_ok-right.ensures.found

pub returns-clause-only : goal.returns-clause-only
returns-clause-only c = λ x r d h.
    let q = cmp_parts d in
    let e = c.in_ok-left.ensures.only q.left q.before q.first q.ends in
    let s = same_sign_at e.1 c.in_ok-rel.ensures q.sign in
    let f = c.in_ok-right.ensures.only q.right r (expr_at s.rest q.second) h in
    (rw (e.0, f.0, s.rel) q.is, f.1)
