use Rattle.std.proofs.Common.{refl}
use Rattle.std.proofs.lemmas.Result.{err_from_is_err_and}
use Rattle.fd_parser.proofs.LeftToRight.{ends_comma}
use Rattle.fd_parser.proofs.FormRules.{range_head, middle_in, without_step_at, with_step_at, no_step_parts, step_parts, first_is}
use Rattle.fd_parser.proofs.form.range.Goals as goal

pub returns-in_err-first-clause-only : goal.returns-in_err-first-clause-only
returns-in_err-first-clause-only c = λ x y z d.
    let p = err_from_is_err_and c.from_residual.result c.from_residual.ensures.1 in
    let q = range_head d in
    rw (p.1, p.2) (c.in_err-first.ensures.only q.first _ q.one (ends_comma q.middle))

pub returns-in_err-rest-clause-only : goal.returns-in_err-rest-clause-only
returns-in_err-rest-clause-only c = λ x y z d.
    let q = range_head d in
    absurd (c.in_err-rest.ensures.1 q.middle (c.in_ok-first.ensures.only q.first _ q.one (ends_comma q.middle)).1)

pub returns-in_err-last-clause-only : goal.returns-in_err-last-clause-only
returns-in_err-last-clause-only c = λ x y z d.
    let p = err_from_is_err_and c.from_residual-in_err-last.result c.from_residual-in_err-last.ensures.1 in
    let q = range_head d in
    let e = c.in_ok-first.ensures.only q.first _ q.one (ends_comma q.middle) in
    rw (p.1, p.2) (c.in_err-last.ensures.only q.last q.rest (middle_in c.in_ok-rest.ensures e.1 q.two) q.ends)

pub returns-then-is_over-clause-found : goal.returns-then-is_over-clause-found
returns-then-is_over-clause-found c = without_step_at c.in_ok-first.ensures.found c.in_ok-rest.ensures c.in_ok-last.ensures.found (c.if-is_over.ensures.0 refl)

pub returns-then-is_over-clause-only : goal.returns-then-is_over-clause-only
returns-then-is_over-clause-only c = λ x y z d. no_step_parts c.in_ok-first.ensures.only c.in_ok-rest.ensures c.in_ok-last.ensures.only (c.if-is_over.ensures.0 refl) d

pub returns-in_err-rest-2-clause-only : goal.returns-in_err-rest-2-clause-only
returns-in_err-rest-2-clause-only c = λ x y z d.
    let q = step_parts c.in_ok-first.ensures.only c.in_ok-rest.ensures c.in_ok-last.ensures.only (λ e. let g = c.if-is_over.ensures.1 e in absurd cc) d in
    absurd (c.in_err-rest-2.ensures.1 q.rest q.comma)

pub returns-in_err-step-clause-only : goal.returns-in_err-step-clause-only
returns-in_err-step-clause-only c = λ x y z d.
    let p = err_from_is_err_and c.from_residual-in_err-step.result c.from_residual-in_err-step.ensures.1 in
    let q = step_parts c.in_ok-first.ensures.only c.in_ok-rest.ensures c.in_ok-last.ensures.only (λ e. let g = c.if-is_over.ensures.1 e in absurd cc) d in
    rw (p.1, p.2) (c.in_err-step.ensures.only z (middle_in c.in_ok-rest-2.ensures q.comma q.step))

pub returns-clause-found : goal.returns-clause-found
returns-clause-found c = with_step_at c.in_ok-first.ensures.found c.in_ok-rest.ensures c.in_ok-last.ensures.found c.in_ok-rest-2.ensures c.in_ok-step.ensures.found

pub returns-clause-only : goal.returns-clause-only
returns-clause-only c = λ x y z d.
    let q = step_parts c.in_ok-first.ensures.only c.in_ok-rest.ensures c.in_ok-last.ensures.only (λ e. let g = c.if-is_over.ensures.1 e in absurd cc) d in
    (first_is c.in_ok-first.ensures.only d, q.is, c.in_ok-step.ensures.only z (middle_in c.in_ok-rest-2.ensures q.comma q.step))
