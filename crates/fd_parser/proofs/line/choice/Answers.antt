use Rattle.std.proofs.lemmas.Result.{err_from_is_err_and}
use Rattle.fd_parser.proofs.LineRules.{if_at, elseif_at, else_at, endif_at, if_parts_at, elseif_parts_at, else_parts_at, endif_parts_at, no_choice}
use Rattle.fd_parser.proofs.line.choice.Goals as goal

pub returns-in_err-form-clause-only : goal.returns-in_err-form-clause-only
returns-in_err-form-clause-only c = λ f d.
    let p = err_from_is_err_and c.from_residual.result c.from_residual.ensures.1 in
    rw (p.1, p.2) (c.in_err-form.ensures.only f (if_parts_at c.in-Some.ensures d))

pub returns-in-Some-clause-found : goal.returns-in-Some-clause-found
returns-in-Some-clause-found c = if_at c.in-Some.ensures c.in_ok-form.ensures.found

pub returns-in-Some-clause-only : goal.returns-in-Some-clause-only
returns-in-Some-clause-only c = λ f d. c.in_ok-form.ensures.only f (if_parts_at c.in-Some.ensures d)

pub returns-in_err-condition-clause-only : goal.returns-in_err-condition-clause-only
returns-in_err-condition-clause-only c = λ f d.
    let p = err_from_is_err_and c.from_residual-in_err-condition.result c.from_residual-in_err-condition.ensures.1 in
    let q = elseif_parts_at c.in-Some-after_word.ensures d in
    rw (p.1, p.2) (c.in_err-condition.ensures.only q.tree q.rest)

pub returns-in-Some-after_word-clause-found : goal.returns-in-Some-after_word-clause-found
returns-in-Some-after_word-clause-found c = elseif_at c.in-Some-after_word.ensures c.in_ok-condition.ensures.found

pub returns-in-Some-after_word-clause-only : goal.returns-in-Some-after_word-clause-only
returns-in-Some-after_word-clause-only c = λ f d.
    let q = elseif_parts_at c.in-Some-after_word.ensures d in
    rw (c.in_ok-condition.ensures.only q.tree q.rest) q.is

pub returns-in_err-form-2-clause-only : goal.returns-in_err-form-2-clause-only
returns-in_err-form-2-clause-only c = λ f d.
    let p = err_from_is_err_and c.from_residual-in_err-form-2.result c.from_residual-in_err-form-2.ensures.1 in
    rw (p.1, p.2) (c.in_err-form-2.ensures.only f (else_parts_at c.in-Some-after_word-2.ensures d))

pub returns-in-Some-after_word-2-clause-found : goal.returns-in-Some-after_word-2-clause-found
returns-in-Some-after_word-2-clause-found c = else_at c.in-Some-after_word-2.ensures c.in_ok-form-2.ensures.found

pub returns-in-Some-after_word-2-clause-only : goal.returns-in-Some-after_word-2-clause-only
returns-in-Some-after_word-2-clause-only c = λ f d. c.in_ok-form-2.ensures.only f (else_parts_at c.in-Some-after_word-2.ensures d)

pub returns-in_err-rest-clause-only : goal.returns-in_err-rest-clause-only
returns-in_err-rest-clause-only c = λ f d. absurd (no_choice c.in_default.ensures c.in_default-after_word.ensures c.in_default-after_word-2.ensures c.in_err-rest.ensures.1 d)

pub returns-in_err-ended-clause-only : goal.returns-in_err-ended-clause-only
returns-in_err-ended-clause-only c = λ f d. absurd (c.in_err-ended.ensures.1 (endif_parts_at c.in_ok-rest.ensures d).over)

pub returns-clause-found : goal.returns-clause-found
returns-clause-found c = endif_at c.in_ok-rest.ensures c.in_ok-ended.ensures

pub returns-clause-only : goal.returns-clause-only
returns-clause-only c = λ f d. (endif_parts_at c.in_ok-rest.ensures d).is
