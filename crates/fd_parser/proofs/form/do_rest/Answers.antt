use Rattle.std.proofs.Common.{refl}
use Rattle.std.proofs.lemmas.Result.{err_from_is_err_and}
use Rattle.fd_parser.proofs.FormRules.{counted_at, counted_parts_at, while_at, while_parts_at, condition_in}
use Rattle.fd_parser.proofs.form.do_rest.Goals as goal

pub returns-in_err-first-clause-only : goal.returns-in_err-first-clause-only
returns-in_err-first-clause-only c = λ f d.
    let p = err_from_is_err_and c.from_residual-in_err-first.result c.from_residual-in_err-first.ensures.1 in
    let q = counted_parts_at c.in-Some.ensures c.in-Some-after_sign.ensures d in
    rw (p.1, p.2) (c.in_err-first.ensures.only q.first q.last q.step q.range)

pub returns-in-Some-after_sign-clause-found : goal.returns-in-Some-after_sign-clause-found
returns-in-Some-after_sign-clause-found c = rw c.in_ok-variable.ensures (counted_at c.in-Some.ensures c.in-Some-after_sign.ensures c.in_ok-first.ensures.found)

pub returns-in-Some-after_sign-clause-only : goal.returns-in-Some-after_sign-clause-only
returns-in-Some-after_sign-clause-only c = λ f d.
    let q = counted_parts_at c.in-Some.ensures c.in-Some-after_sign.ensures d in
    let e = c.in_ok-first.ensures.only q.first q.last q.step q.range in
    rw (c.in_ok-variable.ensures, e.0, e.1, e.2) q.is

pub returns-then-not-is_word-clause-only : goal.returns-then-not-is_word-clause-only
returns-then-not-is_word-clause-only c = λ f d.
    let q = while_parts_at c.in-Some.ensures c.in_default-after_sign.ensures d in
    let g = c.if-not-is_word.ensures.1 q.word in absurd cc

pub returns-in_err-inside-clause-only : goal.returns-in_err-inside-clause-only
returns-in_err-inside-clause-only c = λ f d.
    let q = while_parts_at c.in-Some.ensures c.in_default-after_sign.ensures d in
    absurd (c.in_err-inside.ensures.1 q.rest q.left)

pub returns-in_err-condition-clause-only : goal.returns-in_err-condition-clause-only
returns-in_err-condition-clause-only c = λ f d.
    let p = err_from_is_err_and c.from_residual-in_err-condition.result c.from_residual-in_err-condition.ensures.1 in
    let q = while_parts_at c.in-Some.ensures c.in_default-after_sign.ensures d in
    rw (p.1, p.2) (c.in_err-condition.ensures.only q.tree _ (condition_in c.in_ok-inside.ensures q.left q.condition))

pub returns-in_err-ended-clause-only : goal.returns-in_err-ended-clause-only
returns-in_err-ended-clause-only c = λ f d.
    let q = while_parts_at c.in-Some.ensures c.in_default-after_sign.ensures d in
    absurd (c.in_err-ended.ensures.1 (c.in_ok-condition.ensures.only q.tree _ (condition_in c.in_ok-inside.ensures q.left q.condition)).1)

pub returns-clause-found : goal.returns-clause-found
returns-clause-found c = while_at c.in-Some.ensures (c.if-not-is_word.ensures.0 refl) c.in_ok-inside.ensures c.in_ok-condition.ensures.found c.in_ok-ended.ensures

pub returns-clause-only : goal.returns-clause-only
returns-clause-only c = λ f d.
    let q = while_parts_at c.in-Some.ensures c.in_default-after_sign.ensures d in
    rw (c.in_ok-condition.ensures.only q.tree _ (condition_in c.in_ok-inside.ensures q.left q.condition)).0 q.is
