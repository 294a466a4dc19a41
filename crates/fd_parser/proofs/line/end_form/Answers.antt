use Rattle.fd_parser.proofs.LineRules.{enddo_at, end_if_at, end_do_at, enddo_parts_at, end_if_parts_at, end_do_parts_at, no_end, no_second}
use Rattle.fd_parser.proofs.line.end_form.Goals as goal

pub returns-in_err-ended-clause-only : goal.returns-in_err-ended-clause-only
returns-in_err-ended-clause-only c = λ f d. absurd (c.in_err-ended.ensures.1 (enddo_parts_at c.in-Some.ensures d).over)

pub returns-in-Some-clause-found : goal.returns-in-Some-clause-found
returns-in-Some-clause-found c = enddo_at c.in-Some.ensures c.in_ok-ended.ensures

pub returns-in-Some-clause-only : goal.returns-in-Some-clause-only
returns-in-Some-clause-only c = λ f d. (enddo_parts_at c.in-Some.ensures d).is

pub returns-in_err-rest-clause-only : goal.returns-in_err-rest-clause-only
returns-in_err-rest-clause-only c = λ f d. absurd (no_end c.in_default.ensures c.in_err-rest.ensures.1 d)

pub returns-in_err-ended-2-clause-only : goal.returns-in_err-ended-2-clause-only
returns-in_err-ended-2-clause-only c = λ f d. absurd (c.in_err-ended-2.ensures.1 (end_if_parts_at c.in_ok-rest.ensures c.in-Some-after_word.ensures d).over)

pub returns-in-Some-after_word-clause-found : goal.returns-in-Some-after_word-clause-found
returns-in-Some-after_word-clause-found c = end_if_at c.in_ok-rest.ensures c.in-Some-after_word.ensures c.in_ok-ended-2.ensures

pub returns-in-Some-after_word-clause-only : goal.returns-in-Some-after_word-clause-only
returns-in-Some-after_word-clause-only c = λ f d. (end_if_parts_at c.in_ok-rest.ensures c.in-Some-after_word.ensures d).is

pub returns-in_err-rest-2-clause-only : goal.returns-in_err-rest-2-clause-only
returns-in_err-rest-2-clause-only c = λ f d. absurd (no_second c.in_ok-rest.ensures c.in_default-after_word.ensures c.in_err-rest-2.ensures.1 d)

pub returns-in_err-ended-3-clause-only : goal.returns-in_err-ended-3-clause-only
returns-in_err-ended-3-clause-only c = λ f d. absurd (c.in_err-ended-3.ensures.1 (end_do_parts_at c.in_ok-rest.ensures c.in_ok-rest-2.ensures d).over)

pub returns-clause-found : goal.returns-clause-found
returns-clause-found c = end_do_at c.in_ok-rest.ensures c.in_ok-rest-2.ensures c.in_ok-ended-3.ensures

pub returns-clause-only : goal.returns-clause-only
returns-clause-only c = λ f d. (end_do_parts_at c.in_ok-rest.ensures c.in_ok-rest-2.ensures d).is
