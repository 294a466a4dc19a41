use Rattle.std.proofs.lemmas.Result.{err_from_is_err_and}
use Rattle.fd_parser.specs.Forms.{end_line}
use Rattle.fd_parser.proofs.OtherRules.{do_at, distribute_at, program_at, do_parts_at, distribute_parts_at, program_parts_at, end_parts}
use Rattle.fd_parser.proofs.line.other.Goals as goal

pub returns-in_err-form-clause-only : goal.returns-in_err-form-clause-only
returns-in_err-form-clause-only c = λ f d.
    let p = err_from_is_err_and c.from_residual.result c.from_residual.ensures.1 in
    rw (p.1, p.2) (c.in_err-form.ensures.only f (do_parts_at c.in-Some.ensures d))

pub returns-in-Some-clause-found : goal.returns-in-Some-clause-found
returns-in-Some-clause-found c = do_at c.in-Some.ensures c.in_ok-form.ensures.found

pub returns-in-Some-clause-only : goal.returns-in-Some-clause-only
returns-in-Some-clause-only c = λ f d. c.in_ok-form.ensures.only f (do_parts_at c.in-Some.ensures d)

pub returns-in_err-form-2-clause-only : goal.returns-in_err-form-2-clause-only
returns-in_err-form-2-clause-only c = λ f d.
    let p = err_from_is_err_and c.from_residual-in_err-form-2.result c.from_residual-in_err-form-2.ensures.1 in
    rw (p.1, p.2) (c.in_err-form-2.ensures.only f (distribute_parts_at c.in-Some-after_word.ensures d))

pub returns-in-Some-after_word-clause-found : goal.returns-in-Some-after_word-clause-found
returns-in-Some-after_word-clause-found c = distribute_at c.in-Some-after_word.ensures c.in_ok-form-2.ensures.found

pub returns-in-Some-after_word-clause-only : goal.returns-in-Some-after_word-clause-only
returns-in-Some-after_word-clause-only c = λ f d. c.in_ok-form-2.ensures.only f (distribute_parts_at c.in-Some-after_word.ensures d)

pub returns-in_err-one_word-clause-only : goal.returns-in_err-one_word-clause-only
returns-in_err-one_word-clause-only c = λ f d. absurd (c.in_err-one_word.ensures.1 (program_parts_at c.in-Some-after_word-2.ensures d).word)

pub returns-in-Some-after_word-2-clause-found : goal.returns-in-Some-after_word-2-clause-found
returns-in-Some-after_word-2-clause-found c = program_at c.in-Some-after_word-2.ensures c.in_ok-one_word.ensures

pub returns-in-Some-after_word-2-clause-only : goal.returns-in-Some-after_word-2-clause-only
returns-in-Some-after_word-2-clause-only c = λ f d. (program_parts_at c.in-Some-after_word-2.ensures d).is

pub returns-in_err-form-3-clause-only : goal.returns-in_err-form-3-clause-only
returns-in_err-form-3-clause-only c = λ f d.
    let p = err_from_is_err_and c.from_residual-in_err-form-3.result c.from_residual-in_err-form-3.ensures.1 in
    rw (p.1, p.2) (c.in_err-form-3.ensures.only f (end_parts c.in_default.ensures c.in_default-after_word.ensures c.in_default-after_word-2.ensures d))

pub returns-clause-found : goal.returns-clause-found
returns-clause-found c = end_line c.in_ok-form-3.ensures.found

pub returns-clause-only : goal.returns-clause-only
returns-clause-only c = λ f d. c.in_ok-form-3.ensures.only f (end_parts c.in_default.ensures c.in_default-after_word.ensures c.in_default-after_word-2.ensures d)
