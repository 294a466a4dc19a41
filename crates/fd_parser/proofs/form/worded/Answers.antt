use Rattle.std.proofs.lemmas.Result.{err_from_is_err_and}
use Rattle.fd_parser.proofs.FormRules.{read_at, print_at, continue_word_at, read_parts_at, print_parts_at, continue_parts_at, no_word}
use Rattle.fd_parser.proofs.form.worded.Goals as goal

pub returns-in_err-list-clause-only : goal.returns-in_err-list-clause-only
returns-in_err-list-clause-only c = λ xs d.
    let p = err_from_is_err_and c.from_residual.result c.from_residual.ensures.1 in
    rw (p.1, p.2) (c.in_err-list.ensures.only xs (read_parts_at c.in-Some.ensures d))

pub returns-in-Some-clause-found : goal.returns-in-Some-clause-found
returns-in-Some-clause-found c = read_at c.in-Some.ensures c.in_ok-list.ensures.found

pub returns-in-Some-clause-only : goal.returns-in-Some-clause-only
returns-in-Some-clause-only c = λ xs d. c.in_ok-list.ensures.only xs (read_parts_at c.in-Some.ensures d)

pub returns-in_err-list-2-clause-only : goal.returns-in_err-list-2-clause-only
returns-in_err-list-2-clause-only c = λ xs d.
    let p = err_from_is_err_and c.from_residual-in_err-list-2.result c.from_residual-in_err-list-2.ensures.1 in
    rw (p.1, p.2) (c.in_err-list-2.ensures.only xs (print_parts_at c.in-Some-after_word.ensures d))

pub returns-in-Some-after_word-clause-found : goal.returns-in-Some-after_word-clause-found
returns-in-Some-after_word-clause-found c = print_at c.in-Some-after_word.ensures c.in_ok-list-2.ensures.found

pub returns-in-Some-after_word-clause-only : goal.returns-in-Some-after_word-clause-only
returns-in-Some-after_word-clause-only c = λ xs d. c.in_ok-list-2.ensures.only xs (print_parts_at c.in-Some-after_word.ensures d)

pub returns-in_err-rest-clause-only : goal.returns-in_err-rest-clause-only
returns-in_err-rest-clause-only c = λ xs d. absurd (no_word c.in_default.ensures c.in_default-after_word.ensures c.in_err-rest.ensures.1 d)

pub returns-in_err-list-3-clause-only : goal.returns-in_err-list-3-clause-only
returns-in_err-list-3-clause-only c = λ xs d.
    let p = err_from_is_err_and c.from_residual-in_err-list-3.result c.from_residual-in_err-list-3.ensures.1 in
    rw (p.1, p.2) (c.in_err-list-3.ensures.only xs (continue_parts_at c.in_ok-rest.ensures d))

pub returns-clause-found : goal.returns-clause-found
returns-clause-found c = continue_word_at c.in_ok-rest.ensures c.in_ok-list-3.ensures.found

pub returns-clause-only : goal.returns-clause-only
returns-clause-only c = λ xs d. c.in_ok-list-3.ensures.only xs (continue_parts_at c.in_ok-rest.ensures d)
