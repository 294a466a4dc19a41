use Rattle.std.proofs.lemmas.Result.{err_from_is_err_and}
use Rattle.fd_parser.proofs.LineRules.{parameter_at, integer_at, decomposition_at, align_at, parameter_parts_at, integer_parts_at, decomposition_parts_at, align_parts_at, not_declared}
use Rattle.fd_parser.proofs.line.declared.Goals as goal

pub returns-in_err-list-clause-only : goal.returns-in_err-list-clause-only
returns-in_err-list-clause-only c = λ xs d.
    let p = err_from_is_err_and c.from_residual.result c.from_residual.ensures.1 in
    rw (p.1, p.2) (c.in_err-list.ensures.only xs (parameter_parts_at c.in-Some.ensures d))

pub returns-in-Some-clause-found : goal.returns-in-Some-clause-found
returns-in-Some-clause-found c = parameter_at c.in-Some.ensures c.in_ok-list.ensures.found

pub returns-in-Some-clause-only : goal.returns-in-Some-clause-only
returns-in-Some-clause-only c = λ xs d. c.in_ok-list.ensures.only xs (parameter_parts_at c.in-Some.ensures d)

pub returns-in_err-list-2-clause-only : goal.returns-in_err-list-2-clause-only
returns-in_err-list-2-clause-only c = λ xs d.
    let p = err_from_is_err_and c.from_residual-in_err-list-2.result c.from_residual-in_err-list-2.ensures.1 in
    rw (p.1, p.2) (c.in_err-list-2.ensures.only xs (integer_parts_at c.in-Some-after_word.ensures d))

pub returns-in-Some-after_word-clause-found : goal.returns-in-Some-after_word-clause-found
returns-in-Some-after_word-clause-found c = integer_at c.in-Some-after_word.ensures c.in_ok-list-2.ensures.found

pub returns-in-Some-after_word-clause-only : goal.returns-in-Some-after_word-clause-only
returns-in-Some-after_word-clause-only c = λ xs d. c.in_ok-list-2.ensures.only xs (integer_parts_at c.in-Some-after_word.ensures d)

pub returns-in_err-list-3-clause-only : goal.returns-in_err-list-3-clause-only
returns-in_err-list-3-clause-only c = λ xs d.
    let p = err_from_is_err_and c.from_residual-in_err-list-3.result c.from_residual-in_err-list-3.ensures.1 in
    rw (p.1, p.2) (c.in_err-list-3.ensures.only xs (decomposition_parts_at c.in-Some-after_word-2.ensures d))

pub returns-in-Some-after_word-2-clause-found : goal.returns-in-Some-after_word-2-clause-found
returns-in-Some-after_word-2-clause-found c = decomposition_at c.in-Some-after_word-2.ensures c.in_ok-list-3.ensures.found

pub returns-in-Some-after_word-2-clause-only : goal.returns-in-Some-after_word-2-clause-only
returns-in-Some-after_word-2-clause-only c = λ xs d. c.in_ok-list-3.ensures.only xs (decomposition_parts_at c.in-Some-after_word-2.ensures d)

pub returns-in_err-rest-clause-only : goal.returns-in_err-rest-clause-only
returns-in_err-rest-clause-only c = λ xs d. absurd (not_declared c.in_default.ensures c.in_default-after_word.ensures c.in_default-after_word-2.ensures c.in_err-rest.ensures.1 d)

pub returns-in_err-decl-clause-only : goal.returns-in_err-decl-clause-only
returns-in_err-decl-clause-only c = λ xs d.
    let p = err_from_is_err_and c.from_residual-in_err-decl.result c.from_residual-in_err-decl.ensures.1 in
    let q = align_parts_at c.in_ok-rest.ensures d in
    rw (p.1, p.2) (c.in_err-decl.ensures.only q.decl q.rest)

pub returns-clause-found : goal.returns-clause-found
returns-clause-found c = rw c.in_ok-list-4.ensures (align_at c.in_ok-rest.ensures c.in_ok-decl.ensures.found)

pub returns-clause-only : goal.returns-clause-only
returns-clause-only c = λ xs d.
    let q = align_parts_at c.in_ok-rest.ensures d in
    rw (c.in_ok-list-4.ensures, c.in_ok-decl.ensures.only q.decl q.rest) q.is
