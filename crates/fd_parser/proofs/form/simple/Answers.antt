use Rattle.std.proofs.lemmas.Result.{err_from_is_err_and}
use Rattle.fd_parser.specs.Forms as grammar
use Rattle.fd_parser.proofs.FormRules.{worded_parts, assignment_alone}
use Rattle.fd_parser.proofs.form.simple.Goals as goal

pub returns-in-Ok-clause-found : goal.returns-in-Ok-clause-found
returns-in-Ok-clause-found c = grammar.worded c.in-Ok.ensures.found

pub returns-in-Ok-clause-only : goal.returns-in-Ok-clause-only
returns-in-Ok-clause-only c = λ xs d. c.in-Ok.ensures.only xs (worded_parts c.in-Ok.ensures.found d)

pub returns-in_err-stmt-in-Err-Syntax-clause-only : goal.returns-in_err-stmt-in-Err-Syntax-clause-only
returns-in_err-stmt-in-Err-Syntax-clause-only c = λ xs d.
    let p = err_from_is_err_and c.from_residual.result c.from_residual.ensures.1 in
    let q = assignment_alone (λ ys w. rw c.in-Err-Syntax.field-0-is at (c.in-Err-Syntax.ensures.only ys w)) d in
    rw (p.1, p.2) (c.in_err-stmt-in-Err-Syntax.ensures.only q.stmt q.assignment)

pub returns-in_ok-list-in-Err-Syntax-clause-found : goal.returns-in_ok-list-in-Err-Syntax-clause-found
returns-in_ok-list-in-Err-Syntax-clause-found c = rw c.in_ok-list-in-Err-Syntax.ensures (grammar.assignment c.in_ok-stmt-in-Err-Syntax.ensures.found)

pub returns-in_ok-list-in-Err-Syntax-clause-only : goal.returns-in_ok-list-in-Err-Syntax-clause-only
returns-in_ok-list-in-Err-Syntax-clause-only c = λ xs d.
    let q = assignment_alone (λ ys w. rw c.in-Err-Syntax.field-0-is at (c.in-Err-Syntax.ensures.only ys w)) d in
    rw (c.in_ok-list-in-Err-Syntax.ensures, c.in_ok-stmt-in-Err-Syntax.ensures.only q.stmt q.assignment) q.is
