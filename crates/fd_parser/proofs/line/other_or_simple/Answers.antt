use Rattle.std.proofs.lemmas.Result.{err_from_is_err_and}
use Rattle.fd_parser.specs.Forms as grammar
use Rattle.fd_parser.proofs.FormParts.{other_form, simple_form}
use Rattle.fd_parser.proofs.line.other_or_simple.Goals as goal

pub returns-in-Ok-clause-found : goal.returns-in-Ok-clause-found
returns-in-Ok-clause-found c = grammar.other c.in-Ok.ensures.found

pub returns-in-Ok-clause-only : goal.returns-in-Ok-clause-only
returns-in-Ok-clause-only c = λ f d. c.in-Ok.ensures.only f (other_form c.requires.not_declared c.requires.no_choice c.in-Ok.ensures.found d)

pub returns-in_err-list-in-Err-Syntax-clause-only : goal.returns-in_err-list-in-Err-Syntax-clause-only
returns-in_err-list-in-Err-Syntax-clause-only c = λ f d.
    let p = err_from_is_err_and c.from_residual.result c.from_residual.ensures.1 in
    let q = simple_form c.requires.not_declared c.requires.no_choice (λ h o. rw c.in-Err-Syntax.field-0-is at (c.in-Err-Syntax.ensures.only h o)) d in
    rw (p.1, p.2) (c.in_err-list-in-Err-Syntax.ensures.only q.stmts q.simple)

pub returns-in_ok-list-in-Err-Syntax-clause-found : goal.returns-in_ok-list-in-Err-Syntax-clause-found
returns-in_ok-list-in-Err-Syntax-clause-found c = grammar.simple c.in_ok-list-in-Err-Syntax.ensures.found

pub returns-in_ok-list-in-Err-Syntax-clause-only : goal.returns-in_ok-list-in-Err-Syntax-clause-only
returns-in_ok-list-in-Err-Syntax-clause-only c = λ f d.
    let q = simple_form c.requires.not_declared c.requires.no_choice (λ h o. rw c.in-Err-Syntax.field-0-is at (c.in-Err-Syntax.ensures.only h o)) d in
    rw (c.in_ok-list-in-Err-Syntax.ensures.only q.stmts q.simple) q.is
