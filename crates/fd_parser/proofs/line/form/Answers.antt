use Rattle.fd_parser.specs.Forms as grammar
use Rattle.fd_parser.proofs.FormParts.{declared_form}
use Rattle.fd_parser.proofs.line.form.Goals as goal

pub returns-in-Ok-clause-found : goal.returns-in-Ok-clause-found
returns-in-Ok-clause-found c = grammar.declared c.in-Ok.ensures.found

pub returns-in-Ok-clause-only : goal.returns-in-Ok-clause-only
returns-in-Ok-clause-only c = λ f d.
    let q = declared_form c.in-Ok.ensures.found d in
    rw (c.in-Ok.ensures.only q.decls q.declared) q.is
