use Rattle.fd_parser.specs.Forms as grammar
use Rattle.fd_parser.proofs.FormParts.{choice_form}
use Rattle.fd_parser.proofs.line.undeclared.Goals as goal

pub returns-in-Ok-clause-found : goal.returns-in-Ok-clause-found
returns-in-Ok-clause-found c = grammar.choice c.in-Ok.ensures.found

pub returns-in-Ok-clause-only : goal.returns-in-Ok-clause-only
returns-in-Ok-clause-only c = λ f d. c.in-Ok.ensures.only f (choice_form c.requires c.in-Ok.ensures.found d)
