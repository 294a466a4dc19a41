use Rattle.fd_parser.proofs.DeclarationRules.{a_name_at}
use Rattle.fd_parser.proofs.declaration.one_name.Goals as goal

pub returns-clause-found : goal.returns-clause-found
returns-clause-found c = rw c.in_ok-name.ensures (a_name_at c.in-Some.ensures)
