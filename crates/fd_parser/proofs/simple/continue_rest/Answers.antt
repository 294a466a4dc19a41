use Rattle.fd_parser.proofs.SimpleRules.{continue_at}
use Rattle.fd_parser.proofs.simple.continue_rest.Goals as goal

pub returns-clause-found : goal.returns-clause-found
returns-clause-found c = rw c.in_ok-skip.ensures (continue_at c.in_ok-ended.ensures)
