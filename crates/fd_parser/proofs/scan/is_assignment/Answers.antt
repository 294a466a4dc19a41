use Rattle.fd_parser.proofs.Texts.{no_assignment}
use Rattle.fd_parser.proofs.scan.is_assignment.Goals as goal

pub returns-in-None : goal.returns-in-None
returns-in-None c = no_assignment _ c.in-None.ensures
