use Rattle.fd_parser.proofs.Texts.{no_while}
use Rattle.fd_parser.proofs.scan.is_while.Goals as goal

pub returns-in-None : goal.returns-in-None
returns-in-None c = no_while _ c.in-None.ensures
