use Rattle.fd_parser.proofs.Texts.{no_numbered_do}
use Rattle.fd_parser.proofs.scan.is_numbered_do.Goals as goal

pub returns-in-None : goal.returns-in-None
returns-in-None c = no_numbered_do _ c.in-None.ensures
