use Rattle.fd_parser.proofs.Texts.{no_while_group}
use Rattle.fd_parser.proofs.scan.is_while_group.Goals as goal

pub returns-in-None : goal.returns-in-None
returns-in-None c = no_while_group _ c.in-None.ensures
