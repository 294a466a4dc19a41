use Rattle.fd_parser.proofs.Texts.{no_word}
use Rattle.fd_parser.proofs.scan.begins_with.Goals as goal

pub returns-in-None : goal.returns-in-None
returns-in-None c = no_word _ _ c.in-None.ensures
