use Rattle.fd_parser.proofs.Texts.{text_is}
use Rattle.fd_parser.proofs.scan.is_text.Goals as goal

pub returns : goal.returns
returns c = text_is c.is_word.result _ _ c.is_word.ensures
