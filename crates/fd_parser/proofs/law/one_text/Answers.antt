use Rattle.fd_parser.proofs.Parsed as sources
use Rattle.fd_parser.proofs.law.one_text.Goals as goal

pub returns : goal.returns
returns c = sources.one_text
