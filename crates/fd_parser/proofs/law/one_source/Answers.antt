use Rattle.fd_parser.proofs.Bytes as bytes
use Rattle.fd_parser.proofs.law.one_source.Goals as goal

pub returns : goal.returns
returns c = bytes.one_source
