use Rattle.fd_parser.proofs.Sources as sources
use Rattle.fd_parser.proofs.law.one_program.Goals as goal

pub returns : goal.returns
returns c = sources.one_program
