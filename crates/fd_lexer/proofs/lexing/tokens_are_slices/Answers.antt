use Rattle.fd_lexer.proofs.Slices.{tokens_written}
use Rattle.fd_lexer.proofs.lexing.tokens_are_slices.Goals as goal

pub returns : goal.returns
returns c = tokens_written
