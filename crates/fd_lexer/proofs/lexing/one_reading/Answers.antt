use Rattle.fd_lexer.proofs.Outcomes.{reading_one}
use Rattle.fd_lexer.proofs.lexing.one_reading.Goals as goal

pub returns : goal.returns
returns c = reading_one
