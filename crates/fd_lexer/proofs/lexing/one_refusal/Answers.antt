use Rattle.fd_lexer.proofs.Outcomes.{refusal_one, reading_refused}
use Rattle.fd_lexer.proofs.lexing.one_refusal.Goals as goal

pub returns-clause-refusal : goal.returns-clause-refusal
returns-clause-refusal c = refusal_one

pub returns-clause-reading : goal.returns-clause-reading
returns-clause-reading c = reading_refused
