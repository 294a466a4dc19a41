use Rattle.fd_lexer.proofs.Said as lines
use Rattle.fd_lexer.proofs.lexing.said_lines.Goals as goal

pub returns-clause-said : goal.returns-clause-said
returns-clause-said c = lines.lines_said

pub returns-clause-once : goal.returns-clause-once
returns-clause-once c = λ text ls ks ms. lines.said_once

pub returns-clause-some : goal.returns-clause-some
returns-clause-some c = lines.said_tokens
