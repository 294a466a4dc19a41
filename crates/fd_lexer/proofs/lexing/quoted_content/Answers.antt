use Rattle.fd_lexer.proofs.Contents.{content_of, unquoted-doubled}
use Rattle.fd_lexer.proofs.lexing.quoted_content.Goals as goal

pub returns-clause-written : goal.returns-clause-written
returns-clause-written c = λ bs rest d. content_of d

pub returns-clause-read : goal.returns-clause-read
returns-clause-read c = unquoted-doubled
