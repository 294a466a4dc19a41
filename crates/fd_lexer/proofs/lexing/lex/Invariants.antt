use Rattle.std.proofs.Common.{length}
use Rattle.fd_lexer.proofs.Texts.{IsRead}
use Rattle.fd_lexer.proofs.lexing.lex.Given as goal

abbrev pub invariant-lines : goal.invariant-lines
invariant-lines l = IsRead l.bytes l.place l.tokens.items

abbrev pub decreases-lines : goal.decreases-lines
decreases-lines l = length l.place.rest.now
