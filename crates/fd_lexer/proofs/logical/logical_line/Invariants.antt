use Rattle.std.proofs.Common.{length}
use Rattle.fd_lexer.proofs.Groups.{IsJoining}
use Rattle.fd_lexer.proofs.logical.logical_line.Given as goal

abbrev pub invariant-parts : goal.invariant-parts
invariant-parts l = IsJoining l.fn.place l.number l.initial.tokens.items l.line l.here l.faults l.tokens.items

abbrev pub decreases-parts : goal.decreases-parts
decreases-parts l = length l.here.rest.now
