use Rattle.std.proofs.Common.{length}
use Rattle.fd_lexer.proofs.Places.{IsAhead}
use Rattle.fd_lexer.proofs.scan.next_line.Given as goal

abbrev pub invariant-loop-here : goal.invariant-loop-here
invariant-loop-here l = IsAhead l.fn.place l.here

abbrev pub decreases-loop-here : goal.decreases-loop-here
decreases-loop-here l = length l.here.rest.now
