use Rattle.std.proofs.Common.{length}
use Rattle.fd_lexer.proofs.Lines.{IsSeen}
use Rattle.fd_lexer.proofs.segment.take_tokens.Given as goal

abbrev pub invariant-loop-first : goal.invariant-loop-first
invariant-loop-first l = IsSeen l.line l.start l.bytes l.initial.tokens.items l.at l.rest l.tokens.items l.large

abbrev pub decreases-loop-first : goal.decreases-loop-first
decreases-loop-first l = length l.rest
