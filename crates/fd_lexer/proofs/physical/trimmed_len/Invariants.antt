use Rattle.fd_lexer.proofs.Physicals.{IsTrimmed}
use Rattle.fd_lexer.proofs.physical.trimmed_len.Given as goal

abbrev pub invariant-loop-n : goal.invariant-loop-n
invariant-loop-n l = IsTrimmed l.bytes l.n

abbrev pub decreases-loop-n : goal.decreases-loop-n
decreases-loop-n l = l.n
