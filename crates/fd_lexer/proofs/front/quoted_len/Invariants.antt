use Rattle.std.proofs.Common.{length, ◌-◌}
use Rattle.fd_lexer.proofs.QuotedScan.{IsScanned}
use Rattle.fd_lexer.proofs.front.quoted_len.Given as goal

abbrev pub invariant-loop-at : goal.invariant-loop-at
invariant-loop-at l = IsScanned l.bytes l.at

abbrev pub decreases-loop-at : goal.decreases-loop-at
decreases-loop-at l = length l.bytes - l.at
