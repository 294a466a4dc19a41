use Rattle.std.proofs.Common.{◌*◌}
use Rattle.fd_sets.proofs.Bits.{AreNoneBetween}
use Rattle.fd_sets.proofs.words.least_behind.Given as goal

abbrev pub invariant-loop-i : goal.invariant-loop-i
invariant-loop-i l = AreNoneBetween l.words (64 * l.place) (64 * l.i)
