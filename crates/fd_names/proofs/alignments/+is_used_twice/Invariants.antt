use Rattle.std.proofs.Common.{length}
use Rattle.fd_names.proofs.alignments.+is_used_twice.Given as goal

abbrev pub decreases-is_used_twice : goal.decreases-is_used_twice
decreases-is_used_twice l = length l.aims.now
