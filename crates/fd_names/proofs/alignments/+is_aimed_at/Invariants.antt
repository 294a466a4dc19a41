use Rattle.std.proofs.Common.{length}
use Rattle.fd_names.proofs.alignments.+is_aimed_at.Given as goal

abbrev pub decreases-is_aimed_at : goal.decreases-is_aimed_at
decreases-is_aimed_at l = length l.aims.now
