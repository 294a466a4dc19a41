use Rattle.std.proofs.Common.{length}
use Rattle.section_num.proofs.order.+compare_all_loops.Given as goal

abbrev pub decreases-compare_all_loops : goal.decreases-compare_all_loops
decreases-compare_all_loops l = length l.a.now
