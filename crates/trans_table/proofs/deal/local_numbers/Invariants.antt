use Rattle.std.proofs.Common.{◌≡◌, length, map}
use Rattle.std.specs.List.{range_with_len}
use Rattle.fd_base.specs.Places.{local_in}
use Rattle.trans_table.proofs.Locals.{AreCounts}
use Rattle.trans_table.proofs.deal.local_numbers.Given as goal

abbrev pub invariant-loop-owner : goal.invariant-loop-owner
invariant-loop-owner l = (l.locals.items ≡ map (local_in l.owners) (range_with_len 0 l.owner-index)) × AreCounts l.owners l.counts l.owner-index × (length l.counts ≡ 16)
