use Rattle.std.proofs.Common.{◌≡◌, map}
use Rattle.std.specs.List.{range_with_len}
use Rattle.trans_table.specs.Tables.{elements_of}
use Rattle.trans_table.proofs.deal.elements_by_rank.Given as goal

abbrev pub invariant-loop-rank : goal.invariant-loop-rank
invariant-loop-rank l = l.elements.items ≡ map (elements_of l.owners) (range_with_len 0 l.rank)
