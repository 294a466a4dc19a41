use Rattle.std.proofs.Common.{◌≡◌}
use Rattle.trans_table.specs.Tables.{elements_below}
use Rattle.trans_table.proofs.deal.elements_with.Given as goal

abbrev pub invariant-loop-element : goal.invariant-loop-element
invariant-loop-element l = l.elements ≡ elements_below l.owners l.rank l.element
