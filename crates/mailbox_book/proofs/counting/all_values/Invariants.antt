use Rattle.std.proofs.Common.{◌≡◌, ◌≤◌, ◌*◌, take}
use Rattle.std.specs.Prelude.{sum_by}
use Rattle.mailbox_book.specs.Boxes.{values_in}
use Rattle.mailbox_book.proofs.counting.all_values.Given as goal

abbrev pub invariant-loop-header : goal.invariant-loop-header
invariant-loop-header l = (l.total ≡ sum_by values_in (take l.header-index l.headers)) × (l.total ≤ l.header-index * 4294967296)
