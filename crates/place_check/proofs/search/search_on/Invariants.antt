use Rattle.std.proofs.Common.{◌+◌, ◌-◌, length}
use Rattle.interval_graph.specs.Rows.{flow_of}
use Rattle.place_check.specs.Columns.{machine_of}
use Rattle.place_check.specs.Trails.{IsSearch, unseen}
use Rattle.place_check.proofs.search.search_on.Given as goal

abbrev pub invariant-loop-next : goal.invariant-loop-next
invariant-loop-next l = IsSearch (flow_of l.graph.rows.items) (machine_of l.column) (length l.graph.rows.items) l.search l.next

abbrev pub decreases-loop-next : goal.decreases-loop-next
decreases-loop-next l = unseen l.search.seen.items + length l.search.reached.items - l.next
