use Rattle.std.proofs.Common.{◌≡◌, replicate}
use Rattle.std.specs.FinSet as set
use Rattle.fd_sets.proofs.tables.SetTable.new.Given as goal

abbrev pub invariant-loop-node : goal.invariant-loop-node
invariant-loop-node l = l.sets.items ≡ replicate l._node (record { size = l.items; members = set.empty })
