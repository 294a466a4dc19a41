use Rattle.std.proofs.Common.{◌≡◌, ◌+◌, ◌-◌, ◌++◌}
use Rattle.gnt_solver.specs.Columns.{held}
use Rattle.executor_gen.specs.Told.{marked_from, items_marked}
use Rattle.executor_gen.proofs.tables.members.Given as goal

-- the members so far, and those that are left
abbrev pub invariant-loop-item : goal.invariant-loop-item
invariant-loop-item l = l.found.items ++ marked_from (held l.set) l.from l.items ≡ items_marked l.items (held l.set)

abbrev pub decreases-loop-item : goal.decreases-loop-item
decreases-loop-item l = l.items + 1 - l.from
