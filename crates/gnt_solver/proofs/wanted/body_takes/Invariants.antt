use Rattle.std.proofs.Common.{◌≡◌, ℕ, ◌≤◌}
use Rattle.gnt_solver.specs.Columns.{col, IsTable}
use Rattle.gnt_solver.specs.Passes.{IsAny}
use Rattle.gnt_solver.proofs.wanted.body_takes.Given as goal

abbrev pub invariant-loop-i : goal.invariant-loop-i
invariant-loop-i l = IsTable l.size l.any × (l.i ≤ l.size.nodes) × (l.here.size ≡ l.size.items) × ((x : ℕ) → IsAny l.graph.rows.items (col l.take x) (col l.any x) l.i)

abbrev pub decreases-loop-i : goal.decreases-loop-i
decreases-loop-i l = l.i
