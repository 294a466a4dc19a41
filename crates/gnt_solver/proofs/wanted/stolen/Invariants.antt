use Rattle.std.proofs.Common.{◌≡◌, ℕ, ◌≤◌}
use Rattle.gnt_solver.specs.Columns.{col, IsTable}
use Rattle.gnt_solver.specs.Passes.{IsSt}
use Rattle.gnt_solver.proofs.wanted.stolen.Given as goal

abbrev pub invariant-loop-i : goal.invariant-loop-i
invariant-loop-i l = IsTable l.size l.st × (l.i ≤ l.size.nodes) × (l.here.size ≡ l.size.items) × ((x : ℕ) → IsSt l.graph.rows.items (col l.steal x) (col l.st x) l.i)

abbrev pub decreases-loop-i : goal.decreases-loop-i
decreases-loop-i l = l.i
