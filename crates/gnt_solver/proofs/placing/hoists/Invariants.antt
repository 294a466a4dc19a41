use Rattle.std.proofs.Common.{◌≡◌, ℕ, ◌<◌}
use Rattle.gnt_solver.specs.Columns.{col, at, IsTable}
use Rattle.gnt_solver.specs.Passes.{hoist_of}
use Rattle.gnt_solver.proofs.placing.hoists.Given as goal

abbrev pub invariant-loop-i : goal.invariant-loop-i
invariant-loop-i l = IsTable l.size l.all × (l.here.size ≡ l.size.items) × ((x n : ℕ) → n < l.i → at (col l.all x) n ≡ hoist_of l.graph.rows.items (at (col l.take x)) (at (col l.st x)) (at (col l.ti x)) n)
