use Rattle.std.proofs.Common.{◌≡◌, ℕ, ◌≤◌, Bool}
use Rattle.gnt_solver.specs.Columns.{col, at, IsTable}
use Rattle.gnt_solver.specs.Passes.{IsTi}
use Rattle.gnt_solver.proofs.wanted.wanted.Given as goal

abbrev pub invariant-loop-i : goal.invariant-loop-i
invariant-loop-i l = IsTable l.size l.ti × (l.i ≤ l.size.nodes) × (l.here.size ≡ l.size.items) × ((x : ℕ) (any : ℕ → Bool) → IsTi l.graph.rows.items (at (col l.take x)) (at (col l.st x)) any (at (col l.ti x)) l.i)

abbrev pub decreases-loop-i : goal.decreases-loop-i
decreases-loop-i l = l.i
