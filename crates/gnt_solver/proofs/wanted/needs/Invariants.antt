use Rattle.std.proofs.Common.{◌≡◌, ℕ}
use Rattle.gnt_solver.specs.Columns.{col, at, IsTable}
use Rattle.gnt_solver.specs.Passes.{IsT}
use Rattle.gnt_solver.proofs.wanted.needs.Given as goal

abbrev pub invariant-loop-i : goal.invariant-loop-i
invariant-loop-i l = IsTable l.size l.t × (l.here.size ≡ l.size.items) × ((x : ℕ) → IsT l.graph.rows.items (at (col l.take x)) (at (col l.st x)) (at (col l.any x)) (at (col l.ti x)) (at (col l.t x)) l.i)
