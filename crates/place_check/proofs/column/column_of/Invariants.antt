use Rattle.std.proofs.Common.{◌≡◌, ℕ, ◌≤◌, length}
use Rattle.gnt_solver.specs.Columns.{at, col}
use Rattle.place_check.specs.Marks.{doings_at}
use Rattle.place_check.specs.Columns.{plan_of, doings_of, IsNearest}
use Rattle.place_check.proofs.column.column_of.Given as goal

abbrev pub invariant-loop-n : goal.invariant-loop-n
invariant-loop-n l = record {
  long : length l.nodes.items ≡ length l.graph.rows.items;
  near : IsNearest (length l.graph.rows.items) (at (col l.take l.item.0)) l.n l.nearest;
  told : (m : ℕ) → l.n ≤ m → doings_at l.nodes.items m ≡ doings_of (plan_of l.graph.rows.items l.take l.steal l.p) l.item.0 m;
}
