use Rattle.std.proofs.Common.{◌≡◌, ℕ}
use Rattle.gnt_solver.specs.Columns.{col, IsTable}
use Rattle.gnt_solver.specs.Passes.{AreSet}
use Rattle.gnt_solver.proofs.placing.bring.Given as goal

abbrev pub invariant-loop-i : goal.invariant-loop-i
invariant-loop-i l = record {
  table_in : IsTable l.size l.at_in;
  table_out : IsTable l.size l.at_out;
  sized : l.here.size ≡ l.size.items;
  set : (x : ℕ) → AreSet l.graph.rows.items (col l.had.gi x) (col l.had.g x) (col l.had.go x) (col l.at_in x) (col l.at_out x) l.i;
}
