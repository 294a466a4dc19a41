use Rattle.std.proofs.Common.{◌≡◌, ℕ}
use Rattle.interval_graph.specs.Rows.{leads_at}
use Rattle.gnt_solver.specs.Columns.{col, at, IsTable}
use Rattle.gnt_solver.specs.Passes.{HasCome, ArePassed}
use Rattle.gnt_solver.specs.Arrived.{AreArrivals}
use Rattle.gnt_solver.proofs.passes.pass.Given as goal

abbrev pub invariant-loop-i : goal.invariant-loop-i
invariant-loop-i l = record {
  table_gi : IsTable l.size l.gi;
  table_g : IsTable l.size l.g;
  table_go : IsTable l.size l.go;
  are : AreArrivals l.size l.arrivals;
  sized : l.here.size ≡ l.size.items;
  come : (x : ℕ) → HasCome (leads_at l.graph.rows.items) (at (col l.go x)) l.arrivals.seen.items (col l.arrivals.some x) (col l.arrivals.every x) l.i;
  passed : (x : ℕ) → ArePassed l.graph.rows.items (col l.st x) (col l.ti x) (col l.brought x) (col l.gi x) (col l.g x) (col l.go x) l.i;
}
