use Rattle.std.proofs.Common.{ap}
use Rattle.interval_graph.specs.Rows.{way_in}
use Rattle.gnt_solver.specs.Columns.{held, col, at}
use Rattle.gnt_solver.proofs.Forward.{met_by, entered_by}
use Rattle.gnt_solver.proofs.passes.entered.Goals as goal

pub returns-in_default : goal.returns-in_default
returns-in_default c = record {
  size = c.gathered.ensures.size;
  held = λ x.
      let rows = c.args.graph.now.rows.items in
      let b = held c.gathered.new.into x in
      entered_by rows c.args.n (at (col c.args.ti.now x)) (at (col c.args.go.now x)) b c.way.result c.if-n-eq0.false (ap way_in c.way.ensures) c.in_default.not-Around
      (met_by rows c.args.n (at (col c.args.ti.now x)) (at (col c.args.go.now x)) c.args.arrivals.now.seen.items (col c.args.arrivals.now.some x) (col c.args.arrivals.now.every x) b
      c.requires.rows (c.requires.come x) (c.gathered.ensures.held x));
}
