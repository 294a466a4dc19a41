use Rattle.std.proofs.Common.{sym, ap}
use Rattle.interval_graph.specs.Rows.{way_in}
use Rattle.gnt_solver.proofs.wanted.in_body.Goals as goal

pub gathered-requires-clause-leads : goal.gathered-requires-clause-leads
gathered-requires-clause-leads c = sym (ap way_in c.in-Around.ensures)
