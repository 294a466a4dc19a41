use Rattle.std.proofs.Common.{sym, ap, arith}
use Rattle.interval_graph.specs.Rows.{way_in}
use Rattle.gnt_solver.proofs.Rows.{loop_in}
use Rattle.gnt_solver.proofs.wanted.unite_top.Goals as goal

pub entry-requires-clause-inside : goal.entry-requires-clause-inside
entry-requires-clause-inside c = let k = loop_in c.args.graph.now.rows.items c.args.n c.in-Around.field-0.0 c.requires.rows (sym (ap way_in c.in-Around.ensures)) in omega (arith, k.far, k.inside, c.requires.nodes)
