use Rattle.std.proofs.Common.{sym, ap, arith}
use Rattle.interval_graph.specs.Rows.{way_in}
use Rattle.gnt_solver.proofs.Rows.{few, loop_in}
use Rattle.gnt_solver.proofs.wanted.behind_body.Goals as goal

pub overflow_add-result : goal.overflow_add-result
overflow_add-result c =
    let k = loop_in c.args.graph.now.rows.items c.args.m c.in-Around.latch.0 c.requires.rows (sym (ap way_in c.in-Around.ensures)) in
    omega (arith, k.inside, few c.args.graph.now.rows.items c.requires.rows)

pub overflow_add-result-in_default : goal.overflow_add-result-in_default
overflow_add-result-in_default c = omega (arith, c.requires.inside, few c.args.graph.now.rows.items c.requires.rows)
