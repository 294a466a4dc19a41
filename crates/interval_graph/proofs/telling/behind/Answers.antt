use Rattle.std.proofs.Common.{sym, ap, arith}
use Rattle.interval_graph.specs.Rows.{way_in}
use Rattle.interval_graph.proofs.Inside.{few, loop_in}
use Rattle.interval_graph.proofs.telling.behind.Goals as goal

pub overflow_add-result : goal.overflow_add-result
overflow_add-result c =
    let k = loop_in c.args.rows.now.items c.args.m c.in-Around.latch.0 c.requires.rows (sym (ap way_in c.in-Around.ensures)) in
    omega (arith, k.inside, few c.args.rows.now.items c.requires.rows)

pub overflow_add-result-in_default : goal.overflow_add-result-in_default
overflow_add-result-in_default c = omega (arith, c.requires.inside, few c.args.rows.now.items c.requires.rows)
