use Rattle.std.proofs.Common.{sym, ap, arith}
use Rattle.interval_graph.specs.Rows.{way_in}
use Rattle.gnt_solver.proofs.Rows.{next_in, fork_in, fork_next, jump_in, loop_in, few}
use Rattle.gnt_solver.proofs.placing.some_behind.Goals as goal

pub entry-requires-clause-inside : goal.entry-requires-clause-inside
entry-requires-clause-inside c = let k = next_in c.args.graph.now.rows.items c.args.n c.requires.rows (sym (ap way_in c.in-Next.ensures)) in omega (arith, k, c.requires.nodes)

pub entry-requires-in-Fork-clause-inside : goal.entry-requires-in-Fork-clause-inside
entry-requires-in-Fork-clause-inside c = let k = fork_next c.args.graph.now.rows.items c.args.n c.in-Fork.other.0 c.requires.rows (sym (ap way_in c.in-Fork.ensures)) in omega (arith, k, c.requires.nodes)

pub entry-requires-in-Fork-2-clause-inside : goal.entry-requires-in-Fork-2-clause-inside
entry-requires-in-Fork-2-clause-inside c = let k = fork_in c.args.graph.now.rows.items c.args.n c.in-Fork.other.0 c.requires.rows (sym (ap way_in c.in-Fork.ensures)) in omega (arith, k.1, c.requires.nodes)

pub entry-requires-in-Jump-clause-inside : goal.entry-requires-in-Jump-clause-inside
entry-requires-in-Jump-clause-inside c = let k = jump_in c.args.graph.now.rows.items c.args.n c.in-Jump.other.0 c.requires.rows (sym (ap way_in c.in-Jump.ensures)) in omega (arith, k.1, c.requires.nodes)

pub overflow_add-latch : goal.overflow_add-latch
overflow_add-latch c = let k = loop_in c.args.graph.now.rows.items c.args.n c.in-Around.latch.0 c.requires.rows (sym (ap way_in c.in-Around.ensures)) in omega (arith, k.inside, few c.args.graph.now.rows.items c.requires.rows)

pub entry-requires-in-Around-clause-inside : goal.entry-requires-in-Around-clause-inside
entry-requires-in-Around-clause-inside c = let k = loop_in c.args.graph.now.rows.items c.args.n c.in-Around.latch.0 c.requires.rows (sym (ap way_in c.in-Around.ensures)) in omega (arith, k.inside, c.requires.nodes)
