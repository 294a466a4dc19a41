use Rattle.std.proofs.Common.{sym, ap, arith}
use Rattle.interval_graph.specs.Rows.{way_in}
use Rattle.gnt_solver.specs.Columns.{at, col}
use Rattle.gnt_solver.proofs.Rows.{loop_in}
use Rattle.gnt_solver.proofs.Wanting.{inner_by}
use Rattle.gnt_solver.proofs.wanted.inner.Goals as goal

pub entry-requires-in-Around-clause-inside : goal.entry-requires-in-Around-clause-inside
entry-requires-in-Around-clause-inside c = let k = loop_in c.args.graph.now.rows.items c.args.n c.in-Around.field-0.0 c.requires.rows (sym (ap way_in c.in-Around.ensures)) in omega (arith, k.far, k.inside, c.requires.nodes)

pub returns-in-Around-clause-held : goal.returns-in-Around-clause-held
returns-in-Around-clause-held c x =
    inner_by c.args.graph.now.rows.items (at (col c.args.st.now x)) (at (col c.args.any.now x)) (at (col c.args.ti.now x)) c.args.n _ c.in-Around.field-0.0 _ _ _ _ _ _ _
    (sym (ap way_in c.in-Around.ensures)) (omega arith) (c.lose.ensures.held x) (c.unite.ensures.held x) (c.meet.ensures.held x) (c.behind.ensures.held x)
    (c.entry.ensures.held x) (c.entry-in-Around.ensures.held x) (c.entry-in-Around-2.ensures.held x)
