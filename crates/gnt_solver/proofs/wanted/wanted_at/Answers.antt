use Rattle.gnt_solver.specs.Columns.{at, col}
use Rattle.gnt_solver.proofs.Wanting.{wanted_by}
use Rattle.gnt_solver.proofs.wanted.wanted_at.Goals as goal

pub returns-clause-held : goal.returns-clause-held
returns-clause-held c x any =
    wanted_by c.args.graph.now.rows.items (at (col c.args.take.now x)) (at (col c.args.st.now x)) any (at (col c.args.ti.now x)) c.args.n _ _ _ _ _ _
    (c.unite.ensures.held x) (c.lose.ensures.held x) (c.unite_top.ensures.held x) (c.behind.ensures.held x) (c.entry-2.ensures.held x) (c.entry.ensures.held x)
