use Rattle.std.proofs.Common.{◌≡◌, length, ◌∙◌, arith}
use Rattle.gnt_solver.specs.Columns.{held, col, at}
use Rattle.gnt_solver.proofs.Marks.{long_col}
use Rattle.gnt_solver.proofs.Rows.{t_step}
use Rattle.gnt_solver.proofs.Wanting.{needed_by}
use Rattle.gnt_solver.proofs.wanted.needs.Goals as goal

pub loop-i-preserved : goal.loop-i-preserved
loop-i-preserved c =
    let i = c.loop-i.invariant in
    let e : length c.loop-i.t ≡ c.args.size.nodes = i.0.long in (
      c.put.ensures.table,
      c.unite.ensures.size ∙ c.inner.ensures.size,
      λ x. let l = long_col c.loop-i.t x in
          t_step c.args.graph.now.rows.items (at (col c.args.take.now x)) (at (col c.args.st.now x)) (at (col c.args.any.now x)) (at (col c.args.ti.now x)) (col c.loop-i.t x) (col c.put.new.table x) c.loop-i.i
          (held c.unite.new.s x) (omega (arith, l, e))
          (needed_by _ _ _ _ _ (c.unite.ensures.held x) (c.inner.ensures.held x) (c.entry.ensures.held x)) (c.put.ensures.column x) (i.2 x),
    )
