use Rattle.std.proofs.Common.{◌≡◌, suc, ◌-◌, length, arith}
use Rattle.gnt_solver.specs.Columns.{held, col, at}
use Rattle.gnt_solver.proofs.Marks.{long_col}
use Rattle.gnt_solver.proofs.Rows.{ti_step}
use Rattle.gnt_solver.proofs.wanted.wanted.Goals as goal

pub loop-i-preserved : goal.loop-i-preserved
loop-i-preserved c =
    let i = c.loop-i.invariant in
    let e : length c.loop-i.ti ≡ c.args.size.nodes = i.0.long in
    let j : c.loop-i.i ≡ suc (c.loop-i.i - 1) = omega arith in (
      c.put.ensures.table,
      omega (arith, i.1),
      c.wanted_at.ensures.size,
      λ x any. let l = long_col c.loop-i.ti x in
          ti_step c.args.graph.now.rows.items (at (col c.args.take.now x)) (at (col c.args.st.now x)) any (col c.loop-i.ti x) (col c.put.new.table x) (c.loop-i.i - 1) c.loop-i.i
          (held c.wanted_at.new.into x) c.requires.rows j
          (omega (arith, l, e, i.1)) (c.wanted_at.ensures.held x any) (c.put.ensures.column x) (i.3 x any),
    )
