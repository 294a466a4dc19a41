use Rattle.std.proofs.Common.{◌≡◌, length, arith}
use Rattle.gnt_solver.specs.Columns.{held, col, at}
use Rattle.gnt_solver.specs.Passes.{hoist_of}
use Rattle.gnt_solver.proofs.Marks.{long_col}
use Rattle.gnt_solver.proofs.Rows.{h_step}
use Rattle.gnt_solver.proofs.placing.hoists.Goals as goal

pub loop-i-preserved : goal.loop-i-preserved
loop-i-preserved c =
    let v = c.loop-i.invariant in
    let l1 : length c.loop-i.all ≡ c.args.size.nodes = v.0.long in (
      c.put.ensures.table,
      c.hoisted_at.ensures.size,
      λ x. let l = long_col c.loop-i.all x in h_step (hoist_of c.args.graph.now.rows.items (at (col c.args.take.now x)) (at (col c.args.st.now x)) (at (col c.args.ti.now x))) (col c.loop-i.all x) (col c.put.new.table x) c.loop-i.i
          (held c.hoisted_at.new.into x) (omega (arith, l, l1, c.loop-i-test.true)) (c.hoisted_at.ensures.held x) (c.put.ensures.column x) (v.2 x),
    )
