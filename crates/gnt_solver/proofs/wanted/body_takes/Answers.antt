use Rattle.std.proofs.Common.{◌≡◌, suc, ◌-◌, length, arith}
use Rattle.gnt_solver.specs.Columns.{held, col}
use Rattle.gnt_solver.proofs.Marks.{long_col}
use Rattle.gnt_solver.proofs.Rows.{any_step}
use Rattle.gnt_solver.proofs.Bodies.{closed_by, same_body}
use Rattle.gnt_solver.proofs.wanted.body_takes.Goals as goal

pub loop-i-preserved : goal.loop-i-preserved
loop-i-preserved c =
    let i = c.loop-i.invariant in
    let e : length c.loop-i.any ≡ c.args.size.nodes = i.0.long in
    let j : c.loop-i.i ≡ suc (c.loop-i.i - 1) = omega arith in (
      c.put.ensures.table,
      omega (arith, i.1),
      c.in_body.ensures.size,
      λ x. let l = long_col c.loop-i.any x in
          any_step c.args.graph.now.rows.items (col c.args.take.now x) (col c.loop-i.any x) (col c.put.new.table x) (c.loop-i.i - 1) c.loop-i.i (held c.in_body.new.into x) j
          (omega (arith, l, e, i.1)) (same_body c.args.graph.now.rows.items (col c.args.take.now x) (col c.args.taken.now x) (c.loop-i.i - 1) (held c.in_body.new.into x) c.requires.rows (c.requires.are x) (c.in_body.ensures.held x)) (c.put.ensures.column x) (i.3 x),
    )

pub in_body-requires-clause-closed : goal.in_body-requires-clause-closed
in_body-requires-clause-closed c = λ x. closed_by c.args.graph.now.rows.items (col c.args.take.now x) (col c.args.taken.now x) 0 (c.loop-i.i - 1) (omega arith) (c.requires.are x)
