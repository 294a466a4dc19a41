use Rattle.std.proofs.Common.{◌≡◌, suc, ◌-◌, Bool, ◌||◌, length, ◌∙◌, ap, arith}
use Rattle.gnt_solver.specs.Columns.{held, col}
use Rattle.gnt_solver.proofs.Marks.{long_col}
use Rattle.gnt_solver.proofs.Rows.{st_step}
use Rattle.gnt_solver.proofs.Bodies.{closed_by}
use Rattle.gnt_solver.proofs.wanted.stolen.Goals as goal

pub loop-i-preserved : goal.loop-i-preserved
loop-i-preserved c =
    let i = c.loop-i.invariant in
    let e : length c.loop-i.st ≡ c.args.size.nodes = i.0.long in
    let j : c.loop-i.i ≡ suc (c.loop-i.i - 1) = omega arith in (
      c.put.ensures.table,
      omega (arith, i.1),
      c.unite.ensures.size ∙ c.in_body.ensures.size,
      λ x. let l = long_col c.loop-i.st x in
          st_step c.args.graph.now.rows.items (col c.args.steal.now x) (col c.loop-i.st x) (col c.put.new.table x) (c.loop-i.i - 1) c.loop-i.i (held c.unite.new.s x) (held c.in_body.new.into x) j
          (omega (arith, l, e, i.1)) (c.in_body.ensures.held x) (c.unite.ensures.held x ∙ ap (λ (b : Bool). held c.in_body.new.into x || b) (c.entry.ensures.held x)) (c.put.ensures.column x) (i.3 x),
    )

pub in_body-requires-clause-closed : goal.in_body-requires-clause-closed
in_body-requires-clause-closed c = λ x. closed_by c.args.graph.now.rows.items (col c.args.steal.now x) (col c.loop-i.st x) c.loop-i.i (c.loop-i.i - 1) (omega arith) (c.loop-i.invariant.3 x)
