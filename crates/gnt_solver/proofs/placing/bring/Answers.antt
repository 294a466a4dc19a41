use Rattle.std.proofs.Common.{◌≡◌, ℕ, Bool, not, ◌&&◌, length, ◌∙◌, ap₂, arith}
use Rattle.gnt_solver.specs.Columns.{held, col}
use Rattle.gnt_solver.proofs.Marks.{long_col}
use Rattle.gnt_solver.proofs.Rows.{set_here, set_step}
use Rattle.gnt_solver.proofs.placing.bring.Goals as goal

pub loop-i-preserved : goal.loop-i-preserved
loop-i-preserved c =
    let v = c.loop-i.invariant in
    let i = c.loop-i.i in
    let l1 : length c.loop-i.at_in ≡ c.args.size.nodes = v.table_in.long in
    let l2 : length c.loop-i.at_out ≡ c.args.size.nodes = v.table_out.long in
    let p = λ (x : ℕ). let l = long_col c.loop-i.at_in x in set_here (col c.loop-i.at_in x) (col c.put.new.table x) i (held c.lose.new.s x) (omega (arith, l, l1, c.loop-i-test.true)) (c.put.ensures.column x) in
    let q = λ (x : ℕ). let l = long_col c.loop-i.at_out x in set_here (col c.loop-i.at_out x) (col c.put-in-loop-i.new.table x) i (held c.lose-in-loop-i.new.s x) (omega (arith, l, l2, c.loop-i-test.true)) (c.put-in-loop-i.ensures.column x) in
    record {
      table_in = c.put.ensures.table;
      table_out = c.put-in-loop-i.ensures.table;
      sized = c.lose-in-loop-i.ensures.size ∙ c.some_behind.ensures.size;
      set = λ x. set_step c.args.graph.now.rows.items (col c.args.had.now.gi x) (col c.args.had.now.g x) (col c.args.had.now.go x) (col c.loop-i.at_in x) (col c.loop-i.at_out x) (col c.put.new.table x) (col c.put-in-loop-i.new.table x) i
          (held c.lose.new.s x) (held c.lose-in-loop-i.new.s x) (p x) (q x)
          (c.lose.ensures.held x ∙ ap₂ (λ (a : Bool) (b : Bool). a && not b) (c.fill.ensures.held x ∙ c.entry.ensures.held x) (c.entry-in-loop-i.ensures.held x))
          (c.lose-in-loop-i.ensures.held x ∙ ap₂ (λ (a : Bool) (b : Bool). a && not b) (c.some_behind.ensures.held x) (c.entry-in-loop-i-2.ensures.held x))
          (v.set x);
    }
