use Rattle.std.proofs.Common.{◌≡◌, ℕ, Bool, not, ◌&&◌, ◌||◌, length, ◌∙◌, ap, arith}
use Rattle.interval_graph.specs.Rows.{leads_at}
use Rattle.gnt_solver.specs.Columns.{held, col, at}
use Rattle.gnt_solver.proofs.Marks.{long_col}
use Rattle.gnt_solver.proofs.Rows.{set_here}
use Rattle.gnt_solver.proofs.Comings.{come_step}
use Rattle.gnt_solver.proofs.Forward.{passed_step}
use Rattle.gnt_solver.proofs.passes.pass.Goals as goal

pub loop-i-preserved : goal.loop-i-preserved
loop-i-preserved c =
    let v = c.loop-i.invariant in
    let rows = c.args.graph.now.rows.items in
    let i = c.loop-i.i in
    let l1 : length c.loop-i.gi ≡ c.args.size.nodes = v.table_gi.long in
    let l2 : length c.loop-i.g ≡ c.args.size.nodes = v.table_g.long in
    let l3 : length c.loop-i.go ≡ c.args.size.nodes = v.table_go.long in
    let p = λ (x : ℕ). let l = long_col c.loop-i.gi x in set_here (col c.loop-i.gi x) (col c.put.new.table x) i (held c.entered.new.into x) (omega (arith, l, l1, c.loop-i-test.true)) (c.put.ensures.column x) in
    let q = λ (x : ℕ). let l = long_col c.loop-i.g x in set_here (col c.loop-i.g x) (col c.put-in-loop-i.new.table x) i (held c.unite.new.s x) (omega (arith, l, l2, c.loop-i-test.true)) (c.put-in-loop-i.ensures.column x) in
    let r = λ (x : ℕ). let l = long_col c.loop-i.go x in set_here (col c.loop-i.go x) (col c.put-in-loop-i-2.new.table x) i (held c.lose.new.s x) (omega (arith, l, l3, c.loop-i-test.true)) (c.put-in-loop-i-2.ensures.column x) in
    record {
      table_gi = c.put.ensures.table;
      table_g = c.put-in-loop-i.ensures.table;
      table_go = c.put-in-loop-i-2.ensures.table;
      are = c.pass_on.ensures.are;
      sized = c.lose.ensures.size ∙ (c.unite.ensures.size ∙ c.entered.ensures.size);
      come = λ x. come_step (leads_at rows) (at (col c.loop-i.go x)) (at (col c.put-in-loop-i-2.new.table x)) c.loop-i.arrivals.seen.items (col c.loop-i.arrivals.some x) (col c.loop-i.arrivals.every x)
          c.pass_on.new.arrivals.seen.items (col c.pass_on.new.arrivals.some x) (col c.pass_on.new.arrivals.every x) i (held c.lose.new.s x) (v.come x) (r x).here (r x).before (c.pass_on.ensures.steps x);
      passed = λ x. passed_step rows (col c.args.st.now x) (col c.args.ti.now x) (col c.args.brought.now x) (col c.loop-i.gi x) (col c.loop-i.g x) (col c.loop-i.go x)
          (col c.put.new.table x) (col c.put-in-loop-i.new.table x) (col c.put-in-loop-i-2.new.table x) i (held c.entered.new.into x) (held c.unite.new.s x) (held c.lose.new.s x) c.requires.rows
          (p x) (q x) (r x) (c.entered.ensures.held x)
          (c.unite.ensures.held x ∙ ap (λ (b : Bool). held c.entered.new.into x || b) (c.entry.ensures.held x))
          (c.lose.ensures.held x ∙ ap (λ (b : Bool). held c.unite.new.s x && not b) (c.entry-in-loop-i.ensures.held x))
          (v.passed x);
    }
