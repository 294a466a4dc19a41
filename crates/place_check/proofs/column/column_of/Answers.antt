use Rattle.std.proofs.Common.{◌≡◌, ℕ, ◌+◌, ◌-◌, ◌≤◌, length, sym, ◌∙◌, ap, subst, arith, length-set}
use Rattle.std.specs.Prelude.{slice_set}
use Rattle.gnt_solver.specs.Columns.{at, col}
use Rattle.gnt_solver.proofs.Rows.{few}
use Rattle.place_check.specs.declared.marks.Doings.{Doings}
use Rattle.place_check.specs.Columns.{plan_of, doings_of, IsNearest}
use Rattle.place_check.specs.Marks.{doings_at}
use Rattle.place_check.proofs.Taking.{nearest_step, doings_step}
use Rattle.place_check.proofs.column.column_of.Goals as goal

pub count-count-requires : goal.count-count-requires
count-count-requires c = omega (arith, few c.args.graph.now.rows.items c.requires.rows)

pub loop-n-preserved : goal.loop-n-preserved
loop-n-preserved c =
    let rows = c.args.graph.now.rows.items in
    let i : ℕ = c.loop-n.n - 1 in
    let back : c.loop-n.n ≡ i + 1 = omega arith in
    let inside : i ≤ c.loop-n.n = omega arith in
    let plan = plan_of rows c.args.take.now c.args.steal.now c.args.p.now in
    let place : c.from-in-loop-n.result ≡ i = c.from-in-loop-n.ensures in
    let long : length c.loop-n.nodes.items ≡ length rows = c.loop-n.invariant.long in
    let low = c.loop-n.auto.n in
    record {
      long = length-set c.loop-n.nodes.items c.from-in-loop-n.result c.doings-here.result ∙ long;
      near = subst (λ (z : ℕ). IsNearest (length rows) (at (col c.args.take.now c.args.item.0)) i z) (sym c.nearer-nearest.ensures)
          (nearest_step (length rows) (at (col c.args.take.now c.args.item.0)) i c.loop-n.nearest c.doings-here.result.taken (ap (λ (d : Doings). d.taken) c.doings-here.ensures)
          (omega (arith, low, c.count-count.ensures)) (subst (λ (z : ℕ). IsNearest (length rows) (at (col c.args.take.now c.args.item.0)) z c.loop-n.nearest) back c.loop-n.invariant.near));
      told = subst (λ (z : ℕ). (m : ℕ) → i ≤ m → doings_at (slice_set c.loop-n.nodes.items z c.doings-here.result) m ≡ doings_of plan c.args.item.0 m) (sym place)
          (doings_step c.loop-n.nodes.items i c.doings-here.result (doings_of plan c.args.item.0) (omega (arith, long, low, c.count-count.ensures)) c.doings-here.ensures
          (λ m le. c.loop-n.invariant.told m (omega (arith, le))));
    }
