use Rattle.std.proofs.Common.{Bool, ◌&&◌, ◌∙◌, ap, ap₂}
use Rattle.std.specs.Prelude.{nat_le}
use Rattle.fd_prog.specs.Flow.{is_around, latch_in}
use Rattle.interval_graph.specs.declared.node.Way.{Way}
use Rattle.interval_graph.specs.Rows.{way_in}
use Rattle.gnt_solver.specs.Columns.{at, col}
use Rattle.place_check.proofs.Taking.{near_takes, same_doings}
use Rattle.place_check.proofs.column.doings.Goals as goal

pub returns : goal.returns
returns c =
    same_doings c.has.ensures c.has-2.ensures c.has-3.ensures
    (c.hoisted.ensures
    ∙ (ap (λ (w : Way). c.has-4.result && (is_around (way_in w) && nat_le c.args.nearest (latch_in (way_in w)))) c.way.ensures
    ∙ ap₂ (λ (a : Bool) (b : Bool). a && b) c.has-4.ensures
    (near_takes c.args.graph.now.rows.items (λ n x. at (col c.args.take.now x) n) c.args.item.0 c.args.n c.args.nearest c.requires.rows c.requires.near)))
    c.has-5.ensures c.has-6.ensures c.has-7.ensures
