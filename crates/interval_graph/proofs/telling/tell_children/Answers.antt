use Rattle.std.proofs.Common.{◌∙◌, arith}
use Rattle.interval_graph.proofs.Inside.{few}
use Rattle.interval_graph.proofs.Levels.{one_more_told}
use Rattle.interval_graph.proofs.telling.tell_children.Goals as goal

pub overflow_cast-count : goal.overflow_cast-count
overflow_cast-count c = omega (arith, c.len-count.ensures, c.args.rows.now.ok.0, few c.args.rows.now.items c.requires)

pub loop-n-preserved : goal.loop-n-preserved
loop-n-preserved c = record {
  nodes = c.in_ok-chains-2.ensures.nodes ∙ c.loop-n.invariant.nodes;
  told = λ m. one_more_told c.args.rows.now.items c.loop-n.n m _ _ (c.loop-n.invariant.told m) (c.in_ok-chains-2.ensures.told m);
}
