use Rattle.std.proofs.Common.{◌==◌, if◌then◌else◌, List, [], ◌++◌, sym, ap, ◌∙◌, arith}
use Rattle.std.specs.Option.{option_to_list}
use Rattle.interval_graph.specs.Rows.{way_in}
use Rattle.interval_graph.specs.Edges.{Edge, leaving}
use Rattle.interval_graph.proofs.Inside.{few}
use Rattle.interval_graph.proofs.EachTold.{latch_inside, one_more_leaving}
use Rattle.interval_graph.proofs.telling.tell_leaving.Goals as goal

pub overflow_cast-count : goal.overflow_cast-count
overflow_cast-count c = omega (arith, c.len-count.ensures, c.args.rows.now.ok.0, few c.args.rows.now.items c.requires)

pub edges_from-first-requires-clause-here : goal.edges_from-first-requires-clause-here
edges_from-first-requires-clause-here c = omega (arith, c.loop-n-test.true, c.len-count.ensures, c.args.rows.now.ok.0, few c.args.rows.now.items c.requires)

pub edges_from-first-requires-clause-there : goal.edges_from-first-requires-clause-there
edges_from-first-requires-clause-there c = latch_inside c.args.rows.now.items c.loop-n.n (way_in c.way_at.result) c.requires (sym (ap way_in c.way_at.ensures))

pub loop-n-preserved : goal.loop-n-preserved
loop-n-preserved c =
    let n = c.loop-n.n in
    let b = c.edges_from-first.result.1 in
    record {
      nodes = c.in_ok-chains-2.ensures.nodes ∙ (c.in_ok-one.ensures.nodes ∙ c.loop-n.invariant.nodes);
      told = λ m. one_more_leaving c.args.rows.now.items n m _ _ (option_to_list c.edges_from-first.result.0) (option_to_list b) (c.loop-n.invariant.told m)
          (c.in_ok-chains-2.ensures.told m ∙ ap (λ (es : List Edge). es ++ (if n == m then option_to_list b else [])) (c.in_ok-one.ensures.told m))
          (c.edges_from-first.ensures ∙ ap (λ w. leaving (way_in w) n) c.way_at.ensures);
    }
