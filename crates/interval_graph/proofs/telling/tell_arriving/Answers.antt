use Rattle.std.proofs.Common.{◌≡◌, ℕ, ◌<◌, List, ◌++◌, length, IfSome, sym, ap, subst, ◌∙◌, arith}
use Rattle.std.specs.Option.{option_to_list}
use Rattle.interval_graph.specs.Rows.{way_in}
use Rattle.interval_graph.specs.Edges.{Edge, leaving, arriving, arriving_below}
use Rattle.interval_graph.proofs.Inside.{few}
use Rattle.interval_graph.proofs.EachTold.{latch_inside, edges_inside, one_more_arriving}
use Rattle.interval_graph.proofs.telling.tell_arriving.Goals as goal

pub overflow_cast-count : goal.overflow_cast-count
overflow_cast-count c = omega (arith, c.len-count.ensures, c.args.rows.now.ok.0, few c.args.rows.now.items c.requires)

pub edges_from-first-requires-clause-here : goal.edges_from-first-requires-clause-here
edges_from-first-requires-clause-here c = omega (arith, c.loop-n-test.true, c.len-count.ensures, c.args.rows.now.ok.0, few c.args.rows.now.items c.requires)

pub edges_from-first-requires-clause-there : goal.edges_from-first-requires-clause-there
edges_from-first-requires-clause-there c = latch_inside c.args.rows.now.items c.loop-n.n (way_in c.way_at.result) c.requires (sym (ap way_in c.way_at.ensures))

pub with_arriving-requires : goal.with_arriving-requires
with_arriving-requires c =
    let rows = c.args.rows.now.items in
    let n = c.loop-n.n in
    let a = c.edges_from-first.result.0 in
    let inside : n < length rows = omega (arith, c.loop-n-test.true, c.len-count.ensures, c.args.rows.now.ok.0) in
    let all = c.edges_from-first.ensures ∙ ap (λ w. leaving (way_in w) n) c.way_at.ensures in
    subst (λ (k : ℕ). IfSome a (λ (e : Edge). e.0.0 < k)) (sym c.loop-n.invariant.nodes) (edges_inside rows n a c.edges_from-first.result.1 c.requires inside all).0

pub with_arriving-requires-in-loop-n : goal.with_arriving-requires-in-loop-n
with_arriving-requires-in-loop-n c =
    let rows = c.args.rows.now.items in
    let n = c.loop-n.n in
    let b = c.edges_from-first.result.1 in
    let inside : n < length rows = omega (arith, c.loop-n-test.true, c.len-count.ensures, c.args.rows.now.ok.0) in
    let all = c.edges_from-first.ensures ∙ ap (λ w. leaving (way_in w) n) c.way_at.ensures in
    subst (λ (k : ℕ). IfSome b (λ (e : Edge). e.0.0 < k)) (sym (c.in_ok-one.ensures.nodes ∙ c.loop-n.invariant.nodes)) (edges_inside rows n c.edges_from-first.result.0 b c.requires inside all).1

pub loop-n-preserved : goal.loop-n-preserved
loop-n-preserved c =
    let n = c.loop-n.n in
    let b = c.edges_from-first.result.1 in
    record {
      nodes = c.in_ok-chains-2.ensures.nodes ∙ (c.in_ok-one.ensures.nodes ∙ c.loop-n.invariant.nodes);
      told = λ m. one_more_arriving c.args.rows.now.items n m _ _ (option_to_list c.edges_from-first.result.0) (option_to_list b) (c.loop-n.invariant.told m)
          (c.in_ok-chains-2.ensures.told m ∙ ap (λ (es : List Edge). es ++ arriving n m (option_to_list b)) (c.in_ok-one.ensures.told m))
          (c.edges_from-first.ensures ∙ ap (λ w. leaving (way_in w) n) c.way_at.ensures);
    }

pub returns-clause-told : goal.returns-clause-told
returns-clause-told c m =
    let end : c.loop-n.n ≡ length c.args.rows.now.items = omega (arith, c.loop-n-test.false, c.loop-n.auto.n-end, c.len-count.ensures, c.args.rows.now.ok.0) in
    c.loop-n.invariant.told m ∙ ap (arriving_below c.args.rows.now.items m) end
