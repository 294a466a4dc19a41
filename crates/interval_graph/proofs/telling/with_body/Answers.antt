use Rattle.std.proofs.Common.{refl, ap, ◌∙◌, arith}
use Rattle.interval_graph.specs.declared.chains.Told.{Told}
use Rattle.interval_graph.specs.declared.node.EdgeKind.{EdgeKind}
use Rattle.interval_graph.specs.Edges.{edge}
use Rattle.interval_graph.specs.Chained.{Edges, told_by}
use Rattle.interval_graph.proofs.Inside.{few, loop_in}
use Rattle.interval_graph.proofs.Levels.{begin_told, walked, walk_told, end_told}
use Rattle.interval_graph.proofs.telling.with_body.Goals as goal

pub overflow_add-m : goal.overflow_add-m
overflow_add-m c =
    let k = loop_in c.args.rows.now.items c.args.start c.args.latch c.requires.rows c.requires.leads in
    omega (arith, k.far, k.inside, few c.args.rows.now.items c.requires.rows)

pub level-init : goal.level-init
level-init c =
    let k = loop_in c.args.rows.now.items c.args.start c.args.latch c.requires.rows c.requires.leads in
    record {
      low = omega arith;
      ends = omega (arith, k.far);
      nodes = refl;
      level = λ j x y z. absurd (omega (arith, x, y));
      told = λ m. begin_told c.args.rows.now.items c.args.start m (told_by m c.args.chains.told);
    }

pub with-requires : goal.with-requires
with-requires c =
    let k = loop_in c.args.rows.now.items c.args.start c.args.latch c.requires.rows c.requires.leads in
    omega (arith, k.far, k.inside, c.requires.nodes, c.level.invariant.nodes)

pub kind_inside-requires : goal.kind_inside-requires
kind_inside-requires c =
    let k = loop_in c.args.rows.now.items c.args.start c.args.latch c.requires.rows c.requires.leads in
    omega (arith, k.far, k.inside, few c.args.rows.now.items c.requires.rows)

pub behind-m-requires-clause-inside : goal.behind-m-requires-clause-inside
behind-m-requires-clause-inside c =
    let k = loop_in c.args.rows.now.items c.args.start c.args.latch c.requires.rows c.requires.leads in
    omega (arith, k.inside, c.level-test.true)

pub level-preserved : goal.level-preserved
level-preserved c =
    let rows = c.args.rows.now.items in
    let start = c.args.start in
    let m = c.level.m in
    let r = c.behind-m.result in
    let i = c.level.invariant in
    let t : Told = record { by = start; node = record { 0 = m }; kind = c.kind_inside.result } in
    let w = walked rows start c.args.latch m r c.requires.rows c.requires.leads i.low c.level-test.true i.level c.behind-m.ensures in
    let one = c.in_ok-all.ensures in
    record {
      low = omega (arith, i.low, w.up);
      ends = w.ends;
      nodes = ap (λ (e : Edges). e.nodes) one ∙ i.nodes;
      level = w.level;
      told = λ k. walk_told rows start c.args.latch m r k t (told_by k c.args.chains.told) c.level.all.told c.in_ok-all.all.told w refl (ap (λ (kind : EdgeKind). edge m kind) c.kind_inside.ensures) (i.told k) (ap (λ (e : Edges). e.told) one);
    }

pub level-smaller : goal.level-smaller
level-smaller c =
    let i = c.level.invariant in
    let w = walked c.args.rows.now.items c.args.start c.args.latch c.level.m c.behind-m.result c.requires.rows c.requires.leads i.low c.level-test.true i.level c.behind-m.ensures in
    omega (arith, w.up, c.level-test.true)

pub returns-clause-told : goal.returns-clause-told
returns-clause-told c k =
    let i = c.level.invariant in
    let l = loop_in c.args.rows.now.items c.args.start c.args.latch c.requires.rows c.requires.leads in
    end_told c.args.rows.now.items c.args.start c.args.latch c.level.m k _ (told_by k c.args.chains.told) c.requires.leads c.level-test.false (omega (arith, i.ends, l.inside)) (i.told k)
