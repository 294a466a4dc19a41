use Rattle.std.proofs.Common.{sym, ◌∙◌, arith, true≢false}
use Rattle.gnt_solver.specs.Columns.{col}
use Rattle.gnt_solver.proofs.Rows.{few, loop_in}
use Rattle.gnt_solver.proofs.Bodies.{stepped, gather_step}
use Rattle.gnt_solver.proofs.wanted.gathered.Goals as goal

pub overflow_add-m : goal.overflow_add-m
overflow_add-m c =
    let k = loop_in c.args.graph.now.rows.items c.args.l c.args.c c.requires.rows c.requires.leads in
    omega (arith, k.far, k.inside, few c.args.graph.now.rows.items c.requires.rows)

pub level-init : goal.level-init
level-init c =
    let k = loop_in c.args.graph.now.rows.items c.args.l c.args.c c.requires.rows c.requires.leads in
    record {
      low = omega arith;
      ends = omega (arith, k.far);
      one_size = c.clear.ensures.size ∙ c.requires.sized;
      found = λ x. (λ h. absurd (true≢false (sym h ∙ c.clear.ensures.held x)), λ h. absurd (omega (arith, h.1, h.2)));
    }

pub entry-requires-clause-inside : goal.entry-requires-clause-inside
entry-requires-clause-inside c =
    let k = loop_in c.args.graph.now.rows.items c.args.l c.args.c c.requires.rows c.requires.leads in
    omega (arith, k.far, k.inside, c.requires.nodes)

pub entry-requires-in-level-clause-inside : goal.entry-requires-in-level-clause-inside
entry-requires-in-level-clause-inside c =
    let k = loop_in c.args.graph.now.rows.items c.args.l c.args.c c.requires.rows c.requires.leads in
    omega (arith, k.inside, c.level-test.true, c.requires.nodes)

pub behind_body-m-requires-clause-inside : goal.behind_body-m-requires-clause-inside
behind_body-m-requires-clause-inside c =
    let k = loop_in c.args.graph.now.rows.items c.args.l c.args.c c.requires.rows c.requires.leads in
    omega (arith, k.inside, c.level-test.true)

pub level-preserved : goal.level-preserved
level-preserved c =
    let i = c.level.invariant in
    let w = stepped c.args.graph.now.rows.items c.args.l c.args.c c.level.m c.behind_body-m.result c.requires.rows c.requires.leads i.low c.level-test.true c.behind_body-m.ensures in
    record {
      low = omega (arith, i.low, w.up);
      ends = w.ends;
      one_size = c.unite.ensures.size ∙ i.one_size;
      found = λ x. gather_step c.args.graph.now.rows.items (col c.args.table.now x) c.args.l c.args.c c.level.m c.behind_body-m.result _ _ _ w (c.requires.closed x) i.low (c.entry-in-level.ensures.held x) (c.unite.ensures.held x) (i.found x);
    }

pub level-smaller : goal.level-smaller
level-smaller c =
    let i = c.level.invariant in
    let w = stepped c.args.graph.now.rows.items c.args.l c.args.c c.level.m c.behind_body-m.result c.requires.rows c.requires.leads i.low c.level-test.true c.behind_body-m.ensures in
    omega (arith, w.up, c.level-test.true)

pub returns-clause-held : goal.returns-clause-held
returns-clause-held c x =
    let i = c.level.invariant in (
      λ h. let z = (i.found x).0 h in let u = z.2 in (z.0, z.1, omega (arith, u, i.ends), z.3),
      λ h. (i.found x).1 (h.0, h.1, (let u = h.2 in omega (arith, u, c.level-test.false)), h.3),
    )
