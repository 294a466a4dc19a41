use Rattle.std.proofs.Common.{sym, ap, subst, arith}
use Rattle.fd_prog.specs.Flow.{Next, Fork, Jump, Around, Back, Nowhere}
use Rattle.interval_graph.specs.Rows.{way_in}
use Rattle.gnt_solver.proofs.Rows.{few, loop_in}
use Rattle.place_check.specs.declared.edges.Edges.{Edges}
use Rattle.place_check.specs.Edges.{AreEdges}
use Rattle.place_check.proofs.Leaving.{are_edges}
use Rattle.place_check.proofs.edges.edges_of.Goals as goal

pub overflow_add-n : goal.overflow_add-n
overflow_add-n c = omega (arith, c.requires.inside, few c.args.graph.now.rows.items c.requires.rows)

pub overflow_add-result : goal.overflow_add-result
overflow_add-result c = omega (arith, c.requires.inside, few c.args.graph.now.rows.items c.requires.rows)

pub overflow_add-result-in-Around : goal.overflow_add-result-in-Around
overflow_add-result-in-Around c = omega (arith, c.requires.inside, few c.args.graph.now.rows.items c.requires.rows)

pub overflow_add-result-in-Around-2 : goal.overflow_add-result-in-Around-2
overflow_add-result-in-Around-2 c =
    let k = loop_in c.args.graph.now.rows.items c.args.n c.in-Around.latch.0 c.requires.rows (sym (ap way_in c.in-Around.ensures)) in
    omega (arith, k.inside, few c.args.graph.now.rows.items c.requires.rows)

pub returns-in-Next : goal.returns-in-Next
returns-in-Next c =
    subst (λ (e : Edges). AreEdges c.args.graph.now.rows.items c.args.n e) (sym c.one.ensures)
    (are_edges c.args.graph.now.rows.items c.args.n Next c.requires.rows (sym (ap way_in c.in-Next.ensures)))

pub returns-in-Fork : goal.returns-in-Fork
returns-in-Fork c = are_edges c.args.graph.now.rows.items c.args.n (Fork c.in-Fork.other.0) c.requires.rows (sym (ap way_in c.in-Fork.ensures))

pub returns-in-Jump : goal.returns-in-Jump
returns-in-Jump c =
    subst (λ (e : Edges). AreEdges c.args.graph.now.rows.items c.args.n e) (sym c.one-in-Jump.ensures)
    (are_edges c.args.graph.now.rows.items c.args.n (Jump c.in-Jump.other.0) c.requires.rows (sym (ap way_in c.in-Jump.ensures)))

pub returns-in-Around : goal.returns-in-Around
returns-in-Around c = are_edges c.args.graph.now.rows.items c.args.n (Around c.in-Around.latch.0) c.requires.rows (sym (ap way_in c.in-Around.ensures))

pub returns-in-Back : goal.returns-in-Back
returns-in-Back c =
    subst (λ (e : Edges). AreEdges c.args.graph.now.rows.items c.args.n e) (sym c.one-in-Back.ensures)
    (are_edges c.args.graph.now.rows.items c.args.n (Back c.in-Back.start.0) c.requires.rows (sym (ap way_in c.in-Back.ensures)))

pub returns-in-Nowhere : goal.returns-in-Nowhere
returns-in-Nowhere c = are_edges c.args.graph.now.rows.items c.args.n Nowhere c.requires.rows (sym (ap way_in c.in-Nowhere.ensures))
