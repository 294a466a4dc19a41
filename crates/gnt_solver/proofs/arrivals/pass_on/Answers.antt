use Rattle.std.proofs.Common.{suc, ◌+◌, ◌==◌, refl, sym, ap, arith}
use Rattle.fd_prog.specs.Flow.{Next, Fork, Jump, Around}
use Rattle.interval_graph.specs.Rows.{way_in}
use Rattle.gnt_solver.proofs.Rows.{next_in, fork_in, fork_next, jump_in, loop_in, few}
use Rattle.gnt_solver.proofs.Comings.{joined, joined_both, led_by}
use Rattle.gnt_solver.proofs.arrivals.pass_on.Goals as goal

pub join-requires-clause-inside : goal.join-requires-clause-inside
join-requires-clause-inside c = let k = next_in c.args.graph.now.rows.items c.args.n c.requires.rows (sym (ap way_in c.in-Next.ensures)) in omega (arith, k, c.requires.nodes)

pub join-requires-in-Fork-clause-inside : goal.join-requires-in-Fork-clause-inside
join-requires-in-Fork-clause-inside c = let k = fork_next c.args.graph.now.rows.items c.args.n c.in-Fork.other.0 c.requires.rows (sym (ap way_in c.in-Fork.ensures)) in omega (arith, k, c.requires.nodes)

pub join-requires-in-Fork-2-clause-inside : goal.join-requires-in-Fork-2-clause-inside
join-requires-in-Fork-2-clause-inside c = let k = fork_in c.args.graph.now.rows.items c.args.n c.in-Fork.other.0 c.requires.rows (sym (ap way_in c.in-Fork.ensures)) in omega (arith, k.1, c.requires.nodes)

pub join-requires-in-Jump-clause-inside : goal.join-requires-in-Jump-clause-inside
join-requires-in-Jump-clause-inside c = let k = jump_in c.args.graph.now.rows.items c.args.n c.in-Jump.other.0 c.requires.rows (sym (ap way_in c.in-Jump.ensures)) in omega (arith, k.1, c.requires.nodes)

pub overflow_add-latch : goal.overflow_add-latch
overflow_add-latch c = let k = loop_in c.args.graph.now.rows.items c.args.n c.in-Around.latch.0 c.requires.rows (sym (ap way_in c.in-Around.ensures)) in omega (arith, k.inside, few c.args.graph.now.rows.items c.requires.rows)

pub join-requires-in-Around-clause-inside : goal.join-requires-in-Around-clause-inside
join-requires-in-Around-clause-inside c = let k = loop_in c.args.graph.now.rows.items c.args.n c.in-Around.latch.0 c.requires.rows (sym (ap way_in c.in-Around.ensures)) in omega (arith, k.inside, c.requires.nodes)

pub returns-in-Next-clause-steps : goal.returns-in-Next-clause-steps
returns-in-Next-clause-steps c =
    let w = sym (ap way_in c.in-Next.ensures) in
    let k = next_in c.args.graph.now.rows.items c.args.n c.requires.rows w in
    led_by c.args.graph.now.rows.items c.args.n Next c.args.goes.now c.args.arrivals.now c.join.new.arrivals w
    (joined c.args.size c.args.arrivals.now c.join.new.arrivals (c.args.n + 1) (suc c.args.n) c.args.goes.now c.requires.are (omega (arith, k, c.requires.nodes)) (omega arith) c.join.ensures.joins)

pub returns-in-Jump-clause-steps : goal.returns-in-Jump-clause-steps
returns-in-Jump-clause-steps c =
    let w = sym (ap way_in c.in-Jump.ensures) in
    let k = jump_in c.args.graph.now.rows.items c.args.n c.in-Jump.other.0 c.requires.rows w in
    led_by c.args.graph.now.rows.items c.args.n (Jump c.in-Jump.other.0) c.args.goes.now c.args.arrivals.now c.join-in-Jump.new.arrivals w
    (joined c.args.size c.args.arrivals.now c.join-in-Jump.new.arrivals c.in-Jump.other.0 c.in-Jump.other.0 c.args.goes.now c.requires.are (omega (arith, k.1, c.requires.nodes)) refl c.join-in-Jump.ensures.joins)

pub returns-in-Around-clause-steps : goal.returns-in-Around-clause-steps
returns-in-Around-clause-steps c =
    let w = sym (ap way_in c.in-Around.ensures) in
    let k = loop_in c.args.graph.now.rows.items c.args.n c.in-Around.latch.0 c.requires.rows w in
    led_by c.args.graph.now.rows.items c.args.n (Around c.in-Around.latch.0) c.args.goes.now c.args.arrivals.now c.join-in-Around.new.arrivals w
    (joined c.args.size c.args.arrivals.now c.join-in-Around.new.arrivals (c.in-Around.latch.0 + 1) (suc c.in-Around.latch.0) c.args.goes.now c.requires.are (omega (arith, k.inside, c.requires.nodes)) (omega arith) c.join-in-Around.ensures.joins)

pub returns-in-Fork-clause-steps : goal.returns-in-Fork-clause-steps
returns-in-Fork-clause-steps c =
    let w = sym (ap way_in c.in-Fork.ensures) in
    let k = fork_in c.args.graph.now.rows.items c.args.n c.in-Fork.other.0 c.requires.rows w in
    let k1 = fork_next c.args.graph.now.rows.items c.args.n c.in-Fork.other.0 c.requires.rows w in
    led_by c.args.graph.now.rows.items c.args.n (Fork c.in-Fork.other.0) c.args.goes.now c.args.arrivals.now c.join-in-Fork-2.new.arrivals w
    (joined_both (λ s. s == suc c.args.n) (λ s. s == c.in-Fork.other.0) c.args.goes.now c.args.arrivals.now c.join-in-Fork.new.arrivals c.join-in-Fork-2.new.arrivals
    (joined c.args.size c.args.arrivals.now c.join-in-Fork.new.arrivals (c.args.n + 1) (suc c.args.n) c.args.goes.now c.requires.are (omega (arith, k1, c.requires.nodes)) (omega arith) c.join-in-Fork.ensures.joins)
    (joined c.args.size c.join-in-Fork.new.arrivals c.join-in-Fork-2.new.arrivals c.in-Fork.other.0 c.in-Fork.other.0 c.args.goes.now c.join-in-Fork.ensures.are (omega (arith, k.1, c.requires.nodes)) refl c.join-in-Fork-2.ensures.joins))
