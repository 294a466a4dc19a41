use Rattle.std.proofs.Common.{arith}
use Rattle.gnt_solver.proofs.Rows.{few}
use Rattle.place_check.proofs.Unlike.{held_alike}
use Rattle.place_check.proofs.differing.differing_items.Goals as goal

pub count-count-requires : goal.count-count-requires
count-count-requires c = omega (arith, few c.args.graph.now.rows.items c.requires.rows)

pub returns : goal.returns
returns c x low high out condition =
    let e = c.add_differing-5.ensures.others x out in
    let d = c.add_differing-4.ensures.others x e.0 in
    let r = c.add_differing-3.ensures.others x d.0 in
    let b = c.add_differing-2.ensures.others x r.0 in
    let a = c.add_differing.ensures.others x b.0 in
    held_alike c.args.graph.now.rows.items c.args.take.now c.args.steal.now c.in_ok-solved.solved c.args.p.now x condition c.requires.rows low high c.in_ok-solved.ensures.good
    (record { send_in = a.1; send_out = b.1; recv_in = r.1; recv_out = d.1; hoists = e.1 })
