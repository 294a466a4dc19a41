use Rattle.std.proofs.Common.{◌<◌, ℤ, List, length, OnOk, subst, arith}
use Rattle.fd_prog.specs.Items.{linear_loop_of}
use Rattle.std.proofs.lemmas.List.{length-map}
use Rattle.inspector.specs.Readers.{item_in, sight_of, walk_of}
use Rattle.inspector.specs.Walks.{Visits}
use Rattle.inspector.proofs.Visits.{all_are}
use Rattle.inspector.proofs.inspecting.walk_all.Goals as goal

pub returns : goal.returns
returns g c =
    let r = g.C.Cells.readings c.args.c.now in
    let x = item_in c.args.r.now in
    let some : 0 < length x.loops = omega (arith, c.len.ensures, c.if-len-eq0.false, length-map c.args.r.now.item.now.loops linear_loop_of) in
    subst (λ (its : List (List ℤ)). OnOk c.walk.result (Visits (sight_of r c.args.r.now) x c.args.r.now.rank.0 its (walk_of c.args.found.now) (walk_of c.walk.new.found)))
    (all_are r x.loops c.new-vs.result.items c.new-vs.ensures.items some) c.walk.ensures.visits
