use Rattle.inspector.specs.Readers.{item_in, sight_of, walk_of}
use Rattle.inspector.proofs.Members.{needs_found}
use Rattle.inspector.proofs.inspecting.needs_by.Goals as goal

pub returns : goal.returns
returns g c =
    needs_found (sight_of (g.C.Cells.readings c.args.c.now) c.args.r.now) (item_in c.args.r.now) c.args.r.now.rank.0 c.args.limit (walk_of c.new-found.result) (walk_of c.walk_all.new.found) c.ascending-elements.result
    c.new-found.ensures.left c.new-found.ensures.elements c.in_ok-walk_all.ensures c.ascending-elements.ensures.rises c.ascending-elements.ensures.same
