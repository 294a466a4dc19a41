use Rattle.std.proofs.Common.{◌∙◌}
use Rattle.inspector.specs.Readers.{item_in, sight_of, walk_of}
use Rattle.inspector.proofs.Visits.{visits_element, visits_nothing}
use Rattle.inspector.proofs.walk.visit.Goals as goal

pub returns-in-None : goal.returns-in-None
returns-in-None g c =
    visits_nothing (sight_of (g.C.Cells.readings c.args.c.now) c.args.r.now) (item_in c.args.r.now) c.args.r.now.rank.0 c.args.vs.now (walk_of c.args.found.now) (walk_of c.count.new.self)
    c.requires.left c.count.ensures.left c.count.ensures.elements c.in-None.ensures

pub returns-in_ok-add-in-Some : goal.returns-in_ok-add-in-Some
returns-in_ok-add-in-Some g c =
    visits_element (sight_of (g.C.Cells.readings c.args.c.now) c.args.r.now) (item_in c.args.r.now) c.args.r.now.rank.0 c.args.vs.now c.in-Some.element (walk_of c.args.found.now) (walk_of c.add.new.self) c.count.new.self.elements.items
    c.requires.left (c.add.ensures.left ∙ c.count.ensures.left) c.count.ensures.elements c.in_ok-add-in-Some.ensures.elements c.in-Some.ensures
