use Rattle.inspector.proofs.SameMembers.{members_pushed}
use Rattle.inspector.proofs.found.Found.add.Goals as goal

pub returns-clause-elements : goal.returns-clause-elements
returns-clause-elements c = members_pushed c.args.self.now.elements.items c.make_room.new.self.elements.items c.push.new.self.items c.args.element c.make_room.ensures.elements c.in_ok-push.ensures.items
