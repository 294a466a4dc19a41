use Rattle.gnt_solver.specs.Columns.{held}
use Rattle.executor_gen.proofs.Members.{begin_marked, more_marked, end_marked}
use Rattle.executor_gen.proofs.tables.members.Goals as goal

pub loop-item-init : goal.loop-item-init
loop-item-init c = begin_marked (held c.args.set.now) c.args.items c.new-found.result.items c.new-found.ensures.items

pub loop-item-preserved : goal.loop-item-preserved
loop-item-preserved c =
    more_marked (held c.args.set.now) c.args.items c.loop-item.from c.in-Some.item c.loop-item.found.items c.push.new.self.items c.in-Some.ensures.some c.loop-item.invariant c.in_ok-push.ensures.items

pub returns : goal.returns
returns c = end_marked (held c.args.set.now) c.args.items c.loop-item.from c.loop-item.found.items c.in_default.ensures.none c.loop-item.invariant
