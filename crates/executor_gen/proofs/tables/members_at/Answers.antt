use Rattle.executor_gen.proofs.Members.{marked_at}
use Rattle.executor_gen.proofs.tables.members_at.Goals as goal

pub returns : goal.returns
returns c = marked_at c.args.table.now c.args.n.0 c.args.items c.set-own.result.now c.in_ok-found.found.items c.requires.node c.set-own.ensures c.in_ok-found.ensures
