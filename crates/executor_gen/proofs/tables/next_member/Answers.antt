use Rattle.executor_gen.proofs.Members.{next_is, none_are}
use Rattle.executor_gen.proofs.tables.next_member.Goals as goal

pub returns-in_err-next-clause-none : goal.returns-in_err-next-clause-none
returns-in_err-next-clause-none c = rw c.from_residual.ensures (λ k up low. c.in_err-next.ensures.none k up)

pub returns-then-items-number-clause-none : goal.returns-then-items-number-clause-none
returns-then-items-number-clause-none c = none_are c.args.set.now c.args.from c.args.items c.in_ok-next.next.0 c.in_ok-next.ensures.some c.if-items-number.true

pub returns-clause-some : goal.returns-clause-some
returns-clause-some c = next_is c.args.set.now c.args.from c.args.items c.in_ok-next.next.0 c.in_ok-next.ensures.some c.if-items-number.false
