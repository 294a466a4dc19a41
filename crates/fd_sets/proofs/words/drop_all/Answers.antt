use Rattle.std.proofs.Common.{arith}
use Rattle.fd_sets.proofs.Bits.{in_and_not}
use Rattle.fd_sets.proofs.words.drop_all.Goals as goal

pub returns-clause-members : goal.returns-clause-members
returns-clause-members c =
    in_and_not c.loop-i.words c.args.words.now c.args.others.now (λ k. (c.type_inv.others k).fits) (c.loop-i.invariant.count, c.requires, λ k l. c.loop-i.invariant.done k (omega arith))
