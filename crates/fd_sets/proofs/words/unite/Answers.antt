use Rattle.std.proofs.Common.{arith}
use Rattle.fd_sets.proofs.Bits.{in_or}
use Rattle.fd_sets.proofs.words.unite.Goals as goal

pub returns-clause-members : goal.returns-clause-members
returns-clause-members c =
    in_or c.loop-i.words c.args.words.now c.args.others.now (c.loop-i.invariant.count, c.requires, λ k l. c.loop-i.invariant.done k (omega arith))
