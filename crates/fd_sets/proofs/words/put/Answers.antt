use Rattle.fd_sets.proofs.Bits.{in_put}
use Rattle.fd_sets.proofs.words.put.Goals as goal

pub returns-clause-members : goal.returns-clause-members
returns-clause-members c q = in_put c.args.words.now c.args.item c.from-place.result q c.from-place.ensures c.requires
