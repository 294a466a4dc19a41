use Rattle.message_laws.proofs.Weights.{waited_waits}
use Rattle.message_laws.proofs.interleavings.waited_ranks_wait.Goals as goal

pub returns : goal.returns
returns c = waited_waits
