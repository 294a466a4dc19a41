use Rattle.message_laws.proofs.Weights.{can_weight}
use Rattle.message_laws.proofs.interleavings.steps_raise_weight.Goals as goal

pub returns : goal.returns
returns c = can_weight
