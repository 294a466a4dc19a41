use Rattle.message_laws.proofs.Bounds.{weight_bound}
use Rattle.message_laws.proofs.traces.weight_is_bounded.Goals as goal

pub returns : goal.returns
returns c = weight_bound
