use Rattle.message_laws.proofs.Bounds.{few_steps}
use Rattle.message_laws.proofs.streams.message_steps_are_few.Goals as goal

pub returns : goal.returns
returns c = few_steps
