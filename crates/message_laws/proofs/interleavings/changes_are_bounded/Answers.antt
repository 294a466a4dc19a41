use Rattle.message_laws.proofs.Whole.{few_changes}
use Rattle.message_laws.proofs.interleavings.changes_are_bounded.Goals as goal

pub returns : goal.returns
returns c = few_changes
