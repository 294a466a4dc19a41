use Rattle.message_laws.proofs.Kept.{facts_kept}
use Rattle.message_laws.proofs.interleavings.steps_keep_facts.Goals as goal

pub returns : goal.returns
returns c = facts_kept
