use Rattle.message_laws.proofs.Kept.{heard_kept}
use Rattle.message_laws.proofs.ranks.told_when_faulted.Goals as goal

pub returns : goal.returns
returns c = heard_kept
