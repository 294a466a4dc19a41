use Rattle.message_laws.proofs.Kept.{stop_kept}
use Rattle.message_laws.proofs.ranks.stop_stays_right.Goals as goal

pub returns : goal.returns
returns c = stop_kept
