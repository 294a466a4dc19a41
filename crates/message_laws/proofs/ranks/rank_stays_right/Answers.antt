use Rattle.message_laws.proofs.Kept.{rank_kept}
use Rattle.message_laws.proofs.ranks.rank_stays_right.Goals as goal

pub returns : goal.returns
returns c = rank_kept
