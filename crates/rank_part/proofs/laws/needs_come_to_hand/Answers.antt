use Rattle.rank_part.proofs.Whole.{needed-at_hand}
use Rattle.rank_part.proofs.laws.needs_come_to_hand.Goals as goal

pub returns : goal.returns
returns c = needed-at_hand
