use Rattle.owner_part.proofs.RankBits.{shifted_ones}
use Rattle.owner_part.proofs.ranks.ranks_below.Goals as goal

pub returns : goal.returns
returns c = λ rank. shifted_ones c.args.ranks rank c.requires
