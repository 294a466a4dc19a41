use Rattle.owner_part.proofs.RankBits.{shifted_one}
use Rattle.owner_part.proofs.ranks.only.Goals as goal

pub returns : goal.returns
returns c = λ other. shifted_one c.args.rank other c.requires
