use Rattle.rank_part.proofs.Images.{stays-local}
use Rattle.rank_part.proofs.laws.local_references_stay_local.Goals as goal

pub returns : goal.returns
returns c = stays-local
