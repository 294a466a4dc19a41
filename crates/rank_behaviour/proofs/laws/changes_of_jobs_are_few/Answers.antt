use Rattle.rank_behaviour.proofs.Few.{changes_few}
use Rattle.rank_behaviour.proofs.laws.changes_of_jobs_are_few.Goals as goal

pub returns : goal.returns
returns c = changes_few
