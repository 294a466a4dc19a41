use Rattle.rank_part.proofs.Wholes.{reached-consistent, whole}
use Rattle.rank_part.proofs.laws.replicated_arrays_are_whole.Goals as goal

pub returns-clause-whole : goal.returns-clause-whole
returns-clause-whole c = whole

pub returns-clause-consistent : goal.returns-clause-consistent
returns-clause-consistent c = reached-consistent
