use Rattle.rank_part.proofs.Executing.{executes-owner, local-owner, target-owner, widened-owner}
use Rattle.rank_part.proofs.laws.locations_tell_owners.Goals as goal

pub returns-clause-location : goal.returns-clause-location
returns-clause-location c = executes-owner

pub returns-clause-target : goal.returns-clause-target
returns-clause-target c = target-owner

pub returns-clause-local : goal.returns-clause-local
returns-clause-local c = local-owner

pub returns-clause-widened : goal.returns-clause-widened
returns-clause-widened c = widened-owner
