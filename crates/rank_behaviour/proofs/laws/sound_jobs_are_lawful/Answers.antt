use Rattle.rank_behaviour.proofs.Lawful.{sound, lawful_job}
use Rattle.rank_behaviour.proofs.laws.sound_jobs_are_lawful.Goals as goal

pub returns-clause-trace : goal.returns-clause-trace
returns-clause-trace c = sound

pub returns-clause-behaviour : goal.returns-clause-behaviour
returns-clause-behaviour c = lawful_job
