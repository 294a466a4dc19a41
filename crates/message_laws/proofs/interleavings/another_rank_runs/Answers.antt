use Rattle.message_laws.proofs.Whole.{another_runs}
use Rattle.message_laws.proofs.interleavings.another_rank_runs.Goals as goal

pub returns : goal.returns
returns c = another_runs
