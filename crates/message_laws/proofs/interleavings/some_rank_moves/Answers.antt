use Rattle.message_laws.proofs.Whole.{goes_on}
use Rattle.message_laws.proofs.interleavings.some_rank_moves.Goals as goal

pub returns : goal.returns
returns c = goes_on
