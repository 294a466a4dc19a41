use Rattle.rank_behaviour.proofs.Balance.{matched}
use Rattle.rank_behaviour.proofs.Exchanging.{exchanged}
use Rattle.rank_behaviour.proofs.laws.operations_are_balanced.Goals as goal

pub returns-clause-matched : goal.returns-clause-matched
returns-clause-matched c = matched

pub returns-clause-exchanged : goal.returns-clause-exchanged
returns-clause-exchanged c = exchanged
