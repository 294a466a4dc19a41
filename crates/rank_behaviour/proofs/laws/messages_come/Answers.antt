use Rattle.message_laws.proofs.Matched.{law}
use Rattle.message_laws.proofs.Taken.{all_taken}
use Rattle.rank_behaviour.specs.Jobs.{exchange_of, trace_of}
use Rattle.rank_behaviour.proofs.Balance.{matched}
use Rattle.rank_behaviour.proofs.Exchanging.{exchanged}
use Rattle.rank_behaviour.proofs.laws.messages_come.Goals as goal

pub returns-clause-sent : goal.returns-clause-sent
returns-clause-sent c = λ j s. law (trace_of j) (exchange_of j) (exchanged j) (matched j s)

pub returns-clause-all_taken : goal.returns-clause-all_taken
returns-clause-all_taken c = λ j s. all_taken (trace_of j) (exchange_of j) (exchanged j) (matched j s)
