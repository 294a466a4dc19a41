use Rattle.rank_behaviour.proofs.Printing.{prints_run}
use Rattle.rank_behaviour.proofs.laws.interleavings_print_the_run.Goals as goal

pub returns-clause-right : goal.returns-clause-right
returns-clause-right c = λ j s executors picks i. (prints_run j s executors picks i).0

pub returns-clause-lines : goal.returns-clause-lines
returns-clause-lines c = λ j s executors picks i complete. (prints_run j s executors picks i).1 complete
