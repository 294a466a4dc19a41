use Rattle.mailbox_book.proofs.Queues.{all_calls, gone_stays}
use Rattle.mailbox_book.proofs.laws.taken_at_most_once.Goals as goal

pub returns-clause-messages : goal.returns-clause-messages
returns-clause-messages c = all_calls

pub returns-clause-stays : goal.returns-clause-stays
returns-clause-stays c = gone_stays
