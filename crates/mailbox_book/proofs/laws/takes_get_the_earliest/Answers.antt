use Rattle.mailbox_book.proofs.Queues.{earliest, none_waits}
use Rattle.mailbox_book.proofs.laws.takes_get_the_earliest.Goals as goal

pub returns-clause-some : goal.returns-clause-some
returns-clause-some c = earliest

pub returns-clause-none : goal.returns-clause-none
returns-clause-none c = none_waits
