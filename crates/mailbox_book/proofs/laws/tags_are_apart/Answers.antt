use Rattle.mailbox_book.proofs.Kept.{tag_again}
use Rattle.mailbox_book.proofs.Queues.{apart_post, apart_take}
use Rattle.mailbox_book.proofs.laws.tags_are_apart.Goals as goal

pub returns-clause-post : goal.returns-clause-post
returns-clause-post c = apart_post

pub returns-clause-take : goal.returns-clause-take
returns-clause-take c = apart_take

pub returns-clause-number : goal.returns-clause-number
returns-clause-number c = tag_again
