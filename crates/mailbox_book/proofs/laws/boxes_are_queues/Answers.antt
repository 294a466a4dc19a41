use Rattle.mailbox_book.proofs.Queues.{front_is, queue_post, queue_take}
use Rattle.mailbox_book.proofs.laws.boxes_are_queues.Goals as goal

pub returns-clause-post : goal.returns-clause-post
returns-clause-post c = queue_post

pub returns-clause-take : goal.returns-clause-take
returns-clause-take c = queue_take

pub returns-clause-front : goal.returns-clause-front
returns-clause-front c = front_is
