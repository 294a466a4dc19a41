use Rattle.mailbox_book.proofs.Queues.{headers_calls, headers_post, headers_take}
use Rattle.mailbox_book.proofs.laws.headers_are_kept.Goals as goal

pub returns-clause-post : goal.returns-clause-post
returns-clause-post c = headers_post

pub returns-clause-take : goal.returns-clause-take
returns-clause-take c = headers_take

pub returns-clause-calls : goal.returns-clause-calls
returns-clause-calls c = headers_calls
