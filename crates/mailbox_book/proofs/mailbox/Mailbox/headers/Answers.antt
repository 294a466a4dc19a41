use Rattle.std.proofs.Common.{◌∙◌, sym, ap}
use Rattle.mailbox_book.specs.Boxes.{Box, headers_of}
use Rattle.mailbox_book.specs.Marks.{queue_at}
use Rattle.mailbox_book.proofs.Kept.{headers_are}
use Rattle.mailbox_book.proofs.mailbox.Mailbox.headers.Goals as goal

pub returns : goal.returns
returns c = c.as_slice.ensures.value ∙ sym (headers_are (queue_at c.self.inside.pool.queues) c.self.inside.headers.items) ∙ ap (λ (b : Box). headers_of b.entries) c.self.view_is
