use Rattle.std.proofs.Common.{◌∙◌, List, sym, ap}
use Rattle.mailbox_book.specs.declared.message.Header.{Header}
use Rattle.mailbox_book.specs.Boxes.{Box, counts_of, headers_of}
use Rattle.mailbox_book.specs.Marks.{queue_at}
use Rattle.mailbox_book.proofs.Kept.{headers_are}
use Rattle.mailbox_book.proofs.mailbox.Mailbox.counts.Goals as goal

pub returns : goal.returns
returns c =
    c.count.ensures
    ∙ ap (λ (hs : List Header). counts_of hs) (c.as_slice.ensures.value ∙ sym (headers_are (queue_at c.self.inside.pool.queues) c.self.inside.headers.items) ∙ ap (λ (b : Box). headers_of b.entries) c.self.view_is)
