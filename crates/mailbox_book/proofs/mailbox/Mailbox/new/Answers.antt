use Rattle.std.proofs.Common.{subst, sym}
use Rattle.mailbox_book.specs.Marks.{IsKept}
use Rattle.mailbox_book.specs.Pools.{Queues}
use Rattle.mailbox_book.proofs.Kept.{nothing_kept}
use Rattle.mailbox_book.proofs.mailbox.Mailbox.new.Goals as goal

pub invariant_of-result : goal.invariant_of-result
invariant_of-result c =
    subst (λ (q : Queues). IsKept q.queues c.new-2.result.items) (sym c.in_ok-pool.ensures)
    (rw c.new-2.ensures.items nothing_kept)
