use Rattle.std.proofs.Common.{length, ap, ap₂, sym, ◌∙◌, subst, lit<}
use Rattle.fd_links.specs.Chains.{Chains}
use Rattle.mailbox_book.specs.Pools.{IsPool, queues_of}
use Rattle.mailbox_book.proofs.Pools.{no_queues, new_slots}
use Rattle.mailbox_book.proofs.pool.Pool.new.Goals as goal

pub invariant_of-result : goal.invariant_of-result
invariant_of-result c =
    subst (λ (links : Chains). IsPool links c.new-2.result.items) (sym c.in_ok-links.ensures)
    (rw c.new-2.ensures.items (record { has = new_slots c.args.queues; few = lit< tt }))

pub returns : goal.returns
returns c =
    ap₂ (λ slots (links : Chains). record { queues = queues_of slots links.chains; slots = length slots }) c.new-2.ensures.items c.in_ok-links.ensures
    ∙ ap (λ qs. record { queues = qs; slots = 0 }) (no_queues c.args.queues)
