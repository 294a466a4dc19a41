use Rattle.std.proofs.Common.{◌≡◌, ◌∙◌, sym, ap, subst}
use Rattle.std.specs.Prelude.{option_map}
use Rattle.mailbox_book.specs.Boxes.{Box, first_of, message, without_first}
use Rattle.mailbox_book.specs.Marks.{IsKept, entries_of, queue_at}
use Rattle.mailbox_book.specs.Pools.{Queues}
use Rattle.mailbox_book.proofs.Kept.{kept_taken, taken_entries}
use Rattle.mailbox_book.proofs.mailbox.Mailbox.take.Goals.{in-None, in-Some}
use Rattle.mailbox_book.proofs.mailbox.Mailbox.take.Goals as goal

pub invariant_of-self : goal.invariant_of-self
invariant_of-self c =
    subst (λ (q : Queues). IsKept q.queues c.self.inside.headers.items) (sym c.take.ensures.rest)
    (kept_taken c.self.inside.pool.queues c.self.inside.headers.items c.number_of.result c.number_of.ensures.below c.self.invariant)

pub returns-clause-message : goal.returns-clause-message
returns-clause-message c =
    let taken = taken_entries c.self.inside.pool.queues c.self.inside.headers.items c.number_of.result c.number_of.ensures.below c.self.invariant in
    let is : c.match-take.result ≡ option_map (message c.args.tag) c.take.result = elim c.match-take.branch [
      | in-None w ↦ w.result-is ∙ ap (option_map (message c.args.tag)) (sym w.in-None.is)
      | in-Some w ↦ w.result-is ∙ ap (option_map (message c.args.tag)) (sym w.in-Some.is)
    ] in
    is
    ∙ ap (option_map (message c.args.tag))
    (c.take.ensures.first ∙ sym taken.first ∙ ap (λ (b : Box). first_of c.number_of.result b.entries) c.self.view_is ∙ ap (λ n. first_of n c.args.self.now.entries) c.number_of.ensures.number)

pub returns-clause-rest : goal.returns-clause-rest
returns-clause-rest c =
    let taken = taken_entries c.self.inside.pool.queues c.self.inside.headers.items c.number_of.result c.number_of.ensures.below c.self.invariant in
    ap (λ (q : Queues). record { entries = entries_of (queue_at q.queues) c.self.inside.headers.items; slots = q.slots }) c.take.ensures.rest
    ∙ ap (λ es. record { entries = es; slots = c.self.inside.pool.slots }) taken.rest
    ∙ ap (λ (b : Box). record { entries = without_first c.number_of.result b.entries; slots = b.slots }) c.self.view_is
    ∙ ap (λ n. record { entries = without_first n c.args.self.now.entries; slots = c.args.self.now.slots }) c.number_of.ensures.number
