use Rattle.std.proofs.Common.{◌≡◌, ◌∙◌, ◌<◌, Some, sym, ap, ap₂, set, arith, ◌++◌, ◌∷◌, [], length}
use Rattle.mailbox_book.specs.declared.message.Header.{Header}
use Rattle.mailbox_book.specs.Boxes.{Box, most_tags, tag_number}
use Rattle.mailbox_book.specs.Marks.{entries_of, queue_at}
use Rattle.mailbox_book.proofs.Kept.{kept_posted, posted_entries, pushed_item}
use Rattle.mailbox_book.proofs.mailbox.Mailbox.post.Goals as goal

pub invariant_of-self-in-Ok : goal.invariant_of-self-in-Ok
invariant_of-self-in-Ok c =
    let h : Header = record { tag = c.args.m.tag; count = c.len.result } in
    let pushed : c.push.new.self.items ≡ c.self.inside.headers.items ++ h ∷ [] = pushed_item c.self.inside.headers.items h c.push.result (sym c.is_err.ensures.value ∙ c.if-is_err.false) c.push.ensures.items in
    let put = c.in-Ok.ensures.queues ∙ ap (λ n. set c.self.inside.pool.queues n (queue_at c.self.inside.pool.queues n ++ c.args.m.numbers ∷ [])) c.number_of.ensures.number in
    let below : tag_number c.args.m.tag < most_tags = omega (arith, c.number_of.ensures.below, c.number_of.ensures.number) in
    rw pushed (rw put (kept_posted c.self.inside.pool.queues c.self.inside.headers.items h c.args.m.numbers c.len.ensures below c.self.invariant))

pub returns-in-Ok-clause-posted : goal.returns-in-Ok-clause-posted
returns-in-Ok-clause-posted c =
    let h : Header = record { tag = c.args.m.tag; count = c.len.result } in
    let pushed : c.push.new.self.items ≡ c.self.inside.headers.items ++ h ∷ [] = pushed_item c.self.inside.headers.items h c.push.result (sym c.is_err.ensures.value ∙ c.if-is_err.false) c.push.ensures.items in
    let put = c.in-Ok.ensures.queues ∙ ap (λ n. set c.self.inside.pool.queues n (queue_at c.self.inside.pool.queues n ++ c.args.m.numbers ∷ [])) c.number_of.ensures.number in
    let inside : tag_number c.args.m.tag < length c.self.inside.pool.queues = omega (arith, c.number_of.ensures.below, c.number_of.ensures.number, c.self.invariant.tags) in
    ap₂ (λ queues headers. entries_of (queue_at queues) headers) put pushed
    ∙ posted_entries c.self.inside.pool.queues c.self.inside.headers.items h c.args.m.numbers inside
    ∙ ap₂ (λ (b : Box) n. b.entries ++ record { tag = tag_number c.args.m.tag; count = n; numbers = Some c.args.m.numbers } ∷ []) c.self.view_is c.len.ensures
