use Rattle.std.proofs.Common.{◌∙◌, ℕ, List, ◌<◌, length, arith, set, ap}
use Rattle.std.proofs.lemmas.List.Elements.{Contains-append_right}
use Rattle.std.specs.List.{flat_map}
use Rattle.fd_links.specs.Chains.{Chains}
use Rattle.mailbox_book.specs.Pools.{queues_of}
use Rattle.mailbox_book.proofs.Slots.{slot_below}
use Rattle.mailbox_book.proofs.Pools.{pool_set, put_done, put_count}
use Rattle.mailbox_book.proofs.pool.Pool.put.Goals as goal

pub index_mut-requires : goal.index_mut-requires
index_mut-requires c =
    let links = c.free_slot.new.links in
    let below : c.in-Ok.slot < length c.free_slot.new.slots.items = slot_below links (length c.free_slot.new.slots.items) c.in-Ok.slot c.free_slot.ensures.slots.has (Contains-append_right (flat_map (λ (chain : List ℕ). chain) links.chains) links.free c.in-Ok.slot c.in-Ok.ensures.free) in
    omega (arith, below, c.free_slot.new.slots.ok.0)

pub invariant_of-self-in-Ok : goal.invariant_of-self-in-Ok
invariant_of-self-in-Ok c = pool_set c.free_slot.new.links c.push_back.new.self c.free_slot.new.slots.items c.in-Ok.slot c.args.numbers c.free_slot.ensures.slots c.push_back.ensures.slots

pub returns-in-Ok-clause-queues : goal.returns-in-Ok-clause-queues
returns-in-Ok-clause-queues c =
    ap (λ (links : Chains). queues_of (set c.free_slot.new.slots.items c.in-Ok.slot c.args.numbers) links.chains) c.push_back.ensures.value
    ∙ put_done c.self.inside.links c.free_slot.new.links c.self.inside.slots.items c.free_slot.new.slots.items c.args.queue c.in-Ok.slot c.args.numbers c.args.self.now c.self.view_is
    c.self.invariant c.free_slot.ensures.slots c.free_slot.ensures.chains c.free_slot.ensures.front c.in-Ok.ensures.free c.requires

pub returns-in-Ok-clause-slots : goal.returns-in-Ok-clause-slots
returns-in-Ok-clause-slots c =
    put_count c.self.inside.links c.self.inside.slots.items c.free_slot.new.slots.items c.in-Ok.slot c.args.numbers c.args.self.now c.self.view_is c.self.invariant c.in-Ok.ensures.count c.in-Ok.ensures.same
