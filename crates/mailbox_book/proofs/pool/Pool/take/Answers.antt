use Rattle.std.proofs.Common.{◌∙◌, refl, ℤ, List, Some, ◌<◌, arith, length, set, length-set, ap, ap₂, sym}
use Rattle.fd_links.specs.Chains.{Chains}
use Rattle.mailbox_book.specs.Pools.{Queues, queues_of}
use Rattle.mailbox_book.proofs.Pools.{chain_slot, inside_value, none_empty, none_taken, pool_set, take_done, taken_first}
use Rattle.mailbox_book.proofs.pool.Pool.take.Goals as goal

pub index_mut-requires : goal.index_mut-requires
index_mut-requires c =
    let s = c.self.inside in
    let below : c.in-Some.slot < length s.slots.items = chain_slot s.links (length s.slots.items) c.args.queue c.in-Some.slot c.self.invariant.has (inside_value s.links s.slots.items c.args.self.now c.args.queue c.self.view_is c.requires) (sym c.in-Some.ensures) in
    omega (arith, below, s.slots.ok.0)

pub invariant_of-self : goal.invariant_of-self
invariant_of-self c = pool_set c.self.inside.links c.unlink.new.self c.self.inside.slots.items c.in-Some.slot c.replace-numbers.new.dest c.self.invariant c.unlink.ensures.slots

pub returns-in-None-clause-first : goal.returns-in-None-clause-first
returns-in-None-clause-first c = rw (none_empty c.self.inside.links c.self.inside.slots.items c.args.queue c.args.self.now c.self.view_is c.requires (sym c.in-None.ensures)) refl

pub returns-in-None-clause-rest : goal.returns-in-None-clause-rest
returns-in-None-clause-rest c = none_taken c.args.self.now c.args.queue (none_empty c.self.inside.links c.self.inside.slots.items c.args.queue c.args.self.now c.self.view_is c.requires (sym c.in-None.ensures))

pub returns-in-Some-clause-first : goal.returns-in-Some-clause-first
returns-in-Some-clause-first c =
    ap (λ (ys : List ℤ). Some ys) c.replace-numbers.ensures.value
    ∙ taken_first c.self.inside.links c.self.inside.slots.items c.args.queue c.in-Some.slot c.index_mut.result.now c.args.self.now c.self.view_is c.self.invariant c.requires (sym c.in-Some.ensures) c.index_mut.ensures.value

pub returns-in-Some-clause-rest : goal.returns-in-Some-clause-rest
returns-in-Some-clause-rest c =
    let s = c.self.inside in
    let queues = ap (λ (links : Chains). queues_of (set s.slots.items c.in-Some.slot c.replace-numbers.new.dest) links.chains) c.unlink.ensures.value
    ∙ take_done s.links s.slots.items c.args.queue c.in-Some.slot c.replace-numbers.new.dest c.args.self.now c.self.view_is c.self.invariant c.requires (sym c.in-Some.ensures) in
    let count = length-set s.slots.items c.in-Some.slot c.replace-numbers.new.dest ∙ ap (λ (q : Queues). q.slots) c.self.view_is in
    ap₂ (λ qs n. record { queues = qs; slots = n }) queues count
