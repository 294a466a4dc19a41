use Rattle.std.proofs.Common.{ℤ, ◌^◌, ◌-◌, ◌<◌, List, length, Contains, subst, sym, arith}
use Rattle.std.proofs.lemmas.List.Elements.{Contains-push}
use Rattle.fd_links.specs.Chains.{Chains}
use Rattle.mailbox_book.specs.Pools.{IsPool}
use Rattle.mailbox_book.proofs.Pools.{pool_added}
use Rattle.mailbox_book.proofs.pool.new_slot.Goals as goal

pub returns-in-Ok-clause-slots : goal.returns-in-Ok-clause-slots
returns-in-Ok-clause-slots c =
    let few : length c.args.slots.now.items < 2 ^ 32 - 1 = omega (arith, c.args.slots.now.ok.0) in
    let pushed = rw c.new.ensures at c.in_ok-push.ensures.items in
    subst (λ (slots : List (List ℤ)). IsPool c.add_node.new.self slots) (sym pushed)
    (pool_added c.args.links.now c.add_node.new.self c.args.slots.now.items c.in-Ok.slot c.requires few c.in-Ok.ensures.number c.in-Ok.ensures.slots)

pub returns-in-Ok-clause-free : goal.returns-in-Ok-clause-free
returns-in-Ok-clause-free c =
    subst (λ (links : Chains). Contains links.free c.in-Ok.slot) (sym c.in-Ok.ensures.ok) (Contains-push c.args.links.now.free c.in-Ok.slot)
