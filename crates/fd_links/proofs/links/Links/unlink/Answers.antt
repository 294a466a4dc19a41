use Rattle.std.proofs.Common.{◌∙◌, length, sym, ap, subst}
use Rattle.fd_links.specs.Chains.{HasSlots, unlinked, slots_of}
use Rattle.fd_links.specs.Rings.{chains_of}
use Rattle.fd_links.proofs.Calls.{chain_place, leaves_unlinked}
use Rattle.fd_links.proofs.links.Links.unlink.Goals as goal

pub move_to-requires-clause-place : goal.move_to-requires-clause-place
move_to-requires-clause-place c =
    chain_place c.self.inside.heads c.self.inside.nodes.items c.args.slot c.self.invariant (rw (sym c.self.view_is) at c.requires)

pub invariant_of-self : goal.invariant_of-self
invariant_of-self c =
    (leaves_unlinked c.self.inside.heads c.self.inside.nodes.items c.move_to.new.nodes.items c.args.slot c.self.invariant (rw (sym c.self.view_is) at c.requires) c.move_to.ensures).kept

pub returns-clause-value : goal.returns-clause-value
returns-clause-value c =
    (leaves_unlinked c.self.inside.heads c.self.inside.nodes.items c.move_to.new.nodes.items c.args.slot c.self.invariant (rw (sym c.self.view_is) at c.requires) c.move_to.ensures).value_is ∙ ap (λ v. unlinked v c.args.slot) c.self.view_is

pub returns-clause-slots : goal.returns-clause-slots
returns-clause-slots c =
    subst (λ v. HasSlots (chains_of c.self.inside.heads c.move_to.new.nodes.items) (length (slots_of v))) c.self.view_is (leaves_unlinked c.self.inside.heads c.self.inside.nodes.items c.move_to.new.nodes.items c.args.slot c.self.invariant (rw (sym c.self.view_is) at c.requires) c.move_to.ensures).slots
