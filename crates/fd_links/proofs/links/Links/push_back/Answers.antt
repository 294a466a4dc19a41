use Rattle.std.proofs.Common.{◌∙◌, length, sym, ap, subst}
use Rattle.fd_links.specs.Chains.{HasSlots, pushed, slots_of}
use Rattle.fd_links.specs.Rings.{chains_of}
use Rattle.fd_links.proofs.Calls.{free_place, leaves_pushed}
use Rattle.fd_links.proofs.links.Links.push_back.Goals as goal

pub move_to-requires-clause-place : goal.move_to-requires-clause-place
move_to-requires-clause-place c =
    free_place c.self.inside.heads c.self.inside.nodes.items c.args.slot c.self.invariant (rw (sym c.self.view_is) at c.requires.free)

pub invariant_of-self : goal.invariant_of-self
invariant_of-self c =
    (leaves_pushed c.self.inside.heads c.self.inside.nodes.items c.move_to.new.nodes.items c.args.chain c.args.slot c.self.invariant (rw (sym c.self.view_is) at c.requires.chain) (rw (sym c.self.view_is) at c.requires.free) c.move_to.ensures).kept

pub returns-clause-value : goal.returns-clause-value
returns-clause-value c =
    (leaves_pushed c.self.inside.heads c.self.inside.nodes.items c.move_to.new.nodes.items c.args.chain c.args.slot c.self.invariant (rw (sym c.self.view_is) at c.requires.chain) (rw (sym c.self.view_is) at c.requires.free) c.move_to.ensures).value_is ∙ ap (λ v. pushed v c.args.chain c.args.slot) c.self.view_is

pub returns-clause-slots : goal.returns-clause-slots
returns-clause-slots c =
    subst (λ v. HasSlots (chains_of c.self.inside.heads c.move_to.new.nodes.items) (length (slots_of v))) c.self.view_is (leaves_pushed c.self.inside.heads c.self.inside.nodes.items c.move_to.new.nodes.items c.args.chain c.args.slot c.self.invariant (rw (sym c.self.view_is) at c.requires.chain) (rw (sym c.self.view_is) at c.requires.free) c.move_to.ensures).slots
