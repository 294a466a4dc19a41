use Rattle.std.proofs.Common.{◌∙◌, ◌+◌, get_or, sym, ap, [], arith}
use Rattle.fd_links.specs.Chains.{next_in}
use Rattle.fd_links.specs.Rings.{slot_of}
use Rattle.fd_links.proofs.Calls.{slot_place, next_free, next_is, read_few}
use Rattle.fd_links.proofs.Nodes.{read_is}
use Rattle.fd_links.proofs.links.Links.next.Goals as goal

pub index-requires : goal.index-requires
index-requires c =
    let s = c.self.inside in
    omega (arith, slot_place s.heads s.nodes.items c.args.slot c.self.invariant (rw (sym c.self.view_is) at c.requires), s.nodes.ok)

pub slot_at-requires : goal.slot_at-requires
slot_at-requires c =
    let s = c.self.inside in
    let l = slot_place s.heads s.nodes.items c.args.slot c.self.invariant (rw (sym c.self.view_is) at c.requires) in
    read_few s.heads s.nodes.items (s.heads + c.args.slot) c.index.result.now c.self.invariant l c.index.ensures

pub returns-clause-chains : goal.returns-clause-chains
returns-clause-chains c = λ chain u m.
    let s = c.self.inside in
    let l = slot_place s.heads s.nodes.items c.args.slot c.self.invariant (rw (sym c.self.view_is) at c.requires) in
    c.slot_at.ensures ∙ (ap (slot_of s.heads) (sym (read_is s.nodes.items (s.heads + c.args.slot) c.index.result.now l c.index.ensures)) ∙ (next_is s.heads s.nodes.items chain c.args.slot c.self.invariant (rw (sym c.self.view_is) at u) (rw (sym c.self.view_is) at m) ∙ ap (λ v. next_in (get_or v.chains chain []) c.args.slot) c.self.view_is))

pub returns-clause-free : goal.returns-clause-free
returns-clause-free c = λ m.
    let s = c.self.inside in
    let l = slot_place s.heads s.nodes.items c.args.slot c.self.invariant (rw (sym c.self.view_is) at c.requires) in
    c.slot_at.ensures ∙ (ap (slot_of s.heads) (sym (read_is s.nodes.items (s.heads + c.args.slot) c.index.result.now l c.index.ensures)) ∙ (next_free s.heads s.nodes.items c.args.slot c.self.invariant (rw (sym c.self.view_is) at m) ∙ ap (λ v. next_in v.free c.args.slot) c.self.view_is))
