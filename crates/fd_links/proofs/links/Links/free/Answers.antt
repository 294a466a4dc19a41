use Rattle.std.proofs.Common.{◌∙◌, ◌-◌, sym, ap, slice_get}
use Rattle.fd_links.specs.Rings.{slot_of}
use Rattle.fd_links.proofs.Calls.{free_head, free_is, read_few}
use Rattle.fd_links.proofs.Nodes.{read_is}
use Rattle.fd_links.proofs.links.Links.free.Goals as goal

pub slot_at-requires : goal.slot_at-requires
slot_at-requires c =
    let s = c.self.inside in
    read_few s.heads s.nodes.items (s.heads - 1) c.index.result.now c.self.invariant (free_head s.heads s.nodes.items c.self.invariant) c.index.ensures

pub returns : goal.returns
returns c =
    let s = c.self.inside in
    let l = free_head s.heads s.nodes.items c.self.invariant in
    c.slot_at.ensures ∙ (ap (slot_of s.heads) (sym (read_is s.nodes.items (s.heads - 1) c.index.result.now l c.index.ensures)) ∙ (free_is s.heads s.nodes.items c.self.invariant ∙ ap (λ v. slice_get v.free 0) c.self.view_is))
