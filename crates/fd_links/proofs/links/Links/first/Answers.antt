use Rattle.std.proofs.Common.{◌∙◌, get_or, sym, ap, [], slice_get}
use Rattle.fd_links.specs.Rings.{slot_of}
use Rattle.fd_links.proofs.Calls.{chain_head, first_is, read_few}
use Rattle.fd_links.proofs.Nodes.{read_is}
use Rattle.fd_links.proofs.links.Links.first.Goals as goal

pub slot_at-requires : goal.slot_at-requires
slot_at-requires c =
    let s = c.self.inside in
    let l = chain_head s.heads s.nodes.items c.args.chain c.self.invariant (rw (sym c.self.view_is) at c.requires) in
    read_few s.heads s.nodes.items c.args.chain c.index.result.now c.self.invariant l c.index.ensures

pub returns : goal.returns
returns c =
    let s = c.self.inside in
    let r = rw (sym c.self.view_is) at c.requires in
    let l = chain_head s.heads s.nodes.items c.args.chain c.self.invariant r in
    c.slot_at.ensures ∙ (ap (slot_of s.heads) (sym (read_is s.nodes.items c.args.chain c.index.result.now l c.index.ensures)) ∙ (first_is s.heads s.nodes.items c.args.chain c.self.invariant r ∙ ap (λ v. slice_get (get_or v.chains c.args.chain []) 0) c.self.view_is))
