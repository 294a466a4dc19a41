use Rattle.std.proofs.Common.{◌<◌, length, sym, ap, ◌∙◌, subst, arith}
use Rattle.fd_links.specs.Chains.{pushed}
use Rattle.interval_graph.specs.declared.chains.Told.{Told}
use Rattle.interval_graph.specs.Chained.{Edges, AreChained}
use Rattle.interval_graph.proofs.Chained.{with_one}
use Rattle.interval_graph.proofs.chains.Chains.with.Goals as goal

pub invariant_of-self : goal.invariant_of-self
invariant_of-self c =
    let s = c.self.inside in
    let nodes = ap (λ (e : Edges). e.nodes) c.self.view_is in
    let t : Told = record { by = c.args.by; node = c.args.node; kind = c.args.kind } in
    let inside : c.args.by < length s.links.chains = omega (arith, nodes, c.requires) in
    let is_after = c.push_back.ensures.value ∙ ap (λ m. pushed c.add_node.new.self m c.in_ok-slot.slot) c.from.ensures in
    subst (AreChained c.push_back.new.self) (sym c.in_ok-push.ensures.items)
    (with_one s.links c.add_node.new.self c.push_back.new.self s.told.items t c.in_ok-slot.slot c.self.invariant c.in_ok-slot.ensures.number inside c.in_ok-slot.ensures.ok c.in_ok-slot.ensures.slots is_after c.push_back.ensures.slots)
