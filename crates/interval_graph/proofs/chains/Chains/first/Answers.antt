use Rattle.std.proofs.Common.{◌≡◌, List, get_or, [], slice_get, ap, ◌∙◌, subst, arith}
use Rattle.interval_graph.specs.declared.chains.Told.{Told}
use Rattle.interval_graph.specs.Chained.{Edges, told_by, told_from, IsPlace}
use Rattle.interval_graph.proofs.Chained.{first_place}
use Rattle.interval_graph.proofs.chains.Chains.first.Goals as goal

pub returns-clause-place : goal.returns-clause-place
returns-clause-place c =
    let s = c.self.inside in
    let nodes = ap (λ (e : Edges). e.nodes) c.self.view_is in
    let found = first_place s.links c.args.n s.told.items c.first.result c.self.invariant (omega (arith, nodes, c.requires)) (c.first.ensures ∙ ap (λ m. slice_get (get_or s.links.chains m []) 0) c.from.ensures) in
    subst (λ (ts : List Told). IsPlace c.args.n ts c.first.result) (ap (λ (e : Edges). e.told) c.self.view_is) found.0

pub returns-clause-edges : goal.returns-clause-edges
returns-clause-edges c =
    let s = c.self.inside in
    let nodes = ap (λ (e : Edges). e.nodes) c.self.view_is in
    let found = first_place s.links c.args.n s.told.items c.first.result c.self.invariant (omega (arith, nodes, c.requires)) (c.first.ensures ∙ ap (λ m. slice_get (get_or s.links.chains m []) 0) c.from.ensures) in
    subst (λ (ts : List Told). told_from c.args.n ts c.first.result ≡ told_by c.args.n ts) (ap (λ (e : Edges). e.told) c.self.view_is) found.1
