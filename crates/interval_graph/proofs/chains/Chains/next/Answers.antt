use Rattle.std.proofs.Common.{◌≡◌, ◌<◌, List, ◌∷◌, Some, length, sym, ap, subst, arith}
use Rattle.interval_graph.specs.declared.chains.Told.{Told}
use Rattle.interval_graph.specs.Chained.{Edges, told_at, told_from, TellsAt, IsPlace}
use Rattle.interval_graph.proofs.Chained.{next_place, place_in_chain}
use Rattle.interval_graph.proofs.chains.Chains.next.Goals as goal

pub returns-clause-place : goal.returns-clause-place
returns-clause-place c =
    let s = c.self.inside in
    let nodes = ap (λ (e : Edges). e.nodes) c.self.view_is in
    let all = ap (λ (e : Edges). e.told) c.self.view_is in
    let inside : c.args.n < length s.links.chains = omega (arith, nodes, c.requires.inside) in
    let tells = subst (λ (ts : List Told). TellsAt c.args.n ts c.args.place) (sym all) c.requires.tells in
    let found = next_place s.links c.args.n c.args.place s.told.items c.next.result c.self.invariant inside tells (c.next.ensures.chains c.args.n inside (place_in_chain s.links c.args.n c.args.place s.told.items c.self.invariant inside tells)) in
    subst (λ (ts : List Told). IsPlace c.args.n ts c.next.result) all found.0

pub returns-clause-edges : goal.returns-clause-edges
returns-clause-edges c =
    let s = c.self.inside in
    let nodes = ap (λ (e : Edges). e.nodes) c.self.view_is in
    let all = ap (λ (e : Edges). e.told) c.self.view_is in
    let inside : c.args.n < length s.links.chains = omega (arith, nodes, c.requires.inside) in
    let tells = subst (λ (ts : List Told). TellsAt c.args.n ts c.args.place) (sym all) c.requires.tells in
    let found = next_place s.links c.args.n c.args.place s.told.items c.next.result c.self.invariant inside tells (c.next.ensures.chains c.args.n inside (place_in_chain s.links c.args.n c.args.place s.told.items c.self.invariant inside tells)) in
    subst (λ (ts : List Told). told_from c.args.n ts (Some c.args.place) ≡ ((told_at ts c.args.place).node, (told_at ts c.args.place).kind) ∷ told_from c.args.n ts c.next.result) all found.1
