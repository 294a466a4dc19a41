use Rattle.std.proofs.Common.{ap}
use Rattle.interval_graph.specs.Chained.{Edges}
use Rattle.interval_graph.proofs.EachTold.{if_ok, arriving_told}
use Rattle.interval_graph.proofs.telling.with_arriving.Goals as goal

pub returns-in-Some-clause-told : goal.returns-in-Some-clause-told
returns-in-Some-clause-told c =
    if_ok _ _ c.with.result c.with.ensures (λ x e m. arriving_told c.args.n m c.in-Some.node c.in-Some.kind c.args.edge c.args.chains.told x.told c.in-Some.is (ap (λ (d : Edges). d.told) e))
