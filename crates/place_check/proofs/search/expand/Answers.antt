use Rattle.std.proofs.Common.{length, sym, ◌∙◌, arith}
use Rattle.std.proofs.lemmas.Result.{IfOk-weaker}
use Rattle.interval_graph.specs.Rows.{flow_of}
use Rattle.place_check.specs.Columns.{machine_of}
use Rattle.place_check.specs.Trails.{FollowsEdge, IsExpanded}
use Rattle.place_check.proofs.First.{edges_read, some_inside, halfway, expanded_first, expanded_second}
use Rattle.place_check.proofs.search.expand.Goals as goal

pub follow-requires-clause-there : goal.follow-requires-clause-there
follow-requires-clause-there c =
    let edges = edges_read c.args.graph.now.rows.items c.args.search.now.reached.items c.args.at c.index.result.now c.edges_of-edges.result c.requires.inside c.index.ensures c.edges_of-edges.ensures in
    some_inside c.args.graph.now.rows.items _ (length c.args.column.now.nodes.items) c.edges_of-edges.result.first (sym c.requires.count) edges.first

pub returns-then-is_some : goal.returns-then-is_some
returns-then-is_some c =
    let edges = edges_read c.args.graph.now.rows.items c.args.search.now.reached.items c.args.at c.index.result.now c.edges_of-edges.result c.requires.inside c.index.ensures c.edges_of-edges.ensures in
    expanded_first c.args.graph.now.rows.items (machine_of c.args.column.now) c.args.search.now c.follow.new.self c.args.at c.edges_of-edges.result c.in_ok-broken.broken
    c.requires.inside c.requires.search edges c.in_ok-broken.ensures (sym c.is_some.ensures ∙ c.if-is_some.true)

pub follow-requires-2-clause-inside : goal.follow-requires-2-clause-inside
follow-requires-2-clause-inside c =
    let edges = edges_read c.args.graph.now.rows.items c.args.search.now.reached.items c.args.at c.index.result.now c.edges_of-edges.result c.requires.inside c.index.ensures c.edges_of-edges.ensures in
    (halfway c.args.graph.now.rows.items (machine_of c.args.column.now) c.args.search.now c.follow.new.self c.args.at c.edges_of-edges.result c.in_ok-broken.broken
    c.requires.inside c.requires.search edges c.in_ok-broken.ensures (sym c.is_some.ensures ∙ c.if-is_some.false)).inside

pub follow-requires-2-clause-here : goal.follow-requires-2-clause-here
follow-requires-2-clause-here c =
    let edges = edges_read c.args.graph.now.rows.items c.args.search.now.reached.items c.args.at c.index.result.now c.edges_of-edges.result c.requires.inside c.index.ensures c.edges_of-edges.ensures in
    let half = halfway c.args.graph.now.rows.items (machine_of c.args.column.now) c.args.search.now c.follow.new.self c.args.at c.edges_of-edges.result c.in_ok-broken.broken
    c.requires.inside c.requires.search edges c.in_ok-broken.ensures (sym c.is_some.ensures ∙ c.if-is_some.false) in
    omega (arith, half.here, c.requires.count)

pub follow-requires-2-clause-there : goal.follow-requires-2-clause-there
follow-requires-2-clause-there c =
    let edges = edges_read c.args.graph.now.rows.items c.args.search.now.reached.items c.args.at c.index.result.now c.edges_of-edges.result c.requires.inside c.index.ensures c.edges_of-edges.ensures in
    some_inside c.args.graph.now.rows.items _ (length c.args.column.now.nodes.items) c.edges_of-edges.result.second (sym c.requires.count) edges.second

pub follow-requires-2-clause-seen : goal.follow-requires-2-clause-seen
follow-requires-2-clause-seen c =
    let edges = edges_read c.args.graph.now.rows.items c.args.search.now.reached.items c.args.at c.index.result.now c.edges_of-edges.result c.requires.inside c.index.ensures c.edges_of-edges.ensures in
    let half = halfway c.args.graph.now.rows.items (machine_of c.args.column.now) c.args.search.now c.follow.new.self c.args.at c.edges_of-edges.result c.in_ok-broken.broken
    c.requires.inside c.requires.search edges c.in_ok-broken.ensures (sym c.is_some.ensures ∙ c.if-is_some.false) in
    omega (arith, half.long, c.requires.count)

pub returns : goal.returns
returns c =
    let edges = edges_read c.args.graph.now.rows.items c.args.search.now.reached.items c.args.at c.index.result.now c.edges_of-edges.result c.requires.inside c.index.ensures c.edges_of-edges.ensures in
    IfOk-weaker c.follow-2.result
    (λ b. FollowsEdge (machine_of c.args.column.now) c.follow.new.self c.follow-2.new.self c.args.at c.edges_of-edges.result.second b)
    (λ b. IsExpanded (flow_of c.args.graph.now.rows.items) (machine_of c.args.column.now) (length c.args.graph.now.rows.items) c.args.search.now c.follow-2.new.self c.args.at b)
    (λ b k. expanded_second c.args.graph.now.rows.items (machine_of c.args.column.now) c.args.search.now c.follow.new.self c.follow-2.new.self c.args.at c.edges_of-edges.result c.in_ok-broken.broken b
    c.requires.inside c.requires.search edges c.in_ok-broken.ensures (sym c.is_some.ensures ∙ c.if-is_some.false) k)
    c.follow-2.ensures
