use Rattle.std.proofs.Common.{◌-◌, length, sym, ◌∙◌}
use Rattle.std.proofs.lemmas.Result.{IfOk-weaker}
use Rattle.interval_graph.specs.Rows.{flow_of}
use Rattle.place_check.specs.Columns.{machine_of, plan_of}
use Rattle.place_check.specs.Trails.{IsSearched}
use Rattle.place_check.specs.Verdicts.{IsShownAt}
use Rattle.place_check.proofs.Judged.{shown_at}
use Rattle.place_check.proofs.judging.shown.Goals as goal

pub returns-then-not-has : goal.returns-then-not-has
returns-then-not-has c = c.requires.others c.args.item.0 c.requires.low c.requires.high (sym c.has.ensures ∙ c.if-not-has.true) c.args.condition

pub returns : goal.returns
returns c =
    IfOk-weaker c.first_walk.result
    (λ found. IsSearched (flow_of c.args.graph.now.rows.items) (machine_of c.in_ok-happens.happens) found)
    (λ found. IsShownAt (plan_of c.args.graph.now.rows.items c.args.take.now c.args.steal.now c.args.p.now) (length c.args.graph.now.rows.items - 1) c.args.condition c.args.item.0 found)
    (λ found k. shown_at c.args.graph.now.rows.items c.args.take.now c.args.steal.now c.args.p.now c.args.item.0 c.args.condition c.in_ok-happens.happens found c.requires.rows c.requires.low c.requires.high
    c.in_ok-happens.ensures.condition c.in_ok-happens.ensures.nodes c.in_ok-happens.ensures.doings k)
    c.first_walk.ensures
