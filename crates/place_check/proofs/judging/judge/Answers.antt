use Rattle.std.proofs.Common.{◌-◌, length, sym, ◌∙◌}
use Rattle.std.proofs.lemmas.Result.{IfOk-weaker}
use Rattle.gnt_solver.proofs.Rows.{flow, last}
use Rattle.place_check.specs.declared.verdict.Condition.TheVariants.{Balanced, Covered, Used}
use Rattle.place_check.specs.Columns.{plan_of}
use Rattle.place_check.specs.Verdicts.{IsVerdict, IsNamed}
use Rattle.place_check.proofs.Judged.{all_held, named_bad, before_balanced, before_covered, judged}
use Rattle.place_check.proofs.judging.judge.Goals as goal

pub returns-then-is_bad : goal.returns-then-is_bad
returns-then-is_bad c =
    let p = plan_of c.args.graph.now.rows.items c.args.take.now c.args.steal.now c.args.p.now in
    let end = length c.args.graph.now.rows.items - 1 in
    named_bad p end Balanced c.in_ok-balanced.balanced c.in_ok-balanced.ensures (sym c.is_bad.ensures ∙ c.if-is_bad.true) (before_balanced p end)

pub returns-then-is_bad-2 : goal.returns-then-is_bad-2
returns-then-is_bad-2 c =
    let p = plan_of c.args.graph.now.rows.items c.args.take.now c.args.steal.now c.args.p.now in
    let end = length c.args.graph.now.rows.items - 1 in
    let balanced = all_held p end Balanced c.in_ok-balanced.balanced c.in_ok-balanced.ensures (sym c.is_bad.ensures ∙ c.if-is_bad.false) in
    named_bad p end Covered c.in_ok-covered.covered c.in_ok-covered.ensures (sym c.is_bad-2.ensures ∙ c.if-is_bad-2.true) (before_covered p end balanced)

pub returns : goal.returns
returns c =
    let p = plan_of c.args.graph.now.rows.items c.args.take.now c.args.steal.now c.args.p.now in
    let end = length c.args.graph.now.rows.items - 1 in
    let balanced = all_held p end Balanced c.in_ok-balanced.balanced c.in_ok-balanced.ensures (sym c.is_bad.ensures ∙ c.if-is_bad.false) in
    let covered = all_held p end Covered c.in_ok-covered.covered c.in_ok-covered.ensures (sym c.is_bad-2.ensures ∙ c.if-is_bad-2.false) in
    IfOk-weaker c.named-3.result (λ v. IsNamed p end Used v) (λ v. IsVerdict p end v)
    (λ v k. judged p end v (flow c.args.graph.now.rows.items c.requires.rows) (last c.args.graph.now.rows.items c.requires.rows) balanced covered k)
    c.named-3.ensures
