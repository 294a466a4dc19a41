use Rattle.std.proofs.Common.{◌+◌, ◌-◌, length, arith}
use Rattle.place_check.specs.Columns.{plan_of}
use Rattle.place_check.proofs.Judged.{held_more, shown_none}
use Rattle.place_check.proofs.judging.named.Goals as goal

pub loop-before-preserved : goal.loop-before-preserved
loop-before-preserved c =
    held_more (plan_of c.args.graph.now.rows.items c.args.take.now c.args.steal.now c.args.p.now) (length c.args.graph.now.rows.items - 1) c.args.condition c.loop-before.before c.loop-before.invariant
    (shown_none (plan_of c.args.graph.now.rows.items c.args.take.now c.args.steal.now c.args.p.now) (length c.args.graph.now.rows.items - 1) c.args.condition (c.loop-before.before + 1)
    c.in_ok-path.field-0 c.in_ok-path.ensures c.in_default.not-Some)

pub returns : goal.returns
returns c = λ y lo hi. c.loop-before.invariant y lo (omega (arith, hi, c.requires.count, c.loop-before-test.false))
