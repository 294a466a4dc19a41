use Rattle.std.proofs.Common.{ℕ, ◌+◌, ◌-◌, ◌<◌, ◌≤◌, length}
use Rattle.place_check.specs.Columns.{plan_of}
use Rattle.place_check.specs.Verdicts.{IsHeld}
use Rattle.place_check.proofs.judging.named.Given as goal

abbrev pub invariant-loop-before : goal.invariant-loop-before
invariant-loop-before l = (y : ℕ) → 1 ≤ y → y < l.before + 1 → IsHeld (plan_of l.graph.rows.items l.take l.steal l.p) (length l.graph.rows.items - 1) l.condition y
