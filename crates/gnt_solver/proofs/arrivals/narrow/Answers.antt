use Rattle.std.proofs.Common.{Bool, not, ◌&&◌, ◌||◌, set, sym, ◌∙◌, ap}
use Rattle.gnt_solver.specs.Columns.{held, at, col}
use Rattle.gnt_solver.proofs.arrivals.narrow.Goals as goal

pub returns-then-seen-clause-column : goal.returns-then-seen-clause-column
returns-then-seen-clause-column c x =
    let old = col c.args.every.now x in
    c.meet_at.ensures.column x ∙ ap (λ (b : Bool). set old c.args.s ((not b || at old c.args.s) && held c.args.goes.now x)) (sym c.if-seen.true)

pub returns-clause-column : goal.returns-clause-column
returns-clause-column c x =
    let old = col c.args.every.now x in
    c.put.ensures.column x ∙ ap (λ (b : Bool). set old c.args.s ((not b || at old c.args.s) && held c.args.goes.now x)) (sym c.if-seen.false)
