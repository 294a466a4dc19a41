use Rattle.std.proofs.Common.{Bool, not, ◌&&◌, ap, ◌∙◌}
use Rattle.std.specs.Ordering.{nat_cmp}
use Rattle.std.specs.FinSet as sets
use Rattle.gnt_solver.specs.Columns.{held}
use Rattle.gnt_solver.proofs.Marks.{held-difference, held-intersection, excluded}
use Rattle.gnt_solver.proofs.tables.clear.Goals as goal

pub returns-clause-held : goal.returns-clause-held
returns-clause-held c x =
    let other = held c.args.other.now x in
    ap (λ (m : sets.FinSet nat_cmp). sets.contains m x) c.drop_all.ensures.members ∙ (held-difference _ _ x
    ∙ (ap (λ (m : sets.FinSet nat_cmp). sets.contains m x && not other) c.meet.ensures.members ∙ (ap (λ (b : Bool). b && not other) (held-intersection _ _ x) ∙ excluded (held c.args.s.now x) other)))
