use Rattle.std.proofs.Common.{Bool, ◌||◌, ap, ◌∙◌}
use Rattle.std.specs.Ordering.{nat_cmp}
use Rattle.std.specs.FinSet as sets
use Rattle.gnt_solver.specs.Columns.{held}
use Rattle.gnt_solver.proofs.Marks.{held-union, held-intersection, absorbed}
use Rattle.gnt_solver.proofs.tables.fill.Goals as goal

pub returns-clause-held : goal.returns-clause-held
returns-clause-held c x =
    let other = held c.args.other.now x in
    ap (λ (m : sets.FinSet nat_cmp). sets.contains m x) c.unite.ensures.members ∙ (held-union _ _ x
    ∙ (ap (λ (m : sets.FinSet nat_cmp). sets.contains m x || other) c.meet.ensures.members ∙ (ap (λ (b : Bool). b || other) (held-intersection _ _ x) ∙ absorbed _ _)))
