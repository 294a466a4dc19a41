use Rattle.std.proofs.Common.{ap, ◌∙◌}
use Rattle.std.specs.Ordering.{nat_cmp}
use Rattle.std.specs.FinSet as sets
use Rattle.gnt_solver.proofs.Marks.{held-intersection}
use Rattle.gnt_solver.proofs.tables.meet.Goals as goal

pub returns-clause-held : goal.returns-clause-held
returns-clause-held c x = ap (λ (m : sets.FinSet nat_cmp). sets.contains m x) c.meet.ensures.members ∙ held-intersection _ _ x
