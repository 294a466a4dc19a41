use Rattle.std.proofs.Common.{ap, ◌∙◌}
use Rattle.std.specs.Ordering.{nat_cmp}
use Rattle.std.specs.FinSet as sets
use Rattle.gnt_solver.proofs.Marks.{held-union}
use Rattle.gnt_solver.proofs.tables.unite.Goals as goal

pub returns-clause-held : goal.returns-clause-held
returns-clause-held c x = ap (λ (m : sets.FinSet nat_cmp). sets.contains m x) c.unite.ensures.members ∙ held-union _ _ x
