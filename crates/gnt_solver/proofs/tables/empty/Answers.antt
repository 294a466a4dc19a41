use Rattle.std.proofs.Common.{ap, ◌∙◌}
use Rattle.fd_sets.specs.Sets.{Subset}
use Rattle.gnt_solver.specs.Columns.{held}
use Rattle.gnt_solver.proofs.Marks.{held-empty}
use Rattle.gnt_solver.proofs.tables.empty.Goals as goal

pub returns-clause-held : goal.returns-clause-held
returns-clause-held c x = ap (λ (s : Subset). held s x) c.in_ok-made.ensures ∙ held-empty x
