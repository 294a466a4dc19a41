use Rattle.std.proofs.Common.{refl}
use Rattle.std.specs.FinSet as sets
use Rattle.gnt_solver.proofs.Marks.{held-empty, col-replicate, replicated}
use Rattle.gnt_solver.proofs.tables.blank.Goals as goal

pub returns-clause-none : goal.returns-clause-none
returns-clause-none c x n = rw c.in_ok-made.ensures (col-replicate c.args.size.nodes x n (record { size = c.args.size.items; members = sets.empty }) (held-empty x))

pub returns-clause-table : goal.returns-clause-table
returns-clause-table c = rw c.in_ok-made.ensures (replicated c.args.size (record { size = c.args.size.items; members = sets.empty }) refl)
