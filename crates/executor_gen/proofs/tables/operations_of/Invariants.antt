use Rattle.std.proofs.Common.{◌≡◌, length}
use Rattle.gnt_solver.specs.Placed.{places_of}
use Rattle.executor_gen.specs.Told.{AreTold}
use Rattle.executor_gen.proofs.tables.operations_of.Given as goal

-- the operations so far
abbrev pub invariant-loop-n : goal.invariant-loop-n
invariant-loop-n l = record { count : length l.all.items ≡ l.n; told : AreTold (places_of l.p) l.items 0 l.all.items }
