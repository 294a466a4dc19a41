use Rattle.std.proofs.Common.{◌≡◌, ◌++◌, drop}
use Rattle.fd_names.specs.Declarations.{finished_arrays}
use Rattle.fd_names.proofs.finish.finish_arrays.Given as goal

abbrev pub invariant-loop-array : goal.invariant-loop-array
invariant-loop-array l = finished_arrays l.spreads l.arrays l.alignments ≡ l.made ++ finished_arrays l.spreads (drop l.array-index l.arrays) l.left
