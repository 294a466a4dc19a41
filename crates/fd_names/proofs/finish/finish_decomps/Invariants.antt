use Rattle.std.proofs.Common.{◌≡◌, ◌++◌, drop}
use Rattle.fd_names.specs.Declarations.{finished_decomps}
use Rattle.fd_names.proofs.finish.finish_decomps.Given as goal

abbrev pub invariant-loop-decomp : goal.invariant-loop-decomp
invariant-loop-decomp l = finished_decomps l.decomps l.spreads ≡ l.made ++ finished_decomps (drop l.decomp-index l.decomps) l.left
