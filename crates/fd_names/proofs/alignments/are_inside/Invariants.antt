use Rattle.std.proofs.Common.{◌≡◌, drop}
use Rattle.fd_names.specs.Alignments.{are_inside}
use Rattle.fd_names.proofs.alignments.are_inside.Given as goal

abbrev pub invariant-loop-dim : goal.invariant-loop-dim
invariant-loop-dim l = are_inside l.shape l.onto 0 l.aims ≡ are_inside l.shape l.onto l.dim (drop l.dim l.aims)
