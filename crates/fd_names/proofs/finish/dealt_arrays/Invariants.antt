use Rattle.std.proofs.Common.{◌≡◌, map, take}
use Rattle.fd_names.specs.Declarations.{is_dealt_by}
use Rattle.fd_names.proofs.finish.dealt_arrays.Given as goal

abbrev pub invariant-loop-alignment : goal.invariant-loop-alignment
invariant-loop-alignment l = l.made ≡ map (is_dealt_by l.spreads) (take l.alignment-index l.alignments)
