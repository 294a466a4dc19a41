use Rattle.std.proofs.Common.{◌≡◌, ◌++◌, take}
use Rattle.fd_gen.specs.Mesh.{number_lines}
use Rattle.fd_gen.proofs.mesh.append_lines.Given as goal

-- the numbers before the index are printed
abbrev pub invariant-loop-number : goal.invariant-loop-number
invariant-loop-number l = l.text ≡ l.initial.text ++ number_lines (take l.number-index l.numbers)
