use Rattle.std.proofs.Common.{◌≡◌, flat_map, take}
use Rattle.fd_prog.specs.Placing.{place_of_array}
use Rattle.fd_prog.specs.Programs.{program_of}
use Rattle.owner_part.specs.OwnerTable.{array_lines}
use Rattle.owner_part.proofs.table.write_owner_table.Given as goal

-- the arrays before the index have their lines
abbrev pub invariant-loop-array : goal.invariant-loop-array
invariant-loop-array l = l.text ≡ flat_map (λ a. array_lines a (place_of_array (program_of l.program) l.ranks a)) (take l.array-index l.program.arrays)
