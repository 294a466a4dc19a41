use Rattle.std.proofs.Common.{◌≡◌, ◌++◌, flat_map}
use Rattle.std.specs.List.{range_with_len}
use Rattle.owner_part.specs.OwnerTable.{element_line}
use Rattle.owner_part.proofs.table.append_lines.Given as goal

-- the elements before this one have their lines
abbrev pub invariant-loop-element : goal.invariant-loop-element
invariant-loop-element l = l.out ≡ l.initial.out ++ flat_map (element_line l.array l.map) (range_with_len 0 l.element)
