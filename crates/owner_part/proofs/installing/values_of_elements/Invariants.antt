use Rattle.std.proofs.Common.{◌≡◌, pos, map, slice_index_or}
use Rattle.std.specs.List.{range_with_len}
use Rattle.fd_base.specs.Places.{position_of}
use Rattle.owner_part.proofs.installing.values_of_elements.Given as goal

-- the values of the elements so far
abbrev pub invariant-loop-element : goal.invariant-loop-element
invariant-loop-element l = l.found.items ≡ map (λ element. slice_index_or l.values (position_of l.shape l.along element) (pos 0)) (range_with_len 0 l.element)
