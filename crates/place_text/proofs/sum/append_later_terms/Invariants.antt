use Rattle.std.proofs.Common.{◌≡◌, ◌++◌, flat_map, take}
use Rattle.place_text.specs.Sums as sums
use Rattle.place_text.proofs.sum.append_later_terms.Given as goal

-- the terms before the index are printed
abbrev pub invariant-loop-term : goal.invariant-loop-term
invariant-loop-term l = l.out ≡ l.initial.out ++ flat_map sums.later_term (take l.term-index l.terms)
