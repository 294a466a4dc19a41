use Rattle.std.proofs.Common.{◌≡◌, drop}
use Rattle.owner_part.specs.Placed.{place_told}
use Rattle.owner_part.proofs.place.place_named.Given as goal

-- no pair before the index names it
abbrev pub invariant-loop-other : goal.invariant-loop-other
invariant-loop-other l = place_told (drop l.other-index l.other-items) l.name ≡ place_told l.other-items l.name
