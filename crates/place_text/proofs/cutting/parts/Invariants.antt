use Rattle.std.proofs.Common.{◌≡◌, ◌++◌, length}
use Rattle.place_text.specs.Readings.{parts_at}
use Rattle.place_text.proofs.cutting.parts.Given as goal

-- the parts so far, and those of the rest
abbrev pub invariant-part : goal.invariant-part
invariant-part l = l.parts.items ++ parts_at l.separator l.rest ≡ parts_at l.separator l.text

abbrev pub decreases-part : goal.decreases-part
decreases-part l = length l.rest
