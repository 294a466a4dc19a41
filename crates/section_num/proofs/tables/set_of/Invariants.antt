use Rattle.std.proofs.Common.{◌≡◌, ℕ, take}
use Rattle.std.specs.FinSet as set
use Rattle.section_num.proofs.Filled.{is_one}
use Rattle.section_num.proofs.tables.set_of.Given as goal

-- the set has the numbers so far
abbrev pub invariant-loop-number : goal.invariant-loop-number
invariant-loop-number l =
    record { size : l.members.size ≡ l.items; has : (x : ℕ) → set.contains l.members.members x ≡ is_one (take l.number-index l.numbers) x }
