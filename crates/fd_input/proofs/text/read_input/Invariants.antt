use Rattle.std.proofs.Common.{◌≡◌, ◌+◌, ◌-◌, ◌≤◌, length, drop}
use Rattle.std.specs.List.{slice_split}
use Rattle.fd_input.specs.Text.{is_white, input_numbers, parts_numbers, before}
use Rattle.fd_input.proofs.text.read_input.Given as goal

-- the numbers so far, and then those of what is left
abbrev pub invariant-loop-numbers : goal.invariant-loop-numbers
invariant-loop-numbers l = record {
  within : l.at ≤ length l.bytes;
  rest : input_numbers l.bytes ≡ before l.numbers (parts_numbers l.at (slice_split is_white (drop l.at l.bytes)));
}

abbrev pub decreases-loop-numbers : goal.decreases-loop-numbers
decreases-loop-numbers l = length l.bytes + 1 - l.at
