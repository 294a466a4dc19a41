use Rattle.std.proofs.Common.{◌≡◌, ℕ, ◌<◌, ◌^◌, get_or, take}
use Rattle.place_text.specs.Tables.{lines_of}
use Rattle.place_text.proofs.read.lines_of.Given as goal

-- the lines of the nodes before n
abbrev pub invariant-loop-n : goal.invariant-loop-n
invariant-loop-n l = record {
  lines : l.lines.items ≡ lines_of (take l.n l.graph.rows.items);
  numbers : (k : ℕ) → (get_or l.lines.items k (record { 0 = 0 })).0 < 2 ^ 32;
}
