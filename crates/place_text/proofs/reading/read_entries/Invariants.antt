use Rattle.std.proofs.Common.{◌≡◌, ℕ, ◌+◌, ◌<◌, ◌≤◌, IsTrue, ◌⊎◌, length}
use Rattle.std.specs.Prelude.{◌↔◌}
use Rattle.gnt_solver.specs.Placed.{AreTables, places_of}
use Rattle.place_text.specs.declared.entry.Entry.{Entry}
use Rattle.place_text.specs.Readings.{IsEntryLine, IsToldIn, LastIs, is_hoist, layout_of, marked, size_in}
use Rattle.place_text.proofs.reading.read_entries.Given as goal

-- the lines before the next are read and marked
abbrev pub invariant-loop-j : goal.invariant-loop-j
invariant-loop-j l = record {
  tables : AreTables (size_in l.known) l.p;
  right : (i : ℕ) → l.first ≤ i → i < l.first + l.j → IsEntryLine (layout_of l.known) l.hoists l.lines l.first i;
  there : l.first + l.j ≤ length l.lines;
  marks : (o : Entry) → IsTrue (marked (places_of l.p) o) ↔ (IsTrue (marked (places_of l.fn.p) o) ⊎ ((is_hoist o.kind ≡ l.hoists) × IsToldIn (layout_of l.known) l.lines l.first (l.first + l.j) o));
  last : LastIs (layout_of l.known) l.hoists l.lines l.first (l.first + l.j) l.last;
}
