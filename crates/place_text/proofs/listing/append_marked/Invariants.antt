use Rattle.std.proofs.Common.{◌≡◌, ◌-◌, ◌≤◌, ◌++◌}
use Rattle.gnt_solver.specs.Columns.{held}
use Rattle.place_text.specs.Listings as texts
use Rattle.place_text.proofs.listing.append_marked.Given as goal

-- the items up to `done` have their lines
abbrev pub invariant-loop-done : goal.invariant-loop-done
invariant-loop-done l = record {
  low : l.done ≤ l.items;
  lines : l.lines.items ≡ l.initial.lines.items ++ texts.marked_lines (texts.front_text l.word l.n.0 l.line l.told) l.done (held l.set);
}

abbrev pub decreases-loop-done : goal.decreases-loop-done
decreases-loop-done l = l.items - l.done
