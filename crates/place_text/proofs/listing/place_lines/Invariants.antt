use Rattle.std.proofs.Common.{◌≡◌, take}
use Rattle.gnt_solver.specs.Placed.{places_of}
use Rattle.place_text.specs.Listings as texts
use Rattle.place_text.specs.Tables.{lines_of}
use Rattle.place_text.proofs.listing.place_lines.Given as goal

-- the nodes before n have their lines
abbrev pub invariant-loop-n : goal.invariant-loop-n
invariant-loop-n l = l.lines.items ≡ texts.by_node (texts.place_lines l.items (places_of l.placement)) 0 (lines_of (take l.n l.graph.rows.items))
