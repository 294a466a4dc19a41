use Rattle.std.proofs.Common.{◌≡◌, ◌++◌, flat_map, take}
use Rattle.place_text.specs.Listings as texts
use Rattle.place_text.proofs.listing.append_lines.Given as goal

-- the lines before the index are printed
abbrev pub invariant-loop-line : goal.invariant-loop-line
invariant-loop-line l = l.out ≡ l.initial.out ++ flat_map texts.ended_line (take l.line-index l.lines)
