use Rattle.std.proofs.Common.{◌≡◌, map, take}
use Rattle.fd_prog.specs.Programs.{program_of}
use Rattle.fd_prog.specs.Items.{linear_item_of}
use Rattle.place_text.specs.Listings as texts
use Rattle.place_text.proofs.listing.item_lines.Given as goal

-- the items before the index have their lines
abbrev pub invariant-loop-index : goal.invariant-loop-index
invariant-loop-index l = l.lines.items ≡ texts.item_lines (program_of l.program) 1 (map linear_item_of (take l.index l.items))
