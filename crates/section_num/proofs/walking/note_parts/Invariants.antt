use Rattle.std.proofs.Common.{◌≡◌, ◌≤◌, map, take, length}
use Rattle.std.specs.Prelude.{flat_map}
use Rattle.fd_prog.specs.Statements.{print_item_of}
use Rattle.fd_prog.specs.Uses.{print_uses}
use Rattle.section_num.specs.Noting.{all_noted}
use Rattle.section_num.specs.Views.{noted_of, stand_of}
use Rattle.section_num.proofs.walking.note_parts.Given as goal

-- the parts so far are noted
abbrev pub invariant-loop-part : goal.invariant-loop-part
invariant-loop-part l =
    record { noted : noted_of l.book ≡ all_noted (flat_map (print_uses (stand_of l.stand)) (map print_item_of (take l.part-index l.parts))) (noted_of l.initial.book); count : length l.book.firsts ≤ 512 }
