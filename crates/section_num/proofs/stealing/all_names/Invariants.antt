use Rattle.std.proofs.Common.{◌≡◌, map, take}
use Rattle.fd_prog.specs.Items.{item_names, linear_item_of}
use Rattle.fd_prog.specs.Programs.{program_of}
use Rattle.section_num.specs.Views.{names_of}
use Rattle.section_num.proofs.stealing.all_names.Given as goal

abbrev pub invariant-loop-item : goal.invariant-loop-item
invariant-loop-item l = map names_of l.names.items ≡ map (item_names (program_of l.program)) (map linear_item_of (take l.item-index l.items))
