use Rattle.std.proofs.Common.{◌≡◌, map, take}
use Rattle.section_num.specs.Changes.{numbers_with}
use Rattle.section_num.specs.Views.{change_of, names_of, numbers_of}
use Rattle.section_num.proofs.stealing.all_stolen.Given as goal

abbrev pub invariant-loop-change : goal.invariant-loop-change
invariant-loop-change l = map numbers_of l.rows ≡ map (numbers_with (map names_of l.names)) (map change_of (take l.change-index l.changes))
