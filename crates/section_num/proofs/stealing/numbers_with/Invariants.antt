use Rattle.std.proofs.Common.{◌≡◌, ◌+◌, ◌++◌, map, drop}
use Rattle.section_num.specs.Changes.{numbers_from}
use Rattle.section_num.specs.Views.{name_of, names_of, numbers_of}
use Rattle.section_num.proofs.stealing.numbers_with.Given as goal

-- the numbers so far, and those of the items that are left
abbrev pub invariant-loop-place : goal.invariant-loop-place
invariant-loop-place l =
    numbers_of l.row ++ numbers_from (l.place + 1) (map names_of (drop l.place l.names)) (name_of l.name) ≡ numbers_from 1 (map names_of l.names) (name_of l.name)
