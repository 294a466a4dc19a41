use Rattle.std.proofs.Common.{◌≡◌, ◌+◌, ◌-◌, ◌*◌, drop, flat_map, length}
use Rattle.inspector.specs.Readers.{item_in, sight_of, walk_of}
use Rattle.inspector.specs.Walks.{Goes, numbers_from, one_number_of}
use Rattle.inspector.proofs.walk.+walk.Given as goal

abbrev pub decreases-each_number : goal.decreases-each_number
decreases-each_number g l = 3 * (length l.r.now.item.now.loops - l.depth) + 2

abbrev pub decreases-one_number : goal.decreases-one_number
decreases-one_number g l = 3 * (length l.r.now.item.now.loops - l.depth) + 1

abbrev pub decreases-walk : goal.decreases-walk
decreases-walk g l = 3 * (length l.r.now.item.now.loops - l.depth)

abbrev pub invariant-each_number-loop-remaining : goal.invariant-each_number-loop-remaining
invariant-each_number-loop-remaining g l =
    (l.vs.items ≡ l.initial.vs.items)
    × Goes (sight_of (g.C.Cells.readings l.c) l.r) (item_in l.r) l.r.rank.0
    (flat_map (one_number_of (g.C.Cells.readings l.c) (drop l.depth (item_in l.r).loops) l.initial.vs.items) (numbers_from l.number l.numbers.by l.remaining)) (walk_of l.found)
    (flat_map (one_number_of (g.C.Cells.readings l.c) (drop l.depth (item_in l.r).loops) l.initial.vs.items) (numbers_from l.numbers.first l.numbers.by l.numbers.count)) (walk_of l.initial.found)

abbrev pub decreases-each_number-loop-remaining : goal.decreases-each_number-loop-remaining
decreases-each_number-loop-remaining g l = l.remaining
