use Rattle.std.proofs.Common.{◌≡◌, ◌<◌, ◌∷◌, ◌++◌, length}
use Rattle.place_check.specs.Trails.{trail}
use Rattle.place_check.specs.Verdicts.{numbers_of}
use Rattle.place_check.proofs.reached.Search.path.Given as goal

abbrev pub invariant-loop-i : goal.invariant-loop-i
invariant-loop-i l = record {
  inside : l.i < length l.self.reached.items;
  way : numbers_of l.nodes.items ++ trail l.self.reached.items l.i ≡ l.last ∷ trail l.self.reached.items l.at;
}

abbrev pub decreases-loop-i : goal.decreases-loop-i
decreases-loop-i l = l.i
