use Rattle.text_trees.proofs.WrittenTrees.{trees_are_written}
use Rattle.text_trees.proofs.laws.trees_are_written.Goals as goal

pub returns : goal.returns
returns c = trees_are_written
