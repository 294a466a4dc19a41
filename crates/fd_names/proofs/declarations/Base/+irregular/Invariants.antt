use Rattle.std.proofs.Common.{◌≤◌}
use Rattle.fd_ast.specs.Tree.{stmt_tree, stmt_trees}
use Rattle.fd_names.proofs.Remapped.{AreRemapped}
use Rattle.fd_names.proofs.Weights.{weight, weights}
use Rattle.fd_names.proofs.declarations.Base.+irregular.Given as goal

abbrev pub decreases-remap : goal.decreases-remap
decreases-remap l = weight (stmt_tree l.stmt.now)

abbrev pub decreases-remap_all : goal.decreases-remap_all
decreases-remap_all l = weights (stmt_trees l.list.now)

abbrev pub invariant-remap_all-loop-left : goal.invariant-remap_all-loop-left
invariant-remap_all-loop-left l = record {
  smaller : weights (stmt_trees l.left) ≤ weights (stmt_trees l.fn.list);
  made : AreRemapped (stmt_trees l.list) l.initial.self (stmt_trees l.left) l.self;
}
