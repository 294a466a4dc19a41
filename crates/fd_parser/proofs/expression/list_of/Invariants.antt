use Rattle.std.proofs.Common.{◌≡◌, map, vec_len}
use Rattle.fd_ast.specs.Tree.{expr_tree, expr_trees}
use Rattle.fd_parser.specs.Expressions.{joined_exprs, all_exprs}
use Rattle.fd_parser.proofs.expression.list_of.Given as goal

abbrev pub invariant-loop-last : goal.invariant-loop-last
invariant-loop-last l = joined_exprs (map expr_tree l.exprs.items) (expr_trees l.list) ≡ all_exprs (map expr_tree l.fn.exprs.items)

abbrev pub decreases-loop-last : goal.decreases-loop-last
decreases-loop-last l = vec_len l.exprs
