use Rattle.std.proofs.Common.{◌≡◌, ◌≤◌, ◌+◌, map}
use Rattle.fd_ast.specs.Tree.{stmt_tree, stmt_trees}
use Rattle.fd_prog.specs.Statements.{statement_of}
use Rattle.fd_names.proofs.Chained.{IsDone}
use Rattle.fd_names.proofs.Weights.{weight, weights}
use Rattle.fd_names.proofs.book.Book.+statements.Given as goal

abbrev pub decreases-stmt : goal.decreases-stmt
decreases-stmt l = weight (stmt_tree l.stmt.now)

abbrev pub decreases-stmts : goal.decreases-stmts
decreases-stmts l = weights (stmt_trees l.list.now)

abbrev pub decreases-counted_loop : goal.decreases-counted_loop
decreases-counted_loop l = weights (stmt_trees l.body.now) + 2

abbrev pub decreases-loop_body : goal.decreases-loop_body
decreases-loop_body l = weights (stmt_trees l.body.now) + 1

abbrev pub invariant-stmts-loop-left : goal.invariant-stmts-loop-left
invariant-stmts-loop-left l = record {
  smaller : weights (stmt_trees l.left) ≤ weights (stmt_trees l.fn.list);
  walked : IsDone l.table l.initial.self.around (stmt_trees l.list) l.initial.self.seen l.initial.self.worst (stmt_trees l.left) l.self.seen l.self.worst (map statement_of l.made.items);
  around : l.self.around ≡ l.initial.self.around;
}
