use Rattle.std.proofs.Common.{◌≡◌, vec_len}
use Rattle.fd_ast.specs.Tree.{stmt_trees}
use Rattle.fd_parser.specs.Program.{joined_stmts, all_stmts}
use Rattle.fd_parser.specs.Open.{stmts}
use Rattle.fd_parser.proofs.blocks.list_of.Given as goal

abbrev pub invariant-loop-stmt : goal.invariant-loop-stmt
invariant-loop-stmt l = joined_stmts (stmts l.statements.items) (stmt_trees l.list) ≡ all_stmts (stmts l.fn.statements.items)

abbrev pub decreases-loop-stmt : goal.decreases-loop-stmt
decreases-loop-stmt l = vec_len l.statements
