use Rattle.std.proofs.Common.{◌≡◌, ◌++◌, map}
use Rattle.fd_ast.specs.Tree.{stmt_tree}
use Rattle.fd_parser.specs.Open.{stmts}
use Rattle.fd_parser.proofs.blocks.append.Given as goal

abbrev pub invariant-loop-stmt : goal.invariant-loop-stmt
invariant-loop-stmt l = stmts l.to.items ≡ stmts l.initial.to.items ++ map stmt_tree l.yielded
