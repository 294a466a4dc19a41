use Rattle.std.proofs.Common.{◌≡◌, map}
use Rattle.fd_ast.specs.Tree.{expr_tree, stmt_tree, ReadStmt}
use Rattle.fd_parser.proofs.simple.reads_of.Given as goal

abbrev pub invariant-loop-target : goal.invariant-loop-target
invariant-loop-target l = map stmt_tree l.reads.items ≡ map (λ x. ReadStmt l.line x) (map expr_tree l.yielded)
