use Rattle.std.proofs.Common.{◌≡◌, ◌++◌, map}
use Rattle.fd_ast.specs.Tree.{decl_tree}
use Rattle.fd_parser.proofs.source.append_decls.Given as goal

abbrev pub invariant-loop-decl : goal.invariant-loop-decl
invariant-loop-decl l = map decl_tree l.to.items ≡ map decl_tree l.initial.to.items ++ map decl_tree l.yielded
