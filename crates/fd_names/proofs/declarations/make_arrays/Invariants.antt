use Rattle.std.proofs.Common.{◌≡◌, map, drop}
use Rattle.fd_ast.specs.Tree.{decl_tree}
use Rattle.fd_names.specs.Declarations.{make_arrays}
use Rattle.fd_names.proofs.declarations.make_arrays.Given as goal

abbrev pub invariant-loop-decl : goal.invariant-loop-decl
invariant-loop-decl l = make_arrays (map decl_tree l.decls) l.initial.made ≡ make_arrays (map decl_tree (drop l.decl-index l.decls)) l.made
