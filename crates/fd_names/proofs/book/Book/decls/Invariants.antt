use Rattle.std.proofs.Common.{◌≡◌, map, drop}
use Rattle.fd_ast.specs.Tree.{decl_tree}
use Rattle.fd_names.proofs.Walked.{IsWalked}
use Rattle.fd_names.proofs.book.Book.decls.Given as goal

abbrev pub invariant-loop-decl : goal.invariant-loop-decl
invariant-loop-decl l = record {
  walked : IsWalked (map decl_tree l.decls) l.initial.self.seen l.initial.base l.initial.self.worst (map decl_tree (drop l.decl-index l.decls)) l.self.seen l.base l.self.worst;
  around : l.self.around ≡ l.initial.self.around;
}
