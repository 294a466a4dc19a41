use Rattle.std.proofs.Common.{◌≡◌, map, drop}
use Rattle.fd_ast.specs.Tree.{attr_tree}
use Rattle.fd_names.proofs.Dealt.{AreRead}
use Rattle.fd_names.proofs.book.Book.attrs.Given as goal

abbrev pub invariant-loop-attr : goal.invariant-loop-attr
invariant-loop-attr l = record {
  walked : AreRead l.table l.line (map attr_tree l.attrs) l.initial.self.seen l.initial.self.worst (map attr_tree (drop l.attr-index l.attrs)) l.self.seen l.self.worst l.made;
  around : l.self.around ≡ l.initial.self.around;
}
