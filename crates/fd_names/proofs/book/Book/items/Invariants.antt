use Rattle.std.proofs.Common.{◌≡◌, map, drop}
use Rattle.fd_ast.specs.Tree.{item_tree}
use Rattle.fd_prog.specs.Statements.{print_item_of}
use Rattle.fd_names.proofs.Walked.{IsPrinted}
use Rattle.fd_names.proofs.book.Book.items.Given as goal

abbrev pub invariant-loop-item : goal.invariant-loop-item
invariant-loop-item l = record {
  walked : IsPrinted l.table l.line (map item_tree l.items) l.initial.self.seen l.initial.self.worst (map item_tree (drop l.item-index l.items)) l.self.seen l.self.worst (map print_item_of l.parts);
  around : l.self.around ≡ l.initial.self.around;
}
