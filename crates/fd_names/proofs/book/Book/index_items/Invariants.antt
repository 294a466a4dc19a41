use Rattle.std.proofs.Common.{◌≡◌, map, drop}
use Rattle.fd_prog.specs.Statements.{print_item_of}
use Rattle.fd_names.specs.First.{noted}
use Rattle.fd_names.specs.Locality.{index_in_items}
use Rattle.fd_names.proofs.book.Book.index_items.Given as goal

abbrev pub invariant-loop-item : goal.invariant-loop-item
invariant-loop-item l = record {
  worst : noted l.line (index_in_items l.dealt (map print_item_of l.items)) l.initial.self.worst ≡ noted l.line (index_in_items l.dealt (map print_item_of (drop l.item-index l.items))) l.self.worst;
  seen : l.self.seen ≡ l.initial.self.seen;
  around : l.self.around ≡ l.initial.self.around;
}
