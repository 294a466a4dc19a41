use Rattle.std.proofs.Common.{◌≡◌, drop}
use Rattle.fd_names.specs.Checked.{no_elements}
use Rattle.fd_names.specs.First.{met}
use Rattle.fd_names.specs.Totals.{total_refusals}
use Rattle.fd_names.proofs.book.Book.totals.Given as goal

abbrev pub invariant-loop-size : goal.invariant-loop-size
invariant-loop-size l = record {
  worst : met (total_refusals l.sizes l.dealt no_elements) l.initial.self.worst ≡ met (total_refusals (drop l.size-index l.sizes) l.flags l.total) l.self.worst;
  seen : l.self.seen ≡ l.initial.self.seen;
  around : l.self.around ≡ l.initial.self.around;
}
