use Rattle.std.proofs.Common.{◌≡◌, ◌≤◌}
use Rattle.fd_prog.specs.Statements.{statement_of, statements_of}
use Rattle.fd_names.specs.First.{met}
use Rattle.fd_names.specs.Locality.{all_index_refusals}
use Rattle.fd_prog.proofs.Sizes.{weight_in, weight_among}
use Rattle.fd_names.proofs.book.Book.+index_statements.Given as goal

abbrev pub decreases-index_stmt : goal.decreases-index_stmt
decreases-index_stmt l = weight_in (statement_of l.stmt.now)

abbrev pub decreases-index_stmts : goal.decreases-index_stmts
decreases-index_stmts l = weight_among (statements_of l.list.now)

abbrev pub invariant-index_stmts-loop-left : goal.invariant-index_stmts-loop-left
invariant-index_stmts-loop-left l = record {
  smaller : weight_among (statements_of l.left) ≤ weight_among (statements_of l.fn.list);
  worst : met (all_index_refusals l.dealt (statements_of l.list)) l.initial.self.worst ≡ met (all_index_refusals l.dealt (statements_of l.left)) l.self.worst;
  seen : l.self.seen ≡ l.initial.self.seen;
  around : l.self.around ≡ l.initial.self.around;
}
