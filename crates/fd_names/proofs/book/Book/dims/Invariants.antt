use Rattle.std.proofs.Common.{◌≡◌, map, drop}
use Rattle.fd_ast.specs.Tree.{dim_tree}
use Rattle.fd_names.proofs.Walked.{IsMeasured}
use Rattle.fd_names.proofs.book.Book.dims.Given as goal

abbrev pub invariant-loop-dim : goal.invariant-loop-dim
invariant-loop-dim l = record {
  walked : IsMeasured l.table l.line (map dim_tree l.dims) l.initial.self.seen l.initial.self.worst (map dim_tree (drop l.dim-index l.dims)) l.self.seen l.self.worst l.ranges;
  around : l.self.around ≡ l.initial.self.around;
}
