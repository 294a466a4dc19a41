use Rattle.std.proofs.Common.{map, ap, ◌∙◌, arith}
use Rattle.fd_ast.specs.Tree.{dim_tree}
use Rattle.fd_names.proofs.Walked.{measured_one, drop-item}
use Rattle.fd_names.proofs.book.Book.dims.Goals as goal

pub loop-dim-preserved : goal.loop-dim-preserved
loop-dim-preserved c = record {
  walked = measured_one _ _ _ _ _ _ _ (dim_tree c.dim-item.result) _ _ _ _ _ c.in_ok-range.range _ c.loop-dim.invariant.walked (ap (map dim_tree) (drop-item c.args.dims.now c.loop-dim.dim-index c.dim-item.result (omega arith) c.dim-item.is)) c.in_ok-range.ensures.seen c.in_ok-range.ensures.worst c.in_ok-range.ensures.meant c.in_ok-push.ensures.ok;
  around = c.in_ok-range.ensures.around ∙ c.loop-dim.invariant.around;
}
