use Rattle.std.proofs.Common.{map, ap, ◌∙◌, arith}
use Rattle.fd_ast.specs.Tree.{attr_tree}
use Rattle.fd_names.proofs.Dealt.{read_one}
use Rattle.fd_names.proofs.Walked.{drop-item}
use Rattle.fd_names.proofs.book.Book.attrs.Goals as goal

pub loop-attr-preserved : goal.loop-attr-preserved
loop-attr-preserved c = record {
  walked = read_one _ _ _ _ _ _ _ (attr_tree c.attr-item.result) _ _ _ _ _ c.in_ok-dist.dist _ c.loop-attr.invariant.walked (ap (map attr_tree) (drop-item c.args.attrs.now c.loop-attr.attr-index c.attr-item.result (omega arith) c.attr-item.is)) c.in_ok-dist.ensures.seen c.in_ok-dist.ensures.worst c.in_ok-dist.ensures.meant c.in_ok-push.ensures.ok;
  around = c.in_ok-dist.ensures.around ∙ c.loop-attr.invariant.around;
}
