use Rattle.std.proofs.Common.{map, ap, ◌∙◌, arith}
use Rattle.fd_ast.specs.Tree.{decl_tree}
use Rattle.fd_names.proofs.Walked.{walked_one, drop-item}
use Rattle.fd_names.proofs.book.Book.decls.Goals as goal

pub loop-decl-preserved : goal.loop-decl-preserved
loop-decl-preserved c = record {
  walked = walked_one _ _ _ _ _ _ (decl_tree c.decl-item.result) _ _ _ _ _ _ c.loop-decl.invariant.walked (ap (map decl_tree) (drop-item c.args.decls.now c.loop-decl.decl-index c.decl-item.result (omega arith) c.decl-item.is)) c.in_ok-decl.ensures.seen c.in_ok-decl.ensures.base c.in_ok-decl.ensures.worst;
  around = c.in_ok-decl.ensures.around ∙ c.loop-decl.invariant.around;
}
