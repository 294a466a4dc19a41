use Rattle.std.proofs.Common.{map, ap, ◌∙◌, arith}
use Rattle.std.proofs.lemmas.List.{map-append}
use Rattle.fd_ast.specs.Tree.{item_tree}
use Rattle.fd_prog.specs.Statements.{print_item_of}
use Rattle.fd_names.proofs.Walked.{printed_one, drop-item}
use Rattle.fd_names.proofs.book.Book.items.Goals as goal

pub loop-item-preserved : goal.loop-item-preserved
loop-item-preserved c = record {
  walked = printed_one _ _ _ _ _ _ _ (item_tree c.item-item.result) _ _ _ _ _ (print_item_of c.in_ok-part.part) _ c.loop-item.invariant.walked (ap (map item_tree) (drop-item c.args.items.now c.loop-item.item-index c.item-item.result (omega arith) c.item-item.is)) c.in_ok-part.ensures.seen c.in_ok-part.ensures.worst c.in_ok-part.ensures.meant (ap (map print_item_of) c.in_ok-push.ensures.ok ∙ map-append print_item_of _ _);
  around = c.in_ok-part.ensures.around ∙ c.loop-item.invariant.around;
}
