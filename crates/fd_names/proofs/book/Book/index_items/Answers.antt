use Rattle.std.proofs.Common.{map, ap, ◌∙◌, arith}
use Rattle.fd_prog.specs.Statements.{print_item_of}
use Rattle.fd_names.proofs.Indexed.{indexed_one}
use Rattle.fd_names.proofs.Walked.{drop-item}
use Rattle.fd_names.proofs.book.Book.index_items.Goals as goal

pub loop-item-preserved : goal.loop-item-preserved
loop-item-preserved c = record {
  worst = indexed_one _ _ _ _ (print_item_of c.item-item.result) _ _ _ c.loop-item.invariant.worst (ap (map print_item_of) (drop-item c.args.items.now c.loop-item.item-index c.item-item.result (omega arith) c.item-item.is)) (ap (λ b. b.worst) c.in_ok-index_item.ensures);
  seen = ap (λ b. b.seen) c.in_ok-index_item.ensures ∙ c.loop-item.invariant.seen;
  around = ap (λ b. b.around) c.in_ok-index_item.ensures ∙ c.loop-item.invariant.around;
}
