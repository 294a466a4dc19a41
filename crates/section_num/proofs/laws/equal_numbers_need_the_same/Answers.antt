use Rattle.section_num.proofs.OneNumber.{one_item, one_item_at, one_need}
use Rattle.section_num.proofs.laws.equal_numbers_need_the_same.Goals as goal

pub returns : goal.returns
returns c = record {
  uses = λ p u v h g e s rank limit. one_need s u.item v.item rank limit (one_item p u v h e);
  references = λ p i j u v e f h s rank limit. one_need s u.item v.item rank limit (one_item_at p i j u v e f h);
}
