use Rattle.std.proofs.Common.{◌≡◌, [], refl, sym, ap, ◌∙◌}
use Rattle.section_num.specs.Noting.{at_start}
use Rattle.section_num.specs.Views.{numbers_of}
use Rattle.section_num.proofs.Notings.{at_start_is, unset_numbers}
use Rattle.section_num.proofs.book.new_book.Goals as goal

pub returns-clause-noted : goal.returns-clause-noted
returns-clause-noted c =
    at_start_is c.new.result c.from_vec.result c.new-2.result c.new-3.result c.args.sites c.new.ensures (ap numbers_of c.from_vec.ensures ∙ (ap numbers_of (c.in_ok-unset.ensures.items_if_clones_equal (λ y e. e)) ∙ unset_numbers c.args.sites)) c.new-2.ensures c.new-3.ensures
