use Rattle.std.proofs.Common.{◌≡◌, Some, None, get_or, ◌∙◌}
use Rattle.fd_prog.specs.Items.{linear_item_of}
use Rattle.section_num.proofs.Founds.{is_beside, is_found}
use Rattle.section_num.proofs.firsts.place_for.Goals as goal

pub returns-in-Ok-clause-beside : goal.returns-in-Ok-clause-beside
returns-in-Ok-clause-beside c =
    let both : Some (get_or c.args.order.now c.in-Ok.at 0) ≡ None =
    is_found c.args.uses.now c.args.order.now c.requires.order (linear_item_of c.args.item.now) c.in-Ok.at c.in-Ok.ensures.bound c.in-Ok.ensures.found ∙ c.requires.new in
    absurd cc

pub returns-in-Err-clause-beside : goal.returns-in-Err-clause-beside
returns-in-Err-clause-beside c = is_beside c.args.uses.now c.args.order.now c.requires.order (linear_item_of c.args.item.now) c.in-Err.at c.in-Err.ensures.found
