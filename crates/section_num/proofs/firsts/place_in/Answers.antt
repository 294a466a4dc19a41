use Rattle.std.proofs.Common.{Some, ap, ◌∙◌}
use Rattle.fd_prog.specs.Items.{linear_item_of}
use Rattle.section_num.proofs.Founds.{is_found, is_missing}
use Rattle.section_num.proofs.firsts.place_in.Goals as goal

pub returns-in-Ok-clause-value : goal.returns-in-Ok-clause-value
returns-in-Ok-clause-value c =
    ap Some c.from.ensures ∙ is_found c.args.uses.now c.args.order.now c.requires (linear_item_of c.args.item.now) c.in-Ok.at c.in-Ok.ensures.bound c.in-Ok.ensures.found

pub returns-in-Err-clause-value : goal.returns-in-Err-clause-value
returns-in-Err-clause-value c = is_missing c.args.uses.now c.args.order.now c.requires (linear_item_of c.args.item.now) c.in-Err.field-0 c.in-Err.ensures.found
