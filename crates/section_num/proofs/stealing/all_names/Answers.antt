use Rattle.std.proofs.Common.{List, ◌∙◌, ap, map}
use Rattle.std.proofs.lemmas.List.{take_all}
use Rattle.fd_prog.specs.declared.item.Item.{Item}
use Rattle.fd_prog.specs.Items.{item_names, linear_item_of}
use Rattle.fd_prog.specs.Programs.{program_of}
use Rattle.section_num.proofs.stealing.all_names.Goals as goal

pub returns : goal.returns
returns c =
    c.loop-item.invariant ∙ ap (λ (xs : List Item). map (item_names (program_of c.args.program.now)) (map linear_item_of xs)) (take_all c.loop-item.item-index c.args.items.now c.loop-item-test.false)
