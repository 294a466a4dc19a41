use Rattle.std.proofs.Common.{◌≡◌, map}
use Rattle.fd_prog.specs.Items.{linear_item_of}
use Rattle.section_num.specs.declared.firsts.Use.{Use}
use Rattle.section_num.proofs.numbering.items_in.Given as goal

abbrev pub invariant-loop-one : goal.invariant-loop-one
invariant-loop-one l = map linear_item_of l.items ≡ map (λ (u : Use). linear_item_of u.item) l.yielded
