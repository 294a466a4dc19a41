use Rattle.std.proofs.Common.{List, ◌∙◌, ap, map}
use Rattle.std.proofs.lemmas.List.{take_all}
use Rattle.fd_prog.specs.declared.item.Widened.{Widened}
use Rattle.fd_prog.specs.Items.{linear_loop_of}
use Rattle.section_num.proofs.copies.copy_all.Goals as goal

pub returns : goal.returns
returns c = c.loop-one.invariant ∙ ap (λ (xs : List Widened). map linear_loop_of xs) (take_all c.loop-one.one-index c.args.all.now c.loop-one-test.false)
