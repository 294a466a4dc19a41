use Rattle.std.proofs.Common.{◌∙◌}
use Rattle.section_num.proofs.NameLists.{swapped}
use Rattle.section_num.proofs.widening.has_any.Goals as goal

pub returns : goal.returns
returns c = c.is_set.ensures ∙ swapped c.args.names.now c.args.sets.now
