use Rattle.message_laws.proofs.Whole.{is_emptied}
use Rattle.message_laws.proofs.interleavings.good_end_empties_boxes.Goals as goal

pub returns : goal.returns
returns c = is_emptied
