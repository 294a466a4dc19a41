use Rattle.message_laws.proofs.Marks.{box_take}
use Rattle.message_laws.proofs.boxes.box_after_take.Goals as goal

pub returns : goal.returns
returns c = box_take
