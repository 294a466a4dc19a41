use Rattle.message_laws.proofs.Marks.{box_has}
use Rattle.message_laws.proofs.boxes.box_has_a_message.Goals as goal

pub returns : goal.returns
returns c = box_has
