use Rattle.message_laws.proofs.Marks.{box_gives}
use Rattle.message_laws.proofs.boxes.box_gives_the_message.Goals as goal

pub returns : goal.returns
returns c = box_gives
