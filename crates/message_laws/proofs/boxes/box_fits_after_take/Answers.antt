use Rattle.message_laws.proofs.Kept.{box_taken}
use Rattle.message_laws.proofs.boxes.box_fits_after_take.Goals as goal

pub returns : goal.returns
returns c = box_taken
