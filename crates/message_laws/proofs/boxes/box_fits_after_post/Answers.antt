use Rattle.message_laws.proofs.Kept.{box_posted}
use Rattle.message_laws.proofs.boxes.box_fits_after_post.Goals as goal

pub returns : goal.returns
returns c = box_posted
