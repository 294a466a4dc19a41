use Rattle.message_laws.proofs.Marks.{box_post}
use Rattle.message_laws.proofs.boxes.box_after_post.Goals as goal

pub returns : goal.returns
returns c = box_post
