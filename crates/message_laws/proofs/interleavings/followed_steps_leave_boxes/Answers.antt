use Rattle.message_laws.proofs.Followed.{follows_boxes}
use Rattle.message_laws.proofs.interleavings.followed_steps_leave_boxes.Goals as goal

pub returns : goal.returns
returns c = follows_boxes
