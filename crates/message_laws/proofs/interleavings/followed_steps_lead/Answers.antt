use Rattle.message_laws.proofs.Followed.{follows_leads}
use Rattle.message_laws.proofs.interleavings.followed_steps_lead.Goals as goal

pub returns : goal.returns
returns c = follows_leads
