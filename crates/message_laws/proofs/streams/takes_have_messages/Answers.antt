use Rattle.message_laws.proofs.Matched.{law}
use Rattle.message_laws.proofs.streams.takes_have_messages.Goals as goal

pub returns : goal.returns
returns c = law
