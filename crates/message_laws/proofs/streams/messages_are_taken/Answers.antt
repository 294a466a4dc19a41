use Rattle.message_laws.proofs.Taken.{all_taken}
use Rattle.message_laws.proofs.streams.messages_are_taken.Goals as goal

pub returns : goal.returns
returns c = all_taken
