use Rattle.message_laws.proofs.Whole.{reached_facts, is_right}
use Rattle.message_laws.specs.System.{reached}
use Rattle.message_laws.proofs.interleavings.interleavings_are_right.Goals as goal

pub returns : goal.returns
returns c = λ b h lt s k ps i o first. is_right b h lt (reached s ps) (reached_facts b h s k ps i) o first
