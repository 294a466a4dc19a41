use Rattle.message_laws.proofs.Sound.{lawful}
use Rattle.message_laws.proofs.traces.sound_traces_are_lawful.Goals as goal

pub returns : goal.returns
returns c = lawful
