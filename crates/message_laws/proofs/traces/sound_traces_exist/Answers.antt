use Rattle.std.proofs.Common.{arith}
use Rattle.message_laws.proofs.Ways.{some_not_none}
use Rattle.message_laws.proofs.Sample.{trace, sound}
use Rattle.message_laws.proofs.traces.sound_traces_exist.Goals as goal

pub returns : goal.returns
returns c = (trace, sound, (λ e. some_not_none e), omega arith)
