use Rattle.fd_prog.proofs.Runs.{after-forward}
use Rattle.fd_prog.proofs.laws.steps_rise.Goals as goal

pub returns : goal.returns
returns c = after-forward
