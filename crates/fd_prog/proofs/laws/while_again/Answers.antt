use Rattle.fd_prog.proofs.Runs.{after-While}
use Rattle.fd_prog.proofs.laws.while_again.Goals as goal

pub returns : goal.returns
returns c = after-While
