use Rattle.fd_names.proofs.Arrayed.{arrays_are_declared}
use Rattle.fd_names.proofs.laws.arrays_are_declared.Goals as goal

pub returns : goal.returns
returns c = arrays_are_declared
