use Rattle.fd_names.proofs.Scoped.{known_before}
use Rattle.fd_names.proofs.laws.known_before.Goals as goal

pub returns : goal.returns
returns c = known_before
