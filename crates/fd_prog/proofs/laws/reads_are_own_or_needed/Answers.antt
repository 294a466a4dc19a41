use Rattle.fd_prog.proofs.Agreement.{own_or_needed}
use Rattle.fd_prog.proofs.laws.reads_are_own_or_needed.Goals as goal

pub returns : goal.returns
returns c = own_or_needed
