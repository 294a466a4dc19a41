use Rattle.fd_names.proofs.Early.{known_where_declared}
use Rattle.fd_names.proofs.laws.known_where_declared.Goals as goal

pub returns : goal.returns
returns c = known_where_declared
