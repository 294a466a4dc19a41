use Rattle.fd_names.proofs.FirstLaws.{one_first}
use Rattle.fd_names.proofs.laws.one_first.Goals as goal

pub returns : goal.returns
returns c = one_first
