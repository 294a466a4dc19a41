use Rattle.fd_names.proofs.FirstSpread.{first_distribution}
use Rattle.fd_names.proofs.laws.first_distribution_stands.Goals as goal

pub returns : goal.returns
returns c = first_distribution
