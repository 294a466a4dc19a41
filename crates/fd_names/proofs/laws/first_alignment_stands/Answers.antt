use Rattle.fd_names.proofs.FirstAlignment.{first_alignment}
use Rattle.fd_names.proofs.laws.first_alignment_stands.Goals as goal

pub returns : goal.returns
returns c = first_alignment
