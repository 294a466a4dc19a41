use Rattle.fd_names.proofs.Valued.{valued}
use Rattle.fd_names.proofs.laws.constants_are_values.Goals as goal

pub returns : goal.returns
returns c = λ e r. valued r e
