use Rattle.fd_names.proofs.Called.{functions_stand}
use Rattle.fd_names.proofs.laws.functions_stand.Goals as goal

pub returns : goal.returns
returns c = functions_stand
