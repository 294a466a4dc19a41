use Rattle.fd_names.proofs.StatementsStanding.{program_stands}
use Rattle.fd_names.proofs.laws.program_stands.Goals as goal

pub returns : goal.returns
returns c = program_stands
