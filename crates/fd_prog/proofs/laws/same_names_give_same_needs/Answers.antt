use Rattle.fd_prog.proofs.Agreement.{needs_same, read_names_are_own}
use Rattle.fd_prog.proofs.laws.same_names_give_same_needs.Goals as goal

pub returns-clause-needs : goal.returns-clause-needs
returns-clause-needs c = needs_same

pub returns-clause-names : goal.returns-clause-names
returns-clause-names c = read_names_are_own
