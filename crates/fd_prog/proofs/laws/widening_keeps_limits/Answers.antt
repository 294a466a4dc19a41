use Rattle.fd_prog.proofs.Widening.{all_ranks-same, form-same, homes-same}
use Rattle.fd_prog.proofs.laws.widening_keeps_limits.Goals as goal

pub returns-clause-forms : goal.returns-clause-forms
returns-clause-forms c = form-same

pub returns-clause-for_all_ranks : goal.returns-clause-for_all_ranks
returns-clause-for_all_ranks c = all_ranks-same

pub returns-clause-for_homes : goal.returns-clause-for_homes
returns-clause-for_homes c = homes-same
