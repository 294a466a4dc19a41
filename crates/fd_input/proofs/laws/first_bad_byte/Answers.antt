use Rattle.fd_input.proofs.Firsts.{bad_is_first, read_has_none}
use Rattle.fd_input.proofs.laws.first_bad_byte.Goals as goal

pub returns-clause-bad : goal.returns-clause-bad
returns-clause-bad c = bad_is_first

pub returns-clause-good : goal.returns-clause-good
returns-clause-good c = read_has_none
