use Rattle.fd_parser.proofs.Nesting as nesting
use Rattle.fd_parser.proofs.law.nesting_is_bounded.Goals as goal

pub returns : goal.returns
returns c = nesting.nesting_bound
