use Rattle.std.proofs.Common.{length}
use Rattle.fd_names.proofs.distributions.+has_none.Given as goal

abbrev pub decreases-has_none : goal.decreases-has_none
decreases-has_none l = length l.attrs.now
