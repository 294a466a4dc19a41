use Rattle.std.proofs.Common.{length}
use Rattle.fd_names.proofs.distributions.+has_one.Given as goal

abbrev pub decreases-has_one : goal.decreases-has_one
decreases-has_one l = length l.attrs.now
