use Rattle.place_check.proofs.One.{one}
use Rattle.place_check.proofs.laws.one_verdict.Goals as goal

pub returns : goal.returns
returns c = one
