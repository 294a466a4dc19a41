use Rattle.gnt_solver.proofs.Unique.{one_placement}
use Rattle.gnt_solver.proofs.laws.one_placement.Goals as goal

pub returns : goal.returns
returns c = one_placement
