use Rattle.gnt_solver.proofs.Items.{is_good}
use Rattle.gnt_solver.proofs.laws.placement_is_good.Goals as goal

pub returns : goal.returns
returns c = is_good
