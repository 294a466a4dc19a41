use Rattle.gnt_solver.proofs.Alike.{solved_alike}
use Rattle.gnt_solver.proofs.laws.placement_is_told.Goals as goal

pub returns : goal.returns
returns c = solved_alike
