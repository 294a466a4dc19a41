use Rattle.gnt_solver.proofs.Unique.{one_solution}
use Rattle.gnt_solver.proofs.laws.one_solution.Goals as goal

pub returns : goal.returns
returns c = one_solution
