use Rattle.course_laws.proofs.Visited.{open-visited}
use Rattle.course_laws.proofs.laws.open_iterations_are_visited.Goals as goal

pub returns : goal.returns
returns c = open-visited
