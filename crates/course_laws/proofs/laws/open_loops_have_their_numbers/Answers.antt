use Rattle.course_laws.proofs.Moments.{open-number}
use Rattle.course_laws.proofs.laws.open_loops_have_their_numbers.Goals as goal

pub returns : goal.returns
returns c = open-number
