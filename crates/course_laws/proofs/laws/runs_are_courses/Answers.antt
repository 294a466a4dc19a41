use Rattle.std.specs.Prelude.{[]}
use Rattle.course_laws.specs.Ends.{first_progress}
use Rattle.course_laws.proofs.Running.{statements-run}
use Rattle.course_laws.proofs.laws.runs_are_courses.Goals as goal

pub returns : goal.returns
returns c = λ t. statements-run t t.program.body [] (first_progress t)
