-- The end of a run in sequence as the end of a course.
use Rattle.std.specs.Prelude.{[], Option, Some, None, Ok, Err}
use Rattle.fd_prog.specs.Sequence.{Onward, Progress, Task}
use Rattle.fd_prog.specs.Stores.{first_store}
use Rattle.course_laws.specs.Courses.{Point}

abbrev pub point_of : Progress → Point
point_of now = record { store = now.store; steps = now.steps }

-- where a run goes on, or that it has ended
abbrev pub end_of : Onward → Option Point
end_of (Ok now) = Some (point_of now)
end_of (Err run) = None

-- before the first step
abbrev pub first_progress : Task → Progress
first_progress t = record { store = first_store t.program; steps = 0; lines = [] }
