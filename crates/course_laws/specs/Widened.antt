-- The loops over which an item is widened at a moment, and the present numbers of their variables.
use Rattle.std.specs.Prelude.{ℕ, ℤ, pos, List, map, slice_index_or}
use Rattle.fd_prog.specs.Items.{CountedLoop, Name, widened_over}
use Rattle.fd_prog.specs.Programs.{CheckedProgram}
use Rattle.course_laws.specs.Courses.{Moment, enclosing}

-- the loops over which an item with these names is widened there, the outermost first
abbrev pub widened_at : CheckedProgram → Moment → List Name → List CountedLoop
widened_at p m names = widened_over p (map enclosing m.around) names

-- their variables
abbrev pub variables_of : List CountedLoop → List ℕ
variables_of loops = map (λ (l : CountedLoop). l.var) loops

-- the present iteration
abbrev pub iteration_at : Moment → List CountedLoop → List ℤ
iteration_at m loops = map (λ k. slice_index_or m.now.store.scalars k (pos 0)) (variables_of loops)
