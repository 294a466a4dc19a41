-- What holds at each moment of a course of an accepted program.
use Rattle.std.proofs.Common.{◌≡◌, ◌<◌, ◌≤◌, pos, ◌+ℤ◌, ◌*ℤ◌, true, List, ◌∷◌, All, Contains, slice_index_or, Option, subst}
use Rattle.std.proofs.lemmas.List.Elements.{All-contains}
use Rattle.fd_base.specs.Numbers.{fits_i64}
use Rattle.fd_prog.specs.Passed.{at_begin}
use Rattle.fd_prog.specs.Sequence.{Task}
use Rattle.fd_prog.specs.Words.{SetWords}
use Rattle.fd_prog.proofs.StoredWords.{passed-words}
use Rattle.program_laws.specs.Accepted.{IsAcceptedProgram}
use Rattle.rank_part.proofs.Sizes.{first-sizes}
use Rattle.course_laws.specs.Courses.{Around, InDo, IsCourse, Moment, OpenLoop, Point}
use Rattle.course_laws.specs.Ends.{first_progress}
use Rattle.course_laws.proofs.Onwards.{FitInput}
use Rattle.course_laws.proofs.Opens.{MomentOk, OpensOk, walk-all}

pub moments-ok : (t : Task) (ms : List Moment) (end : Option Point) → IsAcceptedProgram t.program → FitInput t → SetWords t.program.body → IsCourse t ms end → All (MomentOk t) ms
moments-ok t ms end accepted fit words c =
    walk-all t fit c (record { words = words; variables = accepted.checked.variables; sound = accepted.checked.sound.body }) tt tt
    (record { words = passed-words t (first_progress t) fit words at_begin; room = (first-sizes t.program).scalars }) tt

-- the innermost DO that is open has the number of its iteration, which is one of its iterations
pub open-number : (t : Task) (ms : List Moment) (end : Option Point) (m : Moment) (d : OpenLoop) (around : List Around) → IsAcceptedProgram t.program → All (λ n. fits_i64 n ≡ true) t.input → SetWords t.program.body → IsCourse t ms end → Contains ms m
    → m.around ≡ InDo d ∷ around → (slice_index_or m.now.store.scalars d.loop.var (pos 0) ≡ d.bounds.first +ℤ pos d.number *ℤ d.bounds.by) × (d.number < d.bounds.count) × (d.turned ≤ m.now.steps) × (d.turned ≤ t.limit)
open-number t ms end m d around accepted fit words c member e =
    let all = moments-ok t ms end accepted fit words c in
    let P : List Around → Type 0 = λ a. OpensOk t a m.now in
    let ok = subst P e (All-contains (MomentOk t) ms m all member) in
    (ok.0.value, ok.0.below, ok.0.turned, ok.0.limit)
