-- A trip of the machine: from a configuration to a position, beside what the run in sequence makes of it.
use Rattle.std.proofs.Common.{◌≡◌, ℕ, ◌+◌, ◌≤◌, List, [], ◌∷◌, ◌++◌, Some, None, Ok, refl, sym, ap, ◌∙◌, subst, arith, append_assoc}
use Rattle.std.specs.Prelude.{filter, nat_lt}
use Rattle.fd_base.specs.declared.numbers.FaultKind.{FaultKind}
use Rattle.fd_prog.specs.declared.run.Outcome.TheVariants.{Fault}
use Rattle.fd_prog.specs.declared.run.Printed.{Printed}
use Rattle.fd_prog.specs.Outcomes.{and_then}
use Rattle.fd_prog.specs.Sequence.{Progress, Onward, ends_at, ended}
use Rattle.exec_code.specs.Instructions.{FlatJob, Stop}
use Rattle.fd_prog.specs.Mappings.{Mapping}
use Rattle.exec_code.specs.Machine.{OpenLoop, Configuration, Goes, Notes, Faults, Ends, act_where, effect, instruction_at, line_at}
use Rattle.exec_code.specs.Passing.{Mark, has_begun, marks_where, way_where, decided, marks_at, marks_of}
use Rattle.exec_code.specs.Traces.{Walks, here, by_way_of, next, next_in, Noted, noted_by, or_else, first_noted, run_until}
use Rattle.exec_code.proofs.Growing.{LinesAbove, LinesUpTo, Grows, lines_below, lines_all_below, grows_not, grows_then, up_to_grown, goes_grows, notes_counts, counts_grows}

-- the machine stands at a position
abbrev pub standing : ℕ → Progress → Mapping → List OpenLoop → Configuration
standing at now mapping loops = record { at = at; now = now; mapping = mapping; loops = loops }

-- the run in sequence ends by a fault where the machine stands
abbrev pub fault_at : FlatJob → Configuration → FaultKind → Onward
fault_at j c kind = ends_at (line_at j c.at) kind c.now

-- the machine comes from a configuration to position `to` with these loops open and with marks that are `good`, or a fault of all ranks ends its trace on the way, with marks that are `kept`;
-- the run in sequence comes to the same progress, or ends by the first fault of the trip. The marks are all that was passed before
pub data Trip (j : FlatJob) (kept : List Mark → Type 0) (to : ℕ) (loops : List OpenLoop) (good : List Mark → Type 0) : Configuration → List Mark → Onward → Type 0 where
  arrives : (now : Progress) (mapping : Mapping) (ms : List Mark) → good ms → Trip j kept to loops good (standing to now mapping loops) ms (Ok now)
  goes : {c : Configuration} {ms : List Mark} {o : Onward} (d : Configuration) → effect j c ≡ Goes d → Trip j kept to loops good d (ms ++ marks_at j c) o → Trip j kept to loops good c ms o
  notes : {c : Configuration} {ms : List Mark} (d : Configuration) (o : Onward) (kind : FaultKind) → effect j c ≡ Notes kind d → Trip j kept to loops good d (ms ++ marks_at j c) o
      → Trip j kept to loops good c ms (fault_at j c kind)
  faults : {c : Configuration} {ms : List Mark} (kind : FaultKind) → effect j c ≡ Faults kind → kept (ms ++ marks_at j c) → Trip j kept to loops good c ms (fault_at j c kind)

-- one trip behind the other
pub trip_then : (j : FlatJob) (kept : List Mark → Type 0) (to : ℕ) (loops : List OpenLoop) (good : List Mark → Type 0) (end : ℕ) (outer : List OpenLoop) (better : List Mark → Type 0)
    (c : Configuration) (ms : List Mark) (o : Onward) (f : Progress → Onward) → Trip j kept to loops good c ms o
    → ((now : Progress) (mapping : Mapping) (ns : List Mark) → good ns → c.now.steps ≤ now.steps → Trip j kept end outer better (standing to now mapping loops) ns (f now)) → Trip j kept end outer better c ms (and_then o f)
trip_then j kept to loops good end outer better c ms o f (arrives now mapping ns fine) go = go now mapping ns fine (omega arith)
trip_then j kept to loops good end outer better c ms o f (goes d e rest) go =
    let up = goes_grows j c d e in
    goes d e (trip_then j kept to loops good end outer better d (ms ++ marks_at j c) o f rest (λ now mapping ns fine h. go now mapping ns fine (omega (arith, up.steps, h))))
trip_then j kept to loops good end outer better c ms o f (notes d p kind e rest) go =
    let up = notes_counts j c d kind e in
    notes d (and_then p f) kind e (trip_then j kept to loops good end outer better d (ms ++ marks_at j c) p f rest (λ now mapping ns fine h. go now mapping ns fine (omega (arith, up.steps, h))))
trip_then j kept to loops good end outer better c ms o f (faults kind e fine) go = faults kind e fine

-- how a trip to a Stop ends, by all that was passed
pub data Ending (j : FlatJob) (kept good : List Mark → Type 0) (last : Configuration) (ms : List Mark) : Type 0 where
  stops : effect j last ≡ Ends → good ms → Ending j kept good last ms
  fails : (kind : FaultKind) → effect j last ≡ Faults kind → kept ms → Ending j kept good last ms

-- what a trip to a Stop is: a walk to an end, with the lines and the end that the run in sequence has
pub record Comes (j : FlatJob) (kept good : List Mark → Type 0) (c : Configuration) (ms : List Mark) (o : Onward) : Type 0 where
  pub before : List Configuration
  pub last : Configuration
  pub walks : Walks j c before last
  pub ending : Ending j kept good last (ms ++ marks_of j (before ++ (last ∷ [])))
  pub grows : Grows c.now last.now
  pub run : run_until (first_noted j (before ++ (last ∷ []))) last.now.lines ≡ ended o

append_none : (ms : List Mark) → ms ++ [] ≡ ms
append_none [] = refl
append_none (m ∷ ms) = ap (λ t. m ∷ t) (append_none ms)

-- the marks where the machine stands, and those behind
more_marks : (j : FlatJob) (kept good : List Mark → Type 0) (last : Configuration) (ms xs ys : List Mark) → Ending j kept good last ((ms ++ xs) ++ ys) → Ending j kept good last (ms ++ (xs ++ ys))
more_marks j kept good last ms xs ys h = subst (Ending j kept good last) (append_assoc ms xs ys) h

pub comes_of_trip : (j : FlatJob) (kept : List Mark → Type 0) (to : ℕ) (loops : List OpenLoop) (good : List Mark → Type 0) (c : Configuration) (ms : List Mark) (o : Onward) → instruction_at j to ≡ Some Stop
    → LinesUpTo c.now.steps c.now.lines → Trip j kept to loops good c ms o → Comes j kept good c ms o
comes_of_trip j kept to loops good c ms o stop lines (arrives now mapping ns fine) =
    let d = standing to now mapping loops in
    let over : effect j d ≡ Ends = ap (λ i. act_where j i d) stop in
    let none : marks_at j d ≡ [] = ap (λ i. marks_where j (has_begun loops) (line_at j to) i ++ decided (way_where j i d) (effect j d)) stop in
    record {
      before = [];
      last = d;
      walks = here;
      ending = stops over (subst good (sym (ap (λ l. ms ++ (l ++ [])) none ∙ append_none ms)) fine);
      grows = grows_not now;
      run = ap (λ e. run_until (or_else (noted_by now.steps (line_at j to) e) None) now.lines) over;
    }
comes_of_trip j kept to loops good c ms o stop lines (goes d e rest) =
    let up = goes_grows j c d e in
    let x = comes_of_trip j kept to loops good d (ms ++ marks_at j c) o stop (up_to_grown c.now d.now up lines) rest in
    record {
      before = c ∷ x.before;
      last = x.last;
      walks = by_way_of (ap next_in e) x.walks;
      ending = more_marks j kept good x.last ms (marks_at j c) (marks_of j (x.before ++ (x.last ∷ []))) x.ending;
      grows = grows_then c.now d.now x.last.now up x.grows;
      run = ap (λ f. run_until (or_else (noted_by c.now.steps (line_at j c.at) f) (first_noted j (x.before ++ (x.last ∷ [])))) x.last.now.lines) e ∙ x.run;
    }
comes_of_trip j kept to loops good c ms o stop lines (notes d p kind e rest) =
    let one = notes_counts j c d kind e in
    let up = counts_grows c.now d.now one in
    let x = comes_of_trip j kept to loops good d (ms ++ marks_at j c) p stop (up_to_grown c.now d.now up lines) rest in
    let f : Noted = record { step = c.now.steps + 1; line = line_at j c.at; kind = kind } in
    let above : LinesAbove (c.now.steps + 1) x.grows.more = subst (λ n. LinesAbove n x.grows.more) one.steps x.grows.above in
    let kept_lines : filter (λ (l : Printed). nat_lt l.step (c.now.steps + 1)) x.last.now.lines ≡ c.now.lines =
    ap (λ ls. filter (λ (l : Printed). nat_lt l.step (c.now.steps + 1)) ls) (x.grows.lines ∙ ap (λ ls. ls ++ x.grows.more) one.lines) ∙ lines_below c.now.steps c.now.lines x.grows.more lines above in
    record {
      before = c ∷ x.before;
      last = x.last;
      walks = by_way_of (ap next_in e) x.walks;
      ending = more_marks j kept good x.last ms (marks_at j c) (marks_of j (x.before ++ (x.last ∷ []))) x.ending;
      grows = grows_then c.now d.now x.last.now up x.grows;
      run = ap (λ g. run_until (or_else (noted_by c.now.steps (line_at j c.at) g) (first_noted j (x.before ++ (x.last ∷ [])))) x.last.now.lines) e
          ∙ ap (λ (ls : List Printed). record { lines = ls; outcome = Fault f.step f.line f.kind }) kept_lines;
    }
comes_of_trip j kept to loops good c ms o stop lines (faults kind e fine) = record {
  before = [];
  last = c;
  walks = here;
  ending = fails kind e (subst kept (ap (λ l. ms ++ l) (sym (append_none (marks_at j c)))) fine);
  grows = grows_not c.now;
  run = ap (λ g. run_until (or_else (noted_by c.now.steps (line_at j c.at) g) None) c.now.lines) e
      ∙ ap (λ (ls : List Printed). record { lines = ls; outcome = Fault (c.now.steps + 1) (line_at j c.at) kind }) (lines_all_below c.now.steps c.now.lines lines);
}

-- at an end no configuration comes next
pub ending_over : (j : FlatJob) (kept good : List Mark → Type 0) (c : Configuration) (ms : List Mark) → Ending j kept good c ms → next j c ≡ None
ending_over j kept good c ms (stops e h) = ap next_in e
ending_over j kept good c ms (fails kind e h) = ap next_in e
