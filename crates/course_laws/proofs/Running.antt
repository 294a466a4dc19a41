-- The run of a program is one of its courses.
use Rattle.std.proofs.Common.{◌≡◌, ℕ, zero, suc, ◌+◌, ◌-◌, ◌<◌, Bool, true, false, nat_lt, List, ◌∷◌, Result, Ok, Err, refl, subst, arith}
use Rattle.std.proofs.lemmas.Bool.{ltb-true}
use Rattle.fd_base.specs.declared.numbering.Line.{Line}
use Rattle.fd_base.specs.declared.numbers.FaultKind.{FaultKind}
use Rattle.fd_prog.specs.declared.statement.Remapped.{Remapped}
use Rattle.fd_prog.specs.Conditions.{Condition}
use Rattle.fd_prog.specs.Outcomes.{and_then}
use Rattle.fd_prog.specs.Sequence.{Bounds, Onward, Progress, Task, after, after_all, allowed, bounds_of, chosen, iterations, line_text, looped, store_step, while_tests, with_line}
use Rattle.fd_prog.specs.Statements.{Statement, Assign, If, Do, While, Read, Print, Continue, Distribute, Statements, Empty, Then}
use Rattle.fd_prog.specs.Stores.{Store, ScalarCell, assigned, put, read_into, readings_of}
use Rattle.fd_prog.specs.Values.{truth_of}
use Rattle.course_laws.specs.Courses.{Around, InSide, InWhile, InDo, Loop, OpenLoop, Moment, Stores, assigns, reads, prints, rests, maps, turned_store, iterating, next_turn, Course, halts, does, takes, starts, misses, enters, repeats, CourseAll, over, stops, goes_on, Turning, waits, leaves, inside, iterates}
use Rattle.course_laws.specs.Ends.{end_of, point_of}

-- steps that leave the store as it was
abbrev kept : Store → Result Store FaultKind
kept s = Ok s

rested : (t : Task) (line : Line) (s x : Store) → kept s ≡ Ok x → Stores t (Continue line) s x
rested t line s x h = let same : s ≡ x = cc in let P : Store → Type 0 = Stores t (Continue line) s in subst P same rests

mapped : (t : Task) (line : Line) (decomp : ℕ) (given : Remapped) (s x : Store) → kept s ≡ Ok x → Stores t (Distribute line decomp given) s x
mapped t line decomp given s x h = let same : s ≡ x = cc in let P : Store → Type 0 = Stores t (Distribute line decomp given) s in subst P same maps

-- there is a course of this end
abbrev Runs : Task → List Around → Statement → Progress → Onward → Type 0
Runs t around s now o = (ms : List Moment) × Course t around s (point_of now) ms (end_of o)

abbrev RunsAll : Task → List Around → Statements → Progress → Onward → Type 0
RunsAll t around ss now o = (ms : List Moment) × CourseAll t around ss (point_of now) ms (end_of o)

abbrev RunsTurning : Task → List Around → OpenLoop → Progress → Onward → Type 0
RunsTurning t around d now o = (ms : List Moment) × Turning t around d (point_of now) ms (end_of o)

abbrev later : Progress → Progress
later now = record now { steps = now.steps + 1 }

abbrev stored : Progress → Store → Progress
stored now s = record (later now) { store = s }

-- a simple step
simple : (t : Task) (around : List Around) (s : Statement) (line : Line) (now : Progress) (r : Result Store FaultKind) (b : Bool) → nat_lt now.steps t.limit ≡ b → ((x : Store) → r ≡ Ok x → Stores t s now.store x)
    → Runs t around s now (allowed b line now r (λ store behind. Ok (record behind { store = store })))
simple t around s line now (Ok x) true e h = (_, does (ltb-true now.steps t.limit e) (h x refl))
simple t around s line now (Err kind) true e h = (_, halts)
simple t around s line now r false e h = (_, halts)

printed : (t : Task) (around : List Around) (s : Statement) (line : Line) (now : Progress) (r : Result (List ℕ) FaultKind) (b : Bool) → nat_lt now.steps t.limit ≡ b → Stores t s now.store now.store
    → Runs t around s now (allowed b line now r (λ text next. Ok (with_line text next)))
printed t around s line now (Ok x) true e h = (_, does (ltb-true now.steps t.limit e) h)
printed t around s line now (Err kind) true e h = (_, halts)
printed t around s line now r false e h = (_, halts)

branch : (t : Task) (around : List Around) (line : Line) (c : Condition) (so otherwise : Statements) (now : Progress) (r : Result Bool FaultKind) (b : Bool) → nat_lt now.steps t.limit ≡ b → truth_of (readings_of t.program now.store) c ≡ r
    → RunsAll t (InSide ∷ around) so (later now) (after_all t so (later now)) → RunsAll t (InSide ∷ around) otherwise (later now) (after_all t otherwise (later now))
    → Runs t around (If line c so otherwise) now (allowed b line now r (λ d. chosen d (after_all t so) (after_all t otherwise)))
branch t around line c so otherwise now (Ok true) true e k x y = (_, takes true (ltb-true now.steps t.limit e) k x.1)
branch t around line c so otherwise now (Ok false) true e k x y = (_, takes false (ltb-true now.steps t.limit e) k y.1)
branch t around line c so otherwise now (Err kind) true e k x y = (_, halts)
branch t around line c so otherwise now r false e k x y = (_, halts)

-- the last test of an open DO
last-turn : (t : Task) (around : List Around) (line : Line) (d : OpenLoop) (now : Progress) → d.number ≡ d.bounds.count → (r : Result Store FaultKind) → turned_store d.number d.loop.var d.bounds.by now.store ≡ r → (b : Bool) → nat_lt now.steps t.limit ≡ b
    → RunsTurning t around d now (allowed b line now r (λ store behind. Ok (record behind { store = store })))
last-turn t around line d now k (Ok next) e true lt = (_, leaves (ltb-true now.steps t.limit lt) e k)
last-turn t around line d now k (Err kind) e true lt = (_, waits)
last-turn t around line d now k r e false lt = (_, waits)

-- a test behind which an iteration begins; `next` is what follows the iteration
turn-then : (t : Task) (around : List Around) (line : Line) (d : OpenLoop) (now : Progress) (next : Progress → Onward) → d.number < d.bounds.count → ((m : Progress) → RunsTurning t around (next_turn d) m (next m))
    → ((m : Progress) → RunsAll t (InDo (iterating d (point_of now)) ∷ around) d.loop.body m (after_all t d.loop.body m)) → (r : Result Store FaultKind) → turned_store d.number d.loop.var d.bounds.by now.store ≡ r → (b : Bool) → nat_lt now.steps t.limit ≡ b
    → RunsTurning t around d now (allowed b line now r (λ store behind. and_then (after_all t d.loop.body (record behind { store = store })) next))
turn-then t around line d now next k rest runs (Ok s) e true lt = by (after_all t d.loop.body (stored now s)) (runs (stored now s))
  where
    by : (o : Onward) → RunsAll t (InDo (iterating d (point_of now)) ∷ around) d.loop.body (stored now s) o → RunsTurning t around d now (and_then o next)
    by (Ok m) x = let y = rest m in (_, iterates (ltb-true now.steps t.limit lt) e k x.1 y.1)
    by (Err run) x = (_, inside (ltb-true now.steps t.limit lt) e k x.1)
turn-then t around line d now next k rest runs (Err kind) e true lt = (_, waits)
turn-then t around line d now next k rest runs r e false lt = (_, waits)

-- an open DO from a test on, with so many iterations left
turning : (t : Task) (around : List Around) (line : Line) (l : Loop) (b : Bounds) (began : ℕ) → ((others : List Around) (n : Progress) → RunsAll t others l.body n (after_all t l.body n)) → (left number turned : ℕ) (now : Progress) → number + left ≡ b.count
    → RunsTurning t around (record { loop = l; bounds = b; began = began; number = number; turned = turned }) now (store_step t.limit line now (turned_store number l.var b.by now.store) (iterations t.limit line l.var b.by (after_all t l.body) left))
turning t around line l b began runs zero number turned now k =
    last-turn t around line (record { loop = l; bounds = b; began = began; number = number; turned = turned }) now (omega (arith, k)) (turned_store number l.var b.by now.store) refl (nat_lt now.steps t.limit) refl
turning t around line l b began runs (suc left) number turned now k =
    let d : OpenLoop = record { loop = l; bounds = b; began = began; number = number; turned = turned } in
    turn-then t around line d now (λ m. store_step t.limit line m (turned_store (suc number) l.var b.by m.store) (iterations t.limit line l.var b.by (after_all t l.body) left)) (omega (arith, k))
    (λ m. turning t around line l b began runs left (suc number) turned m (omega (arith, k))) (λ m. runs (InDo (iterating d (point_of now)) ∷ around) m)
    (turned_store number l.var b.by now.store) refl (nat_lt now.steps t.limit) refl

-- the tests of a DO WHILE
while-runs : (t : Task) (around : List Around) (line : Line) (c : Condition) (body : Statements) → ((others : List Around) (n : Progress) → RunsAll t others body n (after_all t body n)) → (left : ℕ) (now : Progress)
    → Runs t around (While line c body) now (while_tests t.limit line (λ s. truth_of (readings_of t.program s) c) (after_all t body) left now)
while-runs t around line c body runs zero now = (_, halts)
while-runs t around line c body runs (suc left) now = by (λ m. while-runs t around line c body runs left m) (truth_of (readings_of t.program now.store) c) refl (nat_lt now.steps t.limit) refl
  where
    again : ((m : Progress) → Runs t around (While line c body) m (while_tests t.limit line (λ s. truth_of (readings_of t.program s) c) (after_all t body) left m)) → now.steps < t.limit → truth_of (readings_of t.program now.store) c ≡ Ok true
        → (o : Onward) → RunsAll t (InWhile ∷ around) body (later now) o → Runs t around (While line c body) now (and_then o (while_tests t.limit line (λ s. truth_of (readings_of t.program s) c) (after_all t body) left))
    again rest lt e (Ok m) x = let y = rest m in (_, repeats lt e x.1 y.1)
    again rest lt e (Err run) x = (_, enters lt e x.1)

    by : ((m : Progress) → Runs t around (While line c body) m (while_tests t.limit line (λ s. truth_of (readings_of t.program s) c) (after_all t body) left m))
        → (r : Result Bool FaultKind) → truth_of (readings_of t.program now.store) c ≡ r → (b : Bool) → nat_lt now.steps t.limit ≡ b
        → Runs t around (While line c body) now (allowed b line now r (λ d behind. chosen d (λ inside. and_then (after_all t body inside) (while_tests t.limit line (λ s. truth_of (readings_of t.program s) c) (after_all t body) left)) (λ outside. Ok outside) behind))
    by rest (Ok true) e true lt = again rest (ltb-true now.steps t.limit lt) e (after_all t body (later now)) (runs (InWhile ∷ around) (later now))
    by rest (Ok false) e true lt = (_, misses (ltb-true now.steps t.limit lt) e)
    by rest (Err kind) e true lt = (_, halts)
    by rest r e false lt = (_, halts)

do-runs : (t : Task) (around : List Around) (l : Loop) (now : Progress) → ((others : List Around) (n : Progress) → RunsAll t others l.body n (after_all t l.body n)) → (r : Result Bounds FaultKind)
    → bounds_of (readings_of t.program now.store) l.first l.last l.step ≡ r → (b : Bool) → nat_lt now.steps t.limit ≡ b
    → Runs t around (Do l.line l.var l.first l.last l.step l.body) now (allowed b l.line now r (λ d next. looped t.limit l.line l.var d.by (after_all t l.body) d.count (record next { store = put (ScalarCell l.var) d.first next.store })))
do-runs t around l now runs (Ok d) e true lt =
    let x = turning t around l.line l d now.steps runs d.count 0 0 (stored now (put (ScalarCell l.var) d.first now.store)) (omega arith) in
    (_, starts d (ltb-true now.steps t.limit lt) e x.1)
do-runs t around l now runs (Err kind) e true lt = (_, halts)
do-runs t around l now runs r e false lt = (_, halts)

then-runs : (t : Task) (around : List Around) (s : Statement) (ss : Statements) (now : Progress) (o : Onward) → Runs t around s now o → ((next : Progress) → RunsAll t around ss next (after_all t ss next))
    → RunsAll t around (Then s ss) now (and_then o (after_all t ss))
then-runs t around s ss now (Ok next) x rest = let y = rest next in (_, goes_on x.1 y.1)
then-runs t around s ss now (Err run) x rest = (_, stops x.1)

mutual
  pub statement-runs : (t : Task) (s : Statement) (around : List Around) (now : Progress) → Runs t around s now (after t s now)
  statement-runs t (Assign line target e) around now = simple t around (Assign line target e) line now (assigned t.program target e now.store) (nat_lt now.steps t.limit) refl (λ x h. assigns h)
  statement-runs t (If line c so otherwise) around now =
      branch t around line c so otherwise now (truth_of (readings_of t.program now.store) c) (nat_lt now.steps t.limit) refl refl (statements-run t so (InSide ∷ around) (later now)) (statements-run t otherwise (InSide ∷ around) (later now))
  statement-runs t (Do line var first last by body) around now =
      do-runs t around (record { line = line; var = var; first = first; last = last; step = by; body = body }) now (λ others n. statements-run t body others n) (bounds_of (readings_of t.program now.store) first last by) refl (nat_lt now.steps t.limit) refl
  statement-runs t (While line c body) around now = while-runs t around line c body (λ others n. statements-run t body others n) (t.limit - now.steps) now
  statement-runs t (Read line target) around now = simple t around (Read line target) line now (read_into t.program t.input target now.store) (nat_lt now.steps t.limit) refl (λ x h. reads h)
  statement-runs t (Print line items) around now = printed t around (Print line items) line now (line_text (readings_of t.program now.store) items) (nat_lt now.steps t.limit) refl prints
  statement-runs t (Continue line) around now = simple t around (Continue line) line now (Ok now.store) (nat_lt now.steps t.limit) refl (λ x h. rested t line now.store x h)
  statement-runs t (Distribute line decomp given) around now = simple t around (Distribute line decomp given) line now (Ok now.store) (nat_lt now.steps t.limit) refl (λ x h. mapped t line decomp given now.store x h)

  pub statements-run : (t : Task) (ss : Statements) (around : List Around) (now : Progress) → RunsAll t around ss now (after_all t ss now)
  statements-run t Empty around now = (_, over)
  statements-run t (Then s ss) around now = then-runs t around s ss now (after t s now) (statement-runs t s around now) (λ next. statements-run t ss around next)
