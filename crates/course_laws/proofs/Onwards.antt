-- A course goes forward, and keeps the names that its statements don't set.
use Rattle.std.proofs.Common.{◌≡◌, ◌≢◌, ℕ, zero, suc, ◌+◌, ◌≤◌, ℤ, pos, ◌+ℤ◌, Bool, true, false, List, [], ◌∷◌, ◌++◌, length, get_or, slice_index_or, slice_set, slice_get, Contains, All, Option, Some, None, Ok, refl, sym, ap, ◌∙◌, subst, arith, length-set}
use Rattle.std.specs.Prelude.{ok_or}
use Rattle.std.proofs.lemmas.List.{get_or-set_other}
use Rattle.std.proofs.lemmas.List.Elements.{All-nil, All-cons, All-append, All-weaker, Contains-append_left, Contains-append_right}
use Rattle.fd_base.specs.declared.numbers.FaultKind.TheVariants.{EndOfInput}
use Rattle.fd_base.specs.Numbers.{exact, fits_i64}
use Rattle.fd_base.specs.Shapes.{ordinal_of}
use Rattle.fd_prog.specs.Expressions.{Expression}
use Rattle.fd_prog.specs.FormValues.{AreWords}
use Rattle.fd_prog.specs.Items.{Name, ScalarName, ArrayName, DecompName, all_names_set, names_set, target_name}
use Rattle.fd_prog.specs.Outcomes.{and_then}
use Rattle.fd_prog.specs.Passed.{side_of}
use Rattle.fd_prog.specs.Programs.{CheckedProgram}
use Rattle.fd_prog.specs.Sequence.{Bounds, Task, bounds_of, gained}
use Rattle.fd_prog.specs.Statements.{Target, ToScalar, ToElement, Statement, Statements}
use Rattle.fd_prog.specs.Stores.{Cell, ScalarCell, ElementCell, Store, assigned, cell_of, put, read_into, readings_of}
use Rattle.fd_prog.specs.Values.{Readings, value_of, values_of}
use Rattle.fd_prog.specs.Words.{HasWords, SetWords, SetsWords}
use Rattle.fd_prog.proofs.Runs.{and_then-ok}
use Rattle.fd_prog.proofs.StoredWords.{assigned-words, first-stored, gained-words, read-words}
use Rattle.course_laws.specs.Courses.{Around, Course, CourseAll, Moment, OpenLoop, Point, Stores, Turning, assigns, behind, does, enters, goes_on, halts, inside, iterates, leaves, maps, misses, over, passes, prints, reads, repeats, rests, starts, stops, takes, turned_store, waits}

-- ---- names kept

-- a name has the same in both stores
abbrev pub Keeps : Name → Store → Store → Type 0
Keeps (ScalarName k) s q = slice_index_or q.scalars k (pos 0) ≡ slice_index_or s.scalars k (pos 0)
Keeps (ArrayName array) s q = slice_index_or q.arrays array [] ≡ slice_index_or s.arrays array []
Keeps (DecompName decomp) s q = Unit {0}

keeps-refl : (n : Name) (s : Store) → Keeps n s s
keeps-refl (ScalarName k) s = refl
keeps-refl (ArrayName array) s = refl
keeps-refl (DecompName decomp) s = tt

keeps-trans : (n : Name) (s q w : Store) → Keeps n s q → Keeps n q w → Keeps n s w
keeps-trans (ScalarName k) s q w h g = g ∙ h
keeps-trans (ArrayName array) s q w h g = g ∙ h
keeps-trans (DecompName decomp) s q w h g = tt

-- a later point of a course: no fewer steps, the same of these names, as many scalars, and numbers that fit 64 bits where they did
pub record Onwards (p : CheckedProgram) (N : Name → Type 0) (now next : Point) : Type 0 where
  pub steps : now.steps ≤ next.steps
  pub kept : (n : Name) → N n → Keeps n now.store next.store
  pub scalars : length next.store.scalars ≡ length now.store.scalars
  pub words : AreWords (readings_of p now.store) → AreWords (readings_of p next.store)

pub onwards-refl : (p : CheckedProgram) (N : Name → Type 0) (now : Point) → Onwards p N now now
onwards-refl p N now = record { steps = omega arith; kept = λ n h. keeps-refl n now.store; scalars = refl; words = λ w. w }

pub onwards-trans : (p : CheckedProgram) (N : Name → Type 0) (now next after : Point) → Onwards p N now next → Onwards p N next after → Onwards p N now after
onwards-trans p N now next after h k = record {
  steps = omega (arith, h.steps, k.steps);
  kept = λ n i. keeps-trans n now.store next.store after.store (h.kept n i) (k.kept n i);
  scalars = k.scalars ∙ h.scalars;
  words = λ w. k.words (h.words w);
}

-- fewer names
pub onwards-fewer : (p : CheckedProgram) (N M : Name → Type 0) (now next : Point) → ((n : Name) → M n → N n) → Onwards p N now next → Onwards p M now next
onwards-fewer p N M now next f h = record { steps = h.steps; kept = λ n i. h.kept n (f n i); scalars = h.scalars; words = h.words }

-- none of these names is set
abbrev pub Unset : (Name → Type 0) → List Name → Type 0
Unset N names = (n : Name) → N n → Contains names n → ⊥

-- ---- a cell

abbrev cell_name : Cell → Name
cell_name (ScalarCell k) = ScalarName k
cell_name (ElementCell array n) = ArrayName array

put-keeps : (cell : Cell) (x : ℤ) (s : Store) (n : Name) → n ≢ cell_name cell → Keeps n s (put cell x s)
put-keeps (ScalarCell k) x s (ScalarName j) h = get_or-set_other s.scalars k j x (pos 0) (λ same. h (ap ScalarName same))
put-keeps (ScalarCell k) x s (ArrayName array) h = refl
put-keeps (ScalarCell k) x s (DecompName decomp) h = tt
put-keeps (ElementCell array m) x s (ScalarName j) h = refl
put-keeps (ElementCell array m) x s (ArrayName other) h = get_or-set_other s.arrays array other (slice_set (slice_index_or s.arrays array []) m x) [] (λ same. h (ap ArrayName same))
put-keeps (ElementCell array m) x s (DecompName decomp) h = tt

put-scalars : (cell : Cell) (x : ℤ) (s : Store) → length (put cell x s).scalars ≡ length s.scalars
put-scalars (ScalarCell k) x s = length-set s.scalars k x
put-scalars (ElementCell array n) x s = refl

named-cell : (r : Readings) (target : Target) (cell : Cell) → cell_of r target ≡ Ok cell → cell_name cell ≡ target_name target
named-cell r (ToScalar k) cell h = let same : ScalarCell k ≡ cell = cc in ap cell_name (sym same)
named-cell r (ToElement array subs site) cell h =
    let a = and_then-ok (values_of r subs) (λ xs. and_then (ordinal_of (r.shape array) xs) (λ n. Ok (ElementCell array n))) cell h in
    let b = and_then-ok (ordinal_of (r.shape array) a.0) (λ n. Ok (ElementCell array n)) cell a.2 in
    let same : ElementCell array b.0 ≡ cell = cc in
    ap cell_name (sym same)

-- another number in a cell whose name is set
one-name : (N : Name → Type 0) (name n : Name) → Unset N (name ∷ []) → N n → n ≢ name
one-name N name n u i same = u n i (0, omega arith, sym same)

put-onwards : (p : CheckedProgram) (N : Name → Type 0) (now : Point) (s : Store) (cell : Cell) (x : ℤ) (name : Name) → cell_name cell ≡ name → Unset N (name ∷ []) → ((n : Name) → Keeps n now.store s) → length s.scalars ≡ length now.store.scalars
    → (AreWords (readings_of p now.store) → AreWords (readings_of p (put cell x s))) → Onwards p N now (behind now (put cell x s))
put-onwards p N now s cell x name e u same size words = record {
  steps = omega arith;
  kept = λ n i. keeps-trans n now.store s (put cell x s) (same n) (put-keeps cell x s n (λ k. one-name N name n u i (k ∙ e)));
  scalars = put-scalars cell x s ∙ size;
  words = words;
}

-- a step that stores nothing
pub still : (p : CheckedProgram) (N : Name → Type 0) (now : Point) → Onwards p N now (behind now now.store)
still p N now = record { steps = omega arith; kept = λ n i. keeps-refl n now.store; scalars = refl; words = λ w. w }

abbrev pub FitInput : Task → Type 0
FitInput t = All (λ n. fits_i64 n ≡ true) t.input

-- a simple statement
stores-onwards : (t : Task) (N : Name → Type 0) → FitInput t → (now : Point) {s : Statement} {next : Store} → Stores t s now.store next → Unset N (names_set s) → SetsWords s → Onwards t.program N now (behind now next)
stores-onwards t N fit now (assigns {line = line} {target = target} {e = e} {next = next} h) u w =
    let p = t.program in let s = now.store in
    let c = and_then-ok (cell_of (readings_of p s) target) (λ cell. and_then (value_of (readings_of p s) e) (λ x. Ok (put cell x s))) next h in
    let v = and_then-ok (value_of (readings_of p s) e) (λ x. Ok (put c.0 x s)) next c.2 in
    let same : put c.0 v.0 s ≡ next = cc in
    let P : Store → Type 0 = λ q. assigned p target e s ≡ Ok q → Onwards p N now (behind now q) in
    subst P same (λ k. put-onwards p N now s c.0 v.0 (target_name target) (named-cell (readings_of p s) target c.0 c.1) u (λ n. keeps-refl n s) refl (λ words. assigned-words p target e s (put c.0 v.0 s) words w k)) h
stores-onwards t N fit now (passes kind h) u w = still t.program N now
stores-onwards t N fit now (reads {line = line} {target = target} {next = next} h) u w =
    let p = t.program in let s = now.store in
    let taken : Store = record s { taken = s.taken + 1 } in
    let c = and_then-ok (cell_of (readings_of p s) target) (λ cell. and_then (ok_or (slice_get t.input s.taken) EndOfInput) (λ x. Ok (put cell x taken))) next h in
    let v = and_then-ok (ok_or (slice_get t.input s.taken) EndOfInput) (λ x. Ok (put c.0 x taken)) next c.2 in
    let same : put c.0 v.0 taken ≡ next = cc in
    let P : Store → Type 0 = λ q. read_into p t.input target s ≡ Ok q → Onwards p N now (behind now q) in
    subst P same (λ k. put-onwards p N now taken c.0 v.0 (target_name target) (named-cell (readings_of p s) target c.0 c.1) u (λ n. taken-keeps n) refl (λ words. read-words p t.input target s (put c.0 v.0 taken) fit words k)) h
  where
    taken-keeps : (n : Name) → Keeps n now.store (record now.store { taken = now.store.taken + 1 })
    taken-keeps (ScalarName k) = refl
    taken-keeps (ArrayName array) = refl
    taken-keeps (DecompName decomp) = tt
stores-onwards t N fit now prints u w = still t.program N now
stores-onwards t N fit now rests u w = still t.program N now
stores-onwards t N fit now maps u w = still t.program N now

-- the variable of a DO at its start
pub start-onwards : (p : CheckedProgram) (N : Name → Type 0) (now : Point) (var : ℕ) (first last by : Expression) (b : Bounds) → bounds_of (readings_of p now.store) first last by ≡ Ok b → HasWords first → Unset N (ScalarName var ∷ [])
    → Onwards p N now (behind now (put (ScalarCell var) b.first now.store))
start-onwards p N now var first last by b h w u =
    put-onwards p N now now.store (ScalarCell var) b.first (ScalarName var) refl u (λ n. keeps-refl n now.store) refl (λ words. first-stored p var first last by b now.store words w h)

-- and at a test
pub turn-onwards : (p : CheckedProgram) (N : Name → Type 0) (now : Point) (number var : ℕ) (by : ℤ) (next : Store) → turned_store number var by now.store ≡ Ok next → Unset N (ScalarName var ∷ []) → Onwards p N now (behind now next)
turn-onwards p N now zero var by next h u = let same : now.store ≡ next = cc in let P : Store → Type 0 = λ q. Onwards p N now (behind now q) in subst P same (still p N now)
turn-onwards p N now (suc number) var by next h u =
    let v = and_then-ok (exact (get_or now.store.scalars var (pos 0) +ℤ by)) (λ x. Ok (put (ScalarCell var) x now.store)) next h in
    let same : put (ScalarCell var) v.0 now.store ≡ next = cc in
    let P : Store → Type 0 = λ q. gained var by now.store ≡ Ok q → Onwards p N now (behind now q) in
    subst P same (λ k. put-onwards p N now now.store (ScalarCell var) v.0 (ScalarName var) refl u (λ n. keeps-refl n now.store) refl (λ words. gained-words p var by now.store (put (ScalarCell var) v.0 now.store) words k)) h

-- ---- courses

abbrev pub AtMoment : CheckedProgram → (Name → Type 0) → Point → Moment → Type 0
AtMoment p N now m = Onwards p N now m.now

abbrev pub AtEnd : CheckedProgram → (Name → Type 0) → Point → Option Point → Type 0
AtEnd p N now None = Unit {0}
AtEnd p N now (Some next) = Onwards p N now next

abbrev pub Forward : CheckedProgram → (Name → Type 0) → Point → List Moment → Option Point → Type 0
Forward p N now ms end = All (AtMoment p N now) ms × AtEnd p N now end

-- from a later point on
end-trans : (p : CheckedProgram) (N : Name → Type 0) (now next : Point) (end : Option Point) → Onwards p N now next → AtEnd p N next end → AtEnd p N now end
end-trans p N now next None h k = tt
end-trans p N now next (Some after) h k = onwards-trans p N now next after h k

forward-from : (p : CheckedProgram) (N : Name → Type 0) (now next : Point) (ms : List Moment) (end : Option Point) → Onwards p N now next → Forward p N next ms end → Forward p N now ms end
forward-from p N now next ms end h k = (All-weaker (AtMoment p N next) (AtMoment p N now) (λ m i. onwards-trans p N now next m.now h i) ms k.0, end-trans p N now next end h k.1)

-- one moment before
forward-cons : (p : CheckedProgram) (N : Name → Type 0) (now : Point) (m : Moment) (ms : List Moment) (end : Option Point) → m.now ≡ now → Forward p N now ms end → Forward p N now (m ∷ ms) end
forward-cons p N now m ms end e k = (All-cons (AtMoment p N now) m ms (subst (λ q. Onwards p N now q) (sym e) (onwards-refl p N now)) k.0, k.1)

forward-both : (p : CheckedProgram) (N : Name → Type 0) (now next : Point) (ms ns : List Moment) (end : Option Point) → Forward p N now ms (Some next) → Forward p N next ns end → Forward p N now (ms ++ ns) end
forward-both p N now next ms ns end h k = let l = forward-from p N now next ns end h.1 k in (All-append (AtMoment p N now) ms ns h.0 l.0, l.1)

forward-one : (p : CheckedProgram) (N : Name → Type 0) (now : Point) (m : Moment) (end : Option Point) → m.now ≡ now → AtEnd p N now end → Forward p N now (m ∷ []) end
forward-one p N now m end e k = forward-cons p N now m [] end e (All-nil (AtMoment p N now), k)

pub unset-left : (N : Name → Type 0) (xs ys : List Name) → Unset N (xs ++ ys) → Unset N xs
unset-left N xs ys u n i k = u n i (Contains-append_left xs ys n k)

pub unset-right : (N : Name → Type 0) (xs ys : List Name) → Unset N (xs ++ ys) → Unset N ys
unset-right N xs ys u n i k = u n i (Contains-append_right xs ys n k)

pub unset-head : (N : Name → Type 0) (x : Name) (xs : List Name) → Unset N (x ∷ xs) → Unset N (x ∷ [])
unset-head N x xs u = unset-left N (x ∷ []) xs u

pub unset-tail : (N : Name → Type 0) (x : Name) (xs : List Name) → Unset N (x ∷ xs) → Unset N xs
unset-tail N x xs u = unset-right N (x ∷ []) xs u

-- either side of an IF
side-unset : (N : Name → Type 0) (b : Bool) (so otherwise : Statements) → Unset N (all_names_set so ++ all_names_set otherwise) → Unset N (all_names_set (side_of b so otherwise))
side-unset N true so otherwise u = unset-left N (all_names_set so) (all_names_set otherwise) u
side-unset N false so otherwise u = unset-right N (all_names_set so) (all_names_set otherwise) u

side-words : (b : Bool) (so otherwise : Statements) → SetWords so × SetWords otherwise → SetWords (side_of b so otherwise)
side-words true so otherwise w = w.0
side-words false so otherwise w = w.1

mutual
  pub course-onwards : (t : Task) (N : Name → Type 0) → FitInput t → {around : List Around} {s : Statement} {now : Point} {ms : List Moment} {end : Option Point} → Course t around s now ms end → Unset N (names_set s) → SetsWords s → Forward t.program N now ms end
  course-onwards t N fit (halts {now = now}) u w = forward-one t.program N now _ None refl tt
  course-onwards t N fit (does {now = now} {next = next} lt h) u w = forward-one t.program N now _ (Some (behind now next)) refl (stores-onwards t N fit now h u w)
  course-onwards t N fit (takes {so = so} {otherwise = otherwise} {now = now} {ms = ms} {end = end} b lt e rest) u w =
      forward-cons t.program N now _ ms end refl (forward-from t.program N now (behind now now.store) ms end (still t.program N now) (all-onwards t N fit rest (side-unset N b so otherwise u) (side-words b so otherwise w)))
  course-onwards t N fit (starts {var = var} {first = first} {last = last} {by = by} {body = body} {now = now} {ms = ms} {end = end} b lt e rest) u w =
      forward-cons t.program N now _ ms end refl (forward-from t.program N now (behind now (put (ScalarCell var) b.first now.store)) ms end
      (start-onwards t.program N now var first last by b e w.0 (unset-head N (ScalarName var) (all_names_set body) u)) (turning-onwards t N fit rest u w.1))
  course-onwards t N fit (misses {now = now} lt e) u w = forward-one t.program N now _ (Some (behind now now.store)) refl (still t.program N now)
  course-onwards t N fit (enters {now = now} {ms = ms} lt e rest) u w =
      forward-cons t.program N now _ ms None refl (forward-from t.program N now (behind now now.store) ms None (still t.program N now) (all-onwards t N fit rest u w))
  course-onwards t N fit (repeats {now = now} {next = next} {ms = ms} {ns = ns} {end = end} lt e rest more) u w =
      forward-cons t.program N now _ (ms ++ ns) end refl (forward-both t.program N now next ms ns end
      (forward-from t.program N now (behind now now.store) ms (Some next) (still t.program N now) (all-onwards t N fit rest u w)) (course-onwards t N fit more u w))

  pub all-onwards : (t : Task) (N : Name → Type 0) → FitInput t → {around : List Around} {ss : Statements} {now : Point} {ms : List Moment} {end : Option Point} → CourseAll t around ss now ms end → Unset N (all_names_set ss) → SetWords ss → Forward t.program N now ms end
  all-onwards t N fit (over {now = now}) u w = (All-nil (AtMoment t.program N now), onwards-refl t.program N now)
  all-onwards t N fit (stops {s = s} {ss = ss} c) u w = course-onwards t N fit c (unset-left N (names_set s) (all_names_set ss) u) w.0
  all-onwards t N fit (goes_on {s = s} {ss = ss} {now = now} {next = next} {ms = ms} {ns = ns} {end = end} c rest) u w =
      forward-both t.program N now next ms ns end (course-onwards t N fit c (unset-left N (names_set s) (all_names_set ss) u) w.0) (all-onwards t N fit rest (unset-right N (names_set s) (all_names_set ss) u) w.1)

  pub turning-onwards : (t : Task) (N : Name → Type 0) → FitInput t → {around : List Around} {d : OpenLoop} {now : Point} {ms : List Moment} {end : Option Point} → Turning t around d now ms end → Unset N (ScalarName d.loop.var ∷ all_names_set d.loop.body)
      → SetWords d.loop.body → Forward t.program N now ms end
  turning-onwards t N fit (waits {now = now}) u w = forward-one t.program N now _ None refl tt
  turning-onwards t N fit (leaves {d = d} {now = now} {next = next} lt e k) u w =
      forward-one t.program N now _ (Some (behind now next)) refl (turn-onwards t.program N now d.number d.loop.var d.bounds.by next e (unset-head N (ScalarName d.loop.var) (all_names_set d.loop.body) u))
  turning-onwards t N fit (inside {d = d} {now = now} {next = next} {ms = ms} lt e k rest) u w =
      forward-cons t.program N now _ ms None refl (forward-from t.program N now (behind now next) ms None
      (turn-onwards t.program N now d.number d.loop.var d.bounds.by next e (unset-head N (ScalarName d.loop.var) (all_names_set d.loop.body) u)) (all-onwards t N fit rest (unset-tail N (ScalarName d.loop.var) (all_names_set d.loop.body) u) w))
  turning-onwards t N fit (iterates {d = d} {now = now} {after = after} {next = next} {ms = ms} {ns = ns} {end = end} lt e k rest more) u w =
      forward-cons t.program N now _ (ms ++ ns) end refl (forward-both t.program N now after ms ns end (forward-from t.program N now (behind now next) ms (Some after)
      (turn-onwards t.program N now d.number d.loop.var d.bounds.by next e (unset-head N (ScalarName d.loop.var) (all_names_set d.loop.body) u)) (all-onwards t N fit rest (unset-tail N (ScalarName d.loop.var) (all_names_set d.loop.body) u) w))
      (turning-onwards t N fit more u w))
