-- A course of a body makes at least as many steps as the loops nested in it have iterations.
use Rattle.std.proofs.Common.{◌≡◌, ℕ, zero, suc, ◌+◌, ◌<◌, ◌≤◌, ℤ, pos, ◌+ℤ◌, true, List, [], ◌∷◌, ◌++◌, flat_map, length, get_or, slice_index_or, Contains, Some, Ok, ◌⊎◌, inl, inr, refl, sym, ap, ◌∙◌, subst, arith}
use Rattle.std.proofs.lemmas.List.{get_or-set_same, map-append}
use Rattle.std.proofs.lemmas.List.Elements.{Contains-append_cases}
use Rattle.fd_base.specs.Numbers.{exact, fits_i64}
use Rattle.fd_prog.specs.Checked.{KeepVariables, KeepsVariables}
use Rattle.fd_prog.specs.FormValues.{AreWords}
use Rattle.fd_prog.specs.Items.{CountedLoop, LinearLoop, Name, ScalarName, ArrayName, DecompName, all_names_set, names_set}
use Rattle.fd_prog.specs.Needs.{iterations_inside, loop_numbers, numbers_in}
use Rattle.fd_prog.specs.Programs.{CheckedProgram}
use Rattle.fd_prog.specs.Sequence.{Task}
use Rattle.fd_prog.specs.Statements.{Statement, Do, Statements, Empty, Then}
use Rattle.fd_prog.specs.Stores.{ScalarCell, Store, put, readings_of}
use Rattle.fd_prog.specs.Values.{Readings}
use Rattle.fd_prog.specs.WellFormed.{AreSoundStatements, IsSoundStatement, names_of}
use Rattle.fd_prog.specs.Words.{SetWords, SetsWords}
use Rattle.fd_prog.proofs.FormValues.{exact-ok}
use Rattle.fd_prog.proofs.Runs.{and_then-ok}
use Rattle.course_laws.specs.Courses.{Around, Course, CourseAll, Loop, Moment, OpenLoop, Point, Stores, Turning, assigns, passes, reads, prints, rests, maps, behind, does, goes_on, iterates, leaves, next_turn, opened, over, starts, turned_store}
use Rattle.course_laws.proofs.Numbers.{begun-next, begun_before, begun_by, number-first, number-next, number_of, numbers-all}
use Rattle.course_laws.proofs.Onwards.{FitInput, Keeps, Onwards, Unset, all-onwards, course-onwards, start-onwards, turn-onwards, unset-head, unset-left, unset-right, unset-tail}
use Rattle.course_laws.proofs.Tells.{HasSame, LoopTells, scalars_at}

-- ---- nested loops

abbrev pub do_of : Loop → Statement
do_of l = Do l.line l.var l.first l.last l.step l.body

abbrev pub counted_of : Loop → CountedLoop
counted_of l = record { var = l.var; first = l.first; last = l.last; step = l.step; sets = all_names_set l.body }

-- a DO is one of some statements
pub data StandsIn (l : Loop) : Statements → Type 0 where
  here : {ss : Statements} → StandsIn l (Then (do_of l) ss)
  later : {s : Statement} {ss : Statements} → StandsIn l ss → StandsIn l (Then s ss)

-- DOs, each in the body of the one before it, the outermost in some statements
abbrev pub Nested : Statements → List Loop → Type 0
Nested ss [] = Unit {0}
Nested ss (l ∷ ls) = StandsIn l ss × Nested l.body ls

-- the forms of their bounds give what they begin with in every store that has the same of some names
abbrev pub ChainTells : CheckedProgram → Readings → (Name → Type 0) → List ℕ → List Loop → List LinearLoop → Type 0
ChainTells p r N outer [] [] = Unit {0}
ChainTells p r N outer [] (m ∷ ms) = ⊥
ChainTells p r N outer (l ∷ ls) [] = ⊥
ChainTells p r N outer (l ∷ ls) (m ∷ ms) = LoopTells p r N outer (counted_of l) m × ChainTells p r N (outer ++ l.var ∷ []) ls ms

-- some names, and some scalars
abbrev pub Held : (Name → Type 0) → List ℕ → Name → Type 0
Held N outer n = N n ⊎ ((k : ℕ) × Contains outer k × (n ≡ ScalarName k))

-- statements of a sound program
pub record Ordinary (p : CheckedProgram) (ss : Statements) : Type 0 where
  pub words : SetWords ss
  pub variables : KeepVariables ss
  pub sound : AreSoundStatements (names_of p) ss

pub record OrdinaryOne (p : CheckedProgram) (s : Statement) : Type 0 where
  pub words : SetsWords s
  pub variables : KeepsVariables s
  pub sound : IsSoundStatement (names_of p) s

pub ordinary-first : (p : CheckedProgram) (s : Statement) (ss : Statements) → Ordinary p (Then s ss) → OrdinaryOne p s
ordinary-first p s ss o = record { words = o.words.0; variables = o.variables.0; sound = o.sound.0 }

pub ordinary-rest : (p : CheckedProgram) (s : Statement) (ss : Statements) → Ordinary p (Then s ss) → Ordinary p ss
ordinary-rest p s ss o = record { words = o.words.1; variables = o.variables.1; sound = o.sound.1 }

pub ordinary-body : (p : CheckedProgram) (l : Loop) → OrdinaryOne p (do_of l) → Ordinary p l.body
ordinary-body p l o = record { words = o.words.1; variables = o.variables.1; sound = o.sound.4 }

-- ---- a point that has the same of some names

pub record Ready (p : CheckedProgram) (r : Readings) (N : Name → Type 0) (outer : List ℕ) (vs : List ℤ) (now : Point) : Type 0 where
  pub same : (n : Name) → N n → HasSame p r now.store n
  pub outer_is : scalars_at now.store outer ≡ vs
  pub words : AreWords (readings_of p now.store)
  pub room : length now.store.scalars ≡ length p.scalars

same-kept : (p : CheckedProgram) (r : Readings) (s q : Store) (n : Name) → HasSame p r s n → Keeps n s q → HasSame p r q n
same-kept p r s q (ScalarName k) h g = h ∙ sym g
same-kept p r s q (ArrayName array) h g = λ m. h m ∙ ap (λ xs. slice_index_or xs m (pos 0)) (sym g)
same-kept p r s q (DecompName decomp) h g = tt

scalars-kept : (s q : Store) (vars : List ℕ) → ((k : ℕ) → Contains vars k → slice_index_or q.scalars k (pos 0) ≡ slice_index_or s.scalars k (pos 0)) → scalars_at q vars ≡ scalars_at s vars
scalars-kept s q [] h = refl
scalars-kept s q (x ∷ xs) h =
    ap (λ v. v ∷ scalars_at q xs) (h x (0, omega arith, refl)) ∙ ap (λ vs. slice_index_or s.scalars x (pos 0) ∷ vs) (scalars-kept s q xs (λ k c. h k (suc c.0, omega (arith, c.1), c.2)))

pub ready-onwards : (p : CheckedProgram) (r : Readings) (N : Name → Type 0) (outer : List ℕ) (vs : List ℤ) (now next : Point) → Ready p r N outer vs now → Onwards p (Held N outer) now next → Ready p r N outer vs next
ready-onwards p r N outer vs now next h k = record {
  same = λ n i. same-kept p r now.store next.store n (h.same n i) (k.kept n (inl i));
  outer_is = scalars-kept now.store next.store outer (λ j c. k.kept (ScalarName j) (inr (j, c, refl))) ∙ h.outer_is;
  words = k.words h.words;
  room = k.scalars ∙ h.room;
}

-- with one variable more
pub ready-more : (p : CheckedProgram) (r : Readings) (N : Name → Type 0) (outer : List ℕ) (vs : List ℤ) (now : Point) (var : ℕ) (v : ℤ) → Ready p r N outer vs now → slice_index_or now.store.scalars var (pos 0) ≡ v → Ready p r N (outer ++ var ∷ []) (vs ++ v ∷ []) now
ready-more p r N outer vs now var v h e = record {
  same = h.same;
  outer_is = map-append (λ k. slice_index_or now.store.scalars k (pos 0)) outer (var ∷ []) ∙ ap (λ us. us ++ slice_index_or now.store.scalars var (pos 0) ∷ []) h.outer_is ∙ ap (λ u. vs ++ u ∷ []) e;
  words = h.words;
  room = h.room;
}

pub held-more : (N : Name → Type 0) (outer : List ℕ) (var : ℕ) (names : List Name) → Unset (Held N outer) names → (Contains names (ScalarName var) → ⊥) → Unset (Held N (outer ++ var ∷ [])) names
held-more N outer var names u v n (inl i) c = u n (inl i) c
held-more N outer var names u v n (inr (k, c, e)) d = by (Contains-append_cases outer (var ∷ []) k c)
  where
    last : (j : ℕ) → j < 1 → get_or (var ∷ []) j k ≡ k → var ≡ k
    last zero l g = g
    last (suc j) l g = absurd (omega (arith, l))

    by : Contains outer k ⊎ Contains (var ∷ []) k → ⊥
    by (inl i) = u n (inr (k, i, e)) d
    by (inr i) = v (subst (Contains names) (e ∙ ap ScalarName (sym (last i.0 i.1 i.2))) d)

-- ---- the variable of an open DO

-- what it has before the test of a number
abbrev pub number_before : ℤ → ℤ → ℕ → ℤ
number_before first by zero = first
number_before first by (suc k) = number_of first by k

pub record AtTest (d : OpenLoop) (now : Point) : Type 0 where
  pub value : slice_index_or now.store.scalars d.loop.var (pos 0) ≡ number_before d.bounds.first d.bounds.by d.number
  pub fits : (i : ℕ) → i < d.number → fits_i64 (number_of d.bounds.first d.bounds.by i) ≡ true
  pub below : d.number ≤ d.bounds.count

-- behind the test it has the number of the iteration
pub turned-value : (p : CheckedProgram) (number var : ℕ) (first by : ℤ) (s next : Store) → var < length s.scalars → slice_index_or s.scalars var (pos 0) ≡ number_before first by number → turned_store number var by s ≡ Ok next
    → slice_index_or next.scalars var (pos 0) ≡ number_of first by number
turned-value p zero var first by s next lt e h = let same : s ≡ next = cc in ap (λ (q : Store). slice_index_or q.scalars var (pos 0)) (sym same) ∙ e ∙ sym (number-first first by)
turned-value p (suc k) var first by s next lt e h =
    let v = and_then-ok (exact (get_or s.scalars var (pos 0) +ℤ by)) (λ x. Ok (put (ScalarCell var) x s)) next h in
    let same : put (ScalarCell var) v.0 s ≡ next = cc in
    ap (λ (q : Store). slice_index_or q.scalars var (pos 0)) (sym same) ∙ get_or-set_same s.scalars var v.0 (pos 0) lt ∙ sym (exact-ok (get_or s.scalars var (pos 0) +ℤ by) v.0 v.1).0
    ∙ ap (λ z. z +ℤ by) e ∙ number-next first by k

below-or : (i n : ℕ) → i < suc n → (i < n) ⊎ (i ≡ n)
below-or zero zero h = inr refl
below-or zero (suc n) h = inl (omega arith)
below-or (suc i) zero h = absurd (omega (arith, h))
below-or (suc i) (suc n) h = by (below-or i n (omega (arith, h)))
  where
    by : (i < n) ⊎ (i ≡ n) → (suc i < suc n) ⊎ (suc i ≡ suc n)
    by (inl l) = inl (omega (arith, l))
    by (inr e) = inr (ap suc e)

-- up to an iteration all numbers fit
pub fits-more : (first by : ℤ) (n : ℕ) → ((i : ℕ) → i < n → fits_i64 (number_of first by i) ≡ true) → fits_i64 (number_of first by n) ≡ true → (i : ℕ) → i < suc n → fits_i64 (number_of first by i) ≡ true
fits-more first by n h e i l = split (below-or i n l)
  where
    split : (i < n) ⊎ (i ≡ n) → fits_i64 (number_of first by i) ≡ true
    split (inl k) = h i k
    split (inr same) = ap (λ k. fits_i64 (number_of first by k)) same ∙ e

-- a DO is no simple statement
no-store : (t : Task) (l : Loop) (x : Statement) (s next : Store) → x ≡ do_of l → Stores t x s next → ⊥
no-store t l x s next e (assigns h) = absurd (cc)
no-store t l x s next e (passes kind h) = absurd (cc)
no-store t l x s next e (reads h) = absurd (cc)
no-store t l x s next e prints = absurd (cc)
no-store t l x s next e rests = absurd (cc)
no-store t l x s next e maps = absurd (cc)

-- and it stands nowhere in no statements
nowhere : (l : Loop) (ss : Statements) → ss ≡ Empty → StandsIn l ss → ⊥
nowhere l ss e here = absurd (cc)
nowhere l ss e (later stands) = absurd (cc)

-- ---- an iteration

-- what holds behind a test at which an iteration begins
pub record Begun (p : CheckedProgram) (r : Readings) (N : Name → Type 0) (outer : List ℕ) (vs : List ℤ) (d : OpenLoop) (q : Point) : Type 0 where
  pub ready : Ready p r N outer vs q
  pub value : slice_index_or q.store.scalars d.loop.var (pos 0) ≡ number_of d.bounds.first d.bounds.by d.number
  pub fits : (i : ℕ) → i < suc d.number → fits_i64 (number_of d.bounds.first d.bounds.by i) ≡ true

pub begin : (p : CheckedProgram) (r : Readings) (N : Name → Type 0) (outer : List ℕ) (vs : List ℤ) (d : OpenLoop) (now : Point) (next : Store) → Unset (Held N outer) (ScalarName d.loop.var ∷ []) → d.loop.var < length p.scalars
    → AtTest d now → Ready p r N outer vs now → turned_store d.number d.loop.var d.bounds.by now.store ≡ Ok next → Begun p r N outer vs d (behind now next)
begin p r N outer vs d now next u lt test ready e =
    let q = behind now next in
    let on = turn-onwards p (Held N outer) now d.number d.loop.var d.bounds.by next e u in
    let fine = ready-onwards p r N outer vs now q ready on in
    let value = turned-value p d.number d.loop.var d.bounds.first d.bounds.by now.store next (omega (arith, lt, ready.room)) test.value e in
    record { ready = fine; value = value; fits = fits-more d.bounds.first d.bounds.by d.number test.fits (ap fits_i64 (sym value) ∙ fine.words.scalars d.loop.var) }

-- behind the body the next test is at hand
pub next-test : (p : CheckedProgram) (r : Readings) (N : Name → Type 0) (outer : List ℕ) (vs : List ℤ) (d : OpenLoop) (q after : Point) → Begun p r N outer vs d q → d.number < d.bounds.count → Onwards p (λ n. n ≡ ScalarName d.loop.var) q after → AtTest (next_turn d) after
next-test p r N outer vs d q after begun lt on = record { value = on.kept (ScalarName d.loop.var) refl ∙ begun.value; fits = begun.fits; below = omega (arith, lt) }

-- ---- steps

-- statements, with loops that are nested in them and their forms
pub record Coverable (p : CheckedProgram) (r : Readings) (N : Name → Type 0) (outer : List ℕ) (vs : List ℤ) (ls : List Loop) (loops : List LinearLoop) (ss : Statements) (now : Point) : Type 0 where
  pub tells : ChainTells p r N outer ls loops
  pub unset : Unset (Held N outer) (all_names_set ss)
  pub ordinary : Ordinary p ss
  pub ready : Ready p r N outer vs now

-- so the body of an iteration
pub coverable-body : (p : CheckedProgram) (r : Readings) (N : Name → Type 0) (outer : List ℕ) (vs : List ℤ) (d : OpenLoop) (ls : List Loop) (loops : List LinearLoop) (q : Point) → ChainTells p r N (outer ++ d.loop.var ∷ []) ls loops
    → Unset (Held N outer) (all_names_set d.loop.body) → OrdinaryOne p (do_of d.loop) → Begun p r N outer vs d q
    → Coverable p r N (outer ++ d.loop.var ∷ []) (vs ++ number_of d.bounds.first d.bounds.by d.number ∷ []) ls loops d.loop.body q
coverable-body p r N outer vs d ls loops q tells u o begun = record {
  tells = tells;
  unset = held-more N outer d.loop.var (all_names_set d.loop.body) u o.variables.0;
  ordinary = ordinary-body p d.loop o;
  ready = ready-more p r N outer vs q d.loop.var (number_of d.bounds.first d.bounds.by d.number) begun.ready begun.value;
}

nothing-more : (a b : ℕ) → a ≤ b → a + 0 ≤ b
nothing-more a b h = omega (arith, h)

mutual
  -- a course of statements
  pub cover-all : (t : Task) → FitInput t → (r : Readings) (N : Name → Type 0) → {around : List Around} {ss : Statements} {now next : Point} {ms : List Moment} → CourseAll t around ss now ms (Some next)
      → (outer : List ℕ) (vs : List ℤ) (ls : List Loop) (loops : List LinearLoop) → Nested ss ls → Coverable t.program r N outer vs ls loops ss now → now.steps + length (iterations_inside r loops vs) ≤ next.steps
  cover-all t fit r N {now = now} {next = next} c outer vs [] [] nested h = let on = all-onwards t (λ n. ⊥) fit c (λ n i k. i) h.ordinary.words in nothing-more now.steps next.steps on.1.steps
  cover-all t fit r N c outer vs [] (m ∷ loops) nested h = absurd h.tells
  cover-all t fit r N c outer vs (l ∷ ls) [] nested h = absurd h.tells
  cover-all t fit r N over outer vs (l ∷ ls) (m ∷ loops) nested h = absurd (nowhere l Empty refl nested.0)
  cover-all t fit r N (goes_on {ss = ss} {now = now} {next = mid} c rest) outer vs (l ∷ ls) (m ∷ loops) (here, nested) h =
      let first = cover-do t fit r N outer vs l ls m loops c nested h.tells (unset-left (Held N outer) (ScalarName l.var ∷ all_names_set l.body) (all_names_set ss) h.unset) (ordinary-first t.program (do_of l) ss h.ordinary) h.ready in
      let on = all-onwards t (λ n. ⊥) fit rest (λ n i k. i) (ordinary-rest t.program (do_of l) ss h.ordinary).words in
      let steps = on.1.steps in
      omega (arith, first, steps)
  cover-all t fit r N (goes_on {s = s} {ss = ss} {now = now} {next = mid} c rest) outer vs (l ∷ ls) (m ∷ loops) (later stands, nested) h =
      let on = course-onwards t (Held N outer) fit c (unset-left (Held N outer) (names_set s) (all_names_set ss) h.unset) h.ordinary.words.0 in
      let steps = on.1.steps in
      let rest_of = cover-all t fit r N rest outer vs (l ∷ ls) (m ∷ loops) (stands, nested) (record {
        tells = h.tells;
        unset = unset-right (Held N outer) (names_set s) (all_names_set ss) h.unset;
        ordinary = ordinary-rest t.program s ss h.ordinary;
        ready = ready-onwards t.program r N outer vs now mid h.ready on.1;
      }) in
      omega (arith, steps, rest_of)

  -- of a DO
  cover-do : (t : Task) → FitInput t → (r : Readings) (N : Name → Type 0) → {around : List Around} {now next : Point} {ms : List Moment} (outer : List ℕ) (vs : List ℤ) (l : Loop) (ls : List Loop) (m : LinearLoop) (loops : List LinearLoop)
      → Course t around (do_of l) now ms (Some next) → Nested l.body ls → ChainTells t.program r N outer (l ∷ ls) (m ∷ loops) → Unset (Held N outer) (ScalarName l.var ∷ all_names_set l.body) → OrdinaryOne t.program (do_of l)
      → Ready t.program r N outer vs now → now.steps + length (iterations_inside r (m ∷ loops) vs) ≤ next.steps
  cover-do t fit r N {now = now} outer vs l ls m loops (does {next = next} lt h) nested tells u o ready = absurd (no-store t l (do_of l) now.store next refl h)
  cover-do t fit r N {now = now} {next = next} outer vs l ls m loops (starts b lt e rest) nested tells u o ready =
      let p = t.program in
      let on = start-onwards p (Held N outer) now l.var l.first l.last l.step b e o.words.0 (unset-head (Held N outer) (ScalarName l.var) (all_names_set l.body) u) in
      let q : Point = behind now (put (ScalarCell l.var) b.first now.store) in
      let fine = ready-onwards p r N outer vs now q ready on in
      let small : l.var < length now.store.scalars = omega (arith, o.sound.0, ready.room) in
      let test : AtTest (opened l b now) q = record { value = get_or-set_same now.store.scalars l.var b.first (pos 0) small; fits = λ i k. absurd (omega (arith, k)); below = omega arith } in
      let all = cover-turning t fit r N outer vs ls loops rest nested tells.1 u o test fine now.steps (omega arith) in
      let told = tells.0 now.store b small ready.words ready.same e in
      let is : loop_numbers r vs m ≡ Ok (record { first = b.first; by = b.by; count = b.count }) = subst (λ us. loop_numbers r us m ≡ Ok (record { first = b.first; by = b.by; count = b.count })) ready.outer_is told in
      let many : length (iterations_inside r (m ∷ loops) vs) ≡ begun_before r loops vs b.first b.by b.count =
      ap (λ o. length (flat_map (begun_by r loops vs) (numbers_in o))) is ∙ ap (λ xs. length (flat_map (begun_by r loops vs) xs)) (numbers-all b.first b.by 0 b.count (λ i k j. all.1 i (omega (arith, j)))) in
      let steps = all.0 in
      omega (arith, many, steps)

  -- of an open DO from a test on
  cover-turning : (t : Task) → FitInput t → (r : Readings) (N : Name → Type 0) → {around : List Around} {d : OpenLoop} {now next : Point} {ms : List Moment} (outer : List ℕ) (vs : List ℤ) (ls : List Loop) (loops : List LinearLoop)
      → Turning t around d now ms (Some next) → Nested d.loop.body ls → ChainTells t.program r N (outer ++ d.loop.var ∷ []) ls loops → Unset (Held N outer) (ScalarName d.loop.var ∷ all_names_set d.loop.body) → OrdinaryOne t.program (do_of d.loop)
      → AtTest d now → Ready t.program r N outer vs now → (base : ℕ) → base + begun_before r loops vs d.bounds.first d.bounds.by d.number < now.steps
      → (base + begun_before r loops vs d.bounds.first d.bounds.by d.bounds.count < next.steps) × ((i : ℕ) → i < d.bounds.count → fits_i64 (number_of d.bounds.first d.bounds.by i) ≡ true)
  cover-turning t fit r N {d = d} {now = now} outer vs ls loops (leaves lt e k) nested tells u o test ready base paid =
      let same : begun_before r loops vs d.bounds.first d.bounds.by d.number ≡ begun_before r loops vs d.bounds.first d.bounds.by d.bounds.count = ap (begun_before r loops vs d.bounds.first d.bounds.by) k in
      (omega (arith, paid, same), λ i l. test.fits i (omega (arith, l, k)))
  cover-turning t fit r N {d = d} {now = now} outer vs ls loops (iterates {after = after} {next = next} lt e k rest more) nested tells u o test ready base paid =
      let p = t.program in
      let q : Point = behind now next in
      let inside_names = unset-tail (Held N outer) (ScalarName d.loop.var) (all_names_set d.loop.body) u in
      let begun = begin p r N outer vs d now next (unset-head (Held N outer) (ScalarName d.loop.var) (all_names_set d.loop.body) u) o.sound.0 test ready e in
      let body = cover-all t fit r N rest (outer ++ d.loop.var ∷ []) (vs ++ number_of d.bounds.first d.bounds.by d.number ∷ []) ls loops nested (coverable-body p r N outer vs d ls loops q tells inside_names o begun) in
      let on = all-onwards t (Held N outer) fit rest inside_names o.words.1 in
      let var = all-onwards t (λ n. n ≡ ScalarName d.loop.var) fit rest (λ n i c. o.variables.0 (subst (Contains (all_names_set d.loop.body)) i c)) o.words.1 in
      let counted = begun-next r loops vs d.bounds.first d.bounds.by d.number in
      cover-turning t fit r N outer vs ls loops more nested tells u o (next-test p r N outer vs d q after begun k var.1) (ready-onwards p r N outer vs q after begun.ready on.1) base (omega (arith, counted, paid, body))
