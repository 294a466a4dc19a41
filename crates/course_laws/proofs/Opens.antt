-- What holds of the DO loops that are open at a moment of a course.
use Rattle.std.proofs.Common.{◌≡◌, ℕ, suc, ◌+◌, ◌<◌, ◌≤◌, ℤ, pos, Bool, true, false, List, [], ◌∷◌, ◌++◌, length, slice_index_or, Contains, All, Option, Some, Ok, inl, inr, refl, sym, ap, ◌∙◌, subst, arith}
use Rattle.std.proofs.lemmas.List.{get_or-set_same}
use Rattle.std.proofs.lemmas.List.Elements.{All-nil, All-cons, All-append, Contains-append_left, Contains-append_right}
use Rattle.fd_base.specs.declared.numbering.Line.{Line}
use Rattle.fd_base.specs.Numbers.{fits_i64}
use Rattle.fd_prog.specs.Conditions.{Condition}
use Rattle.fd_prog.specs.FormValues.{AreWords}
use Rattle.fd_prog.specs.Items.{LinearLoop, Name, ScalarName, ArrayName, DecompName, all_names_set, names_set}
use Rattle.fd_prog.specs.Passed.{side_of}
use Rattle.fd_prog.specs.Programs.{CheckedProgram}
use Rattle.fd_prog.specs.Sequence.{Bounds, Task, bounds_of}
use Rattle.fd_prog.specs.Statements.{Statement, If, While, Statements, Then}
use Rattle.fd_prog.specs.Stores.{ScalarCell, Store, put, readings_of}
use Rattle.fd_prog.specs.Values.{Readings}
use Rattle.course_laws.specs.Courses.{Around, InSide, InWhile, InDo, Course, CourseAll, Loop, Moment, OpenLoop, Point, Turning, behind, does, enters, goes_on, halts, inside, iterates, iterating, leaves, misses, next_turn, opened, over, repeats, starts, stops, takes, turned_store, waits}
use Rattle.course_laws.proofs.Covering.{AtTest, ChainTells, Held, Nested, Ordinary, OrdinaryOne, Ready, StandsIn, begin, cover-all, coverable-body, do_of, here, later, next-test, ordinary-body, ordinary-first, ordinary-rest}
use Rattle.course_laws.proofs.Numbers.{begun-next, begun_before, number_of}
use Rattle.course_laws.proofs.Onwards.{FitInput, Keeps, Onwards, Unset, all-onwards, course-onwards, onwards-fewer, onwards-trans, start-onwards, still, turn-onwards, unset-head, unset-tail}
use Rattle.course_laws.proofs.Tells.{HasSame, scalars_at}

-- ---- what some readings see of a store

pub record Sees (p : CheckedProgram) (r : Readings) (N : Name → Type 0) (outer : List ℕ) (vs : List ℤ) (s : Store) : Type 0 where
  pub same : (n : Name) → N n → HasSame p r s n
  pub outer_is : scalars_at s outer ≡ vs

pub same-back : (p : CheckedProgram) (r : Readings) (s q : Store) (n : Name) → HasSame p r q n → Keeps n s q → HasSame p r s n
same-back p r s q (ScalarName k) h g = h ∙ g
same-back p r s q (ArrayName array) h g = λ m. h m ∙ ap (λ xs. slice_index_or xs m (pos 0)) g
same-back p r s q (DecompName decomp) h g = tt

pub scalars-back : (s q : Store) (vars : List ℕ) → ((k : ℕ) → Contains vars k → slice_index_or q.scalars k (pos 0) ≡ slice_index_or s.scalars k (pos 0)) → scalars_at s vars ≡ scalars_at q vars
scalars-back s q [] h = refl
scalars-back s q (x ∷ xs) h =
    ap (λ v. v ∷ scalars_at s xs) (sym (h x (0, omega arith, refl))) ∙ ap (λ vs. slice_index_or q.scalars x (pos 0) ∷ vs) (scalars-back s q xs (λ k c. h k (suc c.0, omega (arith, c.1), c.2)))

-- they saw the same of an earlier store
sees-back : (p : CheckedProgram) (r : Readings) (N : Name → Type 0) (outer : List ℕ) (vs : List ℤ) (now next : Point) → Sees p r N outer vs next.store → Onwards p (Held N outer) now next → Sees p r N outer vs now.store
sees-back p r N outer vs now next h on = record {
  same = λ n i. same-back p r now.store next.store n (h.same n i) (on.kept n (inl i));
  outer_is = scalars-back now.store next.store outer (λ k c. on.kept (ScalarName k) (inr (k, c, refl))) ∙ h.outer_is;
}

pub ready-of : (p : CheckedProgram) (r : Readings) (N : Name → Type 0) (outer : List ℕ) (vs : List ℤ) (now : Point) → Sees p r N outer vs now.store → AreWords (readings_of p now.store) → length now.store.scalars ≡ length p.scalars → Ready p r N outer vs now
ready-of p r N outer vs now h words room = record { same = h.same; outer_is = h.outer_is; words = words; room = room }

-- ---- an open DO

-- the names that some statements don't set
abbrev pub NotIn : List Name → Name → Type 0
NotIn names n = Contains names n → ⊥

not-in-unset : (names : List Name) → Unset (NotIn names) names
not-in-unset names n i c = i c

-- the iterations that have begun before the one of a number took so many steps, wherever loops are nested in the body whose bounds see what the store has
abbrev pub HasPaid : CheckedProgram → OpenLoop → Store → ℕ → Type 0
HasPaid p d s steps = (r : Readings) (names : List Name) (outer : List ℕ) (vs : List ℤ) (ls : List Loop) (loops : List LinearLoop) → Nested d.loop.body ls → ChainTells p r (Contains names) (outer ++ d.loop.var ∷ []) ls loops
    → Unset (Held (Contains names) outer) (ScalarName d.loop.var ∷ all_names_set d.loop.body) → Sees p r (Contains names) outer vs s → d.began + begun_before r loops vs d.bounds.first d.bounds.by d.number < steps

-- the bounds of an open DO were valued in an earlier store
pub record HasBegun (p : CheckedProgram) (d : OpenLoop) (now : Point) : Type 0 where
  pub start : Point
  pub bounds : bounds_of (readings_of p start.store) d.loop.first d.loop.last d.loop.step ≡ Ok d.bounds
  pub words : AreWords (readings_of p start.store)
  pub room : length start.store.scalars ≡ length p.scalars
  pub since : Onwards p (NotIn (ScalarName d.loop.var ∷ all_names_set d.loop.body)) start now

begun-later : (p : CheckedProgram) (d : OpenLoop) (now next : Point) → HasBegun p d now → Onwards p (NotIn (ScalarName d.loop.var ∷ all_names_set d.loop.body)) now next → HasBegun p d next
begun-later p d now next h on = record {
  start = h.start;
  bounds = h.bounds;
  words = h.words;
  room = h.room;
  since = onwards-trans p (NotIn (ScalarName d.loop.var ∷ all_names_set d.loop.body)) h.start now next h.since on;
}

-- in an iteration
pub record DoOk (t : Task) (d : OpenLoop) (now : Point) : Type 0 where
  pub value : slice_index_or now.store.scalars d.loop.var (pos 0) ≡ number_of d.bounds.first d.bounds.by d.number
  pub fits : (i : ℕ) → i < suc d.number → fits_i64 (number_of d.bounds.first d.bounds.by i) ≡ true
  pub below : d.number < d.bounds.count
  pub turned : d.turned ≤ now.steps
  pub limit : d.turned ≤ t.limit
  pub begun : HasBegun t.program d now
  pub ordinary : OrdinaryOne t.program (do_of d.loop)
  pub paid : HasPaid t.program d now.store d.turned

-- a name that the DO doesn't set isn't set by its body
outside-body : (d : OpenLoop) (n : Name) → NotIn (ScalarName d.loop.var ∷ all_names_set d.loop.body) n → NotIn (all_names_set d.loop.body) n
outside-body d n h c = h (Contains-append_right (ScalarName d.loop.var ∷ []) (all_names_set d.loop.body) n c)

-- names of which none is set by a DO
held-outside : (names : List Name) (outer : List ℕ) (set : List Name) (n : Name) → Unset (Held (Contains names) outer) set → Held (Contains names) outer n → NotIn set n
held-outside names outer set n u h c = u n h c

do-later : (t : Task) (d : OpenLoop) (now next : Point) → DoOk t d now → Onwards t.program (NotIn (all_names_set d.loop.body)) now next → DoOk t d next
do-later t d now next h on = record {
  value = on.kept (ScalarName d.loop.var) h.ordinary.variables.0 ∙ h.value;
  fits = h.fits;
  below = h.below;
  turned = omega (arith, h.turned, on.steps);
  limit = h.limit;
  begun = begun-later t.program d now next h.begun (onwards-fewer t.program (NotIn (all_names_set d.loop.body)) (NotIn (ScalarName d.loop.var ∷ all_names_set d.loop.body)) now next (outside-body d) on);
  ordinary = h.ordinary;
  paid = λ r names outer vs ls loops nested tells u sees.
      h.paid r names outer vs ls loops nested tells u (sees-back t.program r (Contains names) outer vs now next sees
      (onwards-fewer t.program (NotIn (all_names_set d.loop.body)) (Held (Contains names) outer) now next (λ n i. outside-body d n (held-outside names outer (ScalarName d.loop.var ∷ all_names_set d.loop.body) n u i)) on));
}

-- ---- all that are open, up to the innermost IF or DO WHILE

-- it stands in the body of the one around it, and began behind the test of that one's iteration
abbrev pub NestsIn : OpenLoop → List Around → Type 0
NestsIn d [] = Unit {0}
NestsIn d (InSide ∷ around) = Unit {0}
NestsIn d (InWhile ∷ around) = Unit {0}
NestsIn d (InDo e ∷ around) = StandsIn d.loop e.loop.body × (e.turned ≤ d.began)

abbrev pub OpensOk : Task → List Around → Point → Type 0
OpensOk t [] now = Unit {0}
OpensOk t (InSide ∷ around) now = Unit {0}
OpensOk t (InWhile ∷ around) now = Unit {0}
OpensOk t (InDo d ∷ around) now = DoOk t d now × NestsIn d around × OpensOk t around now

-- these names are set in the body of the innermost
abbrev pub Within : List Around → List Name → Type 0
Within [] names = Unit {0}
Within (InSide ∷ around) names = Unit {0}
Within (InWhile ∷ around) names = Unit {0}
Within (InDo d ∷ around) names = (n : Name) → Contains names n → Contains (all_names_set d.loop.body) n

-- a DO sets in statements what its body sets
stands-sets : (l : Loop) (ss : Statements) → StandsIn l ss → (n : Name) → Contains (names_set (do_of l)) n → Contains (all_names_set ss) n
stands-sets l ss (here {ss = rest}) n c = Contains-append_left (names_set (do_of l)) (all_names_set rest) n c
stands-sets l ss (later {s = s} {ss = rest} h) n c = Contains-append_right (names_set s) (all_names_set rest) n (stands-sets l rest h n c)

pub within-outer : (d : OpenLoop) (around : List Around) (names : List Name) → NestsIn d around → ((n : Name) → Contains names n → Contains (names_set (do_of d.loop)) n) → Within around names
within-outer d [] names h k = tt
within-outer d (InSide ∷ around) names h k = tt
within-outer d (InWhile ∷ around) names h k = tt
within-outer d (InDo e ∷ around) names h k = λ n c. stands-sets d.loop e.loop.body h.0 n (k n c)

body-of : (d : OpenLoop) (n : Name) → Contains (all_names_set d.loop.body) n → Contains (names_set (do_of d.loop)) n
body-of d n c = Contains-append_right (ScalarName d.loop.var ∷ []) (all_names_set d.loop.body) n c

-- they stay so at a later point
opens-later : (t : Task) (around : List Around) (names : List Name) (now next : Point) → OpensOk t around now → Within around names → Onwards t.program (NotIn names) now next → OpensOk t around next
opens-later t [] names now next h w on = tt
opens-later t (InSide ∷ around) names now next h w on = tt
opens-later t (InWhile ∷ around) names now next h w on = tt
opens-later t (InDo d ∷ around) names now next h w on = (
  do-later t d now next h.0 (onwards-fewer t.program (NotIn names) (NotIn (all_names_set d.loop.body)) now next (λ n i c. i (w n c)) on),
  h.1,
  opens-later t around names now next h.2 (within-outer d around names h.1 (λ n c. body-of d n (w n c))) on,
)

-- ---- walking along a course

-- where a DO among these statements stands
abbrev Here : List Around → Statements → Type 0
Here [] ss = Unit {0}
Here (InSide ∷ around) ss = Unit {0}
Here (InWhile ∷ around) ss = Unit {0}
Here (InDo d ∷ around) ss = (l : Loop) → StandsIn l ss → StandsIn l d.loop.body

abbrev HereOne : List Around → Statement → Type 0
HereOne [] s = Unit {0}
HereOne (InSide ∷ around) s = Unit {0}
HereOne (InWhile ∷ around) s = Unit {0}
HereOne (InDo d ∷ around) s = (l : Loop) → s ≡ do_of l → StandsIn l d.loop.body

here-first : (around : List Around) (s : Statement) (ss : Statements) → Here around (Then s ss) → HereOne around s
here-first [] s ss h = tt
here-first (InSide ∷ around) s ss h = tt
here-first (InWhile ∷ around) s ss h = tt
here-first (InDo d ∷ around) s ss h = λ l e. h l (subst (λ x. StandsIn l (Then x ss)) (sym e) here)

here-rest : (around : List Around) (s : Statement) (ss : Statements) → Here around (Then s ss) → Here around ss
here-rest [] s ss h = tt
here-rest (InSide ∷ around) s ss h = tt
here-rest (InWhile ∷ around) s ss h = tt
here-rest (InDo d ∷ around) s ss h = λ l k. h l (later k)

within-first : (around : List Around) (xs ys : List Name) → Within around (xs ++ ys) → Within around xs
within-first [] xs ys h = tt
within-first (InSide ∷ around) xs ys h = tt
within-first (InWhile ∷ around) xs ys h = tt
within-first (InDo d ∷ around) xs ys h = λ n c. h n (Contains-append_left xs ys n c)

within-rest : (around : List Around) (xs ys : List Name) → Within around (xs ++ ys) → Within around ys
within-rest [] xs ys h = tt
within-rest (InSide ∷ around) xs ys h = tt
within-rest (InWhile ∷ around) xs ys h = tt
within-rest (InDo d ∷ around) xs ys h = λ n c. h n (Contains-append_right xs ys n c)

-- a DO that begins
nests : (t : Task) (around : List Around) (l : Loop) (b : Bounds) (now : Point) → HereOne around (do_of l) → OpensOk t around now → NestsIn (opened l b now) around
nests t [] l b now h k = tt
nests t (InSide ∷ around) l b now h k = tt
nests t (InWhile ∷ around) l b now h k = tt
nests t (InDo d ∷ around) l b now h k = (h l refl, k.0.turned)

abbrev pub MomentOk : Task → Moment → Type 0
MomentOk t m = OpensOk t m.around m.now

-- a point whose numbers fit and that has all scalars
pub record Usual (p : CheckedProgram) (now : Point) : Type 0 where
  pub words : AreWords (readings_of p now.store)
  pub room : length now.store.scalars ≡ length p.scalars

usual-later : (p : CheckedProgram) (N : Name → Type 0) (now next : Point) → Usual p now → Onwards p N now next → Usual p next
usual-later p N now next h on = record { words = on.words h.words; room = on.scalars ∙ h.room }

-- an open DO before a test
record TestOk (t : Task) (around : List Around) (d : OpenLoop) (now : Point) : Type 0 where
  usual : Usual t.program now
  opens : OpensOk t around now
  nested : NestsIn d around
  within : Within around (names_set (do_of d.loop))
  test : AtTest d now
  begun : HasBegun t.program d now
  ordinary : OrdinaryOne t.program (do_of d.loop)
  paid : HasPaid t.program d now.store now.steps

abbrev pub set_by : OpenLoop → List Name
set_by d = ScalarName d.loop.var ∷ all_names_set d.loop.body

nests-iterating : (d : OpenLoop) (now : Point) (around : List Around) → NestsIn d around → NestsIn (iterating d now) around
nests-iterating d now [] h = h
nests-iterating d now (InSide ∷ around) h = h
nests-iterating d now (InWhile ∷ around) h = h
nests-iterating d now (InDo e ∷ around) h = h

nests-next : (d : OpenLoop) (around : List Around) → NestsIn d around → NestsIn (next_turn d) around
nests-next d [] h = h
nests-next d (InSide ∷ around) h = h
nests-next d (InWhile ∷ around) h = h
nests-next d (InDo e ∷ around) h = h

-- with no names at all
abbrev no_names : Name → Type 0
no_names n = ⊥

none-held : (names : List Name) → Unset (Held no_names []) names
none-held names n (inl i) c = i
none-held names n (inr (k, i, e)) c = omega (arith, i.1)

blank : (p : CheckedProgram) (now : Point) → Usual p now → Ready p (readings_of p now.store) no_names [] [] now
blank p now h = record { same = λ n i. absurd i; outer_is = refl; words = h.words; room = h.room }

-- the iteration at hand begins
iteration-ok : (t : Task) (around : List Around) (d : OpenLoop) (now : Point) (next : Store) → TestOk t around d now → now.steps < t.limit → turned_store d.number d.loop.var d.bounds.by now.store ≡ Ok next → d.number < d.bounds.count
    → OpensOk t (InDo (iterating d now) ∷ around) (behind now next)
iteration-ok t around d now next h lt e k =
    let p = t.program in
    let q : Point = behind now next in
    let begun = begin p (readings_of p now.store) no_names [] [] d now next (none-held (ScalarName d.loop.var ∷ [])) h.ordinary.sound.0 h.test (blank p now h.usual) e in
    let out = turn-onwards p (NotIn (set_by d)) now d.number d.loop.var d.bounds.by next e (unset-head (NotIn (set_by d)) (ScalarName d.loop.var) (all_names_set d.loop.body) (not-in-unset (set_by d))) in
    let since = begun-later p d now q h.begun out in (
      record {
        value = begun.value;
        fits = begun.fits;
        below = k;
        turned = omega arith;
        limit = omega (arith, lt);
        begun = record { start = since.start; bounds = since.bounds; words = since.words; room = since.room; since = since.since };
        ordinary = h.ordinary;
        paid = λ r names outer vs ls loops nested tells u sees.
            let paid = h.paid r names outer vs ls loops nested tells u (sees-back p r (Contains names) outer vs now q sees
            (turn-onwards p (Held (Contains names) outer) now d.number d.loop.var d.bounds.by next e (unset-head (Held (Contains names) outer) (ScalarName d.loop.var) (all_names_set d.loop.body) u))) in
            omega (arith, paid);
      },
      nests-iterating d now around h.nested,
      opens-later t around (set_by d) now q h.opens h.within out,
    )

-- and the next test comes behind it
turn-ok : (t : Task) → FitInput t → (around : List Around) (d : OpenLoop) (now after : Point) (next : Store) {ms : List Moment} → TestOk t around d now → turned_store d.number d.loop.var d.bounds.by now.store ≡ Ok next → d.number < d.bounds.count
    → CourseAll t (InDo (iterating d now) ∷ around) d.loop.body (behind now next) ms (Some after) → TestOk t around (next_turn d) after
turn-ok t fit around d now after next h e k rest =
    let p = t.program in
    let q : Point = behind now next in
    let body = all_names_set d.loop.body in
    let name = ScalarName d.loop.var in
    let turn = turn-onwards p (NotIn (set_by d)) now d.number d.loop.var d.bounds.by next e (unset-head (NotIn (set_by d)) name body (not-in-unset (set_by d))) in
    let through = all-onwards t (NotIn (set_by d)) fit rest (unset-tail (NotIn (set_by d)) name body (not-in-unset (set_by d))) h.ordinary.words.1 in
    let out = onwards-trans p (NotIn (set_by d)) now q after turn through.1 in
    let begun = begin p (readings_of p now.store) no_names [] [] d now next (none-held (name ∷ [])) h.ordinary.sound.0 h.test (blank p now h.usual) e in
    let var = all-onwards t (λ n. n ≡ name) fit rest (λ n i c. h.ordinary.variables.0 (subst (Contains body) i c)) h.ordinary.words.1 in
    let since = begun-later p d now after h.begun out in
    record {
      usual = usual-later p (NotIn (set_by d)) now after h.usual out;
      opens = opens-later t around (set_by d) now after h.opens h.within out;
      nested = nests-next d around h.nested;
      within = h.within;
      test = next-test p (readings_of p now.store) no_names [] [] d q after begun k var.1;
      begun = record { start = since.start; bounds = since.bounds; words = since.words; room = since.room; since = since.since };
      ordinary = h.ordinary;
      paid = λ r names outer vs ls loops nested tells u sees.
          let N : Name → Type 0 = Contains names in
          let inner = all-onwards t (Held N outer) fit rest (unset-tail (Held N outer) name body u) h.ordinary.words.1 in
          let seen_inside = sees-back p r N outer vs q after sees inner.1 in
          let seen = sees-back p r N outer vs now q seen_inside (turn-onwards p (Held N outer) now d.number d.loop.var d.bounds.by next e (unset-head (Held N outer) name body u)) in
          let paid = h.paid r names outer vs ls loops nested tells u seen in
          let started = begin p r N outer vs d now next (unset-head (Held N outer) name body u) h.ordinary.sound.0 h.test (ready-of p r N outer vs now seen h.usual.words h.usual.room) e in
          let cover = cover-all t fit r N rest (outer ++ d.loop.var ∷ []) (vs ++ number_of d.bounds.first d.bounds.by d.number ∷ []) ls loops nested
          (coverable-body p r N outer vs d ls loops q tells (unset-tail (Held N outer) name body u) h.ordinary started) in
          let counted = begun-next r loops vs d.bounds.first d.bounds.by d.number in
          omega (arith, paid, cover, counted);
    }

-- a DO is opened
open-ok : (t : Task) (around : List Around) (l : Loop) (b : Bounds) (now : Point) → Usual t.program now → OpensOk t around now → HereOne around (do_of l) → Within around (names_set (do_of l)) → OrdinaryOne t.program (do_of l)
    → bounds_of (readings_of t.program now.store) l.first l.last l.step ≡ Ok b → TestOk t around (opened l b now) (behind now (put (ScalarCell l.var) b.first now.store))
open-ok t around l b now usual opens stands within o e =
    let p = t.program in
    let q : Point = behind now (put (ScalarCell l.var) b.first now.store) in
    let d : OpenLoop = opened l b now in
    let out = start-onwards p (NotIn (set_by d)) now l.var l.first l.last l.step b e o.words.0 (unset-head (NotIn (set_by d)) (ScalarName l.var) (all_names_set l.body) (not-in-unset (set_by d))) in
    let small : l.var < length now.store.scalars = omega (arith, o.sound.0, usual.room) in
    record {
      usual = usual-later p (NotIn (set_by d)) now q usual out;
      opens = opens-later t around (set_by d) now q opens within out;
      nested = nests t around l b now stands opens;
      within = within;
      test = record { value = get_or-set_same now.store.scalars l.var b.first (pos 0) small; fits = λ i k. absurd (omega (arith, k)); below = omega arith };
      begun = record { start = now; bounds = e; words = usual.words; room = usual.room; since = out };
      ordinary = o;
      paid = λ r names outer vs ls loops nested tells u sees. omega arith;
    }

-- sides and bodies
side-ordinary : (p : CheckedProgram) (line : Line) (c : Condition) (b : Bool) (so otherwise : Statements) → OrdinaryOne p (If line c so otherwise) → Ordinary p (side_of b so otherwise)
side-ordinary p line c true so otherwise o = record { words = o.words.0; variables = o.variables.0; sound = o.sound.1 }
side-ordinary p line c false so otherwise o = record { words = o.words.1; variables = o.variables.1; sound = o.sound.2 }

while-ordinary : (p : CheckedProgram) (line : Line) (c : Condition) (body : Statements) → OrdinaryOne p (While line c body) → Ordinary p body
while-ordinary p line c body o = record { words = o.words; variables = o.variables; sound = o.sound.1 }

mutual
  walk-course : (t : Task) → FitInput t → {around : List Around} {s : Statement} {now : Point} {ms : List Moment} {end : Option Point} → Course t around s now ms end → OrdinaryOne t.program s → Within around (names_set s) → HereOne around s → Usual t.program now
      → OpensOk t around now → All (MomentOk t) ms
  walk-course t fit halts o w k usual h = All-cons (MomentOk t) _ [] h (All-nil (MomentOk t))
  walk-course t fit (does lt x) o w k usual h = All-cons (MomentOk t) _ [] h (All-nil (MomentOk t))
  walk-course t fit (takes {line = line} {c = c} {so = so} {otherwise = otherwise} {now = now} {ms = ms} b lt e rest) o w k usual h =
      All-cons (MomentOk t) _ ms h (walk-all t fit rest (side-ordinary t.program line c b so otherwise o) tt tt (usual-later t.program no_names now (behind now now.store) usual (still t.program no_names now)) tt)
  walk-course t fit (starts {around = around} {line = line} {var = var} {first = first} {last = last} {by = by} {body = body} {now = now} {ms = ms} b lt e rest) o w k usual h =
      All-cons (MomentOk t) _ ms h (walk-turning t fit rest (open-ok t around (record { line = line; var = var; first = first; last = last; step = by; body = body }) b now usual h k w o e))
  walk-course t fit (misses lt e) o w k usual h = All-cons (MomentOk t) _ [] h (All-nil (MomentOk t))
  walk-course t fit (enters {line = line} {c = c} {body = body} {now = now} {ms = ms} lt e rest) o w k usual h =
      All-cons (MomentOk t) _ ms h (walk-all t fit rest (while-ordinary t.program line c body o) tt tt (usual-later t.program no_names now (behind now now.store) usual (still t.program no_names now)) tt)
  walk-course t fit (repeats {around = around} {line = line} {c = c} {body = body} {now = now} {next = next} {ms = ms} {ns = ns} lt e rest more) o w k usual h =
      let p = t.program in
      let q : Point = behind now now.store in
      let N = NotIn (all_names_set body) in
      let through = all-onwards t N fit rest (not-in-unset (all_names_set body)) o.words in
      let on = onwards-trans p N now q next (still p N now) through.1 in
      All-cons (MomentOk t) _ (ms ++ ns) h (All-append (MomentOk t) ms ns
      (walk-all t fit rest (while-ordinary p line c body o) tt tt (usual-later p no_names now q usual (still p no_names now)) tt)
      (walk-course t fit more o w k (usual-later p N now next usual on) (opens-later t around (all_names_set body) now next h w on)))

  pub walk-all : (t : Task) → FitInput t → {around : List Around} {ss : Statements} {now : Point} {ms : List Moment} {end : Option Point} → CourseAll t around ss now ms end → Ordinary t.program ss → Within around (all_names_set ss) → Here around ss → Usual t.program now
      → OpensOk t around now → All (MomentOk t) ms
  walk-all t fit over o w k usual h = All-nil (MomentOk t)
  walk-all t fit (stops {around = around} {s = s} {ss = ss} c) o w k usual h =
      walk-course t fit c (ordinary-first t.program s ss o) (within-first around (names_set s) (all_names_set ss) w) (here-first around s ss k) usual h
  walk-all t fit (goes_on {around = around} {s = s} {ss = ss} {now = now} {next = next} {ms = ms} {ns = ns} c rest) o w k usual h =
      let N = NotIn (names_set s) in
      let first = within-first around (names_set s) (all_names_set ss) w in
      let on = course-onwards t N fit c (not-in-unset (names_set s)) o.words.0 in
      All-append (MomentOk t) ms ns (walk-course t fit c (ordinary-first t.program s ss o) first (here-first around s ss k) usual h)
      (walk-all t fit rest (ordinary-rest t.program s ss o) (within-rest around (names_set s) (all_names_set ss) w) (here-rest around s ss k) (usual-later t.program N now next usual on.1) (opens-later t around (names_set s) now next h first on.1))

  walk-turning : (t : Task) → FitInput t → {around : List Around} {d : OpenLoop} {now : Point} {ms : List Moment} {end : Option Point} → Turning t around d now ms end → TestOk t around d now → All (MomentOk t) ms
  walk-turning t fit waits h = All-cons (MomentOk t) _ [] h.opens (All-nil (MomentOk t))
  walk-turning t fit (leaves lt e k) h = All-cons (MomentOk t) _ [] h.opens (All-nil (MomentOk t))
  walk-turning t fit (inside {around = around} {d = d} {now = now} {next = next} {ms = ms} lt e k rest) h =
      All-cons (MomentOk t) _ ms h.opens (walk-all t fit rest (ordinary-body t.program d.loop h.ordinary) (λ n c. c) (λ l c. c)
      (usual-later t.program (NotIn (set_by d)) now (behind now next) h.usual (turn-onwards t.program (NotIn (set_by d)) now d.number d.loop.var d.bounds.by next e (unset-head (NotIn (set_by d)) (ScalarName d.loop.var) (all_names_set d.loop.body) (not-in-unset (set_by d)))))
      (iteration-ok t around d now next h lt e k))
  walk-turning t fit (iterates {around = around} {d = d} {now = now} {after = after} {next = next} {ms = ms} {ns = ns} lt e k rest more) h =
      All-cons (MomentOk t) _ (ms ++ ns) h.opens (All-append (MomentOk t) ms ns (walk-all t fit rest (ordinary-body t.program d.loop h.ordinary) (λ n c. c) (λ l c. c)
      (usual-later t.program (NotIn (set_by d)) now (behind now next) h.usual (turn-onwards t.program (NotIn (set_by d)) now d.number d.loop.var d.bounds.by next e (unset-head (NotIn (set_by d)) (ScalarName d.loop.var) (all_names_set d.loop.body) (not-in-unset (set_by d)))))
      (iteration-ok t around d now next h lt e k)) (walk-turning t fit more (turn-ok t fit around d now after next h e k rest)))
