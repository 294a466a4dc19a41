-- Every number that a run in sequence stores fits 64 bits.
use Rattle.std.proofs.Common.{◌≡◌, refl, sym, ◌∙◌, ap, subst, ℕ, zero, suc, ◌+◌, ◌-◌, ℤ, pos, ◌+ℤ◌, neg_ℤ, Bool, true, false, nat_lt, List, [], ◌∷◌, map, replicate, length, get_or, set, Option, Some, None, Result, Ok, Err}
use Rattle.std.specs.Prelude.{All, ok_or, slice_get}
use Rattle.std.proofs.lemmas.List.Elements.{All-get_or}
use Rattle.std.proofs.lemmas.Option.{slice_get_within, get_or_from_slice_get}
use Rattle.fd_base.specs.declared.numbering.Line.{Line}
use Rattle.fd_base.specs.declared.numbers.FaultKind.{FaultKind}
use Rattle.fd_base.specs.declared.numbers.FaultKind.TheVariants.{EndOfInput}
use Rattle.fd_base.specs.Numbers.{fits_i64, exact, exact_trip_count}
use Rattle.fd_base.specs.Shapes.{ordinal_of, size_of}
use Rattle.fd_prog.specs.declared.program.Array.{Array}
use Rattle.fd_prog.specs.Outcomes.{and_then}
use Rattle.fd_prog.specs.Expressions.{Expression, Number, Scalar, Element, Negated, Joined, Applied, Expressions, End, More}
use Rattle.fd_prog.specs.Statements.{Target, Statement, Assign, If, Do, While, Read, Print, Continue, Distribute, Statements, Empty, Then}
use Rattle.fd_prog.specs.Programs.{CheckedProgram}
use Rattle.fd_prog.specs.Values.{Readings, value_of, values_of, element_value, joined, applied, truth_of}
use Rattle.fd_prog.specs.Stores.{Store, Cell, ScalarCell, ElementCell, cell_of, first_store, readings_of, put, assigned, read_into}
use Rattle.fd_prog.specs.FormValues.{AreWords}
use Rattle.fd_prog.specs.Sequence.{Progress, Onward, Task, Bounds, allowed, bounds_of, line_text, with_line, gained, iterations, looped, chosen, while_tests, after, after_all}
use Rattle.fd_prog.specs.Passed.{later, started, side_of, Passes, begins, in_side, before_loop, in_loop, in_body, again, PassesAmong, at_begin, in_first, behind_first, PassesIterations, behind_test, in_iteration, next_iteration, IsPassed}
use Rattle.fd_prog.specs.Words.{HasWords, HaveWords, SetsWords, SetWords}
use Rattle.fd_prog.proofs.Runs.{and_then-ok}
use Rattle.fd_prog.proofs.FormValues.{AllFit, exact-ok, joined-fits, applied-fits}

-- ---- values

mutual
  -- a value fits 64 bits
  value-word : (r : Readings) (e : Expression) (x : ℤ) → AreWords r → HasWords e → value_of r e ≡ Ok x → fits_i64 x ≡ true
  value-word r (Number n) x words has h = let same : n ≡ x = cc in ap fits_i64 (sym same) ∙ has
  value-word r (Scalar s) x words has h = let same : r.scalar s ≡ x = cc in ap fits_i64 (sym same) ∙ words.scalars s
  value-word r (Element array subs site) x words has h =
      let p = and_then-ok (values_of r subs) (element_value r array (Some site)) x h in
      let q = and_then-ok (ordinal_of (r.shape array) p.0) (λ n. Ok (r.element array (Some site) n)) x p.2 in
      let same : r.element array (Some site) q.0 ≡ x = cc in
      ap fits_i64 (sym same) ∙ words.elements array q.0 (Some site)
  value-word r (Negated a) x words has h = let p = and_then-ok (value_of r a) (λ y. exact (neg_ℤ y)) x h in (exact-ok (neg_ℤ p.0) x p.2).1
  value-word r (Joined op a b) x words has h =
      let p = and_then-ok (value_of r a) (λ y. and_then (value_of r b) (joined op y)) x h in
      let q = and_then-ok (value_of r b) (joined op p.0) x p.2 in
      joined-fits op p.0 q.0 x q.2
  value-word r (Applied g args) x words has h =
      let p = and_then-ok (values_of r args) (applied g) x h in
      applied-fits g p.0 x (values-words r args p.0 words has p.1) p.2

  values-words : (r : Readings) (es : Expressions) (xs : List ℤ) → AreWords r → HaveWords es → values_of r es ≡ Ok xs → AllFit xs
  values-words r End xs words has h = let P : List ℤ → Type 0 = AllFit in let same : [] ≡ xs = cc in subst P same tt
  values-words r (More e es) xs words has h =
      let v = and_then-ok (value_of r e) (λ y. and_then (values_of r es) (λ ys. Ok (y ∷ ys))) xs h in
      let w = and_then-ok (values_of r es) (λ ys. Ok (v.0 ∷ ys)) xs v.2 in
      let same : v.0 ∷ w.0 ≡ xs = cc in
      let P : List ℤ → Type 0 = AllFit in
      subst P same (value-word r e v.0 words has.0 v.1, values-words r es w.0 words has.1 w.1)

-- ---- stores

-- what each element of a list is, the default among them, stays where one is replaced
set-kept : {A : Type 0} (P : A → Type 0) (xs : List A) (k j : ℕ) (x d : A) → ((i : ℕ) → P (get_or xs i d)) → P x → P (get_or (set xs k x) j d)
set-kept P [] zero j x d each new = each j
set-kept P [] (suc k) j x d each new = each j
set-kept P (y ∷ ys) zero zero x d each new = new
set-kept P (y ∷ ys) zero (suc j) x d each new = each (suc j)
set-kept P (y ∷ ys) (suc k) zero x d each new = each zero
set-kept P (y ∷ ys) (suc k) (suc j) x d each new = set-kept P ys k j x d (λ i. each (suc i)) new

Fits : ℤ → Type 0
Fits x = fits_i64 x ≡ true

-- another number in a cell
put-words : (p : CheckedProgram) (cell : Cell) (x : ℤ) (s : Store) → AreWords (readings_of p s) → fits_i64 x ≡ true → AreWords (readings_of p (put cell x s))
put-words p (ScalarCell k) x s words new = record {
  scalars = λ j. set-kept (λ y. fits_i64 y ≡ true) s.scalars k j x (pos 0) words.scalars new;
  elements = λ array n site. words.elements array n site;
}
put-words p (ElementCell array n) x s words new = record {
  scalars = words.scalars;
  elements = λ other m site. set-kept (λ ys. (i : ℕ) → fits_i64 (get_or ys i (pos 0)) ≡ true) s.arrays array other (set (get_or s.arrays array []) n x) []
      (λ a i. words.elements a i site)
      (λ i. set-kept (λ y. fits_i64 y ≡ true) (get_or s.arrays array []) n i x (pos 0) (λ l. words.elements array l site) new) m;
}

-- zeros are 0
zeros-fit : (n k : ℕ) → fits_i64 (get_or (replicate n (pos 0)) k (pos 0)) ≡ true
zeros-fit zero k = refl
zeros-fit (suc n) zero = refl
zeros-fit (suc n) (suc k) = zeros-fit n k

first_arrays-fit : (arrays : List Array) (array n : ℕ) → fits_i64 (get_or (get_or (map (λ (a : Array). replicate (size_of a.shape) (pos 0)) arrays) array []) n (pos 0)) ≡ true
first_arrays-fit [] array n = refl
first_arrays-fit (a ∷ as_) zero n = zeros-fit (size_of a.shape) n
first_arrays-fit (a ∷ as_) (suc array) n = first_arrays-fit as_ array n

first-words : (p : CheckedProgram) → AreWords (readings_of p (first_store p))
first-words p = record { scalars = zeros-fit (length p.scalars); elements = λ array n site. first_arrays-fit p.arrays array n }

-- an assignment
pub assigned-words : (p : CheckedProgram) (target : Target) (e : Expression) (s next : Store) → AreWords (readings_of p s) → HasWords e → assigned p target e s ≡ Ok next → AreWords (readings_of p next)
assigned-words p target e s next words has h =
    let c = and_then-ok (cell_of (readings_of p s) target) (λ cell. and_then (value_of (readings_of p s) e) (λ x. Ok (put cell x s))) next h in
    let v = and_then-ok (value_of (readings_of p s) e) (λ x. Ok (put c.0 x s)) next c.2 in
    let same : put c.0 v.0 s ≡ next = cc in
    subst (λ t. AreWords (readings_of p t)) same (put-words p c.0 v.0 s words (value-word (readings_of p s) e v.0 words has v.1))

-- a number of the input
taken-fits : (input : List ℤ) (k : ℕ) (x : ℤ) → All (λ n. fits_i64 n ≡ true) input → ok_or (slice_get input k) EndOfInput ≡ Ok x → fits_i64 x ≡ true
taken-fits input k x all h = by (slice_get input k) refl h
  where
    by : (o : Option ℤ) → slice_get input k ≡ o → ok_or o EndOfInput ≡ Ok x → fits_i64 x ≡ true
    by (Some y) e h =
        let same : y ≡ x = cc in
        let found : slice_get input k ≡ Some x = e ∙ ap Some same in
        ap fits_i64 (sym (get_or_from_slice_get input k x x found)) ∙ All-get_or (λ n. fits_i64 n ≡ true) input k x (slice_get_within input k x found) all
    by None e h = absurd (cc)

-- a READ
pub read-words : (p : CheckedProgram) (input : List ℤ) (target : Target) (s next : Store) → All (λ n. fits_i64 n ≡ true) input → AreWords (readings_of p s) → read_into p input target s ≡ Ok next → AreWords (readings_of p next)
read-words p input target s next all words h =
    let c = and_then-ok (cell_of (readings_of p s) target) (λ cell. and_then (ok_or (slice_get input s.taken) EndOfInput) (λ x. Ok (put cell x (record s { taken = s.taken + 1 })))) next h in
    let v = and_then-ok (ok_or (slice_get input s.taken) EndOfInput) (λ x. Ok (put c.0 x (record s { taken = s.taken + 1 }))) next c.2 in
    let same : put c.0 v.0 (record s { taken = s.taken + 1 }) ≡ next = cc in
    subst (λ t. AreWords (readings_of p t)) same
    (put-words p c.0 v.0 (record s { taken = s.taken + 1 }) (record { scalars = words.scalars; elements = words.elements }) (taken-fits input s.taken v.0 all v.1))

-- the step of a DO
pub gained-words : (p : CheckedProgram) (var : ℕ) (by : ℤ) (s next : Store) → AreWords (readings_of p s) → gained var by s ≡ Ok next → AreWords (readings_of p next)
gained-words p var by s next words h =
    let v = and_then-ok (exact (get_or s.scalars var (pos 0) +ℤ by)) (λ x. Ok (put (ScalarCell var) x s)) next h in
    let same : put (ScalarCell var) v.0 s ≡ next = cc in
    subst (λ t. AreWords (readings_of p t)) same (put-words p (ScalarCell var) v.0 s words (exact-ok (get_or s.scalars var (pos 0) +ℤ by) v.0 v.1).1)

-- the first number of a DO
bounds-first : (r : Readings) (first last by : Expression) (b : Bounds) → bounds_of r first last by ≡ Ok b → value_of r first ≡ Ok b.first
bounds-first r first last by b h =
    let x = and_then-ok (value_of r first) (λ x. and_then (value_of r last) (λ y. and_then (value_of r by) (λ z. and_then (exact_trip_count x y z) (λ n. Ok (record { first = x; by = z; count = n }))))) b h in
    let y = and_then-ok (value_of r last) (λ y. and_then (value_of r by) (λ z. and_then (exact_trip_count x.0 y z) (λ n. Ok (record { first = x.0; by = z; count = n })))) b x.2 in
    let z = and_then-ok (value_of r by) (λ z. and_then (exact_trip_count x.0 y.0 z) (λ n. Ok (record { first = x.0; by = z; count = n }))) b y.2 in
    let n = and_then-ok (exact_trip_count x.0 y.0 z.0) (λ n. Ok (record { first = x.0; by = z.0; count = n })) b z.2 in
    let same : record { first = x.0; by = z.0; count = n.0 } ≡ b = cc in
    subst (λ c. value_of r first ≡ Ok c.first) same x.1

-- the store where a DO has begun
pub first-stored : (p : CheckedProgram) (var : ℕ) (first last by : Expression) (b : Bounds) (s : Store) → AreWords (readings_of p s) → HasWords first → bounds_of (readings_of p s) first last by ≡ Ok b → AreWords (readings_of p (put (ScalarCell var) b.first s))
first-stored p var first last by b s words has h = put-words p (ScalarCell var) b.first s words (value-word (readings_of p s) first b.first words has (bounds-first (readings_of p s) first last by b h))

-- ---- runs

-- the store has words alone
abbrev pub HasStored : Task → Progress → Type 0
HasStored t now = AreWords (readings_of t.program now.store)

-- the input is of words
abbrev pub IsGiven : Task → Type 0
IsGiven t = All (λ n. fits_i64 n ≡ true) t.input

-- where a run goes on from there, it keeps to words
abbrev pub Keeps : Task → (Progress → Onward) → Type 0
Keeps t body = (x y : Progress) → HasStored t x → body x ≡ Ok y → HasStored t y

-- a run that goes on behind a step has made it, with a result
made : {A : Type 0} (b : Bool) (line : Line) (now : Progress) (r : Result A FaultKind) (go : A → Progress → Onward) (y : Progress) → allowed b line now r go ≡ Ok y → (x : A) × (r ≡ Ok x) × (go x (later now) ≡ Ok y)
made true line now (Ok x) go y h = (x, refl, h)
made true line now (Err kind) go y h = absurd (cc)
made false line now r go y h = absurd (cc)

-- a step that only changes the store
store-words : (t : Task) (b : Bool) (line : Line) (now : Progress) (r : Result Store FaultKind) (y : Progress) → ((store : Store) → r ≡ Ok store → AreWords (readings_of t.program store))
    → allowed b line now r (λ store behind. Ok (record behind { store = store })) ≡ Ok y → HasStored t y
store-words t b line now r y each h =
    let at = made b line now r (λ store behind. Ok (record behind { store = store })) y h in
    let same : record (later now) { store = at.0 } ≡ y = cc (at.2) in
    subst (HasStored t) same (each at.0 at.1)

-- a step that leaves the store has it as its result
abbrev good : Store → Result Store FaultKind
good s = Ok s

-- a step that leaves the store
same-words : (t : Task) (s : Store) → AreWords (readings_of t.program s) → (store : Store) → good s ≡ Ok store → AreWords (readings_of t.program store)
same-words t s words store h = let same : s ≡ store = cc in subst (λ z. AreWords (readings_of t.program z)) same words

iterations-words : (t : Task) (line : Line) (var : ℕ) (by : ℤ) (body : Progress → Onward) → Keeps t body → (left : ℕ) → Keeps t (iterations t.limit line var by body left)
iterations-words t line var by body keeps zero x y words h = let same : x ≡ y = cc in subst (HasStored t) same words
iterations-words t line var by body keeps (suc left) x y words h =
    let first = and_then-ok (body x) (λ next. allowed (nat_lt next.steps t.limit) line next (gained var by next.store) (λ store behind. iterations t.limit line var by body left (record behind { store = store }))) y h in
    let next = made (nat_lt first.0.steps t.limit) line first.0 (gained var by first.0.store) (λ store behind. iterations t.limit line var by body left (record behind { store = store })) y first.2 in
    iterations-words t line var by body keeps left (record (later first.0) { store = next.0 }) y (gained-words t.program var by first.0.store next.0 (keeps x first.0 words first.1) next.1) next.2

while-words : (t : Task) (line : Line) (holds : Store → Result Bool FaultKind) (body : Progress → Onward) → Keeps t body → (left : ℕ) → Keeps t (while_tests t.limit line holds body left)
while-words t line holds body keeps zero x y words h = absurd (cc)
while-words t line holds body keeps (suc left) x y words h =
    let tested = made (nat_lt x.steps t.limit) line x (holds x.store) (λ b behind. chosen b (λ inside. and_then (body inside) (while_tests t.limit line holds body left)) (λ outside. Ok outside) behind) y h in
    behind tested.0 (while-words t line holds body keeps left) tested.2
  where
    behind : (b : Bool) → Keeps t (while_tests t.limit line holds body left)
        → chosen b (λ inside. and_then (body inside) (while_tests t.limit line holds body left)) (λ outside. Ok outside) (later x) ≡ Ok y → HasStored t y
    behind true more h =
        let first = and_then-ok (body (later x)) (while_tests t.limit line holds body left) y h in
        more first.0 y (keeps (later x) first.0 words first.1) first.2
    behind false more h = let same : later x ≡ y = cc in subst (HasStored t) same words

-- one side or the other
side-words : (t : Task) (b : Bool) (f g : Progress → Onward) (x y : Progress) → Keeps t f → Keeps t g → HasStored t x → chosen b f g x ≡ Ok y → HasStored t y
side-words t true f g x y keeps others words h = keeps x y words h
side-words t false f g x y keeps others words h = others x y words h

-- behind the start of a DO
started-words : (t : Task) (var : ℕ) (first last by : Expression) (b : Bounds) (now : Progress) → HasWords first → HasStored t now → bounds_of (readings_of t.program now.store) first last by ≡ Ok b → HasStored t (started var b now)
started-words t var first last by b now has words h = first-stored t.program var first last by b now.store words has h

mutual
  -- a statement keeps to words
  after-words : (t : Task) → IsGiven t → (s : Statement) → SetsWords s → Keeps t (after t s)
  after-words t given (Assign line target e) has x y words h =
      store-words t (nat_lt x.steps t.limit) line x (assigned t.program target e x.store) y (λ store. assigned-words t.program target e x.store store words has) h
  after-words t given (If line c so otherwise) has x y words h =
      let at = made (nat_lt x.steps t.limit) line x (truth_of (readings_of t.program x.store) c) (λ b. chosen b (after_all t so) (after_all t otherwise)) y h in
      side-words t at.0 (after_all t so) (after_all t otherwise) (later x) y (after_all-words t given so has.0) (after_all-words t given otherwise has.1) words at.2
  after-words t given (Do line var first last by body) has x y words h =
      let at = made (nat_lt x.steps t.limit) line x (bounds_of (readings_of t.program x.store) first last by)
      (λ b next. looped t.limit line var b.by (after_all t body) b.count (record next { store = put (ScalarCell var) b.first next.store })) y h in
      let begun = started var at.0 x in
      let next = made (nat_lt (x.steps + 1) t.limit) line begun (Ok begun.store) (λ store behind. iterations t.limit line var at.0.by (after_all t body) at.0.count (record behind { store = store })) y at.2 in
      iterations-words t line var at.0.by (after_all t body) (after_all-words t given body has.1) at.0.count (record (later begun) { store = next.0 }) y
      (same-words t begun.store (started-words t var first last by at.0 x has.0 words at.1) next.0 next.1) next.2
  after-words t given (While line c body) has x y words h =
      while-words t line (λ s. truth_of (readings_of t.program s) c) (after_all t body) (after_all-words t given body has) (t.limit - x.steps) x y words h
  after-words t given (Read line target) has x y words h =
      store-words t (nat_lt x.steps t.limit) line x (read_into t.program t.input target x.store) y (λ store. read-words t.program t.input target x.store store given words) h
  after-words t given (Print line items) has x y words h =
      let at = made (nat_lt x.steps t.limit) line x (line_text (readings_of t.program x.store) items) (λ text next. Ok (with_line text next)) y h in
      let same : with_line at.0 (later x) ≡ y = cc (at.2) in
      subst (HasStored t) same words
  after-words t given (Continue line) has x y words h = store-words t (nat_lt x.steps t.limit) line x (Ok x.store) y (same-words t x.store words) h
  after-words t given (Distribute line decomp remapped) has x y words h = store-words t (nat_lt x.steps t.limit) line x (Ok x.store) y (same-words t x.store words) h

  after_all-words : (t : Task) → IsGiven t → (ss : Statements) → SetWords ss → Keeps t (after_all t ss)
  after_all-words t given Empty has x y words h = let same : x ≡ y = cc in subst (HasStored t) same words
  after_all-words t given (Then s ss) has x y words h =
      let at = and_then-ok (after t s x) (after_all t ss) y h in
      after_all-words t given ss has.1 at.0 y (after-words t given s has.0 x at.0 words at.1) at.2

-- ---- on the way

side_set : (b : Bool) (so otherwise : Statements) → SetWords so → SetWords otherwise → SetWords (side_of b so otherwise)
side_set true so otherwise h k = h
side_set false so otherwise h k = k

mutual
  -- wherever a run comes by, it has stored words
  passes-words : (t : Task) → IsGiven t → {s : Statement} {now p : Progress} → SetsWords s → HasStored t now → Passes t s now p → HasStored t p
  passes-words t given has words begins = words
  passes-words t given has words (in_side {so = so} {otherwise = otherwise} {b = b} step inside) = among-words t given (side_set b so otherwise has.0 has.1) words inside
  passes-words t given has words (before_loop {var = var} {first = first} {last = last} {by = by} {now = now} {b = b} step) = started-words t var first last by b now has.0 words step.result_is
  passes-words t given has words (in_loop {var = var} {first = first} {last = last} {by = by} {now = now} {b = b} step more inside) =
      turns-words t given has.1 (started-words t var first last by b now has.0 words step.result_is) inside
  passes-words t given has words (in_body step inside) = among-words t given has words inside
  passes-words t given has words (again {body = body} {now = now} {next = next} step one inside) =
      passes-words t given has (after_all-words t given body has (later now) next words one) inside

  among-words : (t : Task) → IsGiven t → {ss : Statements} {now p : Progress} → SetWords ss → HasStored t now → PassesAmong t ss now p → HasStored t p
  among-words t given has words at_begin = words
  among-words t given has words (in_first inside) = passes-words t given has.0 words inside
  among-words t given has words (behind_first {s = s} {now = now} {next = next} one inside) = among-words t given has.1 (after-words t given s has.0 now next words one) inside

  turns-words : (t : Task) → IsGiven t → {var : ℕ} {by : ℤ} {body : Statements} {left : ℕ} {now p : Progress} → SetWords body → HasStored t now → PassesIterations t var by body left now p → HasStored t p
  turns-words t given has words behind_test = words
  turns-words t given has words (in_iteration inside) = among-words t given has words inside
  turns-words t given has words (next_iteration {var = var} {by = by} {body = body} {now = now} {next = next} {store = store} one step inside) =
      turns-words t given has (gained-words t.program var by next.store store (after_all-words t given body has now next words one) step.result_is) inside

-- every store that a run in sequence comes by
pub passed-words : (t : Task) (p : Progress) → IsGiven t → SetWords t.program.body → IsPassed t p → AreWords (readings_of t.program p.store)
passed-words t p given has passed = among-words t given has (first-words t.program) passed
