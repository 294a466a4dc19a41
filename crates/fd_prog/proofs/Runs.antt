-- A run goes forward, and a DO WHILE is its test, its body, and the same again.
use Rattle.std.proofs.Common.{◌≡◌, ℕ, zero, suc, ℤ, ◌+◌, ◌-◌, ◌≤◌, Bool, true, false, nat_lt, Result, Ok, Err, refl, ap, arith}
use Rattle.std.proofs.lemmas.Bool.Decides.{nat_tests}
use Rattle.fd_base.specs.declared.numbering.Line.{Line}
use Rattle.fd_base.specs.declared.numbers.FaultKind.{FaultKind}
use Rattle.fd_prog.specs.Outcomes.{and_then}
use Rattle.fd_prog.specs.Conditions.{Condition}
use Rattle.fd_prog.specs.Statements.{Statement, Assign, If, Do, While, Read, Print, Continue, Distribute, Statements, Empty, Then}
use Rattle.fd_prog.specs.Values.{truth_of}
use Rattle.fd_prog.specs.Stores.{Store, readings_of, assigned, read_into, ScalarCell, put}
use Rattle.fd_prog.specs.Sequence.{Progress, Onward, Task, allowed, step, store_step, line_text, with_line, bounds_of, gained, iterations, looped, chosen, while_tests, after, after_all}

-- both parts were found
pub and_then-ok : {A B E : Type 0} (r : Result A E) (f : A → Result B E) (y : B) → and_then r f ≡ Ok y → (a : A) × (r ≡ Ok a) × (f a ≡ Ok y)
and_then-ok (Ok x) f y h = (x, refl, h)
and_then-ok (Err kind) f y h = absurd (cc)

-- only what follows what was found matters
pub and_then-same : {A B E : Type 0} (r : Result A E) (f g : A → Result B E) → ((x : A) → r ≡ Ok x → f x ≡ g x) → and_then r f ≡ and_then r g
and_then-same (Ok x) f g same = same x refl
and_then-same (Err e) f g same = refl

-- one step later
abbrev pub counted : Progress → Progress
counted now = record now { steps = now.steps + 1 }

-- a run that goes on behind a step has made it
pub allowed-ok : {A : Type 0} (b : Bool) (line : Line) (now : Progress) (r : Result A FaultKind) (go : A → Progress → Onward) (y : Progress) → allowed b line now r go ≡ Ok y → (x : A) × (go x (counted now) ≡ Ok y)
allowed-ok true line now (Ok x) go y h = (x, h)
allowed-ok true line now (Err kind) go y h = absurd (cc)
allowed-ok false line now r go y h = absurd (cc)

-- only what follows a step that is made matters
pub allowed-same : {A : Type 0} (b : Bool) (line : Line) (now : Progress) (r : Result A FaultKind) (f g : A → Progress → Onward) → ((x : A) → f x (counted now) ≡ g x (counted now)) → allowed b line now r f ≡ allowed b line now r g
allowed-same true line now (Ok x) f g same = same x
allowed-same true line now (Err kind) f g same = refl
allowed-same false line now r f g same = refl

-- where the run goes on, it does so no earlier
abbrev pub GoesForward : (Progress → Onward) → Type 0
GoesForward body = (x y : Progress) → body x ≡ Ok y → x.steps ≤ y.steps

pub iterations-forward : (limit : ℕ) (line : Line) (var : ℕ) (by : ℤ) (body : Progress → Onward) → GoesForward body → (left : ℕ) → GoesForward (iterations limit line var by body left)
iterations-forward limit line var by body forward zero x y h = let same : x ≡ y = cc in omega (arith, ap (λ (p : Progress). p.steps) same)
iterations-forward limit line var by body forward (suc left) x y h =
    let first = and_then-ok (body x) (λ next. store_step limit line next (gained var by next.store) (iterations limit line var by body left)) y h in
    let next = allowed-ok (nat_lt first.0.steps limit) line first.0 (gained var by first.0.store) (λ store behind. iterations limit line var by body left (record behind { store = store })) y first.2 in
    let rest = iterations-forward limit line var by body forward left (record (counted first.0) { store = next.0 }) y next.1 in
    omega (arith, forward x first.0 first.1, rest)

pub while_tests-forward : (limit : ℕ) (line : Line) (holds : Store → Result Bool FaultKind) (body : Progress → Onward) → GoesForward body → (left : ℕ) → GoesForward (while_tests limit line holds body left)
while_tests-forward limit line holds body forward zero x y h = absurd (cc)
while_tests-forward limit line holds body forward (suc left) x y h =
    let tested = allowed-ok (nat_lt x.steps limit) line x (holds x.store) (λ b behind. chosen b (λ inside. and_then (body inside) (while_tests limit line holds body left)) (λ outside. Ok outside) behind) y h in
    behind limit line holds body forward left (while_tests-forward limit line holds body forward left) x y tested.0 tested.1
  where
    behind : (limit : ℕ) (line : Line) (holds : Store → Result Bool FaultKind) (body : Progress → Onward) → GoesForward body → (left : ℕ) → GoesForward (while_tests limit line holds body left) → (x y : Progress) (b : Bool)
        → chosen b (λ inside. and_then (body inside) (while_tests limit line holds body left)) (λ outside. Ok outside) (counted x) ≡ Ok y → x.steps ≤ y.steps
    behind limit line holds body forward left more x y true h =
        let first = and_then-ok (body (counted x)) (while_tests limit line holds body left) y h in
        omega (arith, forward (counted x) first.0 first.1, more first.0 y first.2)
    behind limit line holds body forward left more x y false h = let same : counted x ≡ y = cc in omega (arith, ap (λ (p : Progress). p.steps) same)

-- a step whose result is a store
stored : (b : Bool) (line : Line) (now : Progress) (r : Result Store FaultKind) (go : Progress → Onward) (y : Progress) → allowed b line now r (λ store behind. go (record behind { store = store })) ≡ Ok y
    → (store : Store) × (go (record (counted now) { store = store }) ≡ Ok y)
stored b line now r go y h = allowed-ok b line now r (λ store behind. go (record behind { store = store })) y h

-- a simple step is one step
one_step : (b : Bool) (line : Line) (now : Progress) (r : Result Store FaultKind) (y : Progress) → allowed b line now r (λ store behind. Ok (record behind { store = store })) ≡ Ok y → now.steps ≤ y.steps
one_step b line now r y h =
    let at = stored b line now r (λ next. Ok next) y h in
    let same : record (counted now) { store = at.0 } ≡ y = cc (at.1) in
    omega (arith, ap (λ (p : Progress). p.steps) same)

-- one side or the other
one_side : (b : Bool) (f g : Progress → Onward) (x y : Progress) → GoesForward f → GoesForward g → chosen b f g x ≡ Ok y → x.steps ≤ y.steps
one_side true f g x y forward others h = forward x y h
one_side false f g x y forward others h = others x y h

mutual
  -- a statement goes forward
  pub after-forward : (t : Task) (s : Statement) → GoesForward (after t s)
  after-forward t (Assign line target e) x y h = one_step (nat_lt x.steps t.limit) line x (assigned t.program target e x.store) y h
  after-forward t (If line c so otherwise) x y h =
      let at = allowed-ok (nat_lt x.steps t.limit) line x (truth_of (readings_of t.program x.store) c) (λ b. chosen b (after_all t so) (after_all t otherwise)) y h in
      let rest : x.steps + 1 ≤ y.steps = one_side at.0 (after_all t so) (after_all t otherwise) (counted x) y (after_all-forward t so) (after_all-forward t otherwise) at.1 in
      omega arith
  after-forward t (Do line var first last by body) x y h =
      let at = allowed-ok (nat_lt x.steps t.limit) line x (bounds_of (readings_of t.program x.store) first last by)
      (λ b next. looped t.limit line var b.by (after_all t body) b.count (record next { store = put (ScalarCell var) b.first next.store })) y h in
      let begun = record (counted x) { store = put (ScalarCell var) at.0.first x.store } in
      let next = stored (nat_lt (x.steps + 1) t.limit) line begun (Ok begun.store) (iterations t.limit line var at.0.by (after_all t body) at.0.count) y at.1 in
      let rest = iterations-forward t.limit line var at.0.by (after_all t body) (after_all-forward t body) at.0.count (record (counted begun) { store = next.0 }) y next.1 in
      omega (arith, rest)
  after-forward t (While line c body) x y h =
      while_tests-forward t.limit line (λ s. truth_of (readings_of t.program s) c) (after_all t body) (after_all-forward t body) (t.limit - x.steps) x y h
  after-forward t (Read line target) x y h = one_step (nat_lt x.steps t.limit) line x (read_into t.program t.input target x.store) y h
  after-forward t (Print line items) x y h =
      let at = allowed-ok (nat_lt x.steps t.limit) line x (line_text (readings_of t.program x.store) items) (λ text next. Ok (with_line text next)) y h in
      let same : with_line at.0 (counted x) ≡ y = cc (at.1) in
      omega (arith, ap (λ (p : Progress). p.steps) same)
  after-forward t (Continue line) x y h = one_step (nat_lt x.steps t.limit) line x (Ok x.store) y h
  after-forward t (Distribute line decomp given) x y h = one_step (nat_lt x.steps t.limit) line x (Ok x.store) y h

  pub after_all-forward : (t : Task) (ss : Statements) → GoesForward (after_all t ss)
  after_all-forward t Empty x y h = let same : x ≡ y = cc in omega (arith, ap (λ (p : Progress). p.steps) same)
  after_all-forward t (Then s ss) x y h =
      let at = and_then-ok (after t s x) (after_all t ss) y h in
      omega (arith, after-forward t s x at.0 at.1, after_all-forward t ss at.0 y at.2)

-- at the limit no step is allowed
at_limit : (limit steps : ℕ) → limit - steps ≤ 0 → nat_lt steps limit ≡ false
at_limit limit steps h = grind (arith, nat_tests)

-- the tests of a DO WHILE are the same for every number of tests that is enough
pub while_tests-enough : (limit : ℕ) (line : Line) (holds : Store → Result Bool FaultKind) (body : Progress → Onward) → GoesForward body → (n m : ℕ) (now : Progress) → limit - now.steps ≤ n → limit - now.steps ≤ m
    → while_tests limit line holds body n now ≡ while_tests limit line holds body m now
while_tests-enough limit line holds body forward zero zero now enough more = refl
while_tests-enough limit line holds body forward zero (suc m) now enough more = rw (at_limit limit now.steps enough) refl
while_tests-enough limit line holds body forward (suc n) zero now enough more = rw (at_limit limit now.steps more) refl
while_tests-enough limit line holds body forward (suc n) (suc m) now enough more =
    allowed-same (nat_lt now.steps limit) line now (holds now.store)
    (λ b behind. chosen b (λ inside. and_then (body inside) (while_tests limit line holds body n)) (λ outside. Ok outside) behind)
    (λ b behind. chosen b (λ inside. and_then (body inside) (while_tests limit line holds body m)) (λ outside. Ok outside) behind)
    (λ b. same limit line holds body forward n m now enough more (λ y later. while_tests-enough limit line holds body forward n m y (omega arith) (omega arith)) b)
  where
    same : (limit : ℕ) (line : Line) (holds : Store → Result Bool FaultKind) (body : Progress → Onward) → GoesForward body → (n m : ℕ) (now : Progress) → limit - now.steps ≤ suc n → limit - now.steps ≤ suc m
        → ((y : Progress) → now.steps + 1 ≤ y.steps → while_tests limit line holds body n y ≡ while_tests limit line holds body m y) → (b : Bool)
        → chosen b (λ inside. and_then (body inside) (while_tests limit line holds body n)) (λ outside. Ok outside) (counted now)
        ≡ chosen b (λ inside. and_then (body inside) (while_tests limit line holds body m)) (λ outside. Ok outside) (counted now)
    same limit line holds body forward n m now enough more rest true =
        and_then-same (body (counted now)) (while_tests limit line holds body n) (while_tests limit line holds body m) (λ y e. rest y (forward (counted now) y e))
    same limit line holds body forward n m now enough more rest false = refl

-- the tests of a DO WHILE with as many as steps are left: a test, and where it holds the body and the same again
pub while_tests-unfold : (limit : ℕ) (line : Line) (holds : Store → Result Bool FaultKind) (body : Progress → Onward) → GoesForward body → (n : ℕ) (now : Progress) → limit - now.steps ≡ n
    → while_tests limit line holds body n now
    ≡ step limit line now (holds now.store) (λ b behind. chosen b (λ inside. and_then (body inside) (λ y. while_tests limit line holds body (limit - y.steps) y)) (λ outside. Ok outside) behind)
while_tests-unfold limit line holds body forward zero now left = let full : limit - now.steps ≤ 0 = omega arith in rw (at_limit limit now.steps full) refl
while_tests-unfold limit line holds body forward (suc n) now left =
    allowed-same (nat_lt now.steps limit) line now (holds now.store)
    (λ b behind. chosen b (λ inside. and_then (body inside) (while_tests limit line holds body n)) (λ outside. Ok outside) behind)
    (λ b behind. chosen b (λ inside. and_then (body inside) (λ y. while_tests limit line holds body (limit - y.steps) y)) (λ outside. Ok outside) behind) (λ b. same b)
  where
    again : (y : Progress) → now.steps + 1 ≤ y.steps → while_tests limit line holds body n y ≡ while_tests limit line holds body (limit - y.steps) y
    again y later = while_tests-enough limit line holds body forward n (limit - y.steps) y (omega arith) (omega arith)

    same : (b : Bool) → chosen b (λ inside. and_then (body inside) (while_tests limit line holds body n)) (λ outside. Ok outside) (counted now)
        ≡ chosen b (λ inside. and_then (body inside) (λ y. while_tests limit line holds body (limit - y.steps) y)) (λ outside. Ok outside) (counted now)
    same true = and_then-same (body (counted now)) (while_tests limit line holds body n) (λ y. while_tests limit line holds body (limit - y.steps) y) (λ y e. again y (forward (counted now) y e))
    same false = refl

-- a DO WHILE is a step that tests its condition, and where that holds the body and the DO WHILE again
pub after-While : (t : Task) (line : Line) (c : Condition) (body : Statements) (now : Progress) → after t (While line c body) now
    ≡ step t.limit line now (truth_of (readings_of t.program now.store) c) (λ b behind. chosen b (λ inside. and_then (after_all t body inside) (after t (While line c body))) (λ outside. Ok outside) behind)
after-While t line c body now =
    while_tests-unfold t.limit line (λ s. truth_of (readings_of t.program s) c) (after_all t body) (after_all-forward t body) (t.limit - now.steps) now refl
