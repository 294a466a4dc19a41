-- Where a run in sequence comes by: before its first step, and behind each.
use Rattle.std.specs.Prelude.{◌≡◌, ℕ, suc, ◌+◌, ◌<◌, ℤ, Bool, true, false, [], Result, Ok}
use Rattle.fd_base.specs.declared.numbering.Line.{Line}
use Rattle.fd_base.specs.declared.numbers.FaultKind.{FaultKind}
use Rattle.fd_prog.specs.Expressions.{Expression}
use Rattle.fd_prog.specs.Conditions.{Condition}
use Rattle.fd_prog.specs.Statements.{Statement, If, Do, While, Statements, Then}
use Rattle.fd_prog.specs.Values.{truth_of}
use Rattle.fd_prog.specs.Stores.{Store, first_store, readings_of, ScalarCell, put}
use Rattle.fd_prog.specs.Sequence.{Progress, Bounds, Task, bounds_of, gained, after, after_all}

-- a step from there is made: the limit allows it, and this is its result
pub record IsMade {A : Type 0} (limit : ℕ) (now : Progress) (result : Result A FaultKind) (x : A) : Type 0 where
  pub allowed : now.steps < limit
  pub result_is : result ≡ Ok x

-- one step later
abbrev pub later : Progress → Progress
later now = record now { steps = now.steps + 1 }

-- behind the start of a DO, which gives its variable the first number
abbrev pub started : ℕ → Bounds → Progress → Progress
started var b now = record (later now) { store = put (ScalarCell var) b.first now.store }

-- the statements of one side of an IF
abbrev pub side_of : Bool → Statements → Statements → Statements
side_of true so otherwise = so
side_of false so otherwise = otherwise

mutual
  -- the run of a statement that begins somewhere comes by somewhere
  pub data Passes (t : Task) : Statement → Progress → Progress → Type 0 where
    begins : {s : Statement} {now : Progress} → Passes t s now now
    in_side : {line : Line} {c : Condition} {so otherwise : Statements} {now p : Progress} {b : Bool} → IsMade t.limit now (truth_of (readings_of t.program now.store) c) b
        → PassesAmong t (side_of b so otherwise) (later now) p → Passes t (If line c so otherwise) now p
    before_loop : {line : Line} {var : ℕ} {first last by : Expression} {body : Statements} {now : Progress} {b : Bounds} → IsMade t.limit now (bounds_of (readings_of t.program now.store) first last by) b
        → Passes t (Do line var first last by body) now (started var b now)
    in_loop : {line : Line} {var : ℕ} {first last by : Expression} {body : Statements} {now p : Progress} {b : Bounds} → IsMade t.limit now (bounds_of (readings_of t.program now.store) first last by) b
        → now.steps + 1 < t.limit → PassesIterations t var b.by body b.count (later (started var b now)) p → Passes t (Do line var first last by body) now p
    in_body : {line : Line} {c : Condition} {body : Statements} {now p : Progress} → IsMade t.limit now (truth_of (readings_of t.program now.store) c) true
        → PassesAmong t body (later now) p → Passes t (While line c body) now p
    again : {line : Line} {c : Condition} {body : Statements} {now next p : Progress} → IsMade t.limit now (truth_of (readings_of t.program now.store) c) true
        → after_all t body (later now) ≡ Ok next → Passes t (While line c body) next p → Passes t (While line c body) now p

  -- the same of statements, one after the other
  pub data PassesAmong (t : Task) : Statements → Progress → Progress → Type 0 where
    at_begin : {ss : Statements} {now : Progress} → PassesAmong t ss now now
    in_first : {s : Statement} {ss : Statements} {now p : Progress} → Passes t s now p → PassesAmong t (Then s ss) now p
    behind_first : {s : Statement} {ss : Statements} {now next p : Progress} → after t s now ≡ Ok next → PassesAmong t ss next p → PassesAmong t (Then s ss) now p

  -- the same of a DO behind a test, with so many iterations left
  pub data PassesIterations (t : Task) : ℕ → ℤ → Statements → ℕ → Progress → Progress → Type 0 where
    behind_test : {var left : ℕ} {by : ℤ} {body : Statements} {now : Progress} → PassesIterations t var by body left now now
    in_iteration : {var left : ℕ} {by : ℤ} {body : Statements} {now p : Progress} → PassesAmong t body now p → PassesIterations t var by body (suc left) now p
    next_iteration : {var left : ℕ} {by : ℤ} {body : Statements} {now next p : Progress} {store : Store} → after_all t body now ≡ Ok next → IsMade t.limit next (gained var by next.store) store
        → PassesIterations t var by body left (record (later next) { store = store }) p → PassesIterations t var by body (suc left) now p

-- a run in sequence comes by: its steps begin with the first store
abbrev pub IsPassed : Task → Progress → Type 0
IsPassed t p = PassesAmong t t.program.body (record { store = first_store t.program; steps = 0; lines = [] }) p
