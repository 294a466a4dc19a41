-- The run of a program in sequence, by recursion on its statements over whole stores.
use Rattle.std.specs.Prelude.{ℕ, zero, suc, ◌+◌, ◌-◌, ℤ, pos, ◌+ℤ◌, Bool, true, false, nat_lt, List, [], ◌∷◌, ◌++◌, slice_index_or, Result, Ok, Err}
use Rattle.std.specs.List.{join_with_byte}
use Rattle.std.specs.Fmt.{signed_decimal}
use Rattle.fd_base.specs.declared.numbering.Line.{Line}
use Rattle.fd_base.specs.declared.numbers.FaultKind.{FaultKind}
use Rattle.fd_base.specs.declared.numbers.FaultKind.TheVariants.{StepLimit}
use Rattle.fd_base.specs.Numbers.{exact, exact_trip_count}
use Rattle.fd_prog.specs.declared.run.Printed.{Printed}
use Rattle.fd_prog.specs.declared.run.Outcome.TheVariants.{Done, Fault}
use Rattle.fd_prog.specs.Run.{Run}
use Rattle.fd_prog.specs.Outcomes.{and_then}
use Rattle.fd_prog.specs.Expressions.{Expression}
use Rattle.fd_prog.specs.Statements.{PrintItem, Words, Value, Statement, Assign, If, Do, While, Read, Print, Continue, Distribute, Statements, Empty, Then}
use Rattle.fd_prog.specs.Programs.{CheckedProgram}
use Rattle.fd_prog.specs.Values.{Readings, value_of, truth_of}
use Rattle.fd_prog.specs.Stores.{Store, first_store, readings_of, ScalarCell, put, assigned, read_into}

-- ---- steps

-- where a run stands: the store, the count of completed steps, and the printed lines
pub record Progress : Type 0 where
  pub store : Store
  pub steps : ℕ
  pub lines : List Printed

-- a run goes on from there, or has ended
abbrev pub Onward : Type 0
Onward = Result Progress Run

-- the step at hand has a fault, which ends the run
abbrev pub ends_at : Line → FaultKind → Progress → Onward
ends_at line kind now = Err (record { lines = now.lines; outcome = Fault (now.steps + 1) line kind })

-- a step with this result: it is completed and the run goes on, or its fault ends the run
abbrev pub completed : {A : Type 0} → Line → Progress → Result A FaultKind → (A → Progress → Onward) → Onward
completed line now (Ok x) go = go x (record now { steps = now.steps + 1 })
completed line now (Err kind) go = ends_at line kind now

-- the same where the limit allows one step more, and else the fault StepLimit
abbrev pub allowed : {A : Type 0} → Bool → Line → Progress → Result A FaultKind → (A → Progress → Onward) → Onward
allowed true line now result go = completed line now result go
allowed false line now result go = ends_at line StepLimit now

-- one step of a line, up to a limit of steps, with what it gives in the store as it stands before it
abbrev pub step : {A : Type 0} → ℕ → Line → Progress → Result A FaultKind → (A → Progress → Onward) → Onward
step limit line now result go = allowed (nat_lt now.steps limit) line now result go

-- one step that only changes the store
abbrev pub store_step : ℕ → Line → Progress → Result Store FaultKind → (Progress → Onward) → Onward
store_step limit line now result go = step limit line now result (λ store after. go (record after { store = store }))

-- ---- lines

-- the text of an item of a PRINT
abbrev pub item_text : Readings → PrintItem → Result (List ℕ) FaultKind
item_text r (Words text) = Ok text
item_text r (Value e) = and_then (value_of r e) (λ x. Ok (signed_decimal x))

-- the texts of all items from left to right, or the first fault
abbrev pub item_texts : Readings → List PrintItem → Result (List (List ℕ)) FaultKind
item_texts r [] = Ok []
item_texts r (i ∷ is) = and_then (item_text r i) (λ t. and_then (item_texts r is) (λ ts. Ok (t ∷ ts)))

-- the line of a PRINT, its items separated by one blank
abbrev pub line_text : Readings → List PrintItem → Result (List ℕ) FaultKind
line_text r is = and_then (item_texts r is) (λ ts. Ok (join_with_byte 32 ts))

-- one more printed line, which is of the last completed step
abbrev pub with_line : List ℕ → Progress → Progress
with_line text now = record now { lines = now.lines ++ record { step = now.steps; text = text } ∷ [] }

-- ---- loops

-- how a DO begins: the first number of its variable, its step, and how often it iterates
pub record Bounds : Type 0 where
  pub first : ℤ
  pub by : ℤ
  pub count : ℕ

-- the three bounds in order, then the step is tested and the count is fixed (ANSI X3.9-1978, 11.10.3)
abbrev pub bounds_of : Readings → Expression → Expression → Expression → Result Bounds FaultKind
bounds_of r first last by =
    and_then (value_of r first) (λ x. and_then (value_of r last) (λ y. and_then (value_of r by) (λ z.
    and_then (exact_trip_count x y z) (λ n. Ok (record { first = x; by = z; count = n })))))

-- the store where a scalar has gained a number
abbrev pub gained : ℕ → ℤ → Store → Result Store FaultKind
gained var by s = and_then (exact (slice_index_or s.scalars var (pos 0) +ℤ by)) (λ x. Ok (put (ScalarCell var) x s))

-- so many iterations of a DO: each is the body and the test behind it, in which the variable first gains the step
abbrev pub iterations : ℕ → Line → ℕ → ℤ → (Progress → Onward) → ℕ → Progress → Onward
iterations limit line var by body zero now = Ok now
iterations limit line var by body (suc left) now =
    and_then (body now) (λ next. store_step limit line next (gained var by next.store) (iterations limit line var by body left))

-- a DO behind its start: its first test, which only makes a step, and its iterations
abbrev pub looped : ℕ → Line → ℕ → ℤ → (Progress → Onward) → ℕ → Progress → Onward
looped limit line var by body count now = store_step limit line now (Ok now.store) (iterations limit line var by body count)

-- goes one way or the other
abbrev pub chosen : Bool → (Progress → Onward) → (Progress → Onward) → Progress → Onward
chosen true so otherwise now = so now
chosen false so otherwise now = otherwise now

-- the tests of a DO WHILE, of which there are at most as many as steps are left: where none is left, the limit comes
abbrev pub while_tests : ℕ → Line → (Store → Result Bool FaultKind) → (Progress → Onward) → ℕ → Progress → Onward
while_tests limit line holds body zero now = ends_at line StepLimit now
while_tests limit line holds body (suc left) now =
    step limit line now (holds now.store) (λ b after. chosen b (λ inside. and_then (body inside) (while_tests limit line holds body left)) (λ outside. Ok outside) after)

-- ---- statements

-- what is run: a program, on the numbers of an input, up to a limit of steps
pub record Task : Type 0 where
  pub program : CheckedProgram
  pub input : List ℤ
  pub limit : ℕ

abbrev mutual
  -- what comes of a run at a statement
  pub after : Task → Statement → Progress → Onward
  after t (Assign line target e) now = store_step t.limit line now (assigned t.program target e now.store) (λ next. Ok next)
  after t (If line c so otherwise) now =
      step t.limit line now (truth_of (readings_of t.program now.store) c) (λ b. chosen b (after_all t so) (after_all t otherwise))
  after t (Do line var first last by body) now =
      step t.limit line now (bounds_of (readings_of t.program now.store) first last by)
      (λ b next. looped t.limit line var b.by (after_all t body) b.count (record next { store = put (ScalarCell var) b.first next.store }))
  after t (While line c body) now =
      while_tests t.limit line (λ s. truth_of (readings_of t.program s) c) (after_all t body) (t.limit - now.steps) now
  after t (Read line target) now = store_step t.limit line now (read_into t.program t.input target now.store) (λ next. Ok next)
  after t (Print line items) now = step t.limit line now (line_text (readings_of t.program now.store) items) (λ text next. Ok (with_line text next))
  after t (Continue line) now = store_step t.limit line now (Ok now.store) (λ next. Ok next)
  after t (Distribute line decomp given) now = store_step t.limit line now (Ok now.store) (λ next. Ok next)

  pub after_all : Task → Statements → Progress → Onward
  after_all t Empty now = Ok now
  after_all t (Then s ss) now = and_then (after t s now) (after_all t ss)

-- the run of a progress that is behind the last statement, or of what ended it
abbrev pub ended : Onward → Run
ended (Ok now) = record { lines = now.lines; outcome = Done }
ended (Err run) = run

-- the run of a program on an input, up to a limit of steps
abbrev pub sequential_run : CheckedProgram → List ℤ → ℕ → Run
sequential_run p input limit =
    ended (after_all (record { program = p; input = input; limit = limit }) p.body (record { store = first_store p; steps = 0; lines = [] }))
