-- The courses of a program: the moments that a run comes by, one for each of its steps, with the DO loops that are open there.
use Rattle.std.specs.Prelude.{◌≡◌, ℕ, zero, suc, ◌+◌, ◌<◌, ℤ, Bool, true, false, List, [], ◌∷◌, ◌++◌, Option, Some, None, Result, Ok, Err}
use Rattle.fd_base.specs.declared.numbering.Line.{Line}
use Rattle.fd_base.specs.declared.numbers.FaultKind.{FaultKind}
use Rattle.fd_prog.specs.declared.statement.Remapped.{Remapped}
use Rattle.fd_prog.specs.Conditions.{Condition}
use Rattle.fd_prog.specs.Expressions.{Expression}
use Rattle.fd_prog.specs.Items.{Enclosing, Side, Repeated}
use Rattle.fd_prog.specs.Passed.{side_of}
use Rattle.fd_prog.specs.Sequence.{Bounds, Task, bounds_of, gained}
use Rattle.fd_prog.specs.Statements.{PrintItem, Target, Statement, Assign, If, Do, While, Read, Print, Continue, Distribute, Statements, Empty, Then}
use Rattle.fd_prog.specs.Stores.{Store, ScalarCell, assigned, first_store, put, read_into, readings_of}
use Rattle.fd_prog.specs.Uses.{counted}
use Rattle.fd_prog.specs.Values.{truth_of, value_of}

-- ---- moments

-- a DO: its line, its variable, its bounds and its step, and its body
pub record Loop : Type 0 where
  pub line : Line
  pub var : ℕ
  pub first : Expression
  pub last : Expression
  pub step : Expression
  pub body : Statements

-- a DO that is open: what its bounds gave when it began, the steps completed before it, the number of an iteration from 0, and the steps completed when that iteration began
pub record OpenLoop : Type 0 where
  pub loop : Loop
  pub bounds : Bounds
  pub began : ℕ
  pub number : ℕ
  pub turned : ℕ

-- what stands around a moment: a side of an IF, a DO WHILE, or an iteration of a DO
pub data Around : Type 0 where
  InSide : Around
  InWhile : Around
  InDo : OpenLoop → Around

-- the same as the items of references see it
abbrev pub enclosing : Around → Enclosing
enclosing InSide = Side
enclosing InWhile = Repeated
enclosing (InDo d) = counted d.loop.var d.loop.first d.loop.last d.loop.step d.loop.body

-- what a run does in one step: a simple statement, a test of an IF or a DO WHILE, the start of a DO, or a test of a DO
pub data Action : Type 0 where
  Does : Statement → Action
  Tests : Line → Condition → Action
  Starts : Loop → Action
  Turns : OpenLoop → Action

-- the store, and the count of completed steps
pub record Point : Type 0 where
  pub store : Store
  pub steps : ℕ

-- a step that is at hand: where it stands, what it does, and where the run is before it. What stands around has the innermost first
pub record Moment : Type 0 where
  pub around : List Around
  pub action : Action
  pub now : Point

abbrev pub moment : List Around → Action → Point → Moment
moment around action now = record { around = around; action = action; now = now }

-- behind a step that leaves this store
abbrev pub behind : Point → Store → Point
behind now store = record { store = store; steps = now.steps + 1 }

-- ---- steps

-- the first step of a statement
abbrev pub first_action : Statement → Action
first_action (Assign line target e) = Does (Assign line target e)
first_action (If line c so otherwise) = Tests line c
first_action (Do line var first last by body) = Starts (record { line = line; var = var; first = first; last = last; step = by; body = body })
first_action (While line c body) = Tests line c
first_action (Read line target) = Does (Read line target)
first_action (Print line items) = Does (Print line items)
first_action (Continue line) = Does (Continue line)
first_action (Distribute line decomp given) = Does (Distribute line decomp given)

-- what a simple statement makes of a store. Where the right side of an assignment faults the ranks that don't value it go on, with the store as it was; so it may be with a PRINT, which stores nothing
pub data Stores (t : Task) : Statement → Store → Store → Type 0 where
  assigns : {line : Line} {target : Target} {e : Expression} {s next : Store} → assigned t.program target e s ≡ Ok next → Stores t (Assign line target e) s next
  passes : {line : Line} {target : Target} {e : Expression} {s : Store} (kind : FaultKind) → value_of (readings_of t.program s) e ≡ Err kind → Stores t (Assign line target e) s s
  reads : {line : Line} {target : Target} {s next : Store} → read_into t.program t.input target s ≡ Ok next → Stores t (Read line target) s next
  prints : {line : Line} {items : List PrintItem} {s : Store} → Stores t (Print line items) s s
  rests : {line : Line} {s : Store} → Stores t (Continue line) s s
  maps : {line : Line} {decomp : ℕ} {given : Remapped} {s : Store} → Stores t (Distribute line decomp given) s s

-- the store behind a test of a DO: but for the first test, the variable has gained the step
abbrev pub turned_store : ℕ → ℕ → ℤ → Store → Result Store FaultKind
turned_store zero var by s = Ok s
turned_store (suc number) var by s = gained var by s

-- a DO that begins: no iteration has begun
abbrev pub opened : Loop → Bounds → Point → OpenLoop
opened l b now = record { loop = l; bounds = b; began = now.steps; number = 0; turned = 0 }

-- the iteration at hand, when it begins
abbrev pub iterating : OpenLoop → Point → OpenLoop
iterating d now = record d { turned = now.steps + 1 }

-- the same DO at the next test
abbrev pub next_turn : OpenLoop → OpenLoop
next_turn d = record d { number = suc d.number }

-- ---- courses

mutual
  -- a course of a statement, from where the run is before it, by its moments in order: it ends behind the statement, or with the last of these moments
  pub data Course (t : Task) : List Around → Statement → Point → List Moment → Option Point → Type 0 where
    halts : {around : List Around} {s : Statement} {now : Point} → Course t around s now (moment around (first_action s) now ∷ []) None
    does : {around : List Around} {s : Statement} {now : Point} {next : Store} → now.steps < t.limit → Stores t s now.store next → Course t around s now (moment around (Does s) now ∷ []) (Some (behind now next))
    takes : {around : List Around} {line : Line} {c : Condition} {so otherwise : Statements} {now : Point} {ms : List Moment} {end : Option Point} (b : Bool) → now.steps < t.limit → truth_of (readings_of t.program now.store) c ≡ Ok b
        → CourseAll t (InSide ∷ around) (side_of b so otherwise) (behind now now.store) ms end → Course t around (If line c so otherwise) now (moment around (Tests line c) now ∷ ms) end
    starts : {around : List Around} {line : Line} {var : ℕ} {first last by : Expression} {body : Statements} {now : Point} {ms : List Moment} {end : Option Point} (b : Bounds) → now.steps < t.limit
        → bounds_of (readings_of t.program now.store) first last by ≡ Ok b
        → Turning t around (opened (record { line = line; var = var; first = first; last = last; step = by; body = body }) b now) (behind now (put (ScalarCell var) b.first now.store)) ms end
        → Course t around (Do line var first last by body) now (moment around (Starts (record { line = line; var = var; first = first; last = last; step = by; body = body })) now ∷ ms) end
    misses : {around : List Around} {line : Line} {c : Condition} {body : Statements} {now : Point} → now.steps < t.limit → truth_of (readings_of t.program now.store) c ≡ Ok false
        → Course t around (While line c body) now (moment around (Tests line c) now ∷ []) (Some (behind now now.store))
    enters : {around : List Around} {line : Line} {c : Condition} {body : Statements} {now : Point} {ms : List Moment} → now.steps < t.limit → truth_of (readings_of t.program now.store) c ≡ Ok true
        → CourseAll t (InWhile ∷ around) body (behind now now.store) ms None → Course t around (While line c body) now (moment around (Tests line c) now ∷ ms) None
    repeats : {around : List Around} {line : Line} {c : Condition} {body : Statements} {now next : Point} {ms ns : List Moment} {end : Option Point} → now.steps < t.limit → truth_of (readings_of t.program now.store) c ≡ Ok true
        → CourseAll t (InWhile ∷ around) body (behind now now.store) ms (Some next) → Course t around (While line c body) next ns end
        → Course t around (While line c body) now (moment around (Tests line c) now ∷ (ms ++ ns)) end

  -- of statements, one after the other
  pub data CourseAll (t : Task) : List Around → Statements → Point → List Moment → Option Point → Type 0 where
    over : {around : List Around} {now : Point} → CourseAll t around Empty now [] (Some now)
    stops : {around : List Around} {s : Statement} {ss : Statements} {now : Point} {ms : List Moment} → Course t around s now ms None → CourseAll t around (Then s ss) now ms None
    goes_on : {around : List Around} {s : Statement} {ss : Statements} {now next : Point} {ms ns : List Moment} {end : Option Point} → Course t around s now ms (Some next) → CourseAll t around ss next ns end
        → CourseAll t around (Then s ss) now (ms ++ ns) end

  -- of an open DO from a test on: the iteration at hand hasn't begun
  pub data Turning (t : Task) : List Around → OpenLoop → Point → List Moment → Option Point → Type 0 where
    waits : {around : List Around} {d : OpenLoop} {now : Point} → Turning t around d now (moment around (Turns d) now ∷ []) None
    leaves : {around : List Around} {d : OpenLoop} {now : Point} {next : Store} → now.steps < t.limit → turned_store d.number d.loop.var d.bounds.by now.store ≡ Ok next → d.number ≡ d.bounds.count
        → Turning t around d now (moment around (Turns d) now ∷ []) (Some (behind now next))
    inside : {around : List Around} {d : OpenLoop} {now : Point} {next : Store} {ms : List Moment} → now.steps < t.limit → turned_store d.number d.loop.var d.bounds.by now.store ≡ Ok next → d.number < d.bounds.count
        → CourseAll t (InDo (iterating d now) ∷ around) d.loop.body (behind now next) ms None → Turning t around d now (moment around (Turns d) now ∷ ms) None
    iterates : {around : List Around} {d : OpenLoop} {now after : Point} {next : Store} {ms ns : List Moment} {end : Option Point} → now.steps < t.limit → turned_store d.number d.loop.var d.bounds.by now.store ≡ Ok next
        → d.number < d.bounds.count → CourseAll t (InDo (iterating d now) ∷ around) d.loop.body (behind now next) ms (Some after) → Turning t around (next_turn d) after ns end
        → Turning t around d now (moment around (Turns d) now ∷ (ms ++ ns)) end

-- before the first step
abbrev pub first_point : Task → Point
first_point t = record { store = first_store t.program; steps = 0 }

-- a course of a program: it ends behind the last statement, or with its last moment
abbrev pub IsCourse : Task → List Moment → Option Point → Type 0
IsCourse t ms end = CourseAll t [] t.program.body (first_point t) ms end
