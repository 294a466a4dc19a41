-- The trace of a job, its faults, and what it prints and how it ends.
use Rattle.std.specs.Prelude.{◌≡◌, ℕ, zero, suc, ◌+◌, nat_lt, List, [], ◌∷◌, ◌++◌, filter, Option, Some, None}
use Rattle.fd_base.specs.declared.numbering.Line.{Line}
use Rattle.fd_base.specs.declared.numbers.FaultKind.{FaultKind}
use Rattle.fd_prog.specs.declared.run.Outcome.TheVariants.{Done, Fault}
use Rattle.fd_prog.specs.declared.run.Printed.{Printed}
use Rattle.fd_prog.specs.Run.{Run}
use Rattle.exec_code.specs.Instructions.{FlatJob}
use Rattle.exec_code.specs.Machine.{Configuration, Effect, Goes, Notes, Faults, Ends, Strays, effect, line_at, first_configuration}

-- ---- traces

abbrev pub next_in : Effect → Option Configuration
next_in (Goes d) = Some d
next_in (Notes kind d) = Some d
next_in (Faults kind) = None
next_in Ends = None
next_in Strays = None

-- the next configuration, if there is one
abbrev pub next : FlatJob → Configuration → Option Configuration
next j c = next_in (effect j c)

-- the machine comes from one configuration to another by way of these, the first among them and the last not
pub data Walks (j : FlatJob) : Configuration → List Configuration → Configuration → Type 0 where
  here : {c : Configuration} → Walks j c [] c
  by_way_of : {c d e : Configuration} {cs : List Configuration} → next j c ≡ Some d → Walks j d cs e → Walks j c (c ∷ cs) e

-- the trace of a job: it begins with the first configuration and ends where no other comes next
pub record IsTrace (j : FlatJob) (before : List Configuration) (last : Configuration) : Type 0 where
  pub walks : Walks j (first_configuration j) before last
  pub over : next j last ≡ None

-- what follows a configuration that there is
abbrev pub where_some : (Configuration → List Configuration) → Option Configuration → List Configuration
where_some go None = []
where_some go (Some d) = go d

-- the configurations from one on, at most so many: what computes a trace
abbrev pub walked : FlatJob → ℕ → Configuration → List Configuration
walked j zero c = []
walked j (suc n) c = c ∷ where_some (walked j n) (next j c)

-- two configurations stand at one position with the same count of completed steps
pub record IsSamePlace (c d : Configuration) : Type 0 where
  pub at : c.at ≡ d.at
  pub steps : c.now.steps ≡ d.now.steps

-- ---- faults

-- a fault: its step, its line and its kind
pub record Noted : Type 0 where
  pub step : ℕ
  pub line : Line
  pub kind : FaultKind

-- the fault that is noted where the machine stands
abbrev pub noted_by : ℕ → Line → Effect → Option Noted
noted_by steps line (Goes d) = None
noted_by steps line (Notes kind d) = Some (record { step = steps + 1; line = line; kind = kind })
noted_by steps line (Faults kind) = Some (record { step = steps + 1; line = line; kind = kind })
noted_by steps line Ends = None
noted_by steps line Strays = None

abbrev pub noted_at : FlatJob → Configuration → Option Noted
noted_at j c = noted_by c.now.steps (line_at j c.at) (effect j c)

abbrev pub or_else : {A : Type 0} → Option A → Option A → Option A
or_else (Some x) y = Some x
or_else None y = y

-- the first fault noted at some configurations
abbrev pub first_noted : FlatJob → List Configuration → Option Noted
first_noted j [] = None
first_noted j (c ∷ cs) = or_else (noted_at j c) (first_noted j cs)

-- ---- lines and end

-- the run that ends with these lines, where this is the first fault
abbrev pub run_until : Option Noted → List Printed → Run
run_until None lines = record { lines = lines; outcome = Done }
run_until (Some f) lines = record { lines = filter (λ (l : Printed). nat_lt l.step f.step) lines; outcome = Fault f.step f.line f.kind }

-- the lines and the end of a trace: the lines of the steps below that of its first fault, and that fault; or all lines, and Done
abbrev pub run_of_trace : FlatJob → List Configuration → Configuration → Run
run_of_trace j before last = run_until (first_noted j (before ++ last ∷ [])) last.now.lines
