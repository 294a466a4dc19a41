-- The trace of a job as what each rank does at each of its configurations, and the ranks' behaviour.
use Rattle.std.specs.Prelude.{◌≡◌, ℕ, zero, suc, ◌+◌, ◌*◌, ◌<◌, ◌==◌, Bool, true, List, [], ◌∷◌, drop, length, if◌then◌else◌, option_map, unwrap_or, Option, Some, None, Result, Ok, Err}
use Rattle.fd_base.specs.declared.numbers.FaultKind.{FaultKind}
use Rattle.fd_base.specs.Places.{is_owner}
use Rattle.fd_prog.specs.declared.run.Printed.{Printed}
use Rattle.fd_prog.specs.Homes.{Distribution}
use Rattle.fd_prog.specs.Mappings.{Mapping, array_place}
use Rattle.fd_prog.specs.Statements.{Target}
use Rattle.fd_prog.specs.Stores.{Cell, ScalarCell, ElementCell, cell_of, readings_of}
use Rattle.exec_code.specs.Instructions as code
use Rattle.exec_code.specs.Instructions.{Instruction, FlatJob}
use Rattle.exec_code.specs.Machine.{Configuration, Effect, Goes, Notes, Faults, Ends, Strays, effect, first_configuration, instruction_at, line_at, target_distribution}
use Rattle.exec_code.specs.Traces.{Noted, noted_at, walked}
use Rattle.message_laws.specs.Behaviour.{Behaviour, Failure, Action, Act, Fail, End}
use Rattle.message_laws.specs.Outcomes.{failure}
use Rattle.message_laws.specs.Protocol.{Event, Local, Send, Recv, Exchange, message_steps}
use Rattle.message_laws.specs.Traces.{Trace, nth, behaviour_of}
use Rattle.rank_behaviour.specs.Exchanged.{event_at, requested_at, replied_at}

-- the configurations of a job's trace; it has no more than these moves
abbrev pub configurations : FlatJob → List Configuration
configurations j = walked j ((j.limit + 2) * (length j.code.instructions + 1)) (first_configuration j)

-- ---- who executes

-- a rank sets a cell: all ranks set a scalar and an element of a replicated array, the owner an element of a distributed one. Subscripts that fault are valued by all
abbrev pub sets : Mapping → Option Distribution → Result Cell FaultKind → ℕ → Bool
sets m None cell rank = true
sets m (Some d) (Err kind) rank = true
sets m (Some d) (Ok (ScalarCell k)) rank = true
sets m (Some d) (Ok (ElementCell array n)) rank = is_owner (array_place m array) n rank

abbrev pub sets_target : FlatJob → Configuration → Target → ℕ → Bool
sets_target j c target rank = sets c.mapping (target_distribution j.program target) (cell_of (readings_of j.program c.now.store) target) rank

-- a rank executes an instruction: whoever sets its target, rank 0 a PRINT, and all ranks everything else
abbrev pub executes : FlatJob → Configuration → Instruction → ℕ → Bool
executes j c (code.Assign target e) rank = sets_target j c target rank
executes j c (code.Read target) rank = sets_target j c target rank
executes j c (code.Print items) rank = rank == 0
executes j c code.Skip rank = true
executes j c (code.Install decomp number) rank = true
executes j c (code.Test condition no_side) rank = true
executes j c (code.Start var first last by) rank = true
executes j c (code.Turn var exit) rank = true
executes j c (code.Jump to) rank = true
executes j c (code.Send x) rank = true
executes j c (code.Recv x) rank = true
executes j c code.Stop rank = true

abbrev pub executes_at : FlatJob → Configuration → ℕ → Bool
executes_at j c rank = unwrap_or (option_map (λ i. executes j c i rank) (instruction_at j c.at)) true

-- where a fault of some ranks alone is noted, there is a rank that executes
abbrev pub HasExecutor : FlatJob → Configuration → Type 0
HasExecutor j c = (kind : FaultKind) (d : Configuration) → effect j c ≡ Notes kind d → (rank : ℕ) × (rank < j.ranks) × (executes_at j c rank ≡ true)

-- the same at each configuration of a job's trace
abbrev pub HaveExecutors : FlatJob → Type 0
HaveExecutors j = (n : ℕ) (c : Configuration) → nth (configurations j) n ≡ Some c → HasExecutor j c

-- ---- what a rank does

-- rank 0 prints what is printed between two configurations
abbrev pub printed_between : ℕ → Configuration → Configuration → List Printed
printed_between rank c d = if rank == 0 then drop (length c.now.lines) d.now.lines else []

-- a fault of all ranks is each rank's, a fault of some is that of the ranks that execute, and for the others the rest of the statement does nothing
abbrev pub step_by : FlatJob → Configuration → ℕ → Effect → List Action
step_by j c rank (Goes d) = Act (printed_between rank c d) ∷ []
step_by j c rank (Notes kind d) = (if executes_at j c rank then Fail (failure (line_at j c.at) kind) else Act []) ∷ []
step_by j c rank (Faults kind) = Fail (failure (line_at j c.at) kind) ∷ []
step_by j c rank Ends = End ∷ []
step_by j c rank Strays = []

-- at Send and Recv a rank does its message steps, anywhere else one step
abbrev pub steps_by : FlatJob → Exchange → ℕ → Configuration → ℕ → Event → List Action
steps_by j x n c rank Local = step_by j c rank (effect j c)
steps_by j x n c rank (Send item) = message_steps x j.ranks n (Send item) rank
steps_by j x n c rank (Recv item) = message_steps x j.ranks n (Recv item) rank

-- what is read off a configuration that there is
abbrev pub of_some : {A : Type 0} → A → (Configuration → A) → Option Configuration → A
of_some other f None = other
of_some other f (Some c) = f c

-- the messages of each configuration, by its number
abbrev pub exchange_of : FlatJob → Exchange
exchange_of j = record {
  event = λ n. of_some Local (event_at j) (nth (configurations j) n);
  requested = λ n q r. of_some [] (requested_at j q r) (nth (configurations j) n);
  replied = λ n q r. of_some [] (replied_at j q r) (nth (configurations j) n);
}

abbrev pub actions_at : FlatJob → ℕ → ℕ → Configuration → List Action
actions_at j n rank c = steps_by j (exchange_of j) n c rank (event_at j c)

-- ---- the trace

abbrev pub count_of : Option Noted → ℕ
count_of None = 0
count_of (Some f) = 1

-- the completed steps behind a configuration whose fault, if it has one, counts as a step
abbrev pub steps_behind : FlatJob → Configuration → ℕ
steps_behind j c = c.now.steps + count_of (noted_at j c)

-- the completed steps of each configuration by its number, and behind the last
abbrev pub steps_among : FlatJob → ℕ → List Configuration → ℕ → ℕ
steps_among j before [] n = before
steps_among j before (c ∷ cs) zero = c.now.steps
steps_among j before (c ∷ cs) (suc n) = steps_among j (steps_behind j c) cs n

-- the line and the kind of a noted fault
abbrev pub failure_in : Noted → Failure
failure_in f = failure f.line f.kind

abbrev pub trace_of : FlatJob → Trace
trace_of j = record {
  ranks = j.ranks;
  count = length (configurations j);
  actions = λ n rank. of_some [] (actions_at j n rank) (nth (configurations j) n);
  completed = steps_among j 0 (configurations j);
  noted = λ n. option_map failure_in (of_some None (noted_at j) (nth (configurations j) n));
}

-- what each rank of a job does, action after action
abbrev pub behaviour_of_job : FlatJob → Behaviour
behaviour_of_job j = behaviour_of (trace_of j)
