-- A run in memory goes as the definition has it.
use Rattle.std.specs.Prelude.{◌≡◌, ◌+◌, Bool, true, false, Result, Ok, Err}
use Rattle.fd_base.specs.declared.numbering.Line.{Line}
use Rattle.fd_base.specs.declared.numbers.FaultKind.{FaultKind}
use Rattle.fd_base.specs.declared.numbers.FaultKind.TheVariants.{StepLimit}
use Rattle.fd_prog.specs.declared.run.Outcome.TheVariants.{Fault}
use Rattle.fd_prog.specs.Sequence as sequence
use Rattle.fd_prog.specs.Sequence.{Onward}
use Rattle.fd_prog.specs.Programs.{program_of}
use Rattle.seq_meaning.specs.declared.task.Task.{Task}
use Rattle.seq_meaning.specs.declared.progress.Progress.{Progress}
use Rattle.seq_meaning.specs.declared.progress.Stop.{Stop}
use Rattle.seq_meaning.specs.declared.progress.Stop.TheVariants.{Ended, Memory}
use Rattle.seq_meaning.specs.Stored.{store_of}

abbrev pub progress_of : Progress → sequence.Progress
progress_of now = record { store = store_of now.store; steps = now.steps; lines = now.lines }

-- the run has ended by a fault of the step at hand, with its lines as they were
abbrev pub IsEnded : Stop → Progress → Progress → Line → FaultKind → Type 0
IsEnded stop old new line kind = (stop ≡ Ended) × (new.outcome ≡ Fault (old.steps + 1) line kind) × (new.lines ≡ old.lines)

-- whether the limit allows one step more; if not, the run has ended
abbrev pub IsAllowed : {A : Type 0} → Bool → Result A Stop → Progress → Progress → Line → Type 0
IsAllowed below (Ok x) old new line = (below ≡ true) × (new ≡ old)
IsAllowed below (Err stop) old new line = (below ≡ false) × IsEnded stop old new line StepLimit

-- the task in memory
abbrev pub task_of : Task → sequence.Task
task_of t = record { program = program_of t.program.now; input = t.input.now; limit = t.limit }

-- what the definition gives is what comes behind what was found; or the run has ended with its lines; or there was no memory
abbrev pub Continues : {A : Type 0} → Onward → (A → Onward) → Progress → Result A Stop → Type 0
Continues onward go new (Ok x) = onward ≡ go x
Continues onward go new (Err Ended) = onward ≡ Err (record { lines = new.lines; outcome = new.outcome })
Continues onward go new (Err Memory) = Unit {0}

-- the definition goes on from where the run in memory is, or both have ended
abbrev pub Goes : {A : Type 0} → Onward → Progress → Result A Stop → Type 0
Goes onward new result = Continues onward (λ _. Ok (progress_of new)) new result
