use Rattle.std.proofs.Common.{Ok}
use Rattle.fd_prog.specs.Programs.{program_of}
use Rattle.fd_prog.specs.Stores.{read_into}
use Rattle.seq_meaning.specs.Ready.{ready_target}
use Rattle.seq_meaning.specs.Stored.{store_of}
use Rattle.seq_meaning.specs.Going.{progress_of}
use Rattle.seq_meaning.proofs.Completion.{Continues-store_step}
use Rattle.seq_meaning.proofs.steps.step_read.Goals as goal

pub returns : goal.returns
returns c =
    let new = c.complete.new.self in
    Continues-store_step {A = Unit {0}} {B = Unit {0}} c.args.task.now.limit c.args.line c.args.progress.now c.allowed.new.self
    (read_into (program_of c.args.task.now.program.now) c.args.task.now.input.now (ready_target c.args.target.now)) (store_of c.read-taken.new.store) c.read-taken.result (λ next. Ok next)
    (λ _. Ok (progress_of new)) new c.complete.result c.in_ok-allowed.ensures.allowed.0 c.in_ok-allowed.ensures.allowed.1 c.read-taken.ensures (c.complete.ensures.goes (λ _ next. Ok next))
