use Rattle.std.proofs.Common.{Ok}
use Rattle.fd_prog.specs.Programs.{program_of}
use Rattle.fd_prog.specs.Stores.{assigned}
use Rattle.seq_meaning.specs.Ready.{ready_expression, ready_target}
use Rattle.seq_meaning.specs.Stored.{store_of}
use Rattle.seq_meaning.specs.Going.{progress_of}
use Rattle.seq_meaning.proofs.Completion.{Continues-store_step}
use Rattle.seq_meaning.proofs.steps.step_assign.Goals as goal

pub returns : goal.returns
returns c =
    let new = c.complete.new.self in
    Continues-store_step {A = Unit {0}} {B = Unit {0}} c.args.task.now.limit c.args.line c.args.progress.now c.allowed.new.self
    (assigned (program_of c.args.task.now.program.now) (ready_target c.args.target.now) (ready_expression c.args.e.now)) (store_of c.assign-assigned.new.store) c.assign-assigned.result (λ next. Ok next)
    (λ _. Ok (progress_of new)) new c.complete.result c.in_ok-allowed.ensures.allowed.0 c.in_ok-allowed.ensures.allowed.1 c.assign-assigned.ensures (c.complete.ensures.goes (λ _ next. Ok next))
