use Rattle.std.proofs.Common.{sym, Bool}
use Rattle.fd_prog.specs.Programs.{program_of}
use Rattle.fd_prog.specs.Stores.{readings_of}
use Rattle.fd_prog.specs.Values.{truth_of}
use Rattle.seq_meaning.specs.Ready.{ready_condition}
use Rattle.seq_meaning.specs.Going.{progress_of}
use Rattle.seq_meaning.proofs.Completion.{Continues-step}
use Rattle.seq_meaning.proofs.steps.step_test.Goals as goal

pub returns-clause-goes : goal.returns-clause-goes
returns-clause-goes c go =
    let new = c.complete.new.self in
    Continues-step {A = Bool} {B = Bool} c.args.task.now.limit c.args.line c.args.progress.now c.allowed.new.self (λ s. truth_of (readings_of (program_of c.args.task.now.program.now) s) (ready_condition c.args.c.now)) c.holds-holds.result go
    (λ b. go b (progress_of new)) new c.complete.result c.in_ok-allowed.ensures.allowed.0 c.in_ok-allowed.ensures.allowed.1 (sym c.holds-holds.ensures) (c.complete.ensures.goes go)
