use Rattle.std.proofs.Common.{rules}
use Rattle.fd_prog.specs.Sequence.{gained}
use Rattle.seq_meaning.specs.Stored.{store_of}
use Rattle.seq_meaning.specs.Going.{progress_of}
use Rattle.seq_meaning.proofs.Completion.{Continues-store_step}
use Rattle.seq_meaning.proofs.steps.step_gain.Goals as goal

pub returns : goal.returns
returns c go =
    let new = c.complete.new.self in
    Continues-store_step {A = Unit {0}} {B = Unit {0}} c.args.task.now.limit c.args.line c.args.progress.now c.allowed.new.self (gained c.args.var c.args.by) (store_of c.gain-gained.new.store) c.gain-gained.result go
    (λ _. go (progress_of new)) new c.complete.result c.in_ok-allowed.ensures.allowed.0 c.in_ok-allowed.ensures.allowed.1 (search rules) (c.complete.ensures.goes (λ _ next. go next))
