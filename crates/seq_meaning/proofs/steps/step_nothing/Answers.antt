use Rattle.std.proofs.Common.{Ok, refl}
use Rattle.seq_meaning.specs.Stored.{store_of}
use Rattle.seq_meaning.specs.Going.{progress_of}
use Rattle.seq_meaning.proofs.Completion.{Continues-store_step}
use Rattle.seq_meaning.proofs.steps.step_nothing.Goals as goal

pub returns : goal.returns
returns c go =
    let begun = c.allowed.new.self in
    let new = c.complete.new.self in
    Continues-store_step {A = Unit {0}} {B = Unit {0}} c.args.task.now.limit c.args.line c.args.progress.now begun (λ s. Ok s) (store_of begun.store) (Ok tt) go (λ _. go (progress_of new)) new c.complete.result
    c.in_ok-allowed.ensures.allowed.0 c.in_ok-allowed.ensures.allowed.1 refl (c.complete.ensures.goes (λ _ next. go next))
