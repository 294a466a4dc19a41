use Rattle.std.proofs.Common.{sym, subst}
use Rattle.fd_prog.specs.Expressions.{expression_of}
use Rattle.fd_prog.specs.Programs.{program_of}
use Rattle.fd_prog.specs.Sequence as sequence
use Rattle.fd_prog.specs.Stores.{readings_of}
use Rattle.seq_meaning.specs.declared.simple.Bounds.{Bounds}
use Rattle.seq_meaning.specs.Stored.{bounds_in, map_ok}
use Rattle.seq_meaning.specs.Going.{progress_of, Continues}
use Rattle.seq_meaning.proofs.Completion.{Continues-step, completed-seen}
use Rattle.seq_meaning.proofs.steps.step_start.Goals as goal

pub returns : goal.returns
returns c go =
    let new = c.complete.new.self in
    let begun = progress_of c.allowed.new.self in
    let given = c.value_bounds-bounds.result in
    let further : Bounds → sequence.Onward = λ b. go (bounds_in b) (progress_of new) in
    let Q : sequence.Onward → Type 0 = λ onward. Continues onward further new c.complete.result in
    let seen = completed-seen bounds_in c.args.line begun given go in
    Continues-step {A = sequence.Bounds} {B = Bounds} c.args.task.now.limit c.args.line c.args.progress.now c.allowed.new.self
    (λ s. sequence.bounds_of (readings_of (program_of c.args.task.now.program.now) s) (expression_of c.args.first.now) (expression_of c.args.last.now) (expression_of c.args.by.now)) (map_ok bounds_in given) go
    further new c.complete.result c.in_ok-allowed.ensures.allowed.0 c.in_ok-allowed.ensures.allowed.1 c.value_bounds-bounds.ensures (subst Q (sym seen) (c.complete.ensures.goes (λ b next. go (bounds_in b) next)))
