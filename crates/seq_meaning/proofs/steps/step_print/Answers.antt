use Rattle.std.proofs.Common.{ℕ, List, map, Ok, Err, refl, ap, ◌∙◌}
use Rattle.std.proofs.lemmas.Result.{err_from_is_err_and}
use Rattle.fd_prog.specs.Programs.{program_of}
use Rattle.fd_prog.specs.Sequence as sequence
use Rattle.fd_prog.specs.Statements.{print_item_of}
use Rattle.fd_prog.specs.Stores.{Store, readings_of}
use Rattle.seq_meaning.specs.Going.{progress_of}
use Rattle.seq_meaning.specs.Stored.{store_of}
use Rattle.seq_meaning.proofs.Completion.{Continues-step}
use Rattle.seq_meaning.proofs.Turns.{Continues-exit}
use Rattle.seq_meaning.proofs.steps.step_print.Goals as goal

pub returns-in_err-text : goal.returns-in_err-text
returns-in_err-text c =
    let result = c.from_residual-in_err-text.result in
    let p = err_from_is_err_and result c.from_residual-in_err-text.ensures.1 in
    let old = c.args.progress.now in
    let new = c.complete.new.self in
    let stop = c.in_err-text.field-0.0 in
    let text_in = λ (s : Store). sequence.line_text (readings_of (program_of c.args.task.now.program.now) s) (map print_item_of c.args.parts.now) in
    let go : List ℕ → sequence.Progress → sequence.Onward = λ text next. Ok (sequence.with_line text next) in
    let onward = sequence.step c.args.task.now.limit c.args.line (progress_of old) (text_in (store_of old.store)) go in
    let ends = Continues-step {A = List ℕ} {B = List ℕ} c.args.task.now.limit c.args.line old c.allowed.new.self text_in c.in_ok-given.given go (λ text. go text (progress_of new)) new (Err stop)
    c.in_ok-allowed.ensures.allowed.0 c.in_ok-allowed.ensures.allowed.1 c.in_ok-given.ensures (c.in_err-text.ensures.goes go) in
    Continues-exit {A = List ℕ} {B = Unit {0}} onward onward (λ text. go text (progress_of new)) (λ _. Ok (progress_of new)) new stop result (p.1 ∙ ap Err p.2) refl ends
