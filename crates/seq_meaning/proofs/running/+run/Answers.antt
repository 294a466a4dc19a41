use Rattle.std.proofs.Common.{◌≡◌, ◌-◌, ◌≤◌, Bool, rules, arith, Ok, Err, refl, ap, ◌∙◌, sym, FitsSigned, w64, ℤ, to_z, of_z}
use Rattle.std.proofs.lemmas.Int.{to_z-of_z}
use Rattle.std.proofs.lemmas.Result.{err_from_is_err_and}
use Rattle.fd_prog.specs.Outcomes.{and_then}
use Rattle.fd_prog.specs.Expressions.{expression_of}
use Rattle.fd_prog.specs.Statements.{Do, While}
use Rattle.fd_prog.specs.Stores.{put, ScalarCell, readings_of}
use Rattle.fd_prog.specs.Sequence as sequence
use Rattle.fd_prog.specs.Values.{truth_of}
use Rattle.fd_prog.proofs.Runs.{after-While, after_all-forward}
use Rattle.seq_meaning.specs.Ready.{ready_condition, ready_statement, ready_statements}
use Rattle.seq_meaning.specs.Stored.{store_of, bounds_in}
use Rattle.seq_meaning.specs.Going.{progress_of, task_of}
use Rattle.seq_meaning.proofs.Turns.{Continues-exit, Continues-then, turn, while_again, while_ends, while_over, iterations-next}
use Rattle.seq_meaning.proofs.running.+run.Goals as goal

pub run_statement-returns-in-Skip : goal.run_statement-returns-in-Skip
run_statement-returns-in-Skip t c = rw c.in-Skip.is (c.step_nothing.ensures (λ next. Ok next))

pub run_statement-returns-in-Remap : goal.run_statement-returns-in-Remap
run_statement-returns-in-Remap t c = rw c.in-Remap.is (c.step_nothing-in-Remap.ensures (λ next. Ok next))

pub run_statement-returns-in_err-step_test-in-If : goal.run_statement-returns-in_err-step_test-in-If
run_statement-returns-in_err-step_test-in-If t c =
    let p = err_from_is_err_and c.from_residual.result c.from_residual.ensures.1 in
    let task = task_of c.args.task.now in
    let x = progress_of c.args.progress.now in
    let go : Bool → sequence.Progress → sequence.Onward = λ b. sequence.chosen b (sequence.after_all task (ready_statements c.in-If.so)) (sequence.after_all task (ready_statements c.in-If.otherwise)) in
    Continues-exit (sequence.step task.limit c.in-If.line x (truth_of (readings_of task.program x.store) (ready_condition c.in-If.c)) go) (sequence.after task (ready_statement c.args.s.now) x)
    (λ b. go b (progress_of c.step_test.new.progress)) (λ _. Ok (progress_of c.step_test.new.progress)) c.step_test.new.progress c.in_err-step_test-in-If.field-0.0 c.from_residual.result (p.1 ∙ ap Err p.2)
    (ap (λ s. sequence.after task (ready_statement s) x) c.in-If.is) (c.in_err-step_test-in-If.ensures.goes go)

pub run_do-returns-in_err-bounds : goal.run_do-returns-in_err-bounds
run_do-returns-in_err-bounds t c =
    let result = c.from_residual.result in
    let p = err_from_is_err_and result c.from_residual.ensures.1 in
    let task = task_of c.args.task.now in
    let x = progress_of c.args.progress.now in
    let new = c.step_start.new.progress in
    let d = c.args in
    let body = ready_statements d.body.now in
    let go : sequence.Bounds → sequence.Progress → sequence.Onward =
    λ b next. sequence.looped task.limit d.line d.var b.by (sequence.after_all task body) b.count (record next { store = put (ScalarCell d.var) b.first next.store }) in
    Continues-exit (sequence.step task.limit d.line x (sequence.bounds_of (readings_of task.program x.store) (expression_of d.first.now) (expression_of d.last.now) (expression_of d.by.now)) go)
    (sequence.after task (Do d.line d.var (expression_of d.first.now) (expression_of d.last.now) (expression_of d.by.now) body) x) (λ b. go (bounds_in b) (progress_of new)) (λ _. Ok (progress_of new)) new c.in_err-bounds.field-0.0 result (p.1 ∙ ap Err p.2)
    refl (c.in_err-bounds.ensures go)

pub run_do-returns-in_err-step_nothing : goal.run_do-returns-in_err-step_nothing
run_do-returns-in_err-step_nothing t c =
    let result = c.from_residual-in_err-step_nothing.result in
    let p = err_from_is_err_and result c.from_residual-in_err-step_nothing.ensures.1 in
    let task = task_of c.args.task.now in
    let x = progress_of c.args.progress.now in
    let begun = progress_of c.step_start.new.progress in
    let new = c.step_nothing.new.progress in
    let d = c.args in
    let body = ready_statements d.body.now in
    let b = c.in_ok-bounds.bounds in
    let go : sequence.Bounds → sequence.Progress → sequence.Onward =
    λ b next. sequence.looped task.limit d.line d.var b.by (sequence.after_all task body) b.count (record next { store = put (ScalarCell d.var) b.first next.store }) in
    let tests = sequence.iterations task.limit d.line d.var b.by (sequence.after_all task body) b.count in
    let fits : FitsSigned w64 b.first = search rules in
    let stored = simp to_z-of_z at c.put.ensures in
    let whole = sequence.after task (Do d.line d.var (expression_of d.first.now) (expression_of d.last.now) (expression_of d.by.now) body) x in
    let same : whole ≡ sequence.store_step task.limit d.line (record begun { store = store_of c.put.new.self }) (Ok (store_of c.put.new.self)) tests =
    c.in_ok-bounds.ensures go
    ∙ ap (λ s. sequence.store_step task.limit d.line (record begun { store = s }) (Ok s) tests) (sym stored) in
    Continues-exit {A = Unit {0}} (sequence.store_step task.limit d.line (record begun { store = store_of c.put.new.self }) (Ok (store_of c.put.new.self)) tests)
    whole (λ _. tests (progress_of new)) (λ _. Ok (progress_of new)) new c.in_err-step_nothing.field-0.0 result (p.1 ∙ ap Err p.2)
    same (c.in_err-step_nothing.ensures tests)

pub run_iterations-returns-in_err-step_gain : goal.run_iterations-returns-in_err-step_gain
run_iterations-returns-in_err-step_gain t c =
    let result = c.from_residual-in_err-step_gain.result in
    let p = err_from_is_err_and result c.from_residual-in_err-step_gain.ensures.1 in
    let task = task_of c.args.task.now in
    let body = sequence.after_all task (ready_statements c.args.body.now) in
    let x = progress_of c.loop-left.progress in
    let y = progress_of c.run_list.new.progress in
    let new = c.step_gain.new.progress in
    let rest = sequence.iterations task.limit c.args.line c.args.var c.args.by body (c.loop-left.left - 1) in
    let fits : FitsSigned w64 c.args.by = search rules in
    let inv = simp to_z-of_z at c.loop-left.invariant in
    let gains : ℤ → sequence.Onward = λ b. sequence.store_step task.limit c.args.line y (sequence.gained c.args.var b y.store) rest in
    Continues-exit {A = Unit {0}} (gains (to_z w64 (of_z w64 c.args.by)))
    (sequence.iterations task.limit c.args.line c.args.var c.args.by body c.args.count (progress_of c.args.progress.now)) (λ _. rest (progress_of new)) (λ _. Ok (progress_of new)) new c.in_err-step_gain.field-0.0 result (p.1 ∙ ap Err p.2)
    (inv ∙ iterations-next task.limit c.args.line c.args.var c.args.by body c.loop-left.left x y (omega arith) c.in_ok-run_list.ensures ∙ ap (λ b. gains b) (sym (to_z-of_z w64 c.args.by fits))) (c.in_err-step_gain.ensures rest)

pub run_while-returns-in_err-step_test : goal.run_while-returns-in_err-step_test
run_while-returns-in_err-step_test t c =
    let p = err_from_is_err_and c.from_residual.result c.from_residual.ensures.1 in
    let task = task_of c.args.task.now in
    let x = progress_of c.loop-progress.progress in
    let new = c.step_test.new.progress in
    let test = ready_condition c.args.c.now in
    let body = ready_statements c.args.body.now in
    let go = turn task c.args.line test body in
    Continues-exit (sequence.step task.limit c.args.line x (truth_of (readings_of task.program x.store) test) go) (sequence.after task (While c.args.line test body) (progress_of c.args.progress.now))
    (λ b. go b (progress_of new)) (λ _. Ok (progress_of new)) new c.in_err-step_test.field-0.0 c.from_residual.result (p.1 ∙ ap Err p.2)
    (c.loop-progress.invariant ∙ after-While task c.args.line test body x) (c.in_err-step_test.ensures.goes go)

pub run_while-returns-in_err-run_list : goal.run_while-returns-in_err-run_list
run_while-returns-in_err-run_list t c =
    let result = c.from_residual-in_err-run_list.result in
    let p = err_from_is_err_and result c.from_residual-in_err-run_list.ensures.1 in
    let task = task_of c.args.task.now in
    let x = progress_of c.loop-progress.progress in
    let mid = progress_of c.step_test.new.progress in
    let new = c.run_list.new.progress in
    let test = ready_condition c.args.c.now in
    let body = ready_statements c.args.body.now in
    let loop = sequence.after task (While c.args.line test body) in
    let ends = Continues-then {A = Unit {0}} {B = Unit {0}} (sequence.after_all task body mid) (λ _. Ok (progress_of new)) loop (λ _. Ok (progress_of new)) new c.in_err-run_list.field-0.0 c.in_err-run_list.ensures in
    Continues-exit {A = Unit {0}} (and_then (sequence.after_all task body mid) loop) (loop (progress_of c.args.progress.now)) (λ _. Ok (progress_of new)) (λ _. Ok (progress_of new)) new c.in_err-run_list.field-0.0 result (p.1 ∙ ap Err p.2)
    (c.loop-progress.invariant ∙ while_ends task c.args.line test body x mid c.in_ok-step_test.field-0 (c.in_ok-step_test.ensures.goes (turn task c.args.line test body)) c.if-branch.true) ends

pub run_while-loop-progress-smaller : goal.run_while-loop-progress-smaller
run_while-loop-progress-smaller t c =
    let task = task_of c.args.task.now in
    let later : c.step_test.new.progress.steps ≤ c.run_list.new.progress.steps =
    after_all-forward task (ready_statements c.args.body.now) (progress_of c.step_test.new.progress) (progress_of c.run_list.new.progress) c.in_ok-run_list.ensures in
    omega (arith, later, c.in_ok-step_test.ensures.counted, c.in_ok-step_test.ensures.within)

pub run_while-loop-progress-preserved : goal.run_while-loop-progress-preserved
run_while-loop-progress-preserved t c =
    let test = ready_condition c.args.c.now in
    let body = ready_statements c.args.body.now in
    let task = task_of c.args.task.now in
    c.loop-progress.invariant ∙ while_again task c.args.line test body (progress_of c.loop-progress.progress) (progress_of c.step_test.new.progress) (progress_of c.run_list.new.progress) c.in_ok-step_test.field-0
    (c.in_ok-step_test.ensures.goes (turn task c.args.line test body)) c.if-branch.true c.in_ok-run_list.ensures

pub run_while-returns : goal.run_while-returns
run_while-returns t c =
    let test = ready_condition c.args.c.now in
    let body = ready_statements c.args.body.now in
    let task = task_of c.args.task.now in
    c.loop-progress.invariant ∙ while_over task c.args.line test body (progress_of c.loop-progress.progress) (progress_of c.step_test.new.progress) c.in_ok-step_test.field-0
    (c.in_ok-step_test.ensures.goes (turn task c.args.line test body)) c.if-branch.false
