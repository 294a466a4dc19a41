use Rattle.std.proofs.Common.{◌≡◌, ◌+◌, ◌*◌, ◌-◌, ◌≤◌}
use Rattle.fd_prog.specs.Programs.{program_of}
use Rattle.fd_prog.specs.Sequence as sequence
use Rattle.fd_prog.specs.Statements.{While}
use Rattle.fd_prog.specs.WellFormed.{names_of, AreSoundStatements}
use Rattle.seq_meaning.specs.declared.ready.ReadyList.{size-ReadyList}
use Rattle.seq_meaning.specs.declared.ready.ReadyStmt.{size-ReadyStmt}
use Rattle.seq_meaning.specs.Ready.{ready_condition, ready_statements}
use Rattle.seq_meaning.specs.Going.{progress_of, task_of}
use Rattle.seq_meaning.proofs.running.+run.Given as goal

-- Each call is on less of the statements, or on the same by a function further down.
abbrev pub decreases-run_do : goal.decreases-run_do
decreases-run_do l = 3 * size-ReadyList l.body.now + 2

abbrev pub decreases-run_iterations : goal.decreases-run_iterations
decreases-run_iterations l = 3 * size-ReadyList l.body.now + 1

abbrev pub decreases-run_list : goal.decreases-run_list
decreases-run_list l = 3 * size-ReadyList l.list.now

abbrev pub decreases-run_statement : goal.decreases-run_statement
decreases-run_statement l = 3 * size-ReadyStmt l.s.now

abbrev pub decreases-run_while : goal.decreases-run_while
decreases-run_while l = 3 * size-ReadyList l.body.now + 1

-- the iterations from the beginning are those that are left from here
abbrev pub invariant-run_iterations-loop-left : goal.invariant-run_iterations-loop-left
invariant-run_iterations-loop-left l =
    sequence.iterations l.task.limit l.line l.var l.by (sequence.after_all (task_of l.task) (ready_statements l.body)) l.count (progress_of l.initial.progress)
    ≡ sequence.iterations l.task.limit l.line l.var l.by (sequence.after_all (task_of l.task) (ready_statements l.body)) l.left (progress_of l.progress)

abbrev pub decreases-run_iterations-loop-left : goal.decreases-run_iterations-loop-left
decreases-run_iterations-loop-left l = l.left

-- the statements from the beginning are the rest from here
abbrev pub invariant-run_list-loop-rest : goal.invariant-run_list-loop-rest
invariant-run_list-loop-rest l =
    AreSoundStatements (names_of (program_of l.task.program.now)) (ready_statements l.rest)
    × (sequence.after_all (task_of l.task) (ready_statements l.list) (progress_of l.initial.progress) ≡ sequence.after_all (task_of l.task) (ready_statements l.rest) (progress_of l.progress))
    × (size-ReadyList l.rest ≤ size-ReadyList l.list)

-- the loop from the beginning is the same loop from here
abbrev pub invariant-run_while-loop-progress : goal.invariant-run_while-loop-progress
invariant-run_while-loop-progress l =
    sequence.after (task_of l.task) (While l.line (ready_condition l.c) (ready_statements l.body)) (progress_of l.initial.progress)
    ≡ sequence.after (task_of l.task) (While l.line (ready_condition l.c) (ready_statements l.body)) (progress_of l.progress)

abbrev pub decreases-run_while-loop-progress : goal.decreases-run_while-loop-progress
decreases-run_while-loop-progress l = l.task.limit - l.progress.steps
