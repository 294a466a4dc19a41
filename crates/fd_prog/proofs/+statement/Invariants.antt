use Rattle.std.proofs.Common.{◌≤◌}
use Rattle.fd_prog.specs.declared.statement.StmtList.{size-StmtList}
use Rattle.fd_prog.proofs.+statement.Given as goal

-- What is left is no deeper than the list.
abbrev pub invariant-statement::StmtList::drop-loop-self :
    goal.invariant-statement::StmtList::drop-loop-self
invariant-statement::StmtList::drop-loop-self l = size-StmtList l.self ≤ size-StmtList l.fn.self
