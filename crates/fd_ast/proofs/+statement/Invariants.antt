use Rattle.std.proofs.Common.{◌≤◌}
use Rattle.fd_ast.specs.declared.statement.TStmtList.{size-TStmtList}
use Rattle.fd_ast.proofs.+statement.Given as goal

-- What is left is no deeper than the list.
abbrev pub invariant-statement::TStmtList::drop-loop-self :
    goal.invariant-statement::TStmtList::drop-loop-self
invariant-statement::TStmtList::drop-loop-self l = size-TStmtList l.self ≤ size-TStmtList l.fn.self
