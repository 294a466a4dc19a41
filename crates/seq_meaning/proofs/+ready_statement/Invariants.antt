use Rattle.std.proofs.Common.{◌≤◌}
use Rattle.seq_meaning.specs.declared.ready.ReadyList.{size-ReadyList}
use Rattle.seq_meaning.proofs.+ready_statement.Given as goal

-- What is left is no deeper than the list.
abbrev pub invariant-ready::ReadyList::drop-loop-self :
    goal.invariant-ready::ReadyList::drop-loop-self
invariant-ready::ReadyList::drop-loop-self l = size-ReadyList l.self ≤ size-ReadyList l.fn.self
