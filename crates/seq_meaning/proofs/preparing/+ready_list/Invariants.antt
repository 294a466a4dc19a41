use Rattle.std.proofs.Common.{◌≡◌, ◌≤◌, map}
use Rattle.fd_prog.specs.Statements.{statement_of, statements_of}
use Rattle.seq_meaning.specs.Ready.{in_front, ready_statement}
use Rattle.seq_meaning.proofs.Chained.{heft, hefts}
use Rattle.seq_meaning.proofs.preparing.+ready_list.Given as goal

abbrev pub decreases-ready_list : goal.decreases-ready_list
decreases-ready_list l = hefts (statements_of l.list.now)

abbrev pub decreases-ready_stmt : goal.decreases-ready_stmt
decreases-ready_stmt l = heft (statement_of l.s.now)

-- those that are made ready, in front of the rest, stand for the whole list
abbrev pub invariant-ready_list-loop-rest : goal.invariant-ready_list-loop-rest
invariant-ready_list-loop-rest l = record {
  smaller : hefts (statements_of l.rest) ≤ hefts (statements_of l.list);
  made : in_front (map ready_statement l.made.items) (statements_of l.rest) ≡ statements_of l.list;
}
