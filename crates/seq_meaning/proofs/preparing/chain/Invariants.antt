use Rattle.std.proofs.Common.{◌≡◌, map, vec_len}
use Rattle.fd_prog.specs.Statements.{Empty}
use Rattle.seq_meaning.specs.Ready.{in_front, ready_statement, ready_statements}
use Rattle.seq_meaning.proofs.preparing.chain.Given as goal

abbrev pub invariant-loop-last : goal.invariant-loop-last
invariant-loop-last l = in_front (map ready_statement l.items.items) (ready_statements l.list) ≡ in_front (map ready_statement l.initial.items.items) Empty

abbrev pub decreases-loop-last : goal.decreases-loop-last
decreases-loop-last l = vec_len l.items
