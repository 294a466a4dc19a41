use Rattle.std.proofs.Common.{◌≡◌, map, vec_len}
use Rattle.fd_prog.specs.Statements.{Empty, statement_of, statements_of}
use Rattle.fd_names.specs.Statements.{in_front}
use Rattle.fd_names.proofs.statements.chain.Given as goal

abbrev pub invariant-loop-last : goal.invariant-loop-last
invariant-loop-last l = in_front (map statement_of l.items.items) (statements_of l.list) ≡ in_front (map statement_of l.initial.items.items) Empty

abbrev pub decreases-loop-last : goal.decreases-loop-last
decreases-loop-last l = vec_len l.items
