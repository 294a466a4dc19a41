use Rattle.std.proofs.Common.{◌+◌}
use Rattle.fd_prog.specs.Statements.{statement_of, statements_of}
use Rattle.fd_prog.proofs.Sizes.{weight_in, weight_among}
use Rattle.executor_gen.proofs.tree.+write.Given as goal

abbrev pub decreases-write_yes : goal.decreases-write_yes
decreases-write_yes l = weight_among (statements_of l.side.now) + 1

abbrev pub decreases-write_no : goal.decreases-write_no
decreases-write_no l = weight_among (statements_of l.side.now) + 1

abbrev pub decreases-write_round : goal.decreases-write_round
decreases-write_round l = weight_among (statements_of l.body.now) + 1

abbrev pub decreases-write_fork : goal.decreases-write_fork
decreases-write_fork l = weight_among (statements_of l.so.now) + weight_among (statements_of l.otherwise.now) + 2

abbrev pub decreases-write : goal.decreases-write
decreases-write l = weight_in (statement_of l.statement.now)

abbrev pub decreases-write_all : goal.decreases-write_all
decreases-write_all l = weight_among (statements_of l.statements.now)
