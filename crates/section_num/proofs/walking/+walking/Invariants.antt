use Rattle.std.proofs.Common.{◌+◌}
use Rattle.fd_prog.specs.Statements.{statement_of, statements_of}
use Rattle.fd_prog.proofs.Sizes.{weight_in, weight_among}
use Rattle.section_num.proofs.walking.+walking.Given as goal

abbrev pub decreases-note_do : goal.decreases-note_do
decreases-note_do l = weight_among (statements_of l.body.now) + 2

abbrev pub decreases-note_if : goal.decreases-note_if
decreases-note_if l = weight_among (statements_of l.so.now) + weight_among (statements_of l.otherwise.now) + 2

abbrev pub decreases-note_while : goal.decreases-note_while
decreases-note_while l = weight_among (statements_of l.body.now) + 2

abbrev pub decreases-note_statement : goal.decreases-note_statement
decreases-note_statement l = weight_in (statement_of l.s.now)

abbrev pub decreases-note_statements : goal.decreases-note_statements
decreases-note_statements l = weight_among (statements_of l.list.now)
