use Rattle.fd_lexer.proofs.Places.{ahead_end}
use Rattle.fd_lexer.proofs.scan.next_line.Goals as goal

pub returns-clause-none : goal.returns-clause-none
returns-clause-none c = ahead_end c.args.place c.loop-here.here c.loop-here.invariant c.loop-here-test.ensures
