use Rattle.fd_gen.proofs.Draws.{state_by_wrapping, drawn_by_shift}
use Rattle.fd_gen.proofs.draw.Generator.draw.Goals as goal

pub returns-clause-state : goal.returns-clause-state
returns-clause-state c = state_by_wrapping c.args.self.now.state

pub returns-clause-number : goal.returns-clause-number
returns-clause-number c = drawn_by_shift _
