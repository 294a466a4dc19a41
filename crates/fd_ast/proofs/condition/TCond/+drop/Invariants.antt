use Rattle.std.proofs.Common.{◌≤◌}
use Rattle.fd_ast.specs.declared.condition.TCond.{size-TCond}
use Rattle.fd_ast.proofs.condition.TCond.+drop.Given as goal

-- What is left is no deeper than the whole.
abbrev pub invariant-loop-self : goal.invariant-loop-self
invariant-loop-self l = size-TCond l.self ≤ size-TCond l.fn.self
