use Rattle.std.proofs.Common.{◌≡◌}
use Rattle.fd_gen.specs.Draws.{draws_modulo, state_after}
use Rattle.fd_gen.proofs.draw.Generator.draw_map.Given as goal

-- the numbers so far are drawn
abbrev pub invariant-loop-n : goal.invariant-loop-n
invariant-loop-n l = record {
  state : l.self.state ≡ state_after l.initial.self.state l.n;
  values : l.values.items ≡ draws_modulo 1000 l.initial.self.state l.n;
}
