use Rattle.std.proofs.Common.{◌≡◌, ◌+◌, ◌-◌, ◌≤◌, length}
use Rattle.fd_gen.specs.Draws.{after_exchanges, state_after}
use Rattle.fd_gen.proofs.draw.Generator.draw_permutation.Given as goal

-- the exchanges for the counts above are made
abbrev pub invariant-loop-last : goal.invariant-loop-last
invariant-loop-last l = record {
  state : l.self.state ≡ state_after l.fn.self.state (l.size - l.last);
  numbers : l.numbers.items ≡ after_exchanges l.fn.self.state l.size (l.size - l.last);
  count : length l.numbers.items ≡ l.size;
  above : l.size ≤ l.last + (l.size - 1);
}
