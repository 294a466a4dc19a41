use Rattle.std.proofs.Common.{◌≡◌, ℕ, nat_lt, if◌then◌else◌, [], length}
use Rattle.interval_graph.specs.Edges.{children}
use Rattle.interval_graph.specs.Chained.{told_by}
use Rattle.interval_graph.proofs.telling.tell_children.Given as goal

abbrev pub invariant-loop-n : goal.invariant-loop-n
invariant-loop-n l = record {
  nodes : l.chains.nodes ≡ length l.rows.items;
  told : (m : ℕ) → told_by m l.chains.told ≡ (if nat_lt m l.n then children l.rows.items m else []);
}
