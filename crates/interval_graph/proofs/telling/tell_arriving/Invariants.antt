use Rattle.std.proofs.Common.{◌≡◌, ℕ, length}
use Rattle.interval_graph.specs.Edges.{arriving_below}
use Rattle.interval_graph.specs.Chained.{told_by}
use Rattle.interval_graph.proofs.telling.tell_arriving.Given as goal

abbrev pub invariant-loop-n : goal.invariant-loop-n
invariant-loop-n l = record {
  nodes : l.chains.nodes ≡ length l.rows.items;
  told : (m : ℕ) → told_by m l.chains.told ≡ arriving_below l.rows.items m l.n;
}
