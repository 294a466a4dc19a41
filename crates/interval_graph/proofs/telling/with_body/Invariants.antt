use Rattle.std.proofs.Common.{◌≡◌, ℕ, suc, ◌-◌, ◌<◌, ◌≤◌, ◌==◌, if◌then◌else◌, [], ◌++◌}
use Rattle.interval_graph.specs.Edges.{children_below}
use Rattle.interval_graph.specs.Chained.{told_by}
use Rattle.interval_graph.proofs.Levels.{IsLevel}
use Rattle.interval_graph.proofs.telling.with_body.Given as goal

abbrev pub invariant-level : goal.invariant-level
invariant-level l = record {
  low : l.start < l.m;
  ends : l.m ≤ suc l.latch;
  nodes : l.all.nodes ≡ l.fn.chains.nodes;
  level : IsLevel l.rows.items l.start l.m;
  told : (k : ℕ) → told_by k l.all.told ≡ told_by k l.fn.chains.told ++ (if l.start == k then children_below l.rows.items l.start l.m else []);
}

abbrev pub decreases-level : goal.decreases-level
decreases-level l = suc l.latch - l.m
