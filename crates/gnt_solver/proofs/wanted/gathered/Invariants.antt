use Rattle.std.proofs.Common.{◌≡◌, ℕ, suc, ◌-◌, ◌<◌, ◌≤◌, IsTrue, ◌↔◌}
use Rattle.gnt_solver.specs.Columns.{held, col, at}
use Rattle.gnt_solver.proofs.wanted.gathered.Given as goal

abbrev pub invariant-level : goal.invariant-level
invariant-level l = record {
  low : l.l < l.m;
  ends : l.m ≤ suc l.c;
  one_size : l.into.size ≡ l.size.items;
  found : (x : ℕ) → IsTrue (held l.into x) ↔ ((k : ℕ) × (l.l < k) × (k < l.m) × IsTrue (at (col l.table x) k));
}

abbrev pub decreases-level : goal.decreases-level
decreases-level l = suc l.c - l.m
