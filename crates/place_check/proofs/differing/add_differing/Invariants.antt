use Rattle.std.proofs.Common.{◌≡◌, ℕ}
use Rattle.gnt_solver.specs.Columns.{held}
use Rattle.place_check.proofs.Unlike.{IsOut}
use Rattle.place_check.proofs.differing.add_differing.Given as goal

abbrev pub invariant-loop-n : goal.invariant-loop-n
invariant-loop-n l = record {
  differing : l.differing.size ≡ l.initial.differing.size;
  rest : l.rest.size ≡ l.initial.rest.size;
  out : (x : ℕ) → IsOut (held l.initial.differing x) (held l.differing x) l.some l.other x l.n;
}
