use Rattle.std.proofs.Common.{◌≡◌, Bool, true, false, IsTrue, ◌↔◌, refl, sym, arith}
use Rattle.interval_graph.specs.Rows.{flow_of}
use Rattle.gnt_solver.specs.Columns.{col, at}
use Rattle.gnt_solver.proofs.Rows.{few}
use Rattle.gnt_solver.proofs.Items.{any_within}
use Rattle.gnt_solver.proofs.inside.taken_in_bodies.Goals as goal

-- two tests of one fact are equal
same_test : (a b : Bool) (P : Type 0) → (IsTrue a ↔ P) → (IsTrue b ↔ P) → a ≡ b
same_test true true P h k = refl
same_test true false P h k = sym (k.1 (h.0 refl))
same_test false true P h k = h.1 (k.0 refl)
same_test false false P h k = refl

pub count-requires : goal.count-requires
count-requires c = omega (arith, few c.args.graph.now.rows.items c.requires.rows)

pub returns-clause-is : goal.returns-clause-is
returns-clause-is c n x =
    same_test _ _ _ (c.in_ok-any.ensures.is x n (omega arith)) (any_within (flow_of c.args.graph.now.rows.items) (λ m q. at (col c.args.take.now q) m) x n)
