-- What agrees everywhere is the same.
use Rattle.std.proofs.Common.{◌≡◌}
use Rattle.fd_prog.specs.Flow.{FlowGraph}
use Rattle.fd_prog.specs.Paths.{Uses, Places}
use Rattle.gnt_solver.specs.Same.{AreSameGraphs, AreSameUses, AreSamePlaces}

pub same_graphs : (f g : FlowGraph) → AreSameGraphs f g → f ≡ g
same_graphs f g a = λ i. record { forward = λ n s. a.forward n s i; is_loop = λ l. a.is_loop l i; latch = λ l. a.latch l i }

pub same_uses : (u v : Uses) → AreSameUses u v → u ≡ v
same_uses u v a = λ i. record { take = λ n x. a.take n x i; steal = λ n x. a.steal n x i }

pub same_places : (p q : Places) → AreSamePlaces p q → p ≡ q
same_places p q a = λ i. record {
  send_in = λ n x. a.send_in n x i;
  send_out = λ n x. a.send_out n x i;
  recv_in = λ n x. a.recv_in n x i;
  recv_out = λ n x. a.recv_out n x i;
  hoists = λ n x. a.hoists n x i;
}
