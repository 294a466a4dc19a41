-- Graphs, uses, solutions and places that agree everywhere.
use Rattle.std.specs.Prelude.{◌≡◌, ℕ}
use Rattle.fd_prog.specs.Flow.{FlowGraph}
use Rattle.fd_prog.specs.Paths.{Uses, Places}
use Rattle.gnt_solver.specs.Equations.{Had, Solution}

-- two graphs have the same edges and loops
pub record AreSameGraphs (f g : FlowGraph) : Type 0 where
  pub forward : (n s : ℕ) → f.forward n s ≡ g.forward n s
  pub is_loop : (l : ℕ) → f.is_loop l ≡ g.is_loop l
  pub latch : (l : ℕ) → f.latch l ≡ g.latch l

-- every node takes and steals the same
pub record AreSameUses (u v : Uses) : Type 0 where
  pub take : (n x : ℕ) → u.take n x ≡ v.take n x
  pub steal : (n x : ℕ) → u.steal n x ≡ v.steal n x

pub record AreSameHad (v w : Had) : Type 0 where
  pub gi : (n : ℕ) → v.gi n ≡ w.gi n
  pub g : (n : ℕ) → v.g n ≡ w.g n
  pub go : (n : ℕ) → v.go n ≡ w.go n

-- two solutions have the same sets at every node
pub record AreSameSolutions (s r : Solution) : Type 0 where
  pub st : (n : ℕ) → s.st n ≡ r.st n
  pub to : (n : ℕ) → s.to n ≡ r.to n
  pub t : (n : ℕ) → s.t n ≡ r.t n
  pub ti : (n : ℕ) → s.ti n ≡ r.ti n
  pub eager : AreSameHad s.eager r.eager
  pub lazy : AreSameHad s.lazy r.lazy

-- two placements have the same places
pub record AreSamePlaces (p q : Places) : Type 0 where
  pub send_in : (n x : ℕ) → p.send_in n x ≡ q.send_in n x
  pub send_out : (n x : ℕ) → p.send_out n x ≡ q.send_out n x
  pub recv_in : (n x : ℕ) → p.recv_in n x ≡ q.recv_in n x
  pub recv_out : (n x : ℕ) → p.recv_out n x ≡ q.recv_out n x
  pub hoists : (n x : ℕ) → p.hoists n x ≡ q.hoists n x
