-- The equations that place sends and receives, for one item at a time: each set of items is a test at each node of whether the item is in it. After Give-N-Take (von Hanxleden and Kennedy, 1994).
use Rattle.std.specs.Prelude.{◌≡◌, ℕ, suc, Bool, not, ◌&&◌, ◌||◌, IsTrue, IsFalse, ◌↔◌, ◌⊎◌}
use Rattle.fd_prog.specs.Flow.{FlowGraph, Within}
use Rattle.fd_prog.specs.Paths.{Uses, Places, taken_inside}

-- an item: the nodes that take it, those that steal it, and the loops in whose body it is taken
pub record Wants : Type 0 where
  pub take : ℕ → Bool
  pub steal : ℕ → Bool
  pub any : ℕ → Bool

-- where an item is had: on arrival at a node, at the node, and behind it
pub record Had : Type 0 where
  pub gi : ℕ → Bool
  pub g : ℕ → Bool
  pub go : ℕ → Bool

-- the sets of a solution: what a node and its body steal, what is taken behind a node on all ways, what is taken at it or for it, and both of these; then
-- where the item is had if it is sent as early as it can be, and if it is received as late as it can be
pub record Solution : Type 0 where
  pub st : ℕ → Bool
  pub to : ℕ → Bool
  pub t : ℕ → Bool
  pub ti : ℕ → Bool
  pub eager : Had
  pub lazy : Had

-- the equations of where an item is had, if it is brought at the nodes of x. At Start it isn't had; at the top pad of a loop it is had where the loop has it and doesn't steal it; at
-- other nodes where all predecessors have it, or where it is taken from here on and some predecessor has it
pub record IsHad (f : FlowGraph) (st ti x : ℕ → Bool) (w : Had) : Type 0 where
  pub start : IsFalse (w.gi 0)
  pub top : (l : ℕ) → IsTrue (f.is_loop l) → w.gi (suc l) ≡ (w.g l && not (st l))
  pub met : (k : ℕ) → IsFalse (f.is_loop k) → IsTrue (w.gi (suc k)) ↔
      ((((p : ℕ) × IsTrue (f.forward p (suc k))) × ((p : ℕ) → IsTrue (f.forward p (suc k)) → IsTrue (w.go p)))
      ⊎ (IsTrue (ti (suc k)) × ((p : ℕ) × IsTrue (f.forward p (suc k)) × IsTrue (w.go p))))
  pub g : (n : ℕ) → w.g n ≡ (w.gi n || x n)
  pub go : (n : ℕ) → w.go n ≡ (w.g n && not (st n))

-- the equations of a solution
pub record Solves (f : FlowGraph) (i : Wants) (s : Solution) : Type 0 where
  pub st : (n : ℕ) → IsTrue (s.st n) ↔ (IsTrue (i.steal n) ⊎ ((m : ℕ) × Within f n m × IsTrue (s.st m)))
  pub to : (n : ℕ) → IsTrue (s.to n) ↔ (((r : ℕ) × IsTrue (f.forward n r)) × ((r : ℕ) → IsTrue (f.forward n r) → IsTrue (s.ti r)))
  pub t_plain : (n : ℕ) → IsFalse (f.is_loop n) → s.t n ≡ i.take n
  pub t_loop : (n : ℕ) → IsTrue (f.is_loop n) → s.t n ≡ (i.take n || ((s.ti (suc n) && not (s.st n)) || ((s.to n && i.any n) && not (s.st n))))
  pub ti : (n : ℕ) → s.ti n ≡ (s.t n || (s.to n && not (s.st n)))
  pub eager : IsHad f s.st s.ti s.ti s.eager
  pub lazy : IsHad f s.st s.ti s.t s.lazy

-- the places of one item
pub record Spots : Type 0 where
  pub send_in : ℕ → Bool
  pub send_out : ℕ → Bool
  pub recv_in : ℕ → Bool
  pub recv_out : ℕ → Bool
  pub hoists : ℕ → Bool

-- what brings an item to where it is had: at `in` what is had at a node and not on arrival, at `out` what a successor has on arrival and the node doesn't have behind it
pub record AreOps (f : FlowGraph) (v : Had) (a b : ℕ → Bool) : Type 0 where
  pub at_in : (n : ℕ) → a n ≡ (v.g n && not (v.gi n))
  pub at_out : (n : ℕ) → IsTrue (b n) ↔ (((r : ℕ) × IsTrue (f.forward n r) × IsTrue (v.gi r)) × IsFalse (v.go n))

-- the placement of a solution: it is sent as the eager sets say and received as the lazy ones say; a loop hoists what is taken at its top pad, isn't stolen in it and isn't taken by itself
pub record IsPlacement (f : FlowGraph) (i : Wants) (s : Solution) (p : Spots) : Type 0 where
  pub sends : AreOps f s.eager p.send_in p.send_out
  pub recvs : AreOps f s.lazy p.recv_in p.recv_out
  pub hoists : (n : ℕ) → p.hoists n ≡ (f.is_loop n && ((s.ti (suc n) && not (s.st n)) && not (i.take n)))

-- an item of a program
abbrev pub wants_of : FlowGraph → Uses → ℕ → Wants
wants_of f u x = record { take = λ n. u.take n x; steal = λ n. u.steal n x; any = λ n. taken_inside f u.take n x }

abbrev pub spots_of : Places → ℕ → Spots
spots_of p x = record {
  send_in = λ n. p.send_in n x;
  send_out = λ n. p.send_out n x;
  recv_in = λ n. p.recv_in n x;
  recv_out = λ n. p.recv_out n x;
  hoists = λ n. p.hoists n x;
}

-- the places are those of a solution of the equations, for every item
abbrev pub AreSolved : FlowGraph → Uses → Places → Type 0
AreSolved f u p = (x : ℕ) → (s : Solution) × Solves f (wants_of f u x) s × IsPlacement f (wants_of f u x) s (spots_of p x)
