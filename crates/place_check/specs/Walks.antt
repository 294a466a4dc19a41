-- Walks through a flow graph with a mark, each told from its last node back to Start.
use Rattle.std.specs.Prelude.{◌≡◌, ℕ, suc, ◌<◌, Bool, false, IsTrue, ◌⊎◌, List, [], ◌∷◌, Option, Some, None}
use Rattle.fd_prog.specs.Flow.{FlowGraph}
use Rattle.interval_graph.specs.declared.node.EdgeKind.{EdgeKind}
use Rattle.interval_graph.specs.declared.node.EdgeKind.TheVariants.{Forward, Entry, Cycle}
use Rattle.place_check.specs.Marks.{Machine, onward}

-- an edge of a kind from a node to another
abbrev pub IsEdge : FlowGraph → EdgeKind → ℕ → ℕ → Type 0
IsEdge g Forward n s = IsTrue (g.forward n s)
IsEdge g Entry n s = IsTrue (g.is_loop n) × (s ≡ suc n)
IsEdge g Cycle n s = IsTrue (g.is_loop s) × (n ≡ g.latch s)

-- the mark along an edge from a node to another
abbrev pub along : Machine → EdgeKind → ℕ → ℕ → Bool → Option Bool
along w Forward n s mark = onward (w.leaving n mark) (w.arriving s)
along w Entry n s mark = w.arriving s mark
along w Cycle n s mark = Some mark

-- a walk from Start with the mark that it ends with; it breaks the condition at its last node, or not at all
pub data IsWalk (g : FlowGraph) (w : Machine) : List ℕ → ℕ → Option Bool → Type 0 where
  begin : IsWalk g w (0 ∷ []) 0 (w.arriving 0 false)
  go : {ns : List ℕ} {n : ℕ} {mark : Bool} (kind : EdgeKind) (s : ℕ) → IsWalk g w ns n (Some mark) → IsEdge g kind n s → IsWalk g w (s ∷ ns) s (along w kind n s mark)

-- a walk has fewer nodes than another, or as many and lesser numbers where they first differ from Start
abbrev pub IsBefore : List ℕ → List ℕ → Type 0
IsBefore [] [] = ⊥
IsBefore [] (m ∷ ms) = Unit {0}
IsBefore (n ∷ ns) [] = ⊥
IsBefore (n ∷ ns) (m ∷ ms) = IsBefore ns ms ⊎ ((ns ≡ ms) × (n < m))

abbrev pub IsNotAfter : List ℕ → List ℕ → Type 0
IsNotAfter ns ms = (ns ≡ ms) ⊎ IsBefore ns ms

-- a walk that breaks the condition, and no other that does is before it
pub record IsFirstWalk (g : FlowGraph) (w : Machine) (ns : List ℕ) : Type 0 where
  pub node : ℕ
  pub walk : IsWalk g w ns node None
  pub first : (ms : List ℕ) (m : ℕ) → IsWalk g w ms m None → IsNotAfter ns ms
