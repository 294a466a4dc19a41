-- The edges between the nodes of a program.
use Rattle.std.specs.Prelude.{ℕ, suc, ◌<◌, ◌≤◌, ◌==◌, Bool, true, false, ◌||◌, IsTrue, List}
use Rattle.fd_prog.specs.Nodes.{Role, Start, Simple, Branch, Pad, YesEnd, Join, Loop, Latch, End, Node, node_at}

-- where a node leads, by its number
pub data Way : Type 0 where
  -- to the next node
  Next : Way
  -- to the next node and to another
  Fork : ℕ → Way
  -- to another node alone
  Jump : ℕ → Way
  -- to what follows the loop whose latch this is; and into its body by an Entry edge
  Around : ℕ → Way
  -- to the beginning of its loop by a Cycle edge, and else nowhere
  Back : ℕ → Way
  Nowhere : Way

abbrev pub way_of : Role → Way
way_of Start = Next
way_of (Simple s) = Next
way_of (Branch c no_side) = Fork no_side
way_of Pad = Next
way_of (YesEnd join) = Jump join
way_of Join = Next
way_of (Loop s latch) = Around latch
way_of (Latch s loop) = Back loop
way_of End = Nowhere

-- a node of this number that leads there has a Forward edge to node s
abbrev pub leads : Way → ℕ → ℕ → Bool
leads Next n s = s == suc n
leads (Fork other) n s = (s == suc n) || (s == other)
leads (Jump other) n s = s == other
leads (Around latch) n s = s == suc latch
leads (Back loop) n s = false
leads Nowhere n s = false

abbrev pub is_around : Way → Bool
is_around (Around latch) = true
is_around way = false

abbrev pub latch_in : Way → ℕ
latch_in (Around latch) = latch
latch_in way = 0

-- a flow graph: the Forward edges, the Loops, and the latch of each Loop. An Entry edge leads from a Loop to the node behind it, which is its
-- top pad; a Cycle edge leads from the latch of a Loop to the Loop
pub record FlowGraph : Type 0 where
  pub forward : ℕ → ℕ → Bool
  pub is_loop : ℕ → Bool
  pub latch : ℕ → ℕ

-- the graph whose nodes lead so
abbrev pub graph_by : (ℕ → Way) → FlowGraph
graph_by way = record { forward = λ n s. leads (way n) n s; is_loop = λ l. is_around (way l); latch = λ l. latch_in (way l) }

-- where the node of a number leads
abbrev pub way_at : List Node → ℕ → Way
way_at nodes n = way_of (node_at nodes n).role

-- the graph of nodes
abbrev pub graph_of : List Node → FlowGraph
graph_of nodes = graph_by (way_at nodes)

-- a node is in the body of a loop: the top pad, the latch, and all nodes between, at every depth
pub record Within (g : FlowGraph) (l n : ℕ) : Type 0 where
  pub is_loop : IsTrue (g.is_loop l)
  pub above : l < n
  pub below : n ≤ g.latch l
