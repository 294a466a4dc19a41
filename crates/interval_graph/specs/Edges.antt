-- The edges that rows tell, as each node tells its own.
use Rattle.std.specs.Prelude.{◌≡◌, ◌⊎◌, ℕ, zero, suc, ◌+◌, ◌==◌, nat_lt, nat_le, Bool, false, not, ◌&&◌, ◌||◌, if◌then◌else◌, List, [], ◌∷◌, ◌++◌, map, filter, length}
use Rattle.fd_base.specs.declared.numbering.NodeNo.{NodeNo}
use Rattle.fd_prog.specs.Flow.{Way, Next, Fork, Jump, Around, Back, Nowhere, is_around, latch_in}
use Rattle.interval_graph.specs.declared.node.EdgeKind.{EdgeKind}
use Rattle.interval_graph.specs.declared.node.EdgeKind.TheVariants.{Forward, Entry, Cycle}
use Rattle.interval_graph.specs.declared.node.Row.{Row}
use Rattle.interval_graph.specs.Rows.{leads_at}

-- an edge as a node tells it: the node at its other end, and how it leads
abbrev pub Edge : Type 0
Edge = NodeNo × EdgeKind

abbrev pub edge : ℕ → EdgeKind → Edge
edge n kind = (record { 0 = n }, kind)

-- among edges that a node tells is one of this kind with node s at its other end
abbrev pub Tells : List Edge → ℕ → EdgeKind → Type 0
Tells [] s kind = ⊥
Tells (e ∷ es) s kind = ((e.0.0 ≡ s) × (e.1 ≡ kind)) ⊎ Tells es s kind

-- the edges that leave node n where it leads so
abbrev pub leaving : Way → ℕ → List Edge
leaving Next n = edge (n + 1) Forward ∷ []
leaving (Fork other) n = edge (n + 1) Forward ∷ (edge other Forward ∷ [])
leaving (Jump other) n = edge other Forward ∷ []
leaving (Around latch) n = edge (n + 1) Entry ∷ (edge (latch + 1) Forward ∷ [])
leaving (Back loop) n = edge loop Cycle ∷ []
leaving Nowhere n = []

-- the edges that leave a node
abbrev pub successors : List Row → ℕ → List Edge
successors rows n = leaving (leads_at rows n) n

-- those of the edges that leave node p which lead to node s, as node s tells them
abbrev pub arriving : ℕ → ℕ → List Edge → List Edge
arriving p s edges = map (λ (e : Edge). edge p e.1) (filter (λ (e : Edge). e.0.0 == s) edges)

-- the edges to node s from the nodes below another, in order of the nodes that they leave
abbrev pub arriving_below : List Row → ℕ → ℕ → List Edge
arriving_below rows s zero = []
arriving_below rows s (suc p) = arriving_below rows s p ++ arriving p s (successors rows p)

-- the edges that lead to a node, in order of the nodes that they leave
abbrev pub predecessors : List Row → ℕ → List Edge
predecessors rows s = arriving_below rows s (length rows)

-- node m is in the body of the loop that begins at node l
abbrev pub is_inside : List Row → ℕ → ℕ → Bool
is_inside rows l m = is_around (leads_at rows l) && (nat_lt l m && nat_le m (latch_in (leads_at rows l)))

-- node m is in the body of a loop that begins below node k in the body of loop l
abbrev pub is_deeper : List Row → ℕ → ℕ → ℕ → Bool
is_deeper rows l m zero = false
is_deeper rows l m (suc k) = is_deeper rows l m k || (is_inside rows l k && is_inside rows k m)

-- node m is in the body of loop l at its level: in the body of no loop there
abbrev pub is_child : List Row → ℕ → ℕ → Bool
is_child rows l m = is_inside rows l m && not (is_deeper rows l m m)

-- a node of the body of loop l, with the kind of the edges that lead to it there
abbrev pub child : ℕ → ℕ → Edge
child l m = edge m (if m == suc l then Entry else Forward)

-- the nodes below another that are in the body of loop l at its level
abbrev pub children_below : List Row → ℕ → ℕ → List Edge
children_below rows l zero = []
children_below rows l (suc m) = children_below rows l m ++ (if is_child rows l m then child l m ∷ [] else [])

-- the nodes of the body of loop l at its level, in order
abbrev pub children : List Row → ℕ → List Edge
children rows l = children_below rows l (length rows)
