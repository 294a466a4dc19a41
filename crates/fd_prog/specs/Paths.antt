-- Paths through a flow graph, and what happens to items along them.
use Rattle.std.specs.Prelude.{◌≡◌, ℕ, suc, ◌-◌, ◌==◌, Bool, ◌&&◌, IsTrue, List, [], ◌∷◌, ◌++◌, map, filter}
use Rattle.std.specs.List.{list_any, range_with_len}
use Rattle.fd_base.specs.declared.numbering.ItemNo.{ItemNo}
use Rattle.fd_prog.specs.declared.item.Event.{Event}
use Rattle.fd_prog.specs.declared.item.Event.TheVariants.{Send, Recv, Take, Steal, Hoist}
use Rattle.fd_prog.specs.Flow.{FlowGraph}

-- what is so of a node and an item, by their numbers
abbrev pub Marks : Type 0
Marks = ℕ → ℕ → Bool

-- the items that each node takes, and those that it steals
pub record Uses : Type 0 where
  pub take : Marks
  pub steal : Marks

-- where items are sent and received, at the `in` and the `out` of nodes, and the items that are sent for a loop's sake
pub record Places : Type 0 where
  pub send_in : Marks
  pub send_out : Marks
  pub recv_in : Marks
  pub recv_out : Marks
  pub hoists : Marks

-- a flow graph with items from 1 up to a count, what its nodes take and steal, and the places of sends and receives
pub record Plan : Type 0 where
  pub graph : FlowGraph
  pub items : ℕ
  pub uses : Uses
  pub places : Places

-- a node in the body of a loop takes an item
abbrev pub taken_inside : FlowGraph → Marks → ℕ → ℕ → Bool
taken_inside g take l x = g.is_loop l && list_any (λ n. take n x) (range_with_len (suc l) (g.latch l - l))

-- an event of one kind for each item that is marked, in order of the items
abbrev pub for_each : (ItemNo → Event) → ℕ → (ℕ → Bool) → List Event
for_each event items marked = map (λ x. event (record { 0 = x })) (filter marked (range_with_len 1 items))

-- the sends and then the receives of one place of a node
abbrev pub operations : ℕ → (ℕ → Bool) → (ℕ → Bool) → List Event
operations items sent received = for_each Send items sent ++ for_each Recv items received

-- what happens on arrival at a node by a Forward or an Entry edge, and at Start: the operations at its `in`, what it takes, the hoists of a loop for items
-- that its body takes, and what it steals
abbrev pub at_arrival : Plan → ℕ → List Event
at_arrival p n = operations p.items (p.places.send_in n) (p.places.recv_in n)
    ++ (for_each Take p.items (p.uses.take n)
    ++ (for_each Hoist p.items (λ x. p.places.hoists n x && taken_inside p.graph p.uses.take n x)
    ++ for_each Steal p.items (p.uses.steal n)))

-- what happens on leaving a node by a Forward edge: the operations at its `out`
abbrev pub at_leaving : Plan → ℕ → List Event
at_leaving p n = operations p.items (p.places.send_out n) (p.places.recv_out n)

-- a path from Start along edges, by its nodes, its last node, and what happens on it. Nothing happens along a Cycle edge, on leaving by an Entry edge, and at the
-- `out` of the last node
pub data IsPath (p : Plan) : List ℕ → ℕ → List Event → Type 0 where
  start : IsPath p (0 ∷ []) 0 (at_arrival p 0)
  forward : {ns : List ℕ} {n : ℕ} {es : List Event} (s : ℕ) → IsPath p ns n es → IsTrue (p.graph.forward n s)
      → IsPath p (ns ++ (s ∷ [])) s (es ++ (at_leaving p n ++ at_arrival p s))
  entry : {ns : List ℕ} {l : ℕ} {es : List Event} → IsPath p ns l es → IsTrue (p.graph.is_loop l)
      → IsPath p (ns ++ (suc l ∷ [])) (suc l) (es ++ at_arrival p (suc l))
  cycle : {ns : List ℕ} {n : ℕ} {es : List Event} (l : ℕ) → IsPath p ns n es → IsTrue (p.graph.is_loop l) → n ≡ p.graph.latch l
      → IsPath p (ns ++ (l ∷ [])) l es

-- ---- one item alone

-- what happens to an item
pub data Happening : Type 0 where
  Sent : Happening
  Received : Happening
  Taken : Happening
  Hoisted : Happening
  Stolen : Happening

abbrev pub item_in : Event → ℕ
item_in (Send x) = x.0
item_in (Recv x) = x.0
item_in (Take x) = x.0
item_in (Steal x) = x.0
item_in (Hoist x) = x.0

abbrev pub happening_of : Event → Happening
happening_of (Send x) = Sent
happening_of (Recv x) = Received
happening_of (Take x) = Taken
happening_of (Steal x) = Stolen
happening_of (Hoist x) = Hoisted

-- what happens to an item, in order
abbrev pub happenings : ℕ → List Event → List Happening
happenings x es = map happening_of (filter (λ e. item_in e == x) es)
