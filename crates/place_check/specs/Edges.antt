-- The edges that leave a node, in order of the nodes that they lead to.
use Rattle.std.specs.Prelude.{◌≡◌, ℕ, ◌<◌, ◌⊎◌, List, length, Some}
use Rattle.interval_graph.specs.declared.node.EdgeKind.{EdgeKind}
use Rattle.interval_graph.specs.declared.node.Row.{Row}
use Rattle.interval_graph.specs.Rows.{flow_of}
use Rattle.place_check.specs.declared.edges.Edge.{Edge}
use Rattle.place_check.specs.declared.edges.Edges.{Edges}
use Rattle.place_check.specs.Walks.{IsEdge}

-- an edge that leaves a node, and leads to a node of the graph
pub record Leaves (rows : List Row) (n : ℕ) (e : Edge) : Type 0 where
  pub edge : IsEdge (flow_of rows) e.kind n e.to
  pub inside : e.to < length rows

-- the edges that leave a node
pub record AreEdges (rows : List Row) (n : ℕ) (es : Edges) : Type 0 where
  pub first : (e : Edge) → es.first ≡ Some e → Leaves rows n e
  pub second : (e : Edge) → es.second ≡ Some e → Leaves rows n e
  pub ascend : (d e : Edge) → es.first ≡ Some d → es.second ≡ Some e → d.to < e.to
  pub all : (kind : EdgeKind) (s : ℕ) → IsEdge (flow_of rows) kind n s → (es.first ≡ Some (record { to = s; kind = kind })) ⊎ (es.second ≡ Some (record { to = s; kind = kind }))
