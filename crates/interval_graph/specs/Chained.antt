-- How chains keep edges: one chain for each node, of the places of its edges in a list of all.
use Rattle.std.specs.Prelude.{◌≡◌, ℕ, suc, ◌<◌, ◌==◌, List, [], ◌∷◌, length, get_or, drop, if◌then◌else◌, Option, None, Some, MatchOption}
use Rattle.fd_links.specs.Chains.{Chains, HasSlots}
use Rattle.interval_graph.specs.declared.node.EdgeKind.TheVariants.{Forward}
use Rattle.interval_graph.specs.declared.chains.Told.{Told}
use Rattle.interval_graph.specs.Edges.{Edge}

-- edges for so many nodes, each with the node that tells it
pub record Edges : Type 0 where
  pub nodes : ℕ
  pub told : List Told

-- the edges that a node tells, in order
abbrev pub told_by : ℕ → List Told → List Edge
told_by n [] = []
told_by n (t ∷ ts) = if t.by == n then (t.node, t.kind) ∷ told_by n ts else told_by n ts

-- the places of the edges that a node tells, where the first place has the number i
abbrev pub places_of : ℕ → ℕ → List Told → List ℕ
places_of n i [] = []
places_of n i (t ∷ ts) = if t.by == n then i ∷ places_of n (suc i) ts else places_of n (suc i) ts

-- the edge at a place
abbrev pub told_at : List Told → ℕ → Told
told_at ts i = get_or ts i (record { by = 0; node = record { 0 = 0 }; kind = Forward })

-- at a place stands an edge that the node tells
abbrev pub TellsAt : ℕ → List Told → ℕ → Type 0
TellsAt n ts i = (i < length ts) × ((told_at ts i).by ≡ n)

-- the edges that a node tells from a place on; none where there is no place
abbrev pub told_from : ℕ → List Told → Option ℕ → List Edge
told_from n ts None = []
told_from n ts (Some i) = told_by n (drop i ts)

-- a place, where there is one, is that of an edge that the node tells
abbrev pub IsPlace : ℕ → List Told → Option ℕ → Type 0
IsPlace n ts place = MatchOption place (Unit {0}) (TellsAt n ts)

-- the chains keep the places of the edges: one chain for each node
pub record AreChained (links : Chains) (ts : List Told) : Type 0 where
  pub slots : HasSlots links (length ts)
  pub none_free : links.free ≡ []
  pub chains : (n : ℕ) → n < length links.chains → get_or links.chains n [] ≡ places_of n 0 ts
