-- What a search has reached, and the walks to it.
use Rattle.std.specs.Prelude.{◌≡◌, ℕ, ◌+◌, ◌*◌, ◌<◌, ◌≤◌, Bool, true, false, if◌then◌else◌, List, [], ◌∷◌, ◌++◌, length, get_or, set, replicate, reverse, Option, Some, None}
use Rattle.fd_base.specs.declared.numbering.NodeNo.{NodeNo}
use Rattle.fd_prog.specs.Flow.{FlowGraph}
use Rattle.interval_graph.specs.declared.node.EdgeKind.{EdgeKind}
use Rattle.place_check.specs.declared.reached.Reached.{Reached}
use Rattle.place_check.specs.declared.reached.Search.{Search}
use Rattle.place_check.specs.declared.edges.Edge.{Edge}
use Rattle.place_check.specs.Marks.{Machine}
use Rattle.place_check.specs.Verdicts.{numbers_of}
use Rattle.place_check.specs.Walks.{IsEdge, along, IsWalk, IsBefore, IsNotAfter, IsFirstWalk}

abbrev pub nowhere : Reached
nowhere = record { node = 0; mark = false; from = 0 }

abbrev pub reached_at : List Reached → ℕ → Reached
reached_at rs i = get_or rs i nowhere

-- the walks to all that was reached, behind those that are known: each goes on from the walk to the place that it was reached from
abbrev pub trails : List (List ℕ) → List Reached → List (List ℕ)
trails known [] = known
trails known (r ∷ rs) = trails (known ++ ((r.node ∷ get_or known r.from []) ∷ [])) rs

-- the walk to what is at a place, from its last node back
unfoldable pub trail : List Reached → ℕ → List ℕ
trail rs i = get_or (trails [] rs) i []

-- where a node with a mark is noted
abbrev pub spot : ℕ → Bool → ℕ
spot n mark = 2 * n + (if mark then 1 else 0)

-- a node with a mark that is reached from a place is noted, unless it was seen before
pub data IsNoted (old new : Search) (n : ℕ) (mark : Bool) (from : ℕ) : Type 0 where
  before : get_or old.seen.items (spot n mark) false ≡ true → new ≡ old → IsNoted old new n mark from
  now : get_or old.seen.items (spot n mark) false ≡ false → new.seen.items ≡ set old.seen.items (spot n mark) true
      → new.reached.items ≡ old.reached.items ++ (record { node = n; mark = mark; from = from } ∷ []) → IsNoted old new n mark from

-- an edge is followed with this mark from a place to a node, and that is noted or breaks the condition
abbrev pub IsFollowing : Option Bool → Search → Search → ℕ → ℕ → Option ℕ → Type 0
IsFollowing None old new to at broken = (broken ≡ Some to) × (new ≡ old)
IsFollowing (Some mark) old new to at broken = (broken ≡ None) × IsNoted old new to mark at

-- an edge is followed from a place, where there is one
abbrev pub FollowsEdge : Machine → Search → Search → ℕ → Option Edge → Option ℕ → Type 0
FollowsEdge w old new at None broken = (broken ≡ None) × (new ≡ old)
FollowsEdge w old new at (Some e) broken =
    IsFollowing (along w e.kind (reached_at old.reached.items at).node e.to (reached_at old.reached.items at).mark) old new e.to at broken

-- each place but the first goes on from an earlier one
pub record LeadBack (rs : List Reached) : Type 0 where
  pub root : trail rs 0 ≡ (reached_at rs 0).node ∷ []
  pub earlier : (i : ℕ) → 0 < i → i < length rs → (reached_at rs i).from < i
  pub further : (i : ℕ) → 0 < i → i < length rs → trail rs i ≡ (reached_at rs i).node ∷ trail rs (reached_at rs i).from

-- what was reached stands in the order of the walks to it
pub record AreReached (g : FlowGraph) (w : Machine) (count : ℕ) (rs : List Reached) : Type 0 where
  pub some : 0 < length rs
  pub inside : (i : ℕ) → i < length rs → (reached_at rs i).node < count
  pub walks : (i : ℕ) → i < length rs → IsWalk g w (trail rs i) (reached_at rs i).node (Some (reached_at rs i).mark)
  pub ordered : (i j : ℕ) → i < j → j < length rs → IsBefore (trail rs i) (trail rs j)
  pub back : LeadBack rs

-- a place where a node with a mark was reached, by a walk that isn't after this one
pub record IsThere (rs : List Reached) (n : ℕ) (mark : Bool) (ns : List ℕ) : Type 0 where
  pub place : ℕ
  pub inside : place < length rs
  pub node : (reached_at rs place).node ≡ n
  pub mark_is : (reached_at rs place).mark ≡ mark
  pub sooner : IsNotAfter (trail rs place) ns

-- what an edge leads to from a place was reached
pub record IsFollowed (w : Machine) (rs : List Reached) (i : ℕ) (kind : EdgeKind) (s : ℕ) : Type 0 where
  pub mark : Bool
  pub along_is : along w kind (reached_at rs i).node s (reached_at rs i).mark ≡ Some mark
  pub there : IsThere rs s mark (s ∷ trail rs i)

-- all edges from the places below k were followed
abbrev pub ArePassed : FlowGraph → Machine → List Reached → ℕ → Type 0
ArePassed g w rs k = (i : ℕ) → i < k → (kind : EdgeKind) (s : ℕ) → IsEdge g kind (reached_at rs i).node s → IsFollowed w rs i kind s

-- all that was reached comes before what any edge from place k leads to
abbrev pub AreBelow : List Reached → ℕ → Type 0
AreBelow rs k = (i : ℕ) → i < length rs → (s : ℕ) → IsBefore (trail rs i) (s ∷ trail rs k)

-- what is seen was reached
abbrev pub AreKnown : List Reached → List Bool → Type 0
AreKnown rs seen = (q : ℕ) → get_or seen q false ≡ true → (i : ℕ) × (i < length rs) × (spot (reached_at rs i).node (reached_at rs i).mark ≡ q)

-- how much isn't seen
abbrev pub unseen : List Bool → ℕ
unseen [] = 0
unseen (b ∷ bs) = (if b then 0 else 1) + unseen bs

-- a search that has followed all edges from the places below k
pub record IsSearch (g : FlowGraph) (w : Machine) (count : ℕ) (s : Search) (k : ℕ) : Type 0 where
  pub reached : AreReached g w count s.reached.items
  pub known : AreKnown s.reached.items s.seen.items
  pub long : length s.seen.items ≡ 2 * count
  pub passed : ArePassed g w s.reached.items k
  pub below : k < length s.reached.items → AreBelow s.reached.items k

-- the edges from place `at` are followed as well, or one of them breaks the condition and no walk that breaks it is before the walk along it
abbrev pub IsExpanded : FlowGraph → Machine → ℕ → Search → Search → ℕ → Option ℕ → Type 0
IsExpanded g w count old new at None = IsSearch g w count new (at + 1) × (unseen new.seen.items + length new.reached.items ≤ unseen old.seen.items + length old.reached.items)
IsExpanded g w count old new at (Some last) = IsFirstWalk g w (last ∷ trail new.reached.items at) × LeadBack new.reached.items × (at < length new.reached.items)

-- what a search finds: the nodes of the first walk that breaks the condition, or that there is none
abbrev pub IsSearched : FlowGraph → Machine → Option (List NodeNo) → Type 0
IsSearched g w None = (ns : List ℕ) (n : ℕ) → IsWalk g w ns n None → ⊥
IsSearched g w (Some nodes) = (ns : List ℕ) × IsFirstWalk g w ns × (numbers_of nodes ≡ reverse ns)

-- a search that has reached Start with a mark
pub record IsBegun (count : ℕ) (mark : Bool) (s : Search) : Type 0 where
  pub reached : s.reached.items ≡ record { node = 0; mark = mark; from = 0 } ∷ []
  pub seen : s.seen.items ≡ set (replicate (2 * count) false) (spot 0 mark) true
