-- A search that goes through what it reached in the order of the walks finds the first walk that breaks the condition.
use Rattle.std.proofs.Common.{◌≡◌, ℕ, suc, ◌+◌, ◌*◌, ◌<◌, ◌≤◌, Bool, true, false, ◌⊎◌, inl, inr, List, [], ◌∷◌, length, get_or, is_some, Option, Some, None, refl, sym, ◌∙◌, ap, subst, arith}
use Rattle.std.proofs.lemmas.Bool.{cases_lt, cases_eq}
use Rattle.std.specs.Prelude.{IfSome}
use Rattle.std.proofs.lemmas.List.{get_or_default}
use Rattle.fd_prog.specs.Flow.{FlowGraph}
use Rattle.interval_graph.specs.declared.node.EdgeKind.{EdgeKind}
use Rattle.interval_graph.specs.declared.node.Row.{Row}
use Rattle.interval_graph.specs.Rows.{flow_of}
use Rattle.place_check.specs.declared.reached.Reached.{Reached}
use Rattle.place_check.specs.declared.reached.Search.{Search}
use Rattle.place_check.specs.declared.edges.Edge.{Edge}
use Rattle.place_check.specs.declared.edges.Edges.{Edges}
use Rattle.place_check.specs.Marks.{Machine}
use Rattle.place_check.specs.Walks.{IsEdge, along, IsWalk, begin, go, IsBefore, IsNotAfter, IsFirstWalk}
use Rattle.place_check.specs.Edges.{Leaves, AreEdges}
use Rattle.place_check.specs.Trails.{nowhere, reached_at, trail, AreReached, IsThere, IsFollowed, ArePassed, AreBelow, IsSearch, FollowsEdge, IsFollowing, IsExpanded, unseen}
use Rattle.place_check.proofs.Order.{before_trans, before_not_after, not_after_trans, not_after_on, not_after_longer, not_after_less}
use Rattle.place_check.proofs.Trailing.{IsGrown, grown_trans}
use Rattle.place_check.proofs.Following.{followed_grown, IsMoved, IsReady, AreBefore, edge_moves}

some_mark : {a b : Bool} → ◌≡◌ {A = Option Bool} (Some a) (Some b) → a ≡ b
some_mark h = cc

-- ---- where the walks lead

-- a walk doesn't break the condition and its node was reached, or it is beyond what was searched
data IsMet (rs : List Reached) (Beyond : List ℕ → Type 0) (ns : List ℕ) (n : ℕ) (o : Option Bool) : Type 0 where
  met : (mark : Bool) → o ≡ Some mark → IsThere rs n mark ns → IsMet rs Beyond ns n o
  beyond : Beyond ns → IsMet rs Beyond ns n o

-- an edge from what was reached was followed, or leads beyond
abbrev LeadsOn : FlowGraph → Machine → List Reached → (List ℕ → Type 0) → Type 0
LeadsOn g w rs Beyond = (i : ℕ) (ns : List ℕ) (kind : EdgeKind) (s : ℕ) → i < length rs → IsNotAfter (trail rs i) ns → IsEdge g kind (reached_at rs i).node s
    → IsFollowed w rs i kind s ⊎ Beyond (s ∷ ns)

module _ (g : FlowGraph) (w : Machine) (count : ℕ) (rs : List Reached) (are : AreReached g w count rs) (first : Bool) (starts : w.arriving 0 false ≡ Some first) (root : IsThere rs 0 first (0 ∷ [])) (Beyond : List ℕ → Type 0) (grows : (ns : List ℕ) (s : ℕ) → Beyond ns → Beyond (s ∷ ns)) (on : LeadsOn g w rs Beyond) where
  one_on : (ns : List ℕ) (n : ℕ) (mark : Bool) (kind : EdgeKind) (s : ℕ) → IsMet rs Beyond ns n (Some mark) → IsEdge g kind n s → IsMet rs Beyond (s ∷ ns) s (along w kind n s mark)
  one_on ns n mark kind s (beyond b) e = beyond (grows ns s b)
  one_on ns n mark kind s (met m same t) e =
      let i : ℕ = t.place in
      elim (on i ns kind s t.inside t.sooner (subst (λ (z : ℕ). IsEdge g kind z s) (sym t.node) e)) [
        | inr b ↦ beyond b
        | inl f ↦
            let r : Reached = reached_at rs i in
            let same_mark : r.mark ≡ mark = t.mark_is ∙ sym (some_mark same) in
            met f.mark
            (ap (λ (z : ℕ). along w kind z s mark) (sym t.node) ∙ (ap (λ (b : Bool). along w kind r.node s b) (sym same_mark) ∙ f.along_is))
            (record {
              place = f.there.place;
              inside = f.there.inside;
              node = f.there.node;
              mark_is = f.there.mark_is;
              sooner = not_after_trans (trail rs f.there.place) (s ∷ trail rs i) (s ∷ ns) f.there.sooner (not_after_on (trail rs i) ns s t.sooner);
            })
      ]

  all_met : (ns : List ℕ) (n : ℕ) (o : Option Bool) → IsWalk g w ns n o → IsMet rs Beyond ns n o
  all_met ns n o begin = met first starts root
  all_met ns n o (go {ns = ms} {n = m} {mark = mark} kind s walk e) = one_on ms m mark kind s (all_met ms m (Some mark) walk) e

breaks_beyond : (rs : List Reached) (Beyond : List ℕ → Type 0) (ns : List ℕ) (n : ℕ) → IsMet rs Beyond ns n None → Beyond ns
breaks_beyond rs Beyond ns n (met m e t) = absurd cc
breaks_beyond rs Beyond ns n (beyond b) = b

-- the search has begun at Start
pub record HasBegun (w : Machine) (rs : List Reached) : Type 0 where
  pub first : Bool
  pub starts : w.arriving 0 false ≡ Some first
  pub root : IsThere rs 0 first (0 ∷ [])

-- all edges were followed, so no walk breaks the condition
pub none_breaks : (g : FlowGraph) (w : Machine) (count : ℕ) (rs : List Reached) → AreReached g w count rs → HasBegun w rs → (k : ℕ) → length rs ≤ k → ArePassed g w rs k
    → (ns : List ℕ) (n : ℕ) → IsWalk g w ns n None → ⊥
none_breaks g w count rs are b k le passed ns n walk =
    breaks_beyond rs (λ (ms : List ℕ). ⊥) ns n
    (all_met g w count rs are b.first b.starts b.root (λ (ms : List ℕ). ⊥) (λ ms s h. h) (λ i ms kind s lt after e. inl (passed i (omega (arith, lt, le)) kind s e)) ns n None walk)

-- the edges before this one were followed, and this one breaks the condition
pub found : (g : FlowGraph) (w : Machine) (count : ℕ) (rs : List Reached) → AreReached g w count rs → HasBegun w rs → (k : ℕ) (kind : EdgeKind) (s : ℕ) → k < length rs → ArePassed g w rs k
    → ((other : EdgeKind) (r : ℕ) → r < s → IsEdge g other (reached_at rs k).node r → IsFollowed w rs k other r)
    → IsEdge g kind (reached_at rs k).node s → along w kind (reached_at rs k).node s (reached_at rs k).mark ≡ None → IsFirstWalk g w (s ∷ trail rs k)
found g w count rs are b k kind s h passed lesser edge breaks =
    let Beyond : List ℕ → Type 0 = λ (ms : List ℕ). IsNotAfter (s ∷ trail rs k) ms in
    let on : LeadsOn g w rs Beyond = λ i ms other r lt after e. elim (cases_lt i k) [
      | inl x ↦ inl (passed i x other r e)
      | inr x ↦ elim (cases_eq i k) [
        | inl y ↦ elim (cases_lt r s) [
          | inl z ↦ inl (subst (λ (j : ℕ). IsFollowed w rs j other r) (sym y) (lesser other r z (subst (λ (j : ℕ). IsEdge g other (reached_at rs j).node r) y e)))
          | inr z ↦ inr (not_after_less (trail rs k) ms s r (subst (λ (j : ℕ). IsNotAfter (trail rs j) ms) y after) z)
        ]
        | inr y ↦ inr (inr (inl (before_not_after (trail rs k) (trail rs i) ms (are.ordered k i (omega arith) lt) after)))
      ]
    ] in
    record {
      node = s;
      walk = subst (λ (o : Option Bool). IsWalk g w (s ∷ trail rs k) s o) breaks (go kind s (are.walks k h) edge);
      first = λ ms m walk. breaks_beyond rs Beyond ms m
          (all_met g w count rs are b.first b.starts b.root Beyond (λ ns r x. not_after_longer (s ∷ trail rs k) ns r x) on ms m None walk);
    }

-- ---- both edges of a place

fresh_below : (rs ss : List Reached) (k i : ℕ) (e : Edge) (t : ℕ) → k < length rs → IsGrown rs ss → suc k < length ss → IsBefore (trail ss k) (trail ss (suc k))
    → trail ss i ≡ e.to ∷ trail rs k → IsBefore (trail ss i) (t ∷ trail ss (suc k))
fresh_below rs ss k i e t h g lt less is =
    subst (λ (l : List ℕ). IsBefore l (t ∷ trail ss (suc k))) (sym (is ∙ ap (λ (l : List ℕ). e.to ∷ l) (sym (g.trails k h)))) (inl less)

old_below : (rs ss : List Reached) (k i : ℕ) (t : ℕ) → k < length rs → i < length rs → IsGrown rs ss → IsBefore (trail ss k) (trail ss (suc k))
    → AreBelow rs k → IsBefore (trail ss i) (t ∷ trail ss (suc k))
old_below rs ss k i t h lt g less low =
    before_trans (trail ss i) (t ∷ trail ss k) (t ∷ trail ss (suc k))
    (subst (λ (l : List ℕ). IsBefore l (t ∷ trail ss k)) (sym (g.trails i lt)) (subst (λ (l : List ℕ). IsBefore (trail rs i) (t ∷ l)) (sym (g.trails k h)) (low i lt t)))
    (inl less)

module _ (rows : List Row) (w : Machine) (old mid new : Search) (at : ℕ) (es : Edges) (h : at < length old.reached.items) (is : IsSearch (flow_of rows) w (length rows) old at) (edges : AreEdges rows (reached_at old.reached.items at).node es) (one : IsMoved (flow_of rows) w (length rows) old mid at es.first) (two : IsMoved (flow_of rows) w (length rows) mid new at es.second) where
  inside_mid : at < length mid.reached.items
  inside_mid = let le : length old.reached.items ≤ length mid.reached.items = one.grown.longer in omega arith

  both_passed : ArePassed (flow_of rows) w new.reached.items (suc at)
  both_passed i lt kind s edge =
      let g : IsGrown old.reached.items new.reached.items = grown_trans old.reached.items mid.reached.items new.reached.items one.grown two.grown in
      elim (cases_eq i at) [
        | inr ne ↦
            let less : i < length old.reached.items = omega (arith, lt, ne) in
            followed_grown w old.reached.items new.reached.items g i kind s less
            (is.passed i (omega (arith, lt, ne)) kind s (subst (λ (r : Reached). IsEdge (flow_of rows) kind r.node s) (g.reached i less) edge))
        | inl e ↦
            subst (λ (j : ℕ). IsFollowed w new.reached.items j kind s) (sym e)
            (elim (edges.all kind s (subst (λ (r : Reached). IsEdge (flow_of rows) kind r.node s) (g.reached at h) (subst (λ (j : ℕ). IsEdge (flow_of rows) kind (reached_at new.reached.items j).node s) e edge))) [
              | inl x ↦ followed_grown w mid.reached.items new.reached.items two.grown at kind s inside_mid (one.followed (record { to = s; kind = kind }) x)
              | inr x ↦ two.followed (record { to = s; kind = kind }) x
            ])
      ]

  both_below : suc at < length new.reached.items → AreBelow new.reached.items (suc at)
  both_below lt i q t =
      let g : IsGrown old.reached.items new.reached.items = grown_trans old.reached.items mid.reached.items new.reached.items one.grown two.grown in
      let less : IsBefore (trail new.reached.items at) (trail new.reached.items (suc at)) = two.reached.ordered at (suc at) (omega arith) lt in
      elim (two.fresh i q) [
        | inr x ↦ fresh_below mid.reached.items new.reached.items at i x.0 t inside_mid two.grown lt less x.2
        | inl p ↦ elim (one.fresh i p) [
          | inr x ↦ fresh_below old.reached.items new.reached.items at i x.0 t h g lt less (two.grown.trails i p ∙ x.2)
          | inl o ↦ old_below old.reached.items new.reached.items at i t h o g less (is.below h)
        ]
      ]

  pub both_followed : IsSearch (flow_of rows) w (length rows) new (at + 1)
  both_followed = subst (λ (k : ℕ). IsSearch (flow_of rows) w (length rows) new k) (omega arith) (record {
    reached = two.reached;
    known = two.known;
    long = two.long;
    passed = both_passed;
    below = both_below;
  })

  pub both_fewer : unseen new.seen.items + length new.reached.items ≤ unseen old.seen.items + length old.reached.items
  both_fewer = let a = one.fewer in let b = two.fewer in omega (arith, a, b)

-- ---- what a search has before and between

pub ready : (g : FlowGraph) (w : Machine) (count : ℕ) (s : Search) (k : ℕ) → IsSearch g w count s k → k < length s.reached.items → IsReady g w count s k
ready g w count s k is h = record { reached = is.reached; known = is.known; long = is.long; inside = h }

pub ready_then : (g : FlowGraph) (w : Machine) (count : ℕ) (old mid : Search) (k : ℕ) (e : Option Edge) → IsReady g w count old k → IsMoved g w count old mid k e → IsReady g w count mid k
ready_then g w count old mid k e is m =
    let h : k < length old.reached.items = is.inside in
    let le : length old.reached.items ≤ length mid.reached.items = m.grown.longer in
    record { reached = m.reached; known = m.known; long = m.long; inside = omega arith }

-- what the first edge leads to comes before what the second leads to
pub before_second : (rows : List Row) (w : Machine) (old mid : Search) (k : ℕ) (es : Edges) → k < length old.reached.items → IsSearch (flow_of rows) w (length rows) old k
    → AreEdges rows (reached_at old.reached.items k).node es → IsMoved (flow_of rows) w (length rows) old mid k es.first → (e : Edge) → es.second ≡ Some e → AreBefore mid k e
before_second rows w old mid k es h is edges m e q i lt =
    let rs : List Reached = old.reached.items in
    let ss : List Reached = mid.reached.items in
    elim (m.fresh i lt) [
      | inl x ↦
          subst (λ (l : List ℕ). IsBefore l (e.to ∷ trail ss k)) (sym (m.grown.trails i x))
          (subst (λ (l : List ℕ). IsBefore (trail rs i) (e.to ∷ l)) (sym (m.grown.trails k h)) (is.below h i x e.to))
      | inr x ↦
          subst (λ (l : List ℕ). IsBefore l (e.to ∷ trail ss k)) (sym x.2) (inr (sym (m.grown.trails k h), edges.ascend x.0 e x.1 q))
    ]

-- a walk of one node is Start alone
one_node : (g : FlowGraph) (w : Machine) (ns : List ℕ) (n : ℕ) (o : Option Bool) → IsWalk g w ns n o → 0 < length ns
one_node g w ns n o begin = omega arith
one_node g w ns n o (go {ns = ms} kind s walk e) = omega arith

record IsStart (w : Machine) (n : ℕ) (o : Option Bool) : Type 0 where
  node : n ≡ 0
  mark : w.arriving 0 false ≡ o

start_alone : (g : FlowGraph) (w : Machine) (ns : List ℕ) (n : ℕ) (o : Option Bool) → IsWalk g w ns n o → length ns ≡ 1 → IsStart w n o
start_alone g w ns n o begin e = record { node = refl; mark = refl }
start_alone g w ns n o (go {ns = ms} {n = m} {mark = mark} kind s walk edge) e = absurd (omega (arith, e, one_node g w ms m (Some mark) walk))

has_begun : (g : FlowGraph) (w : Machine) (count : ℕ) (rs : List Reached) → AreReached g w count rs → HasBegun w rs
has_begun g w count rs are =
    let s = start_alone g w (trail rs 0) (reached_at rs 0).node (Some (reached_at rs 0).mark) (are.walks 0 are.some) (ap length are.back.root) in
    record {
      first = (reached_at rs 0).mark;
      starts = s.mark;
      root = record {
        place = 0;
        inside = are.some;
        node = s.node;
        mark_is = refl;
        sooner = inl (are.back.root ∙ ap (λ (n : ℕ). n ∷ []) s.node);
      };
    }

same_some : {a b : Edge} → ◌≡◌ {A = Option Edge} (Some a) (Some b) → a ≡ b
same_some h = cc

same_to : (a b : Edge) → ◌≡◌ {A = Option Edge} (Some a) (Some b) → a.to ≡ b.to
same_to a b h = ap (λ (e : Edge). e.to) (same_some h)

-- the first edge breaks the condition
first_found : (rows : List Row) (w : Machine) (s : Search) (k : ℕ) (es : Edges) → k < length s.reached.items → IsSearch (flow_of rows) w (length rows) s k
    → AreEdges rows (reached_at s.reached.items k).node es → (e : Edge) → es.first ≡ Some e
    → along w e.kind (reached_at s.reached.items k).node e.to (reached_at s.reached.items k).mark ≡ None → IsFirstWalk (flow_of rows) w (e.to ∷ trail s.reached.items k)
first_found rows w s k es h is edges e q breaks =
    found (flow_of rows) w (length rows) s.reached.items is.reached (has_begun (flow_of rows) w (length rows) s.reached.items is.reached) k e.kind e.to h is.passed
    (λ other r lt edge. elim (edges.all other r edge) [
      | inl x ↦ absurd (let t = same_to e (record { to = r; kind = other }) (sym q ∙ x) in omega (arith, t, lt))
      | inr x ↦ absurd (let up = edges.ascend e (record { to = r; kind = other }) q x in omega (arith, up, lt))
    ])
    ((edges.first e q).edge) breaks

passed_grown : (g : FlowGraph) (w : Machine) (rs ss : List Reached) (k : ℕ) → k ≤ length rs → IsGrown rs ss → ArePassed g w rs k → ArePassed g w ss k
passed_grown g w rs ss k le grown passed i lt kind s edge =
    followed_grown w rs ss grown i kind s (omega (arith, le, lt)) (passed i lt kind s (subst (λ (r : Reached). IsEdge g kind r.node s) (grown.reached i (omega (arith, le, lt))) edge))

-- the second edge breaks the condition, and the first doesn't
second_found : (rows : List Row) (w : Machine) (old mid : Search) (k : ℕ) (es : Edges) → k < length old.reached.items → IsSearch (flow_of rows) w (length rows) old k
    → AreEdges rows (reached_at old.reached.items k).node es → IsMoved (flow_of rows) w (length rows) old mid k es.first → (e : Edge) → es.second ≡ Some e
    → along w e.kind (reached_at mid.reached.items k).node e.to (reached_at mid.reached.items k).mark ≡ None → IsFirstWalk (flow_of rows) w (e.to ∷ trail mid.reached.items k)
second_found rows w old mid k es h is edges m e q breaks =
    let rs : List Reached = old.reached.items in
    let ss : List Reached = mid.reached.items in
    let le : length rs ≤ length ss = m.grown.longer in
    let back = λ (other : EdgeKind) (r : ℕ) (edge : IsEdge (flow_of rows) other (reached_at ss k).node r). subst (λ (x : Reached). IsEdge (flow_of rows) other x.node r) (m.grown.reached k h) edge in
    found (flow_of rows) w (length rows) ss m.reached (has_begun (flow_of rows) w (length rows) ss m.reached) k e.kind e.to (omega arith)
    (passed_grown (flow_of rows) w rs ss k (omega arith) m.grown is.passed)
    (λ other r lt edge. elim (edges.all other r (back other r edge)) [
      | inl x ↦ m.followed (record { to = r; kind = other }) x
      | inr x ↦ absurd (let t = same_to e (record { to = r; kind = other }) (sym q ∙ x) in omega (arith, t, lt))
    ])
    (subst (λ (x : Reached). IsEdge (flow_of rows) e.kind x.node e.to) (sym (m.grown.reached k h)) (edges.second e q).edge) breaks

-- ---- what the search answers at a place

same_number : {a b : ℕ} → ◌≡◌ {A = Option ℕ} (Some a) (Some b) → a ≡ b
same_number h = cc

-- the edge that is followed breaks the condition
record IsBreaking (w : Machine) (old new : Search) (at : ℕ) (edge : Option Edge) (last : ℕ) : Type 0 where
  e : Edge
  edge_is : edge ≡ Some e
  last_is : last ≡ e.to
  breaks : along w e.kind (reached_at old.reached.items at).node e.to (reached_at old.reached.items at).mark ≡ None
  same : new ≡ old

following_breaks : (o : Option Bool) (old new : Search) (to at last : ℕ) → IsFollowing o old new to at (Some last) → (o ≡ None) × (last ≡ to) × (new ≡ old)
following_breaks None old new to at last h = (refl, same_number h.0, h.1)
following_breaks (Some m) old new to at last h = absurd (let q = h.0 in cc)

edge_breaks : (w : Machine) (old new : Search) (at : ℕ) (edge : Option Edge) (last : ℕ) → FollowsEdge w old new at edge (Some last) → IsBreaking w old new at edge last
edge_breaks w old new at None last h = absurd (let q = h.0 in cc)
edge_breaks w old new at (Some e) last h =
    let r = following_breaks (along w e.kind (reached_at old.reached.items at).node e.to (reached_at old.reached.items at).mark) old new e.to at last h in
    record { e = e; edge_is = refl; last_is = r.1; breaks = r.0; same = r.2 }

pub expanded_first : (rows : List Row) (w : Machine) (old mid : Search) (at : ℕ) (es : Edges) (broken : Option ℕ) → at < length old.reached.items → IsSearch (flow_of rows) w (length rows) old at
    → AreEdges rows (reached_at old.reached.items at).node es → FollowsEdge w old mid at es.first broken → is_some broken ≡ true → IsExpanded (flow_of rows) w (length rows) old mid at broken
expanded_first rows w old mid at es None h is edges f some = absurd cc
expanded_first rows w old mid at es (Some last) h is edges f some =
    let b = edge_breaks w old mid at es.first last f in
    subst (λ (s : Search). IsExpanded (flow_of rows) w (length rows) old s at (Some last)) (sym b.same)
    (subst (λ (z : ℕ). IsFirstWalk (flow_of rows) w (z ∷ trail old.reached.items at)) (sym b.last_is) (first_found rows w old at es h is edges b.e b.edge_is b.breaks), is.reached.back, h)

first_moved : (rows : List Row) (w : Machine) (old mid : Search) (at : ℕ) (es : Edges) (broken : Option ℕ) → at < length old.reached.items → IsSearch (flow_of rows) w (length rows) old at
    → AreEdges rows (reached_at old.reached.items at).node es → FollowsEdge w old mid at es.first broken → is_some broken ≡ false → IsMoved (flow_of rows) w (length rows) old mid at es.first
first_moved rows w old mid at es (Some last) h is edges f none = absurd cc
first_moved rows w old mid at es None h is edges f none =
    edge_moves rows w old mid at es.first (ready (flow_of rows) w (length rows) old at is h) edges.first (λ e q i lt. is.below h i lt e.to) f

-- what is so before the second edge is followed
pub record IsHalfway (count : ℕ) (mid : Search) (at : ℕ) : Type 0 where
  pub inside : at < length mid.reached.items
  pub here : (reached_at mid.reached.items at).node < count
  pub long : length mid.seen.items ≡ 2 * count

pub halfway : (rows : List Row) (w : Machine) (old mid : Search) (at : ℕ) (es : Edges) (broken : Option ℕ) → at < length old.reached.items → IsSearch (flow_of rows) w (length rows) old at
    → AreEdges rows (reached_at old.reached.items at).node es → FollowsEdge w old mid at es.first broken → is_some broken ≡ false → IsHalfway (length rows) mid at
halfway rows w old mid at es broken h is edges f none =
    let m = first_moved rows w old mid at es broken h is edges f none in
    let le : length old.reached.items ≤ length mid.reached.items = m.grown.longer in
    record { inside = omega arith; here = m.reached.inside at (omega arith); long = m.long }

pub expanded_second : (rows : List Row) (w : Machine) (old mid new : Search) (at : ℕ) (es : Edges) (first second : Option ℕ) → at < length old.reached.items → IsSearch (flow_of rows) w (length rows) old at
    → AreEdges rows (reached_at old.reached.items at).node es → FollowsEdge w old mid at es.first first → is_some first ≡ false
    → FollowsEdge w mid new at es.second second → IsExpanded (flow_of rows) w (length rows) old new at second
expanded_second rows w old mid new at es first None h is edges f none k =
    let one = first_moved rows w old mid at es first h is edges f none in
    let half = halfway rows w old mid at es first h is edges f none in
    let two = edge_moves rows w mid new at es.second (ready_then (flow_of rows) w (length rows) old mid at es.first (ready (flow_of rows) w (length rows) old at is h) one)
    (λ e q. subst (λ (r : Reached). Leaves rows r.node e) (sym (one.grown.reached at h)) (edges.second e q)) (before_second rows w old mid at es h is edges one) k in
    (both_followed rows w old mid new at es h is edges one two, both_fewer rows w old mid new at es h is edges one two)
expanded_second rows w old mid new at es first (Some last) h is edges f none k =
    let one = first_moved rows w old mid at es first h is edges f none in
    let half = halfway rows w old mid at es first h is edges f none in
    let b = edge_breaks w mid new at es.second last k in
    subst (λ (s : Search). IsExpanded (flow_of rows) w (length rows) old s at (Some last)) (sym b.same)
    (subst (λ (z : ℕ). IsFirstWalk (flow_of rows) w (z ∷ trail mid.reached.items at)) (sym b.last_is) (second_found rows w old mid at es h is edges one b.e b.edge_is b.breaks), one.reached.back, half.inside)

-- all that was reached was gone through
pub none_found : (g : FlowGraph) (w : Machine) (count : ℕ) (s : Search) (k : ℕ) → IsSearch g w count s k → length s.reached.items ≤ k → (ns : List ℕ) (n : ℕ) → IsWalk g w ns n None → ⊥
none_found g w count s k is le = none_breaks g w count s.reached.items is.reached (has_begun g w count s.reached.items is.reached) k le is.passed

-- ---- facts for the code

pub edges_read : (rows : List Row) (rs : List Reached) (at : ℕ) (x : Reached) (es : Edges) → at < length rs → x ≡ get_or rs at x → AreEdges rows x.node es → AreEdges rows (reached_at rs at).node es
edges_read rows rs at x es h e edges = subst (λ (r : Reached). AreEdges rows r.node es) (e ∙ get_or_default rs at x nowhere h) edges

pub some_inside : (rows : List Row) (n count : ℕ) (edge : Option Edge) → length rows ≡ count → ((e : Edge) → edge ≡ Some e → Leaves rows n e) → IfSome edge (λ e. e.to < count)
some_inside rows n count None same leaves = tt
some_inside rows n count (Some e) same leaves = let i : e.to < length rows = (leaves e refl).inside in omega (arith, i, same)
