-- An edge is followed from what was reached: what it leads to is reached as well.
use Rattle.std.proofs.Common.{◌≡◌, ℕ, zero, suc, ◌+◌, ◌*◌, ◌<◌, ◌≤◌, Bool, true, false, ◌⊎◌, inl, inr, List, [], ◌∷◌, ◌++◌, length, get_or, set, Option, Some, None, refl, sym, ◌∙◌, ap, subst, arith, length-append, true≢false, get_or-set_other, length-set}
use Rattle.std.proofs.lemmas.Bool.{cases_lt, cases_eq}
use Rattle.fd_prog.specs.Flow.{FlowGraph}
use Rattle.interval_graph.specs.declared.node.EdgeKind.{EdgeKind}
use Rattle.interval_graph.specs.declared.node.Row.{Row}
use Rattle.interval_graph.specs.Rows.{flow_of}
use Rattle.place_check.specs.declared.reached.Reached.{Reached}
use Rattle.place_check.specs.declared.reached.Search.{Search}
use Rattle.place_check.specs.declared.edges.Edge.{Edge}
use Rattle.place_check.specs.Marks.{Machine}
use Rattle.place_check.specs.Walks.{IsEdge, along, IsWalk, go, IsBefore, IsNotAfter}
use Rattle.place_check.specs.Edges.{Leaves}
use Rattle.place_check.specs.Trails.{reached_at, trail, spot, IsNoted, before, now, IsFollowing, FollowsEdge, LeadBack, AreReached, IsThere, IsFollowed, AreKnown, unseen}
use Rattle.place_check.proofs.Trailing.{trail_old, trail_new, reached_old, reached_new, IsGrown, grown_same, grown_push}

there_grown : (rs ss : List Reached) → IsGrown rs ss → (n : ℕ) (mark : Bool) (ns : List ℕ) → IsThere rs n mark ns → IsThere ss n mark ns
there_grown rs ss g n mark ns t =
    let lt : t.place < length rs = t.inside in
    let le : length rs ≤ length ss = g.longer in
    record {
      place = t.place;
      inside = omega (arith, lt, le);
      node = ap (λ (r : Reached). r.node) (g.reached t.place lt) ∙ t.node;
      mark_is = ap (λ (r : Reached). r.mark) (g.reached t.place lt) ∙ t.mark_is;
      sooner = subst (λ (l : List ℕ). IsNotAfter l ns) (sym (g.trails t.place lt)) t.sooner;
    }

pub followed_grown : (w : Machine) (rs ss : List Reached) → IsGrown rs ss → (i : ℕ) (kind : EdgeKind) (s : ℕ) → i < length rs → IsFollowed w rs i kind s → IsFollowed w ss i kind s
followed_grown w rs ss g i kind s h f = record {
  mark = f.mark;
  along_is = ap (λ (r : Reached). along w kind r.node s r.mark) (g.reached i h) ∙ f.along_is;
  there = subst (λ (l : List ℕ). IsThere ss s f.mark (s ∷ l)) (sym (g.trails i h)) (there_grown rs ss g s f.mark (s ∷ trail rs i) f.there);
}

-- ---- one more is reached

abbrev from_place : ℕ → ℕ → Bool → Reached
from_place k s mark = record { node = s; mark = mark; from = k }

at_push : (P : ℕ → Type 0) (n i : ℕ) → i < n + 1 → ((j : ℕ) → j < n → P j) → P n → P i
at_push P n i h old new = elim (cases_eq i n) [
  | inl e ↦ subst P (sym e) new
  | inr e ↦ old i (omega arith)
]

pushed : (rs : List Reached) (r : Reached) (i : ℕ) → i < length (rs ++ (r ∷ [])) → i < length rs + 1
pushed rs r i h = omega (arith, h, length-append rs (r ∷ []))

abbrev EndsAs : FlowGraph → Machine → List ℕ → Reached → Type 0
EndsAs g w ns r = IsWalk g w ns r.node (Some r.mark)

push_back : (rs : List Reached) (k s : ℕ) (mark : Bool) → 0 < length rs → k < length rs → LeadBack rs → LeadBack (rs ++ (from_place k s mark ∷ []))
push_back rs k s mark some h b =
    let r : Reached = from_place k s mark in
    let ss : List Reached = rs ++ (r ∷ []) in
    record {
      root = trail_old rs r 0 some ∙ (b.root ∙ ap (λ (x : Reached). x.node ∷ []) (sym (reached_old rs r 0 some)));
      earlier = λ i pos lt. at_push (λ (j : ℕ). 0 < j → (reached_at ss j).from < j) (length rs) i (pushed rs r i lt)
          (λ j q p. subst (λ (x : Reached). x.from < j) (sym (reached_old rs r j q)) (b.earlier j p q))
          (λ p. subst (λ (x : Reached). x.from < length rs) (sym (reached_new rs r)) h) pos;
      further = λ i pos lt. at_push (λ (j : ℕ). 0 < j → trail ss j ≡ (reached_at ss j).node ∷ trail ss (reached_at ss j).from) (length rs) i (pushed rs r i lt)
          (λ j q p.
          let lower : (reached_at rs j).from < j = b.earlier j p q in
          trail_old rs r j q ∙ (b.further j p q
          ∙ (ap (λ (l : List ℕ). (reached_at rs j).node ∷ l) (sym (trail_old rs r (reached_at rs j).from (omega arith)))
          ∙ ap (λ (x : Reached). x.node ∷ trail ss x.from) (sym (reached_old rs r j q)))))
          (λ p. trail_new rs r ∙ (ap (λ (l : List ℕ). s ∷ l) (sym (trail_old rs r k h)) ∙ ap (λ (x : Reached). x.node ∷ trail ss x.from) (sym (reached_new rs r)))) pos;
    }

pub push_reached : (g : FlowGraph) (w : Machine) (count : ℕ) (rs : List Reached) (k s : ℕ) (mark : Bool) → AreReached g w count rs → k < length rs → s < count
    → IsWalk g w (s ∷ trail rs k) s (Some mark) → ((i : ℕ) → i < length rs → IsBefore (trail rs i) (s ∷ trail rs k))
    → AreReached g w count (rs ++ (from_place k s mark ∷ []))
push_reached g w count rs k s mark are h lt walk low =
    let r : Reached = from_place k s mark in
    let ss : List Reached = rs ++ (r ∷ []) in
    let some : 0 < length rs = are.some in
    record {
      some = omega (arith, some, length-append rs (r ∷ []));
      inside = λ i q. at_push (λ (j : ℕ). (reached_at ss j).node < count) (length rs) i (pushed rs r i q)
          (λ j p. subst (λ (x : Reached). x.node < count) (sym (reached_old rs r j p)) (are.inside j p))
          (subst (λ (x : Reached). x.node < count) (sym (reached_new rs r)) lt);
      walks = λ i q. at_push (λ (j : ℕ). EndsAs g w (trail ss j) (reached_at ss j)) (length rs) i (pushed rs r i q)
          (λ j p. subst (λ (x : Reached). EndsAs g w (trail ss j) x) (sym (reached_old rs r j p))
          (subst (λ (l : List ℕ). EndsAs g w l (reached_at rs j)) (sym (trail_old rs r j p)) (are.walks j p)))
          (subst (λ (x : Reached). EndsAs g w (trail ss (length rs)) x) (sym (reached_new rs r))
          (subst (λ (l : List ℕ). EndsAs g w l r) (sym (trail_new rs r)) walk));
      ordered = λ i j less q. at_push (λ (z : ℕ). i < z → IsBefore (trail ss i) (trail ss z)) (length rs) j (pushed rs r j q)
          (λ z p y. subst (λ (l : List ℕ). IsBefore (trail ss i) l) (sym (trail_old rs r z p))
          (subst (λ (l : List ℕ). IsBefore l (trail rs z)) (sym (trail_old rs r i (omega arith))) (are.ordered i z y p)))
          (λ y. subst (λ (l : List ℕ). IsBefore (trail ss i) l) (sym (trail_new rs r))
          (subst (λ (l : List ℕ). IsBefore l (s ∷ trail rs k)) (sym (trail_old rs r i y)) (low i y)))
          less;
      back = push_back rs k s mark some h are.back;
    }

-- ---- what is seen

spot_inside : (n count : ℕ) (mark : Bool) → n < count → spot n mark < 2 * count
spot_inside n count true h = omega arith
spot_inside n count false h = omega arith

record IsSameSpot (n m : ℕ) (a b : Bool) : Type 0 where
  node : n ≡ m
  mark : a ≡ b

same_spot : (n m : ℕ) (a b : Bool) → spot n a ≡ spot m b → IsSameSpot n m a b
same_spot n m true true e = record { node = omega (arith, e); mark = refl }
same_spot n m true false e = absurd (omega (arith, e))
same_spot n m false true e = absurd (omega (arith, e))
same_spot n m false false e = record { node = omega (arith, e); mark = refl }

unseen-set : (bs : List Bool) (q : ℕ) → q < length bs → get_or bs q false ≡ false → unseen (set bs q true) + 1 ≡ unseen bs
unseen-set [] q h e = absurd (omega (arith, h))
unseen-set (true ∷ bs) zero h e = absurd (true≢false e)
unseen-set (false ∷ bs) zero h e = omega arith
unseen-set (b ∷ bs) (suc q) h e = let r = unseen-set bs q (omega (arith, h)) e in omega (arith, r)

pub set_seen : (bs : List Bool) (p q : ℕ) → get_or (set bs p true) q false ≡ true → (p ≡ q) ⊎ (get_or bs q false ≡ true)
set_seen bs p q h = elim (cases_eq p q) [
  | inl e ↦ inl e
  | inr e ↦ inr (sym (get_or-set_other bs p q true false (λ x. e (sym x))) ∙ h)
]

-- ---- the edge is followed

-- what has changed where an edge was followed, if there is one, and doesn't break the condition
pub record IsMoved (g : FlowGraph) (w : Machine) (count : ℕ) (old new : Search) (at : ℕ) (edge : Option Edge) : Type 0 where
  pub grown : IsGrown old.reached.items new.reached.items
  pub reached : AreReached g w count new.reached.items
  pub known : AreKnown new.reached.items new.seen.items
  pub long : length new.seen.items ≡ 2 * count
  pub followed : (e : Edge) → edge ≡ Some e → IsFollowed w new.reached.items at e.kind e.to
  pub fresh : (i : ℕ) → i < length new.reached.items → (i < length old.reached.items) ⊎ ((e : Edge) × (edge ≡ Some e) × (trail new.reached.items i ≡ e.to ∷ trail old.reached.items at))
  pub fewer : unseen new.seen.items + length new.reached.items ≤ unseen old.seen.items + length old.reached.items

-- what a search has before an edge is followed
pub record IsReady (g : FlowGraph) (w : Machine) (count : ℕ) (old : Search) (at : ℕ) : Type 0 where
  pub reached : AreReached g w count old.reached.items
  pub known : AreKnown old.reached.items old.seen.items
  pub long : length old.seen.items ≡ 2 * count
  pub inside : at < length old.reached.items

-- all that was reached comes before what the edge leads to
abbrev pub AreBefore : Search → ℕ → Edge → Type 0
AreBefore old at e = (i : ℕ) → i < length old.reached.items → IsBefore (trail old.reached.items i) (e.to ∷ trail old.reached.items at)

some_edge : {d e : Edge} → ◌≡◌ {A = Option Edge} (Some d) (Some e) → d ≡ e
some_edge h = cc

module _ (g : FlowGraph) (w : Machine) (count : ℕ) (old new : Search) (at : ℕ) (e : Edge) (mark : Bool) (is : IsReady g w count old at) (edge : IsEdge g e.kind (reached_at old.reached.items at).node e.to) (lt : e.to < count) (low : AreBefore old at e) (m : along w e.kind (reached_at old.reached.items at).node e.to (reached_at old.reached.items at).mark ≡ Some mark) where
  seen_before : get_or old.seen.items (spot e.to mark) false ≡ true → IsMoved g w count old old at (Some e)
  seen_before h =
      let k = is.known (spot e.to mark) h in
      let same = same_spot (reached_at old.reached.items k.0).node e.to (reached_at old.reached.items k.0).mark mark k.2 in
      record {
        grown = grown_same old.reached.items;
        reached = is.reached;
        known = is.known;
        long = is.long;
        followed = λ d q. subst (λ (z : Edge). IsFollowed w old.reached.items at z.kind z.to) (some_edge q) (record {
          mark = mark;
          along_is = m;
          there = record { place = k.0; inside = k.1; node = same.node; mark_is = same.mark; sooner = inr (low k.0 k.1) };
        });
        fresh = λ i h. inl h;
        fewer = omega arith;
      }

  seen_now : get_or old.seen.items (spot e.to mark) false ≡ false → new.seen.items ≡ set old.seen.items (spot e.to mark) true
      → new.reached.items ≡ old.reached.items ++ (from_place at e.to mark ∷ []) → IsMoved g w count old new at (Some e)
  seen_now h p q =
      let rs : List Reached = old.reached.items in
      let r : Reached = from_place at e.to mark in
      let ss : List Reached = rs ++ (r ∷ []) in
      let inside : at < length rs = is.inside in
      let long : length old.seen.items ≡ 2 * count = is.long in
      let here : spot e.to mark < length old.seen.items = (let k = spot_inside e.to count mark lt in omega (arith, k, long)) in
      let grown : IsGrown rs ss = grown_push rs r in
      let walk : IsWalk g w (e.to ∷ trail rs at) e.to (Some mark) =
      subst (λ (o : Option Bool). IsWalk g w (e.to ∷ trail rs at) e.to o) m (go e.kind e.to (is.reached.walks at inside) edge) in
      let one : length ss ≡ length rs + 1 = omega (arith, length-append rs (r ∷ [])) in
      let places : length new.reached.items ≡ length rs + 1 = ap length q ∙ one in
      let less : unseen new.seen.items + 1 ≡ unseen old.seen.items = ap (λ (bs : List Bool). unseen bs + 1) p ∙ unseen-set old.seen.items (spot e.to mark) here h in
      record {
        grown = subst (λ (l : List Reached). IsGrown rs l) (sym q) grown;
        reached = subst (λ (l : List Reached). AreReached g w count l) (sym q) (push_reached g w count rs at e.to mark is.reached inside lt walk low);
        known = subst (λ (l : List Reached). AreKnown l new.seen.items) (sym q) (λ z k.
            elim (set_seen old.seen.items (spot e.to mark) z (ap (λ (bs : List Bool). get_or bs z false) (sym p) ∙ k)) [
              | inl x ↦ (length rs, omega (arith, one), ap (λ (y : Reached). spot y.node y.mark) (reached_new rs r) ∙ x)
              | inr x ↦
                  let known = is.known z x in
                  let lower : known.0 < length rs = known.1 in
                  (known.0, omega (arith, lower, one), ap (λ (y : Reached). spot y.node y.mark) (reached_old rs r known.0 lower) ∙ known.2)
            ]);
        long = ap length p ∙ (length-set old.seen.items (spot e.to mark) true ∙ long);
        followed = λ d x. subst (λ (z : Edge). IsFollowed w new.reached.items at z.kind z.to) (some_edge x) (subst (λ (l : List Reached). IsFollowed w l at e.kind e.to) (sym q) (record {
          mark = mark;
          along_is = ap (λ (y : Reached). along w e.kind y.node e.to y.mark) (reached_old rs r at inside) ∙ m;
          there = record {
            place = length rs;
            inside = omega (arith, one);
            node = ap (λ (y : Reached). y.node) (reached_new rs r);
            mark_is = ap (λ (y : Reached). y.mark) (reached_new rs r);
            sooner = inl (trail_new rs r ∙ ap (λ (l : List ℕ). e.to ∷ l) (sym (trail_old rs r at inside)));
          };
        }));
        fresh = λ i k. elim (cases_lt i (length rs)) [
          | inl x ↦ inl x
          | inr x ↦
              let same : i ≡ length rs = omega (arith, k, x, places) in
              inr (e, refl, ap (λ (l : List Reached). trail l i) q ∙ (ap (λ (j : ℕ). trail ss j) same ∙ trail_new rs r))
        ];
        fewer = omega (arith, less, places);
      }

  noted_moves : IsNoted old new e.to mark at → IsMoved g w count old new at (Some e)
  noted_moves (before h same) = subst (λ (s : Search). IsMoved g w count old s at (Some e)) (sym same) (seen_before h)
  noted_moves (now h p q) = seen_now h p q

following_moves : (g : FlowGraph) (w : Machine) (count : ℕ) (old new : Search) (at : ℕ) (e : Edge) → IsReady g w count old at → IsEdge g e.kind (reached_at old.reached.items at).node e.to
    → e.to < count → AreBefore old at e → (o : Option Bool) → along w e.kind (reached_at old.reached.items at).node e.to (reached_at old.reached.items at).mark ≡ o
    → IsFollowing o old new e.to at None → IsMoved g w count old new at (Some e)
following_moves g w count old new at e is edge lt low None m h = absurd cc
following_moves g w count old new at e is edge lt low (Some mark) m h = noted_moves g w count old new at e mark is edge lt low m h.1

-- an edge that doesn't break the condition is followed, where there is one
pub edge_moves : (rows : List Row) (w : Machine) (old new : Search) (at : ℕ) (edge : Option Edge) → IsReady (flow_of rows) w (length rows) old at
    → ((e : Edge) → edge ≡ Some e → Leaves rows (reached_at old.reached.items at).node e) → ((e : Edge) → edge ≡ Some e → AreBefore old at e)
    → FollowsEdge w old new at edge None → IsMoved (flow_of rows) w (length rows) old new at edge
edge_moves rows w old new at None is leaves low h = subst (λ (s : Search). IsMoved (flow_of rows) w (length rows) old s at None) (sym h.1) (record {
  grown = grown_same old.reached.items;
  reached = is.reached;
  known = is.known;
  long = is.long;
  followed = λ e q. absurd cc;
  fresh = λ i k. inl k;
  fewer = omega arith;
})
edge_moves rows w old new at (Some e) is leaves low h =
    following_moves (flow_of rows) w (length rows) old new at e is (leaves e refl).edge (leaves e refl).inside (low e refl) _ refl h
