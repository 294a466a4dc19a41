-- The edges that leave a node, by where it leads.
use Rattle.std.proofs.Common.{◌≡◌, ℕ, suc, ◌+◌, ◌<◌, Bool, true, false, ◌||◌, IsTrue, ◌⊎◌, inl, inr, List, length, Option, Some, None, refl, sym, ◌∙◌, ap, subst, arith, true≢false, eqb-true, eq-eqb}
use Rattle.std.proofs.lemmas.Bool.{or_cases}
use Rattle.fd_prog.specs.Flow.{Way, Next, Fork, Jump, Around, Back, Nowhere, leads, is_around, latch_in}
use Rattle.interval_graph.specs.declared.node.EdgeKind.{EdgeKind}
use Rattle.interval_graph.specs.declared.node.EdgeKind.TheVariants.{Forward, Entry, Cycle}
use Rattle.interval_graph.specs.declared.node.Row.{Row}
use Rattle.interval_graph.specs.Rows.{leads_at, flow_of, AreRows}
use Rattle.interval_graph.proofs.Pairs.{back_same, pairs, way_around}
use Rattle.gnt_solver.proofs.Rows.{loop_in, edge_in}
use Rattle.place_check.specs.declared.edges.Edge.{Edge}
use Rattle.place_check.specs.declared.edges.Edges.{Edges}
use Rattle.place_check.specs.Walks.{IsEdge}
use Rattle.place_check.specs.Edges.{Leaves, AreEdges}

-- ---- the edges by where a node leads

abbrev forward : ℕ → Option Edge
forward s = Some (record { to = s; kind = Forward })

abbrev pub edges_by : Way → ℕ → Edges
edges_by Next n = record { first = forward (n + 1); second = None }
edges_by (Fork m) n = record { first = forward (n + 1); second = forward m }
edges_by (Jump m) n = record { first = forward m; second = None }
edges_by (Around c) n = record { first = Some (record { to = n + 1; kind = Entry }); second = forward (c + 1) }
edges_by (Back l) n = record { first = Some (record { to = l; kind = Cycle }); second = None }
edges_by Nowhere n = record { first = None; second = None }

-- a Cycle edge leaves the latch that names its loop
cycle_back : (rows : List Row) (n s : ℕ) → AreRows rows → IsEdge (flow_of rows) Cycle n s → leads_at rows n ≡ Back s
cycle_back rows n s h e = (pairs rows h s).round n (way_around (leads_at rows s) e.0 ∙ ap (λ (z : ℕ). Around z) (sym e.1))

back_cycle : (rows : List Row) (n s : ℕ) → AreRows rows → leads_at rows n ≡ Back s → IsEdge (flow_of rows) Cycle n s
back_cycle rows n s h e = let a = (pairs rows h n).back s e in (ap is_around a, sym (ap latch_in a))

entry_around : (rows : List Row) {w : Way} (n s : ℕ) → leads_at rows n ≡ w → IsEdge (flow_of rows) Entry n s → IsTrue (is_around w)
entry_around rows n s e h = sym (ap is_around e) ∙ h.0

forward_leads : (rows : List Row) {w : Way} (n s : ℕ) → leads_at rows n ≡ w → IsEdge (flow_of rows) Forward n s → IsTrue (leads w n s)
forward_leads rows n s e h = subst (λ (z : Way). IsTrue (leads z n s)) e h

leads_forward : (rows : List Row) {w : Way} (n s : ℕ) → leads_at rows n ≡ w → IsTrue (leads w n s) → IsEdge (flow_of rows) Forward n s
leads_forward rows n s e h = subst (λ (z : Way). IsTrue (leads z n s)) (sym e) h

same_edge : {a : Edge} (P : Edge → Type 0) → P a → (e : Edge) → ◌≡◌ {A = Option Edge} (Some a) (Some e) → P e
same_edge P x e q = subst P (the_same q) x
  where
    the_same : {a b : Edge} → ◌≡◌ {A = Option Edge} (Some a) (Some b) → a ≡ b
    the_same h = cc

at_edge : (kind : EdgeKind) (s t : ℕ) → s ≡ t → ◌≡◌ {A = Option Edge} (Some (record { to = t; kind = kind })) (Some (record { to = s; kind = kind }))
at_edge kind s t e = ap (λ (z : ℕ). Some (record { to = z; kind = kind })) (sym e)

-- an edge of another kind than the node's
all_of : (rows : List Row) (n : ℕ) (w : Way) → AreRows rows → leads_at rows n ≡ w → (kind : EdgeKind) (s : ℕ) → IsEdge (flow_of rows) kind n s
    → ((edges_by w n).first ≡ Some (record { to = s; kind = kind })) ⊎ ((edges_by w n).second ≡ Some (record { to = s; kind = kind }))
all_of rows n Next h e Forward s x = inl (at_edge Forward s (n + 1) (eqb-true s (suc n) (forward_leads rows n s e x) ∙ omega arith))
all_of rows n (Fork m) h e Forward s x = elim (or_cases _ _ (forward_leads rows n s e x)) [
  | inl y ↦ inl (at_edge Forward s (n + 1) (eqb-true s (suc n) y ∙ omega arith))
  | inr y ↦ inr (at_edge Forward s m (eqb-true s m y))
]
all_of rows n (Jump m) h e Forward s x = inl (at_edge Forward s m (eqb-true s m (forward_leads rows n s e x)))
all_of rows n (Around c) h e Forward s x = inr (at_edge Forward s (c + 1) (eqb-true s (suc c) (forward_leads rows n s e x) ∙ omega arith))
all_of rows n (Back l) h e Forward s x = absurd (true≢false (sym (forward_leads rows n s e x)))
all_of rows n Nowhere h e Forward s x = absurd (true≢false (sym (forward_leads rows n s e x)))
all_of rows n (Around c) h e Entry s x = inl (at_edge Entry s (n + 1) (x.1 ∙ omega arith))
all_of rows n Next h e Entry s x = absurd (true≢false (sym (entry_around rows n s e x)))
all_of rows n (Fork m) h e Entry s x = absurd (true≢false (sym (entry_around rows n s e x)))
all_of rows n (Jump m) h e Entry s x = absurd (true≢false (sym (entry_around rows n s e x)))
all_of rows n (Back l) h e Entry s x = absurd (true≢false (sym (entry_around rows n s e x)))
all_of rows n Nowhere h e Entry s x = absurd (true≢false (sym (entry_around rows n s e x)))
all_of rows n (Back l) h e Cycle s x = inl (at_edge Cycle s l (back_same s l (sym (cycle_back rows n s h x) ∙ e)))
all_of rows n Next h e Cycle s x = let b = cycle_back rows n s h x in absurd cc
all_of rows n (Fork m) h e Cycle s x = let b = cycle_back rows n s h x in absurd cc
all_of rows n (Jump m) h e Cycle s x = let b = cycle_back rows n s h x in absurd cc
all_of rows n (Around c) h e Cycle s x = let b = cycle_back rows n s h x in absurd cc
all_of rows n Nowhere h e Cycle s x = let b = cycle_back rows n s h x in absurd cc

forward_leaves : (rows : List Row) {w : Way} (n s : ℕ) → AreRows rows → leads_at rows n ≡ w → IsTrue (leads w n s) → Leaves rows n (record { to = s; kind = Forward })
forward_leaves rows n s h e x = record { edge = leads_forward rows n s e x; inside = (edge_in rows n s h (leads_forward rows n s e x)).1 }

next_leaves : (rows : List Row) {w : Way} (n : ℕ) → AreRows rows → leads_at rows n ≡ w → IsTrue (leads w n (suc n)) → Leaves rows n (record { to = n + 1; kind = Forward })
next_leaves rows n h e x = subst (λ (z : ℕ). Leaves rows n (record { to = z; kind = Forward })) (omega arith) (forward_leaves rows n (suc n) h e x)

-- no edge is the second where there is none
no_second : (P : Edge → Type 0) (e : Edge) → ◌≡◌ {A = Option Edge} None (Some e) → P e
no_second P e q = absurd cc

or_first : {a : Bool} (b : Bool) → IsTrue a → IsTrue (a || b)
or_first b e = rw e refl

or_second : (a : Bool) {b : Bool} → IsTrue b → IsTrue (a || b)
or_second true e = refl
or_second false e = e

pub are_edges : (rows : List Row) (n : ℕ) (w : Way) → AreRows rows → leads_at rows n ≡ w → AreEdges rows n (edges_by w n)
are_edges rows n Next h e = record {
  first = same_edge (Leaves rows n) (next_leaves rows n h e (eq-eqb (suc n) (suc n) refl));
  second = no_second (Leaves rows n);
  ascend = λ a b p q. absurd cc;
  all = all_of rows n Next h e;
}
are_edges rows n (Fork m) h e = record {
  first = same_edge (Leaves rows n) (next_leaves rows n h e (or_first _ (eq-eqb (suc n) (suc n) refl)));
  second = same_edge (Leaves rows n) (forward_leaves rows n m h e (or_second _ (eq-eqb m m refl)));
  ascend = λ a b p q. same_edge (λ (x : Edge). x.to < b.to) (same_edge (λ (y : Edge). n + 1 < y.to) (let k = (pairs rows h n).fork m e in omega (arith, k)) b q) a p;
  all = all_of rows n (Fork m) h e;
}
are_edges rows n (Jump m) h e = record {
  first = same_edge (Leaves rows n) (forward_leaves rows n m h e (eq-eqb m m refl));
  second = no_second (Leaves rows n);
  ascend = λ a b p q. absurd cc;
  all = all_of rows n (Jump m) h e;
}
are_edges rows n (Around c) h e = let k = loop_in rows n c h e in let far : n < c = k.far in let inside : suc c < length rows = k.inside in record {
  first = same_edge (Leaves rows n) (record { edge = (ap is_around e, omega arith); inside = omega arith });
  second = same_edge (Leaves rows n) (subst (λ (z : ℕ). Leaves rows n (record { to = z; kind = Forward })) (omega arith) (forward_leaves rows n (suc c) h e (eq-eqb (suc c) (suc c) refl)));
  ascend = λ a b p q. same_edge (λ (x : Edge). x.to < b.to) (same_edge (λ (y : Edge). n + 1 < y.to) (omega arith) b q) a p;
  all = all_of rows n (Around c) h e;
}
are_edges rows n (Back l) h e = record {
  first = same_edge (Leaves rows n) (record { edge = back_cycle rows n l h e; inside = (let k = loop_in rows l n h ((pairs rows h n).back l e) in let far : l < n = k.far in let inside : suc n < length rows = k.inside in omega arith) });
  second = no_second (Leaves rows n);
  ascend = λ a b p q. absurd cc;
  all = all_of rows n (Back l) h e;
}
are_edges rows n Nowhere h e = record {
  first = no_second (Leaves rows n);
  second = no_second (Leaves rows n);
  ascend = λ a b p q. absurd cc;
  all = all_of rows n Nowhere h e;
}
