-- What the nodes of a body have, from those at its level alone.
use Rattle.std.proofs.Common.{◌≡◌, ℕ, zero, suc, ◌+◌, ◌<◌, ◌≤◌, Bool, false, ◌||◌, if◌then◌else◌, IsTrue, ◌↔◌, ◌⊎◌, inl, inr, List, length, refl, sym, ◌∙◌, ap, subst, arith, true≢false}
use Rattle.std.proofs.lemmas.Bool.{cases_Bool, cases_lt, cases_eq, or_cases}
use Rattle.std.proofs.lemmas.List.{get_or_past}
use Rattle.fd_prog.specs.Flow.{Around, Within, is_around, latch_in}
use Rattle.interval_graph.specs.declared.node.Row.{Row}
use Rattle.interval_graph.specs.Rows.{leads_at, flow_of, AreRows}
use Rattle.interval_graph.specs.Structure.{IsFlow}
use Rattle.gnt_solver.specs.Columns.{at}
use Rattle.gnt_solver.specs.Passes.{IsClosed, IsSt}
use Rattle.gnt_solver.proofs.Static.{or_left, or_right}
use Rattle.gnt_solver.proofs.Rows.{flow}

-- a step over a node of a body, and over its own body
pub record Stepped (rows : List Row) (c m r : ℕ) : Type 0 where
  pub up : m < r
  pub ends : r ≤ suc c
  pub inner : (j : ℕ) → m < j → j < r → Within (flow_of rows) m j

pub stepped : (rows : List Row) (l c m r : ℕ) → AreRows rows → leads_at rows l ≡ Around c → l < m → m ≤ c
    → r ≡ suc (if is_around (leads_at rows m) then latch_in (leads_at rows m) else m) → Stepped rows c m r
stepped rows l c m r h e lo hi f =
    let g : IsFlow (flow_of rows) = flow rows h in
    let same : latch_in (leads_at rows l) ≡ c = ap latch_in e in
    let here : Within (flow_of rows) l m = record { is_loop = ap is_around e; above = lo; below = omega (arith, hi, same) } in
    elim (cases_Bool (is_around (leads_at rows m))) [
      | inl k ↦
          let next : r ≡ suc (latch_in (leads_at rows m)) = f ∙ ap (λ b. suc (if b then latch_in (leads_at rows m) else m)) k in
          let far : m < latch_in (leads_at rows m) = g.far m k in
          let nest : latch_in (leads_at rows m) < latch_in (leads_at rows l) = g.nests l m here k in
          record {
            up = omega (arith, next, far);
            ends = omega (arith, next, nest, same);
            inner = λ j x y. record { is_loop = k; above = x; below = omega (arith, y, next) };
          }
      | inr k ↦
          let next : r ≡ suc m = f ∙ ap (λ b. suc (if b then latch_in (leads_at rows m) else m)) k in
          record {
            up = omega (arith, next);
            ends = omega (arith, next, hi);
            inner = λ j x y. absurd (omega (arith, x, y, next));
          }
    ]

pub gather_step : (rows : List Row) (marks : List Bool) (l c m r : ℕ) (old one new : Bool) → Stepped rows c m r → IsClosed rows marks l → l < m → one ≡ at marks m → new ≡ (old || one)
    → (IsTrue old ↔ ((k : ℕ) × (l < k) × (k < m) × IsTrue (at marks k))) → (IsTrue new ↔ ((k : ℕ) × (l < k) × (k < r) × IsTrue (at marks k)))
gather_step rows marks l c m r old one new w closed lo e f known = (
  λ x. elim (or_cases _ _ (sym f ∙ x)) [
    | inl y ↦ let z = known.0 y in (z.0, z.1, (let u = z.2 in let v = w.up in omega (arith, u, v)), z.3)
    | inr y ↦ (m, lo, w.up, sym e ∙ y)
  ],
  λ x. f ∙ elim (cases_lt x.0 m) [
    | inl p ↦ or_left _ (known.1 (x.0, x.1, p, x.3))
    | inr p ↦ elim (cases_eq m x.0) [
      | inl q ↦ or_right _ (e ∙ subst (λ (k : ℕ). IsTrue (at marks k)) (sym q) x.3)
      | inr q ↦ or_right _ (e ∙ closed m x.0 lo (w.inner x.0 (omega (arith, p, q)) x.2) x.3)
    ]
  ],
)

-- what has each mark of the bodies has those behind any node
pub closed_by : (rows : List Row) (own marks : List Bool) (i l : ℕ) → i ≤ suc l → IsSt rows own marks i → IsClosed rows marks l
closed_by rows own marks i l le known m k lo w h = (known m (omega (arith, le, lo))).1 (inr (k, w, h))

nested : (rows : List Row) (i m k : ℕ) → IsFlow (flow_of rows) → Within (flow_of rows) i m → ((k ≡ m) ⊎ Within (flow_of rows) m k) → Within (flow_of rows) i k
nested rows i m k g w (inl e) = subst (λ (j : ℕ). Within (flow_of rows) i j) (sym e) w
nested rows i m k g w (inr v) =
    let nest : latch_in (leads_at rows m) < latch_in (leads_at rows i) = g.nests i m w v.is_loop in
    let a = w.above in
    let b = v.above in
    let d = v.below in
    record { is_loop = w.is_loop; above = omega (arith, a, b); below = omega (arith, d, nest) }

-- a mark comes from a node itself or from one in its body
found : (rows : List Row) (own marks : List Bool) → IsFlow (flow_of rows) → IsSt rows own marks 0 → (d m : ℕ) → length marks ≤ m + d → IsTrue (at marks m)
    → (k : ℕ) × ((k ≡ m) ⊎ Within (flow_of rows) m k) × IsTrue (at own k)
found rows own marks g known zero m le h = absurd (true≢false (sym h ∙ get_or_past marks m false (omega (arith, le))))
found rows own marks g known (suc d) m le h =
    elim ((known m (omega arith)).0 h) [
      | inl x ↦ (m, inl refl, x)
      | inr x ↦
          let up : m < x.0 = x.1.above in
          let r = found rows own marks g known d x.0 (omega (arith, le, up)) x.2 in
          (r.0, inr (nested rows m x.0 r.0 g x.1 r.1), r.2)
    ]

-- a body has the marks of its nodes where it has those of the nodes and their bodies
pub same_body : (rows : List Row) (own marks : List Bool) (i : ℕ) (b : Bool) → AreRows rows → IsSt rows own marks 0 → (IsTrue b ↔ ((m : ℕ) × Within (flow_of rows) i m × IsTrue (at marks m)))
    → (IsTrue b ↔ ((m : ℕ) × Within (flow_of rows) i m × IsTrue (at own m)))
same_body rows own marks i b h known e = (
  λ x.
      let y = e.0 x in
      let r = found rows own marks (flow rows h) known (length marks) y.0 (omega arith) y.2 in
      (r.0, nested rows i y.0 r.0 (flow rows h) y.1 r.1, r.2),
  λ x. e.1 (x.0, x.1, (known x.0 (omega arith)).1 (inl x.2)),
)
