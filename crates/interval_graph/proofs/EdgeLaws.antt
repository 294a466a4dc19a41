-- The edges that nodes tell are those of the flow graph.
use Rattle.std.proofs.Common.{◌≡◌, ℕ, zero, suc, ◌+◌, ◌<◌, ◌==◌, false, IsTrue, ◌↔◌, ◌⊎◌, inl, inr, eqb, List, [], ◌∷◌, ◌++◌, length, refl, sym, ap, subst, arith}
use Rattle.std.proofs.lemmas.Bool.{cases_Bool, cases_eq, or_cases, eqb-true, eqb-false, eq-eqb, true≢false}
use Rattle.fd_prog.specs.Flow.{Way, Next, Fork, Jump, Around, Back, Nowhere, leads, is_around}
use Rattle.interval_graph.specs.declared.node.EdgeKind.{EdgeKind}
use Rattle.interval_graph.specs.declared.node.EdgeKind.TheVariants.{Forward, Entry, Cycle}
use Rattle.interval_graph.specs.declared.node.Row.{Row}
use Rattle.interval_graph.specs.Rows.{leads_at, flow_of, AreRows}
use Rattle.interval_graph.specs.Edges.{Edge, Tells, leaving, successors, arriving, arriving_below, predecessors}
use Rattle.interval_graph.proofs.Tests.{or_left, or_right}
use Rattle.interval_graph.proofs.Pairs.{back_same, latch_back}

entry_forward : Entry ≡ Forward → ⊥
entry_forward e = cc

cycle_forward : Cycle ≡ Forward → ⊥
cycle_forward e = cc

not_so : {A : Type 0} → IsTrue false → A
not_so h = absurd (true≢false (sym h))

leads_to : (s m : ℕ) → m ≡ s → IsTrue (s == m)
leads_to s m e = eq-eqb s m (sym e)

-- a Forward edge is told exactly where the graph has it
pub tells_forward : (w : Way) (n s : ℕ) → Tells (leaving w n) s Forward ↔ IsTrue (leads w n s)
tells_forward Next n s = (
  λ x. elim x [ inl y ↦ (let u = y.0 in leads_to s (suc n) (omega (arith, u))) | inr y ↦ absurd y ],
  λ h. inl ((let u = eqb-true s (suc n) h in omega (arith, u)), refl),
)
tells_forward (Fork other) n s = (
  λ x. elim x [
    | inl y ↦ or_left _ (let u = y.0 in leads_to s (suc n) (omega (arith, u)))
    | inr z ↦ elim z [ inl y ↦ or_right _ (leads_to s other y.0) | inr y ↦ absurd y ]
  ],
  λ h. elim (or_cases _ _ h) [
    | inl a ↦ inl ((let u = eqb-true s (suc n) a in omega (arith, u)), refl)
    | inr a ↦ inr (inl (sym (eqb-true s other a), refl))
  ],
)
tells_forward (Jump other) n s = (
  λ x. elim x [ inl y ↦ leads_to s other y.0 | inr y ↦ absurd y ],
  λ h. inl (sym (eqb-true s other h), refl),
)
tells_forward (Around latch) n s = (
  λ x. elim x [
    | inl y ↦ absurd (entry_forward y.1)
    | inr z ↦ elim z [ inl y ↦ (let u = y.0 in leads_to s (suc latch) (omega (arith, u))) | inr y ↦ absurd y ]
  ],
  λ h. inr (inl ((let u = eqb-true s (suc latch) h in omega (arith, u)), refl)),
)
tells_forward (Back loop) n s = (λ x. elim x [ inl y ↦ absurd (cycle_forward y.1) | inr y ↦ absurd y ], λ h. not_so h)
tells_forward Nowhere n s = (λ x. absurd x, λ h. not_so h)

forward_entry : Forward ≡ Entry → ⊥
forward_entry e = cc

cycle_entry : Cycle ≡ Entry → ⊥
cycle_entry e = cc

-- an Entry edge is told by each loop, of the node behind it
pub tells_entry : (w : Way) (n s : ℕ) → Tells (leaving w n) s Entry ↔ (IsTrue (is_around w) × (n + 1 ≡ s))
tells_entry Next n s = (λ x. elim x [ inl y ↦ absurd (forward_entry y.1) | inr y ↦ absurd y ], λ h. not_so h.0)
tells_entry (Fork other) n s = (λ x. elim x [ inl y ↦ absurd (forward_entry y.1) | inr z ↦ elim z [ inl y ↦ absurd (forward_entry y.1) | inr y ↦ absurd y ] ], λ h. not_so h.0)
tells_entry (Jump other) n s = (λ x. elim x [ inl y ↦ absurd (forward_entry y.1) | inr y ↦ absurd y ], λ h. not_so h.0)
tells_entry (Around latch) n s = (λ x. elim x [ inl y ↦ (refl, y.0) | inr z ↦ elim z [ inl y ↦ absurd (forward_entry y.1) | inr y ↦ absurd y ] ], λ h. inl (h.1, refl))
tells_entry (Back loop) n s = (λ x. elim x [ inl y ↦ absurd (cycle_entry y.1) | inr y ↦ absurd y ], λ h. not_so h.0)
tells_entry Nowhere n s = (λ x. absurd x, λ h. not_so h.0)

forward_cycle : Forward ≡ Cycle → ⊥
forward_cycle e = cc

entry_cycle : Entry ≡ Cycle → ⊥
entry_cycle e = cc

-- a Cycle edge is told where a node leads back
tells_back : (w : Way) (n s : ℕ) → Tells (leaving w n) s Cycle ↔ (w ≡ Back s)
tells_back Next n s = (λ x. elim x [ inl y ↦ absurd (forward_cycle y.1) | inr y ↦ absurd y ], λ h. absurd cc)
tells_back (Fork other) n s = (λ x. elim x [ inl y ↦ absurd (forward_cycle y.1) | inr z ↦ elim z [ inl y ↦ absurd (forward_cycle y.1) | inr y ↦ absurd y ] ], λ h. absurd cc)
tells_back (Jump other) n s = (λ x. elim x [ inl y ↦ absurd (forward_cycle y.1) | inr y ↦ absurd y ], λ h. absurd cc)
tells_back (Around latch) n s = (λ x. elim x [ inl y ↦ absurd (entry_cycle y.1) | inr z ↦ elim z [ inl y ↦ absurd (forward_cycle y.1) | inr y ↦ absurd y ] ], λ h. absurd cc)
tells_back (Back loop) n s = (λ x. elim x [ inl y ↦ ap (λ (l : ℕ). Back l) y.0 | inr y ↦ absurd y ], λ h. inl (back_same loop s h, refl))
tells_back Nowhere n s = (λ x. absurd x, λ h. absurd cc)

-- a Cycle edge is told exactly by the latch of a loop, of that loop
pub tells_cycle : (rows : List Row) (n s : ℕ) → AreRows rows → Tells (successors rows n) s Cycle ↔ (IsTrue ((flow_of rows).is_loop s) × ((flow_of rows).latch s ≡ n))
tells_cycle rows n s h =
    let told = tells_back (leads_at rows n) n s in
    let back = latch_back rows n s h in
    (λ x. back.0 (told.0 x), λ x. told.1 (back.1 x))

-- ---- an edge is told by both of its ends

tells-append : (xs ys : List Edge) (p : ℕ) (kind : EdgeKind) → Tells (xs ++ ys) p kind ↔ (Tells xs p kind ⊎ Tells ys p kind)
tells-append [] ys p kind = (λ x. inr x, λ x. elim x [ inl y ↦ absurd y | inr y ↦ y ])
tells-append (e ∷ xs) ys p kind =
    let rest = tells-append xs ys p kind in (
      λ x. elim x [ inl y ↦ inl (inl y) | inr y ↦ elim (rest.0 y) [ inl z ↦ inl (inr z) | inr z ↦ inr z ] ],
      λ x. elim x [ inl y ↦ elim y [ inl z ↦ inl z | inr z ↦ inr (rest.1 (inl z)) ] | inr y ↦ inr (rest.1 (inr y)) ],
    )

-- of the edges that leave node q, node s tells those that lead to it, with q at their other end
tells-arriving : (q s p : ℕ) (es : List Edge) (kind : EdgeKind) → Tells (arriving q s es) p kind ↔ ((q ≡ p) × Tells es s kind)
tells-arriving q s p [] kind = (λ x. absurd x, λ x. absurd x.1)
tells-arriving q s p (e ∷ es) kind =
    let rest = tells-arriving q s p es kind in
    elim (cases_Bool (eqb e.0.0 s)) [
      | inl k ↦ rw k (
        λ x. elim x [ inl y ↦ (y.0, inl (eqb-true e.0.0 s k, y.1)) | inr y ↦ let z = rest.0 y in (z.0, inr z.1) ],
        λ x. elim x.1 [ inl y ↦ inl (x.0, y.1) | inr y ↦ inr (rest.1 (x.0, y)) ],
      )
      | inr k ↦ rw k (
        λ x. let z = rest.0 x in (z.0, inr z.1),
        λ x. elim x.1 [ inl y ↦ absurd (eqb-false e.0.0 s k y.0) | inr y ↦ rest.1 (x.0, y) ],
      )
    ]

tells_below : (rows : List Row) (s p m : ℕ) (kind : EdgeKind) → Tells (arriving_below rows s m) p kind ↔ ((p < m) × Tells (successors rows p) s kind)
tells_below rows s p zero kind = (λ x. absurd x, λ x. absurd (let u = x.0 in omega (arith, u)))
tells_below rows s p (suc m) kind =
    let rest = tells_below rows s p m kind in
    let all = tells-append (arriving_below rows s m) (arriving m s (successors rows m)) p kind in
    let here = tells-arriving m s p (successors rows m) kind in (
      λ x. elim (all.0 x) [
        | inl y ↦ let z = rest.0 y in ((let u = z.0 in omega (arith, u)), z.1)
        | inr y ↦ let z = here.0 y in ((let u = z.0 in omega (arith, u)), subst (λ (q : ℕ). Tells (successors rows q) s kind) z.0 z.1)
      ],
      λ x. all.1 (elim (cases_eq m p) [
        | inl e ↦ inr (here.1 (e, subst (λ (q : ℕ). Tells (successors rows q) s kind) (sym e) x.1))
        | inr e ↦ inl (rest.1 ((let u = x.0 in omega (arith, u, e)), x.1))
      ]),
    )

pub tells_before : (rows : List Row) (s p : ℕ) (kind : EdgeKind) → Tells (predecessors rows s) p kind ↔ ((p < length rows) × Tells (successors rows p) s kind)
tells_before rows s p kind = tells_below rows s p (length rows) kind
