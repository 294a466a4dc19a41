-- What comes to the nodes of a pass, step by step.
use Rattle.std.proofs.Common.{◌≡◌, ℕ, zero, suc, ◌+◌, ◌<◌, Bool, true, false, not, ◌&&◌, ◌||◌, IsTrue, IsFalse, ◌⊎◌, inl, inr, List, length, set, refl, sym, ◌∙◌, ap, ap₂, subst, arith, true≢false, ◌==◌, eq-eqb, get_or-set_other, get_or-set_same}
use Rattle.std.proofs.lemmas.Bool.{ne_eqb, cases_eq, cases_Bool, or_cases, and_parts, and_from}
use Rattle.fd_prog.specs.Flow.{Way, leads}
use Rattle.gnt_solver.specs.Columns.{held, col, at}
use Rattle.gnt_solver.specs.Passes.{seen_by, some_by, every_then, every_by, HasCome}
use Rattle.fd_sets.specs.Sets.{Subset}
use Rattle.interval_graph.specs.declared.node.Row.{Row}
use Rattle.interval_graph.specs.Rows.{leads_at}
use Rattle.gnt_solver.specs.declared.tables.Size.{Size}
use Rattle.gnt_solver.specs.declared.arrivals.Arrivals.{Arrivals}
use Rattle.gnt_solver.specs.Arrived.{AreArrivals, Joins, Step, StepsOn}
use Rattle.gnt_solver.proofs.Marks.{long_col}
use Rattle.gnt_solver.proofs.Static.{or_left, or_right, clash}

-- ---- one node joins

or-false : (a : Bool) → a ≡ (a || false)
or-false true = refl
or-false false = refl

or-true : (a : Bool) → true ≡ (a || true)
or-true true = refl
or-true false = refl

join_every : (a c g : Bool) → ((not a || c) && g) ≡ every_then true a c g
join_every a c g = or-false ((not a || c) && g)

pub step_one : (s0 : ℕ) (go : Bool) (a1 b1 c1 a2 b2 c2 : List Bool) → s0 < length a1 → s0 < length b1 → s0 < length c1
    → a2 ≡ set a1 s0 true → b2 ≡ set b1 s0 (at b1 s0 || go) → c2 ≡ set c1 s0 ((not (at a1 s0) || at c1 s0) && go)
    → Step (λ s. s == s0) go a1 b1 c1 a2 b2 c2
step_one s0 go a1 b1 c1 a2 b2 c2 la lb lc ea eb ec = record {
  seen = λ s. ap (λ (xs : List Bool). at xs s) ea ∙ elim (cases_eq s s0) [
    | inl e ↦ subst (λ (k : ℕ). at (set a1 s0 true) k ≡ (at a1 k || (k == s0))) (sym e) (get_or-set_same a1 s0 true false la ∙ (rw (eq-eqb s0 s0 refl) (or-true (at a1 s0))))
    | inr ne ↦ get_or-set_other a1 s0 s true false ne ∙ (rw (ne_eqb s s0 ne) (or-false (at a1 s)))
  ];
  some = λ s. ap (λ (xs : List Bool). at xs s) eb ∙ elim (cases_eq s s0) [
    | inl e ↦ subst (λ (k : ℕ). at (set b1 s0 (at b1 s0 || go)) k ≡ (at b1 k || ((k == s0) && go))) (sym e) (get_or-set_same b1 s0 (at b1 s0 || go) false lb ∙ (rw (eq-eqb s0 s0 refl) refl))
    | inr ne ↦ get_or-set_other b1 s0 s (at b1 s0 || go) false ne ∙ (rw (ne_eqb s s0 ne) (or-false (at b1 s)))
  ];
  every = λ s. ap (λ (xs : List Bool). at xs s) ec ∙ elim (cases_eq s s0) [
    | inl e ↦ subst (λ (k : ℕ). at (set c1 s0 ((not (at a1 s0) || at c1 s0) && go)) k ≡ every_then (k == s0) (at a1 k) (at c1 k) go) (sym e)
        (get_or-set_same c1 s0 ((not (at a1 s0) || at c1 s0) && go) false lc ∙ (rw (eq-eqb s0 s0 refl) (join_every (at a1 s0) (at c1 s0) go)))
    | inr ne ↦ get_or-set_other c1 s0 s ((not (at a1 s0) || at c1 s0) && go) false ne ∙ (rw (ne_eqb s s0 ne) refl)
  ];
}

pub step_none : (go : Bool) (a b c : List Bool) → Step (λ s. false) go a b c a b c
step_none go a b c = record { seen = λ s. or-false (at a s); some = λ s. or-false (at b s); every = λ s. refl }

seen_two : (a l m : Bool) → ((a || l) || m) ≡ (a || (l || m))
seen_two true l m = refl
seen_two false l m = refl

some_two : (b l m g : Bool) → ((b || (l && g)) || (m && g)) ≡ (b || ((l || m) && g))
some_two true l m g = refl
some_two false true true true = refl
some_two false true true false = refl
some_two false true false true = refl
some_two false true false false = refl
some_two false false m g = refl

every_two : (l m a c g : Bool) → every_then m (a || l) (every_then l a c g) g ≡ every_then (l || m) a c g
every_two true true true true true = refl
every_two true true true true false = refl
every_two true true true false true = refl
every_two true true true false false = refl
every_two true true false true true = refl
every_two true true false true false = refl
every_two true true false false true = refl
every_two true true false false false = refl
every_two true false a c g = refl
every_two false true true c g = refl
every_two false true false c g = refl
every_two false false a c g = refl

-- two nodes join, one after the other
pub step_two : (led1 led2 : ℕ → Bool) (go : Bool) (a1 b1 c1 a2 b2 c2 a3 b3 c3 : List Bool) → Step led1 go a1 b1 c1 a2 b2 c2 → Step led2 go a2 b2 c2 a3 b3 c3
    → Step (λ s. led1 s || led2 s) go a1 b1 c1 a3 b3 c3
step_two led1 led2 go a1 b1 c1 a2 b2 c2 a3 b3 c3 p q = record {
  seen = λ s. q.seen s ∙ (ap (λ (b : Bool). b || led2 s) (p.seen s) ∙ seen_two (at a1 s) (led1 s) (led2 s));
  some = λ s. q.some s ∙ (ap (λ (b : Bool). b || (led2 s && go)) (p.some s) ∙ some_two (at b1 s) (led1 s) (led2 s) go);
  every = λ s. q.every s ∙ (ap₂ (λ (a : Bool) (c : Bool). every_then (led2 s) a c go) (p.seen s) (p.every s) ∙ every_two (led1 s) (led2 s) (at a1 s) (at c1 s) go);
}

-- the marks of all items after a node has joined
pub joined : (size : Size) (a b : Arrivals) (s0 s1 : ℕ) (goes : Subset) → AreArrivals size a → s0 < size.nodes → s0 ≡ s1 → Joins a b s0 goes → StepsOn (λ s. s == s1) goes a b
joined size a b s0 s1 goes is lt e j x =
    let l1 : length a.seen.items ≡ size.nodes = is.seen in
    let l2 : length (col a.some x) ≡ size.nodes = long_col a.some x ∙ is.some.long in
    let l3 : length (col a.every x) ≡ size.nodes = long_col a.every x ∙ is.every.long in
    subst (λ (k : ℕ). Step (λ s. s == k) (held goes x) a.seen.items (col a.some x) (col a.every x) b.seen.items (col b.some x) (col b.every x)) e
    (step_one s0 (held goes x) a.seen.items (col a.some x) (col a.every x) b.seen.items (col b.some x) (col b.every x) (omega arith) (omega arith) (omega arith) j.seen (j.some x) (j.every x))

pub joined_both : (led1 led2 : ℕ → Bool) (goes : Subset) (a b c : Arrivals) → StepsOn led1 goes a b → StepsOn led2 goes b c → StepsOn (λ s. led1 s || led2 s) goes a c
joined_both led1 led2 goes a b c p q x = step_two led1 led2 (held goes x) _ _ _ _ _ _ _ _ _ (p x) (q x)

pub joined_none : (goes : Subset) (a : Arrivals) → StepsOn (λ s. false) goes a a
joined_none goes a x = step_none (held goes x) _ _ _

pub led_by : (rows : List Row) (n : ℕ) (w : Way) (goes : Subset) (a b : Arrivals) → leads_at rows n ≡ w → StepsOn (leads w n) goes a b → StepsOn (leads (leads_at rows n) n) goes a b
led_by rows n w goes a b e h = subst (λ (v : Way). StepsOn (leads v n) goes a b) (sym e) h

-- ---- what has come

pub come_none : (way : ℕ → Way) (go : ℕ → Bool) (a b c : List Bool) → ((s : ℕ) → at a s ≡ false) → ((s : ℕ) → at b s ≡ false) → ((s : ℕ) → at c s ≡ false) → HasCome way go a b c 0
come_none way go a b c p q r = record { seen = p; some = q; every = r }

come_suc : (way : ℕ → Way) (go : ℕ → Bool) (a b c a2 b2 c2 : List Bool) (i : ℕ) → HasCome way go a b c i → Step (leads (way i) i) (go i) a b c a2 b2 c2 → HasCome way go a2 b2 c2 (suc i)
come_suc way go a b c a2 b2 c2 i h p = record {
  seen = λ s. p.seen s ∙ ap (λ (x : Bool). x || leads (way i) i s) (h.seen s);
  some = λ s. p.some s ∙ ap (λ (x : Bool). x || (leads (way i) i s && go i)) (h.some s);
  every = λ s. p.every s ∙ ap₂ (λ (x : Bool) (y : Bool). every_then (leads (way i) i s) x y (go i)) (h.seen s) (h.every s);
}

some_same : (way : ℕ → Way) (go go2 : ℕ → Bool) (s i : ℕ) → ((p : ℕ) → p < i → go2 p ≡ go p) → some_by way go s i ≡ some_by way go2 s i
some_same way go go2 s zero h = refl
some_same way go go2 s (suc i) h = ap₂ (λ (x : Bool) (y : Bool). x || (leads (way i) i s && y)) (some_same way go go2 s i (λ p k. h p (omega arith))) (sym (h i (omega arith)))

every_same : (way : ℕ → Way) (go go2 : ℕ → Bool) (s i : ℕ) → ((p : ℕ) → p < i → go2 p ≡ go p) → every_by way go s i ≡ every_by way go2 s i
every_same way go go2 s zero h = refl
every_same way go go2 s (suc i) h = ap₂ (λ (x : Bool) (y : Bool). every_then (leads (way i) i s) (seen_by way s i) x y) (every_same way go go2 s i (λ p k. h p (omega arith))) (sym (h i (omega arith)))

-- node i has passed on what it has, which is then written down
pub come_step : (way : ℕ → Way) (go go2 : ℕ → Bool) (a b c a2 b2 c2 : List Bool) (i : ℕ) (g : Bool) → HasCome way go a b c i → go2 i ≡ g → ((p : ℕ) → p < i → go2 p ≡ go p)
    → Step (leads (way i) i) g a b c a2 b2 c2 → HasCome way go2 a2 b2 c2 (i + 1)
come_step way go go2 a b c a2 b2 c2 i g h here before p =
    let e : suc i ≡ i + 1 = omega arith in
    subst (λ (n : ℕ). HasCome way go2 a2 b2 c2 n) e
    (come_suc way go2 a b c a2 b2 c2 i
    (record { seen = h.seen; some = λ s. h.some s ∙ some_same way go go2 s i before; every = λ s. h.every s ∙ every_same way go go2 s i before })
    (subst (λ (x : Bool). Step (leads (way i) i) x a b c a2 b2 c2) (sym here) p))

-- ---- what the marks say

abbrev Leader : (ℕ → Way) → ℕ → ℕ → Type 0
Leader way s i = (p : ℕ) × (p < i) × IsTrue (leads (way p) p s)

seen_is : (way : ℕ → Way) (s i : ℕ) → IsTrue (seen_by way s i) → Leader way s i
seen_is way s zero h = absurd (true≢false (sym h))
seen_is way s (suc i) h = elim (or_cases _ _ h) [ inl x ↦ let r = seen_is way s i x in (r.0, omega (arith, r.1), r.2) | inr x ↦ (i, omega arith, x) ]

seen_from : (way : ℕ → Way) (s i p : ℕ) → p < i → IsTrue (leads (way p) p s) → IsTrue (seen_by way s i)
seen_from way s zero p lt h = absurd (omega arith)
seen_from way s (suc i) p lt h = elim (cases_eq p i) [
  | inl e ↦ or_right _ (subst (λ (k : ℕ). IsTrue (leads (way k) k s)) e h)
  | inr ne ↦ or_left _ (seen_from way s i p (omega arith) h)
]

pub some_is : (way : ℕ → Way) (go : ℕ → Bool) (s i : ℕ) → IsTrue (some_by way go s i) → (p : ℕ) × IsTrue (leads (way p) p s) × IsTrue (go p)
some_is way go s zero h = absurd (true≢false (sym h))
some_is way go s (suc i) h = elim (or_cases _ _ h) [ inl x ↦ some_is way go s i x | inr x ↦ let z = and_parts _ _ x in (i, z.0, z.1) ]

pub some_from : (way : ℕ → Way) (go : ℕ → Bool) (s i p : ℕ) → p < i → IsTrue (leads (way p) p s) → IsTrue (go p) → IsTrue (some_by way go s i)
some_from way go s zero p lt h g = absurd (omega arith)
some_from way go s (suc i) p lt h g = elim (cases_eq p i) [
  | inl e ↦ or_right _ (and_from _ _ (subst (λ (k : ℕ). IsTrue (leads (way k) k s)) e h) (subst (λ (k : ℕ). IsTrue (go k)) e g))
  | inr ne ↦ or_left _ (some_from way go s i p (omega arith) h g)
]

then_true : (a c g : Bool) → IsTrue (every_then true a c g) → (IsFalse a ⊎ IsTrue c) × IsTrue g
then_true true true true h = (inr refl, refl)
then_true true false g h = absurd (true≢false (sym h))
then_true true true false h = absurd (true≢false (sym h))
then_true false c true h = (inl refl, refl)
then_true false c false h = absurd (true≢false (sym h))

then_from : (a c g : Bool) → (IsTrue a → IsTrue c) → IsTrue g → IsTrue (every_then true a c g)
then_from true true true h k = refl
then_from true false true h k = absurd (true≢false (sym (h refl)))
then_from false c true h k = refl
then_from a c false h k = absurd (true≢false (sym k))

pub record IsEvery (way : ℕ → Way) (go : ℕ → Bool) (s i : ℕ) : Type 0 where
  pub one : Leader way s i
  pub all : (p : ℕ) → p < i → IsTrue (leads (way p) p s) → IsTrue (go p)

pub every_is : (way : ℕ → Way) (go : ℕ → Bool) (s i : ℕ) → IsTrue (every_by way go s i) → IsEvery way go s i
every_is way go s zero h = absurd (true≢false (sym h))
every_is way go s (suc i) h = elim (cases_Bool (leads (way i) i s)) [
  | inl e ↦ let z = then_true _ _ _ (rw e at h) in record {
    one = (i, omega arith, e);
    all = λ p lt k. elim (cases_eq p i) [
      | inl same ↦ subst (λ (n : ℕ). IsTrue (go n)) (sym same) z.1
      | inr ne ↦ let lt2 : p < i = omega arith in elim z.0 [
        | inl x ↦ absurd (clash (seen_from way s i p lt2 k) x)
        | inr x ↦ (every_is way go s i x).all p lt2 k
      ]
    ];
  }
  | inr e ↦ let r = every_is way go s i (rw e at h) in record {
    one = (r.one.0, omega (arith, r.one.1), r.one.2);
    all = λ p lt k. elim (cases_eq p i) [
      | inl same ↦ absurd (clash (subst (λ (n : ℕ). IsTrue (leads (way n) n s)) same k) e)
      | inr ne ↦ r.all p (omega arith) k
    ];
  }
]

pub every_from : (way : ℕ → Way) (go : ℕ → Bool) (s i : ℕ) → IsEvery way go s i → IsTrue (every_by way go s i)
every_from way go s zero h = absurd (omega (arith, h.one.1))
every_from way go s (suc i) h = elim (cases_Bool (leads (way i) i s)) [
  | inl e ↦ rw e (then_from _ _ _ (λ x. every_from way go s i (record { one = seen_is way s i x; all = λ p lt k. h.all p (omega arith) k })) (h.all i (omega arith) e))
  | inr e ↦ rw e (every_from way go s i (record {
    one = elim (cases_eq h.one.0 i) [
      | inl same ↦ absurd (clash (subst (λ (n : ℕ). IsTrue (leads (way n) n s)) same h.one.2) e)
      | inr ne ↦ (h.one.0, omega (arith, h.one.1, ne), h.one.2)
    ];
    all = λ p lt k. h.all p (omega arith) k;
  }))
]
