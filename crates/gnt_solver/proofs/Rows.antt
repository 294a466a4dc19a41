-- Where the rows of a program's nodes lead.
use Rattle.std.proofs.Common.{◌≡◌, ℕ, suc, ◌+◌, ◌<◌, ◌≤◌, Bool, false, not, ◌&&◌, ◌||◌, IsTrue, IsFalse, ◌↔◌, ◌⊎◌, inl, inr, List, length, set, refl, sym, ◌∙◌, ap, ap₂, subst, arith, get_or-set_other, get_or-set_same, true≢false}
use Rattle.std.proofs.lemmas.Bool.{cases_eq, or_cases}
use Rattle.fd_prog.specs.Flow.{Way, Next, Fork, Jump, Around, Back, Nowhere, Within, is_around, latch_in}
use Rattle.interval_graph.specs.declared.node.Row.{Row}
use Rattle.interval_graph.specs.Rows.{leads_at, flow_of, AreRows}
use Rattle.gnt_solver.specs.Columns.{at}
use Rattle.gnt_solver.specs.Passes.{IsSt, IsAny, IsTi, IsT, to_of, some_of, t_of, ti_of, AreSet}
use Rattle.gnt_solver.proofs.Static.{or_left, or_right}
pub use Rattle.interval_graph.proofs.Inside.{is_whole, flow, count, last, few, some_rows, edge_in, fork_in, fork_next, jump_in, LoopIn, loop_in, next_in}

-- ---- from the last node down

-- TO looks only behind the node
pub to_same : (rows : List Row) (n : ℕ) (w : Way) (f g : ℕ → Bool) → AreRows rows → leads_at rows n ≡ w → ((m : ℕ) → n < m → f m ≡ g m) → to_of w n f ≡ to_of w n g
to_same rows n Next f g h e s = s (suc n) (omega arith)
to_same rows n (Fork m) f g h e s = let x = fork_in rows n m h e in let lt : n < m = x.0 in ap₂ (λ (a : Bool) (b : Bool). a && b) (s (suc n) (omega arith)) (s m lt)
to_same rows n (Jump m) f g h e s = let x = jump_in rows n m h e in s m x.0
to_same rows n (Around c) f g h e s = let lt : n < c = (loop_in rows n c h e).far in s (suc c) (omega arith)
to_same rows n (Back l) f g h e s = refl
to_same rows n Nowhere f g h e s = refl

pub ti_same : (rows : List Row) (take st any f g : ℕ → Bool) (n : ℕ) → AreRows rows → ((m : ℕ) → n < m → f m ≡ g m) → ti_of rows take st any f n ≡ ti_of rows take st any g n
ti_same rows take st any f g n h s =
    let a : f (suc n) ≡ g (suc n) = s (suc n) (omega arith) in
    let b = to_same rows n (leads_at rows n) f g h refl s in
    ap₂ (λ (x : Bool) (y : Bool). (take n || (is_around (leads_at rows n) && ((x && not (st n)) || ((y && any n) && not (st n))))) || (y && not (st n))) a b

-- one mark is set, from the last number down
pub set_behind : (xs : List Bool) (i : ℕ) (b : Bool) (m : ℕ) → i < m → at (set xs i b) m ≡ at xs m
set_behind xs i b m lt = get_or-set_other xs i m b false (λ e. absurd (omega arith))

pub st_step : (rows : List Row) (steal st st2 : List Bool) (i j : ℕ) (b inside : Bool) → j ≡ suc i → i < length st
    → (IsTrue inside ↔ ((m : ℕ) × Within (flow_of rows) i m × IsTrue (at st m))) → b ≡ (inside || at steal i) → st2 ≡ set st i b
    → IsSt rows steal st j → IsSt rows steal st2 i
st_step rows steal st st2 i j b inside ej lt h eb e known n le =
    let here : at st2 i ≡ b = ap (λ (xs : List Bool). at xs i) e ∙ get_or-set_same st i b false lt in
    let behind = λ (m : ℕ) (g : i < m). ap (λ (xs : List Bool). at xs m) e ∙ set_behind st i b m g in
    elim (cases_eq i n) [
      | inl same ↦ subst (λ (k : ℕ). IsTrue (at st2 k) ↔ (IsTrue (at steal k) ⊎ ((m : ℕ) × Within (flow_of rows) k m × IsTrue (at st2 m)))) same (
        λ x. elim (or_cases _ _ (sym (here ∙ eb) ∙ x)) [ inr y ↦ inl y | inl y ↦ let z = h.0 y in inr (z.0, z.1, behind z.0 z.1.above ∙ z.2) ],
        λ x. here ∙ (eb ∙ elim x [ inl y ↦ or_right _ y | inr y ↦ or_left _ (h.1 (y.0, y.1, sym (behind y.0 y.1.above) ∙ y.2)) ]),
      )
      | inr ne ↦ let far : i < n = omega arith in let k = known n (omega arith) in (
        λ x. elim (k.0 (sym (behind n far) ∙ x)) [ inl y ↦ inl y | inr y ↦ inr (y.0, y.1, (let u : n < y.0 = y.1.above in behind y.0 (omega arith)) ∙ y.2) ],
        λ x. behind n far ∙ k.1 (elim x [ inl y ↦ inl y | inr y ↦ inr (y.0, y.1, sym (let u : n < y.0 = y.1.above in behind y.0 (omega arith)) ∙ y.2) ]),
      )
    ]

pub any_step : (rows : List Row) (take any any2 : List Bool) (i j : ℕ) (b : Bool) → j ≡ suc i → i < length any
    → (IsTrue b ↔ ((m : ℕ) × Within (flow_of rows) i m × IsTrue (at take m))) → any2 ≡ set any i b
    → IsAny rows take any j → IsAny rows take any2 i
any_step rows take any any2 i j b ej lt h e known n le =
    let here : at any2 i ≡ b = ap (λ (xs : List Bool). at xs i) e ∙ get_or-set_same any i b false lt in
    elim (cases_eq i n) [
      | inl same ↦ subst (λ (k : ℕ). IsTrue (at any2 k) ↔ ((m : ℕ) × Within (flow_of rows) k m × IsTrue (at take m))) same (λ x. h.0 (sym here ∙ x), λ x. here ∙ h.1 x)
      | inr ne ↦ let far : i < n = omega arith in let k = known n (omega arith) in
          let behind : at any2 n ≡ at any n = ap (λ (xs : List Bool). at xs n) e ∙ set_behind any i b n far in
          (λ x. k.0 (sym behind ∙ x), λ x. behind ∙ k.1 x)
    ]

pub body_of_loop : (rows : List Row) (n c : ℕ) → leads_at rows n ≡ Around c → (m : ℕ) → (Within (flow_of rows) n m → (n < m) × (m ≤ c)) × (n < m → m ≤ c → Within (flow_of rows) n m)
body_of_loop rows n c e m = (
  λ i. (i.above, subst (λ (x : ℕ). m ≤ x) (ap latch_in e) i.below),
  λ a b. record { is_loop = ap is_around e; above = a; below = subst (λ (x : ℕ). m ≤ x) (sym (ap latch_in e)) b },
)

pub no_body_of : (rows : List Row) (n : ℕ) → IsFalse (is_around (leads_at rows n)) → (m : ℕ) → Within (flow_of rows) n m → ⊥
no_body_of rows n f m i = true≢false (sym i.is_loop ∙ f)

pub ti_step : (rows : List Row) (take st any : ℕ → Bool) (ti ti2 : List Bool) (i j : ℕ) (b : Bool) → AreRows rows → j ≡ suc i → i < length ti
    → b ≡ ti_of rows take st any (at ti) i → ti2 ≡ set ti i b → IsTi rows take st any (at ti) j → IsTi rows take st any (at ti2) i
ti_step rows take st any ti ti2 i j b h ej lt eb e known n le =
    let here : at ti2 i ≡ b = ap (λ (xs : List Bool). at xs i) e ∙ get_or-set_same ti i b false lt in
    let behind = λ (m : ℕ) (g : i < m). ap (λ (xs : List Bool). at xs m) e ∙ set_behind ti i b m g in
    elim (cases_eq i n) [
      | inl same ↦ subst (λ (k : ℕ). at ti2 k ≡ ti_of rows take st any (at ti2) k) same
          (here ∙ (eb ∙ ti_same rows take st any (at ti) (at ti2) i h (λ m g. sym (behind m g))))
      | inr ne ↦ let far : i < n = omega arith in
          behind n far ∙ (known n (omega arith) ∙ ti_same rows take st any (at ti) (at ti2) n h (λ m g. sym (behind m (omega arith))))
    ]

-- ---- from the first node up

-- the mark of a node is set, and those before it stay
pub record Set (xs ys : List Bool) (i : ℕ) (b : Bool) : Type 0 where
  pub here : at ys i ≡ b
  pub before : (n : ℕ) → n < i → at ys n ≡ at xs n

pub set_here : (xs ys : List Bool) (i : ℕ) (b : Bool) → i < length xs → ys ≡ set xs i b → Set xs ys i b
set_here xs ys i b lt e = record {
  here = ap (λ (zs : List Bool). at zs i) e ∙ get_or-set_same xs i b false lt;
  before = λ n h. ap (λ (zs : List Bool). at zs n) e ∙ get_or-set_other xs i n b false (λ e. absurd (omega arith));
}

pub t_step : (rows : List Row) (take st any ti : ℕ → Bool) (t t2 : List Bool) (i : ℕ) (b : Bool) → i < length t → b ≡ t_of rows take st any ti i → t2 ≡ set t i b
    → IsT rows take st any ti (at t) i → IsT rows take st any ti (at t2) (i + 1)
t_step rows take st any ti t t2 i b lt eb e known n h =
    let s = set_here t t2 i b lt e in
    elim (cases_eq i n) [
      | inl same ↦ subst (λ (k : ℕ). at t2 k ≡ t_of rows take st any ti k) same (s.here ∙ eb)
      | inr ne ↦ let lt2 : n < i = omega arith in s.before n lt2 ∙ known n lt2
    ]

pub set_step : (rows : List Row) (gi g go a b a2 b2 : List Bool) (i : ℕ) (u v : Bool) → Set a a2 i u → Set b b2 i v
    → u ≡ (at g i && not (at gi i)) → v ≡ (some_of (leads_at rows i) i (at gi) && not (at go i)) → AreSet rows gi g go a b i → AreSet rows gi g go a2 b2 (i + 1)
set_step rows gi g go a b a2 b2 i u v p q eu ev known = record {
  at_in = λ n lt. elim (cases_eq i n) [
    | inl same ↦ subst (λ (k : ℕ). at a2 k ≡ (at g k && not (at gi k))) same (p.here ∙ eu)
    | inr ne ↦ let lt2 : n < i = omega arith in p.before n lt2 ∙ known.at_in n lt2
  ];
  at_out = λ n lt. elim (cases_eq i n) [
    | inl same ↦ subst (λ (k : ℕ). at b2 k ≡ (some_of (leads_at rows k) k (at gi) && not (at go k))) same (q.here ∙ ev)
    | inr ne ↦ let lt2 : n < i = omega arith in q.before n lt2 ∙ known.at_out n lt2
  ];
}

pub h_step : (f : ℕ → Bool) (h h2 : List Bool) (i : ℕ) (b : Bool) → i < length h → b ≡ f i → h2 ≡ set h i b → ((n : ℕ) → n < i → at h n ≡ f n) → (n : ℕ) → n < i + 1 → at h2 n ≡ f n
h_step f h h2 i b lt eb e known n k =
    let s = set_here h h2 i b lt e in
    elim (cases_eq i n) [
      | inl same ↦ subst (λ (m : ℕ). at h2 m ≡ f m) same (s.here ∙ eb)
      | inr ne ↦ let lt2 : n < i = omega arith in s.before n lt2 ∙ known n lt2
    ]
