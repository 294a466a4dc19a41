-- The pass from the first node to the last, step by step.
use Rattle.std.proofs.Common.{◌≡◌, ◌≢◌, ℕ, zero, suc, ◌+◌, ◌-◌, ◌<◌, Bool, false, not, ◌&&◌, ◌||◌, IsTrue, inl, inr, List, refl, sym, ◌∙◌, ap, subst, arith, true≢false}
use Rattle.std.proofs.lemmas.Bool.{cases_eq, and_parts, and_from, or_cases}
use Rattle.fd_prog.specs.Flow.{leads, is_around}
use Rattle.fd_prog.specs.Flow as flow
use Rattle.interval_graph.specs.declared.node.Row.{Row}
use Rattle.interval_graph.specs.declared.node.Way.{Way}
use Rattle.interval_graph.specs.declared.node.Way.TheVariants.{Next, Fork, Jump, Around, Back, Nowhere}
use Rattle.interval_graph.specs.Rows.{way_in, leads_at, AreRows}
use Rattle.gnt_solver.specs.Columns.{at}
use Rattle.gnt_solver.specs.Passes.{HasCome, IsMet, IsEntered, ArePassed}
use Rattle.gnt_solver.proofs.Static.{or_left, or_right}
use Rattle.gnt_solver.proofs.Rows.{edge_in, Set}
use Rattle.gnt_solver.proofs.Comings.{some_is, some_from, every_is, every_from}

pub met_by : (rows : List Row) (n : ℕ) (ti go : ℕ → Bool) (a b c : List Bool) (v : Bool) → AreRows rows → HasCome (leads_at rows) go a b c n
    → v ≡ ((ti n && at b n) || at c n) → IsMet rows (ti n) go v n
met_by rows n ti go a b c v are h e =
    let up = λ (p : ℕ) (k : IsTrue (leads (leads_at rows p) p n)). (edge_in rows p n are k).0 in (
      λ x. elim (or_cases _ _ (sym e ∙ x)) [
        | inl y ↦ let z = and_parts _ _ y in inr (z.0, some_is (leads_at rows) go n n (sym (h.some n) ∙ z.1))
        | inr y ↦ let r = every_is (leads_at rows) go n n (sym (h.every n) ∙ y) in inl ((r.one.0, r.one.2), λ p k. r.all p (up p k) k)
      ],
      λ x. e ∙ elim x [
        | inl y ↦ or_right _ (h.every n ∙ every_from (leads_at rows) go n n (record { one = (y.0.0, up y.0.0 y.0.1, y.0.1); all = λ p lt k. y.1 p k }))
        | inr y ↦ or_left _ (and_from _ _ y.0 (h.some n ∙ some_from (leads_at rows) go n n y.1.0 (up y.1.0 y.1.1) y.1.1 y.1.2))
      ],
    )

no_loop : (w : Way) → ((m : _) → w ≡ Around m → ⊥) → IsTrue (is_around (way_in w)) → ⊥
no_loop (Around m) h e = h m refl
no_loop Next h e = absurd (true≢false (sym e))
no_loop (Fork m) h e = absurd (true≢false (sym e))
no_loop (Jump m) h e = absurd (true≢false (sym e))
no_loop (Back l) h e = absurd (true≢false (sym e))
no_loop Nowhere h e = absurd (true≢false (sym e))

pub entered_by : (rows : List Row) (n : ℕ) (ti go : ℕ → Bool) (b : Bool) (w : Way) → n ≢ 0 → way_in w ≡ leads_at rows (n - 1) → ((m : _) → w ≡ Around m → ⊥)
    → IsMet rows (ti n) go b n → IsEntered rows ti go b n
entered_by rows zero ti go b w ne e shut m = absurd (ne refl)
entered_by rows (suc k) ti go b w ne e shut m =
    let same : suc k - 1 ≡ k = omega arith in
    (λ x. absurd (no_loop w shut (ap is_around (e ∙ ap (λ (i : ℕ). leads_at rows i) same) ∙ x)), λ x. m)

pub entered_from : (rows : List Row) (n : ℕ) (ti go : ℕ → Bool) (b : Bool) (l : ℕ) → n ≢ 0 → leads_at rows (n - 1) ≡ flow.Around l → b ≡ go (n - 1) → IsEntered rows ti go b n
entered_from rows zero ti go b l ne e h = absurd (ne refl)
entered_from rows (suc k) ti go b l ne e h =
    let same : suc k - 1 ≡ k = omega arith in
    (λ x. h ∙ ap go same, λ x. absurd (true≢false (sym (ap is_around (sym (ap (λ (i : ℕ). leads_at rows i) same) ∙ e)) ∙ x)))

pub entered_first : (rows : List Row) (n : ℕ) (ti go : ℕ → Bool) (b : Bool) → n ≡ 0 → b ≡ false → IsEntered rows ti go b n
entered_first rows n ti go b e h = subst (λ (k : ℕ). IsEntered rows ti go b k) (sym e) h

met_same : (rows : List Row) (n : ℕ) (go go2 : ℕ → Bool) (wants b : Bool) → AreRows rows → ((p : ℕ) → p < n → go p ≡ go2 p) → IsMet rows wants go b n → IsMet rows wants go2 b n
met_same rows n go go2 wants b are s h =
    let there = λ (p : ℕ) (k : IsTrue (leads (leads_at rows p) p n)). s p (edge_in rows p n are k).0 in (
      λ x. elim (h.0 x) [
        | inl y ↦ inl (y.0, λ p k. sym (there p k) ∙ y.1 p k)
        | inr y ↦ inr (y.0, (y.1.0, y.1.1, sym (there y.1.0 y.1.1) ∙ y.1.2))
      ],
      λ x. h.1 (elim x [
        | inl y ↦ inl (y.0, λ p k. there p k ∙ y.1 p k)
        | inr y ↦ inr (y.0, (y.1.0, y.1.1, there y.1.0 y.1.1 ∙ y.1.2))
      ]),
    )

entered_same : (rows : List Row) (n : ℕ) (ti go go2 : ℕ → Bool) (b : Bool) → AreRows rows → ((p : ℕ) → p < n → go p ≡ go2 p) → IsEntered rows ti go b n → IsEntered rows ti go2 b n
entered_same rows zero ti go go2 b are s h = h
entered_same rows (suc k) ti go go2 b are s h = (λ x. h.0 x ∙ s k (omega arith), λ x. met_same rows (suc k) go go2 (ti (suc k)) b are s (h.1 x))

pub passed_step : (rows : List Row) (st ti x gi g go gi2 g2 go2 : List Bool) (i : ℕ) (e h o : Bool) → AreRows rows
    → Set gi gi2 i e → Set g g2 i h → Set go go2 i o
    → IsEntered rows (at ti) (at go) e i → h ≡ (e || at x i) → o ≡ (h && not (at st i))
    → ArePassed rows st ti x gi g go i → ArePassed rows st ti x gi2 g2 go2 (i + 1)
passed_step rows st ti x gi g go gi2 g2 go2 i e h o are p q r en eh eo known = record {
  entered = λ n lt. elim (cases_eq i n) [
    | inl same ↦ subst (λ (k : ℕ). IsEntered rows (at ti) (at go2) (at gi2 k) k) same
        (subst (λ (b : Bool). IsEntered rows (at ti) (at go2) b i) (sym p.here) (entered_same rows i (at ti) (at go) (at go2) e are (λ k kt. sym (r.before k kt)) en))
    | inr ne ↦ let lt2 : n < i = omega arith in
        subst (λ (b : Bool). IsEntered rows (at ti) (at go2) b n) (sym (p.before n lt2))
        (entered_same rows n (at ti) (at go) (at go2) (at gi n) are (λ k kt. sym (r.before k (omega arith))) (known.entered n lt2))
  ];
  has = λ n lt. elim (cases_eq i n) [
    | inl same ↦ subst (λ (k : ℕ). at g2 k ≡ (at gi2 k || at x k)) same (q.here ∙ (eh ∙ ap (λ (a : Bool). a || at x i) (sym p.here)))
    | inr ne ↦ let lt2 : n < i = omega arith in q.before n lt2 ∙ (known.has n lt2 ∙ ap (λ (a : Bool). a || at x n) (sym (p.before n lt2)))
  ];
  goes = λ n lt. elim (cases_eq i n) [
    | inl same ↦ subst (λ (k : ℕ). at go2 k ≡ (at g2 k && not (at st k))) same (r.here ∙ (eo ∙ ap (λ (a : Bool). a && not (at st i)) (sym q.here)))
    | inr ne ↦ let lt2 : n < i = omega arith in r.before n lt2 ∙ (known.goes n lt2 ∙ ap (λ (a : Bool). a && not (at st n)) (sym (q.before n lt2)))
  ];
}

pub passed_none : (rows : List Row) (st ti x gi g go : List Bool) → ArePassed rows st ti x gi g go 0
passed_none rows st ti x gi g go = record { entered = λ n lt. absurd (omega arith); has = λ n lt. absurd (omega arith); goes = λ n lt. absurd (omega arith) }
