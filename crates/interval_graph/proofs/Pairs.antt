-- A loop and its latch name each other, and the no side of a branch comes behind the yes side.
use Rattle.std.proofs.Common.{◌≡◌, ℕ, suc, ◌<◌, ◌≤◌, IsTrue, ◌↔◌, inl, inr, List, refl, sym, ◌∙◌, ap, subst, arith, true≢false}
use Rattle.std.proofs.lemmas.Bool.{cases_lt, cases_eq}
use Rattle.fd_prog.specs.Flow.{Way, Next, Fork, Jump, Around, Back, Nowhere, is_around, latch_in}
use Rattle.interval_graph.specs.declared.node.Row.{Row}
use Rattle.interval_graph.specs.Rows.{leads_at, flow_of, AreRows}
use Rattle.interval_graph.proofs.Blocks.{IsBlock, empty, plain, fork, round, ordered, IsWhole}
use Rattle.interval_graph.proofs.Inside.{is_whole}

pub record IsPaired (way : ℕ → Way) (p : ℕ) : Type 0 where
  pub back : (l : ℕ) → way p ≡ Back l → way l ≡ Around p
  pub round : (c : ℕ) → way p ≡ Around c → way c ≡ Back p
  pub fork : (m : ℕ) → way p ≡ Fork m → suc p < m

way_when : (way : ℕ → Way) {r : Way} {a p : ℕ} → a ≡ p → way a ≡ r → way p ≡ r
way_when way {r = r} same e = subst (λ (x : ℕ). way x ≡ r) same e

next_paired : (way : ℕ → Way) (p : ℕ) → way p ≡ Next → IsPaired way p
next_paired way p e = record { back = λ l h. absurd cc; round = λ l h. absurd cc; fork = λ l h. absurd cc }

jump_paired : (way : ℕ → Way) (p j : ℕ) → way p ≡ Jump j → IsPaired way p
jump_paired way p j e = record { back = λ l h. absurd cc; round = λ l h. absurd cc; fork = λ l h. absurd cc }

nowhere_paired : (way : ℕ → Way) (p : ℕ) → way p ≡ Nowhere → IsPaired way p
nowhere_paired way p e = record { back = λ l h. absurd cc; round = λ l h. absurd cc; fork = λ l h. absurd cc }

fork_same : (a b : ℕ) → Fork a ≡ Fork b → a ≡ b
fork_same a b e = cc

fork_paired : (way : ℕ → Way) (p m : ℕ) → way p ≡ Fork m → suc p < m → IsPaired way p
fork_paired way p m e lt = record { back = λ l h. absurd cc; round = λ l h. absurd cc; fork = λ l h. subst (λ (z : ℕ). suc p < z) (fork_same m l (sym e ∙ h)) lt }

around_same : (a b : ℕ) → Around a ≡ Around b → a ≡ b
around_same a b e = cc

pub back_same : (a b : ℕ) → Back a ≡ Back b → a ≡ b
back_same a b e = cc

loop_paired : (way : ℕ → Way) (p c : ℕ) → way p ≡ Around c → way c ≡ Back p → IsPaired way p
loop_paired way p c e f = record { back = λ l h. absurd cc; round = λ l h. way_when way (around_same c l (sym e ∙ h)) f; fork = λ l h. absurd cc }

latch_paired : (way : ℕ → Way) (p a : ℕ) → way p ≡ Back a → way a ≡ Around p → IsPaired way p
latch_paired way p a e f = record { back = λ l h. way_when way (back_same a l (sym e ∙ h)) f; round = λ l h. absurd cc; fork = λ l h. absurd cc }

paired : (way : ℕ → Way) (a b : ℕ) → IsBlock way a b → (p : ℕ) → a ≤ p → p < b → IsPaired way p
paired way a b empty p lo hi = absurd (omega arith)
paired way a b (plain x r) p lo hi = elim (cases_eq a p) [
  | inl e ↦ next_paired way p (way_when way e x)
  | inr e ↦ paired way (suc a) b r p (omega arith) hi
]
paired way a b (fork {n = n} {j = j} x y q lt o z r) p lo hi = elim (cases_eq a p) [
  | inl e ↦ fork_paired way p (suc n) (way_when way e x) (omega (arith, ordered way (suc a) n y, e))
  | inr e ↦ elim (cases_lt p n) [
    | inl l ↦ paired way (suc a) n y p (omega arith) l
    | inr g ↦ elim (cases_eq n p) [
      | inl f ↦ jump_paired way p j (way_when way f q)
      | inr f ↦ elim (cases_lt p j) [
        | inl l ↦ paired way (suc n) j o p (omega arith) l
        | inr h ↦ elim (cases_eq j p) [
          | inl i ↦ next_paired way p (way_when way i z)
          | inr i ↦ paired way (suc j) b r p (omega arith) hi
        ]
      ]
    ]
  ]
]
paired way a b (round {c = c} x t d q r) p lo hi = elim (cases_eq a p) [
  | inl e ↦ loop_paired way p c (way_when way e x) (subst (λ (z : ℕ). way c ≡ Back z) e q)
  | inr e ↦ elim (cases_eq (suc a) p) [
    | inl f ↦ next_paired way p (way_when way f t)
    | inr f ↦ elim (cases_lt p c) [
      | inl l ↦ paired way (suc (suc a)) c d p (omega arith) l
      | inr g ↦ elim (cases_eq c p) [
        | inl i ↦ latch_paired way p a (way_when way i q) (subst (λ (z : ℕ). way a ≡ Around z) i x)
        | inr i ↦ paired way (suc c) b r p (omega arith) hi
      ]
    ]
  ]
]

whole_paired : (way : ℕ → Way) (e : ℕ) → IsWhole way e → (p : ℕ) → IsPaired way p
whole_paired way e w p = elim (cases_lt p e) [
  | inl lt ↦ paired way 0 e w.block p (omega arith) lt
  | inr ge ↦ nowhere_paired way p (w.ended p ge)
]

pub pairs : (rows : List Row) → AreRows rows → (p : ℕ) → IsPaired (leads_at rows) p
pairs rows h p = whole_paired (leads_at rows) _ (is_whole rows h) p

-- ---- a loop by its latch

pub way_around : (w : Way) → IsTrue (is_around w) → w ≡ Around (latch_in w)
way_around Next h = absurd (true≢false (sym h))
way_around (Fork m) h = absurd (true≢false (sym h))
way_around (Jump m) h = absurd (true≢false (sym h))
way_around (Around c) h = refl
way_around (Back l) h = absurd (true≢false (sym h))
way_around Nowhere h = absurd (true≢false (sym h))

-- a node leads back to the loop whose latch it is
pub latch_back : (rows : List Row) (n s : ℕ) → AreRows rows → (leads_at rows n ≡ Back s) ↔ (IsTrue ((flow_of rows).is_loop s) × ((flow_of rows).latch s ≡ n))
latch_back rows n s h = (
  λ e. let a = (pairs rows h n).back s e in (ap is_around a, ap latch_in a),
  λ e. (pairs rows h s).round n (way_around (leads_at rows s) e.0 ∙ ap (λ (z : ℕ). Around z) e.1),
)
