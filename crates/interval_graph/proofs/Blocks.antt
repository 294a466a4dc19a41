-- Nodes that stand one behind the other as statements have them are a flow graph.
use Rattle.std.proofs.Common.{◌≡◌, ℕ, suc, ◌<◌, ◌≤◌, IsTrue, IsFalse, ◌⊎◌, inl, inr, refl, sym, ◌∙◌, ap, subst, arith, true≢false, eqb-true, eq-eqb}
use Rattle.std.proofs.lemmas.Bool.{cases_lt, cases_eq, or_cases}
use Rattle.fd_prog.specs.Flow.{Way, Next, Fork, Jump, Around, Back, Nowhere, leads, is_around, latch_in, graph_by}
use Rattle.interval_graph.specs.Structure.{IsParted, meets, parts, IsFlow, IsLast}
use Rattle.interval_graph.proofs.Tests.{or_left, or_right, clash}

-- the nodes from one up to another lead as those of statements do, with pads as plain nodes
pub data IsBlock (way : ℕ → Way) : ℕ → ℕ → Type 0 where
  empty : {a : ℕ} → IsBlock way a a
  plain : {a b : ℕ} → way a ≡ Next → IsBlock way (suc a) b → IsBlock way a b
  fork : {a n j b : ℕ} → way a ≡ Fork (suc n) → IsBlock way (suc a) n → way n ≡ Jump j → suc n < j → IsBlock way (suc n) j
      → way j ≡ Next → IsBlock way (suc j) b → IsBlock way a b
  round : {a c b : ℕ} → way a ≡ Around c → way (suc a) ≡ Next → IsBlock way (suc (suc a)) c → way c ≡ Back a → IsBlock way (suc c) b → IsBlock way a b

-- a block with one plain node more
pub one_more : (way : ℕ → Way) (a b : ℕ) → IsBlock way a b → way b ≡ Next → IsBlock way a (suc b)
one_more way a b empty e = plain e empty
one_more way a b (plain p r) e = plain p (one_more way (suc a) b r e)
one_more way a b (fork {n = n} {j = j} p y q lt n' k r) e = fork p y q lt n' k (one_more way (suc j) b r e)
one_more way a b (round {c = c} p t d q r) e = round p t d q (one_more way (suc c) b r e)

pub ordered : (way : ℕ → Way) (a b : ℕ) → IsBlock way a b → a ≤ b
ordered way a b empty = omega arith
ordered way a b (plain p r) = let x = ordered way (suc a) b r in omega (arith, x)
ordered way a b (fork {n = n} {j = j} p y q lt o k r) = let x = ordered way (suc a) n y in let z = ordered way (suc j) b r in omega (arith, x, z)
ordered way a b (round {c = c} p t d q r) = let x = ordered way (suc (suc a)) c d in let z = ordered way (suc c) b r in omega (arith, x, z)

-- ---- one node

abbrev pub IsEdge : (ℕ → Way) → ℕ → ℕ → Type 0
IsEdge way p s = IsTrue (leads (way p) p s)

way_when : (way : ℕ → Way) {r : Way} {a p : ℕ} → a ≡ p → way a ≡ r → way p ≡ r
way_when way {r = r} same e = subst (λ (x : ℕ). way x ≡ r) same e

edge_of : (way : ℕ → Way) {r : Way} (p s : ℕ) → way p ≡ r → IsEdge way p s → IsTrue (leads r p s)
edge_of way p s e h = subst (λ (x : Way). IsTrue (leads x p s)) e h

pub edge_by : (way : ℕ → Way) {r : Way} (p s : ℕ) → way p ≡ r → IsTrue (leads r p s) → IsEdge way p s
edge_by way p s e h = subst (λ (x : Way). IsTrue (leads x p s)) (sym e) h

next_at : (way : ℕ → Way) (p s : ℕ) → way p ≡ Next → IsEdge way p s → s ≡ suc p
next_at way p s e h = eqb-true s (suc p) (edge_of way p s e h)

jump_at : (way : ℕ → Way) (p s : ℕ) {m : ℕ} → way p ≡ Jump m → IsEdge way p s → s ≡ m
jump_at way p s {m = m} e h = eqb-true s m (edge_of way p s e h)

loop_at : (way : ℕ → Way) (p s : ℕ) {m : ℕ} → way p ≡ Around m → IsEdge way p s → s ≡ suc m
loop_at way p s {m = m} e h = eqb-true s (suc m) (edge_of way p s e h)

fork_at : (way : ℕ → Way) (p s : ℕ) {m : ℕ} → way p ≡ Fork m → IsEdge way p s → (s ≡ suc p) ⊎ (s ≡ m)
fork_at way p s {m = m} e h = elim (or_cases _ _ (edge_of way p s e h)) [ inl x ↦ inl (eqb-true s (suc p) x) | inr x ↦ inr (eqb-true s m x) ]

latch_at : (way : ℕ → Way) (p s : ℕ) {l : ℕ} → way p ≡ Back l → IsEdge way p s → ⊥
latch_at way p s e h = true≢false (sym (edge_of way p s e h))

end_at : (way : ℕ → Way) (p s : ℕ) → way p ≡ Nowhere → IsEdge way p s → ⊥
end_at way p s e h = true≢false (sym (edge_of way p s e h))

no_loop : (way : ℕ → Way) {r : Way} (p : ℕ) → way p ≡ r → IsFalse (is_around r) → IsTrue (is_around (way p)) → ⊥
no_loop way p e f h = clash h (ap is_around e ∙ f)

-- ---- where a number stands in a block

data ForkPlace (a n j p : ℕ) : Type 0 where
  head : a ≡ p → ForkPlace a n j p
  left : suc a ≤ p → p < n → ForkPlace a n j p
  pad : n ≡ p → ForkPlace a n j p
  right : suc n ≤ p → p < j → ForkPlace a n j p
  join : j ≡ p → ForkPlace a n j p
  rest : suc j ≤ p → ForkPlace a n j p

fork_place : (a n j p : ℕ) → a ≤ p → ForkPlace a n j p
fork_place a n j p lo = elim (cases_eq a p) [
  | inl e ↦ head e
  | inr e ↦ elim (cases_lt p n) [
    | inl l ↦ left (omega arith) l
    | inr g ↦ elim (cases_eq n p) [
      | inl f ↦ pad f
      | inr f ↦ elim (cases_lt p j) [
        | inl l ↦ right (omega arith) l
        | inr h ↦ elim (cases_eq j p) [ inl i ↦ join i | inr i ↦ rest (omega arith) ]
      ]
    ]
  ]
]

data RoundPlace (a c p : ℕ) : Type 0 where
  self : a ≡ p → RoundPlace a c p
  top : suc a ≡ p → RoundPlace a c p
  body : suc (suc a) ≤ p → p < c → RoundPlace a c p
  latch : c ≡ p → RoundPlace a c p
  behind : suc c ≤ p → RoundPlace a c p

round_place : (a c p : ℕ) → a ≤ p → suc (suc a) ≤ c → RoundPlace a c p
round_place a c p lo h = elim (cases_eq a p) [
  | inl e ↦ self e
  | inr e ↦ elim (cases_eq (suc a) p) [
    | inl f ↦ top f
    | inr f ↦ elim (cases_lt p c) [
      | inl l ↦ body (omega arith) l
      | inr g ↦ elim (cases_eq c p) [ inl i ↦ latch i | inr i ↦ behind (omega arith) ]
    ]
  ]
]

-- ---- edges lead up, and not past the block's end

pub record Edge (p s b : ℕ) : Type 0 where
  pub up : p < s
  pub ends : s ≤ b

wider : {p s c b : ℕ} → Edge p s c → c ≤ b → Edge p s b
wider {p = p} {s = s} {c = c} {b = b} e h = let x : s ≤ c = e.ends in record { up = e.up; ends = omega arith }

pub edges : (way : ℕ → Way) (a b : ℕ) → IsBlock way a b → (p s : ℕ) → a ≤ p → p < b → IsEdge way p s → Edge p s b
edges way a b empty p s lo hi h = absurd (omega arith)
edges way a b (plain x r) p s lo hi h =
    let le : suc a ≤ b = ordered way (suc a) b r in
    elim (cases_eq a p) [
      | inl e ↦ let k : s ≡ suc p = next_at way _ s (way_when way e x) h in record { up = omega arith; ends = omega arith }
      | inr e ↦ edges way (suc a) b r p s (omega arith) hi h
    ]
edges way a b (fork {n = n} {j = j} x y q lt o k r) p s lo hi h =
    let l1 : suc a ≤ n = ordered way (suc a) n y in
    let l2 : suc j ≤ b = ordered way (suc j) b r in
    elim (fork_place a n j p lo) [
      | head e ↦ elim (fork_at way _ s (way_when way e x) h) [ inl d ↦ record { up = omega arith; ends = omega arith } | inr d ↦ record { up = omega arith; ends = omega arith } ]
      | left c d ↦ wider (edges way (suc a) n y p s c d h) (omega arith)
      | pad e ↦ let d : s ≡ j = jump_at way _ s (way_when way e q) h in record { up = omega arith; ends = omega arith }
      | right c d ↦ wider (edges way (suc n) j o p s c d h) (omega arith)
      | join e ↦ let d : s ≡ suc p = next_at way _ s (way_when way e k) h in record { up = omega arith; ends = omega arith }
      | rest c ↦ edges way (suc j) b r p s c hi h
    ]
edges way a b (round {c = c} x t d q r) p s lo hi h =
    let l1 : suc (suc a) ≤ c = ordered way (suc (suc a)) c d in
    let l2 : suc c ≤ b = ordered way (suc c) b r in
    elim (round_place a c p lo l1) [
      | self e ↦ let f : s ≡ suc c = loop_at way _ s (way_when way e x) h in record { up = omega arith; ends = omega arith }
      | top e ↦ let f : s ≡ suc p = next_at way _ s (way_when way e t) h in record { up = omega arith; ends = omega arith }
      | body u v ↦ wider (edges way (suc (suc a)) c d p s u v h) (omega arith)
      | latch e ↦ absurd (latch_at way _ s (way_when way e q) h)
      | behind u ↦ edges way (suc c) b r p s u hi h
    ]

-- ---- a latch leads back

next_back : (l : ℕ) → Next ≡ Back l → ⊥
next_back l e = cc

fork_back : (m l : ℕ) → Fork m ≡ Back l → ⊥
fork_back m l e = cc

jump_back : (m l : ℕ) → Jump m ≡ Back l → ⊥
jump_back m l e = cc

around_back : (m l : ℕ) → Around m ≡ Back l → ⊥
around_back m l e = cc

pub nowhere_back : (l : ℕ) → Nowhere ≡ Back l → ⊥
nowhere_back l e = cc

abbrev back_of : Way → ℕ
back_of (Back l) = l
back_of way = 0

pub backs : (way : ℕ → Way) (a b : ℕ) → IsBlock way a b → (p l : ℕ) → a ≤ p → p < b → way p ≡ Back l → l < p
backs way a b empty p l lo hi h = absurd (omega arith)
backs way a b (plain x r) p l lo hi h =
    elim (cases_eq a p) [
      | inl e ↦ absurd (next_back l (sym (way_when way e x) ∙ h))
      | inr e ↦ backs way (suc a) b r p l (omega arith) hi h
    ]
backs way a b (fork {n = n} {j = j} x y q lt o k r) p l lo hi h =
    elim (fork_place a n j p lo) [
      | head e ↦ absurd (fork_back (suc n) l (sym (way_when way e x) ∙ h))
      | left c d ↦ backs way (suc a) n y p l c d h
      | pad e ↦ absurd (jump_back j l (sym (way_when way e q) ∙ h))
      | right c d ↦ backs way (suc n) j o p l c d h
      | join e ↦ absurd (next_back l (sym (way_when way e k) ∙ h))
      | rest c ↦ backs way (suc j) b r p l c hi h
    ]
backs way a b (round {c = c} x t d q r) p l lo hi h =
    let l1 : suc (suc a) ≤ c = ordered way (suc (suc a)) c d in
    elim (round_place a c p lo l1) [
      | self e ↦ absurd (around_back c l (sym (way_when way e x) ∙ h))
      | top e ↦ absurd (next_back l (sym (way_when way e t) ∙ h))
      | body u v ↦ backs way (suc (suc a)) c d p l u v h
      | latch e ↦ let same : a ≡ l = ap back_of (sym (way_when way e q) ∙ h) in omega (arith, same, e, l1)
      | behind u ↦ backs way (suc c) b r p l u hi h
    ]

-- ---- every number behind the first is led to, but a top pad

pub reach : (way : ℕ → Way) (a b : ℕ) → IsBlock way a b → (k : ℕ) → a ≤ k → k < b → IsFalse (is_around (way k)) → (p : ℕ) × IsEdge way p (suc k)
reach way a b empty k lo hi h = absurd (omega arith)
reach way a b (plain x r) k lo hi h = elim (cases_eq a k) [
  | inl e ↦ (k, edge_by way _ (suc k) (way_when way e x) (eq-eqb (suc k) (suc k) refl))
  | inr e ↦ reach way (suc a) b r k (omega arith) hi h
]
reach way a b (fork {n = n} {j = j} x y q lt o z r) k lo hi h = elim (fork_place a n j k lo) [
  | head e ↦ (k, edge_by way _ (suc k) (way_when way e x) (or_left _ (eq-eqb (suc k) (suc k) refl)))
  | left c d ↦ reach way (suc a) n y k c d h
  | pad e ↦ (a, edge_by way _ (suc k) x (or_right _ (eq-eqb (suc k) (suc n) (ap suc (sym e)))))
  | right c d ↦ reach way (suc n) j o k c d h
  | join e ↦ (k, edge_by way _ (suc k) (way_when way e z) (eq-eqb (suc k) (suc k) refl))
  | rest c ↦ reach way (suc j) b r k c hi h
]
reach way a b (round {c = c} x t d q r) k lo hi h =
    let l1 : suc (suc a) ≤ c = ordered way (suc (suc a)) c d in
    elim (round_place a c k lo l1) [
      | self e ↦ absurd (clash (ap is_around (way_when way e x)) h)
      | top e ↦ (k, edge_by way _ (suc k) (way_when way e t) (eq-eqb (suc k) (suc k) refl))
      | body u v ↦ reach way (suc (suc a)) c d k u v h
      | latch e ↦ (a, edge_by way _ (suc k) x (eq-eqb (suc k) (suc c) (ap suc (sym e))))
      | behind u ↦ reach way (suc c) b r k u hi h
    ]

-- ---- a latch stands inside its block

bounded : (way : ℕ → Way) (a b : ℕ) → IsBlock way a b → (p : ℕ) → a ≤ p → p < b → IsTrue (is_around (way p)) → latch_in (way p) < b
bounded way a b empty p lo hi h = absurd (omega arith)
bounded way a b (plain x r) p lo hi h = elim (cases_eq a p) [
  | inl e ↦ absurd (no_loop way _ (way_when way e x) refl h)
  | inr e ↦ bounded way (suc a) b r p (omega arith) hi h
]
bounded way a b (fork {n = n} {j = j} x y q lt o z r) p lo hi h =
    let l2 : suc j ≤ b = ordered way (suc j) b r in
    elim (fork_place a n j p lo) [
      | head e ↦ absurd (no_loop way _ (way_when way e x) refl h)
      | left c d ↦ let u : latch_in (way p) < n = bounded way (suc a) n y p c d h in omega arith
      | pad e ↦ absurd (no_loop way _ (way_when way e q) refl h)
      | right c d ↦ let u : latch_in (way p) < j = bounded way (suc n) j o p c d h in omega arith
      | join e ↦ absurd (no_loop way _ (way_when way e z) refl h)
      | rest c ↦ bounded way (suc j) b r p c hi h
    ]
bounded way a b (round {c = c} x t d q r) p lo hi h =
    let l1 : suc (suc a) ≤ c = ordered way (suc (suc a)) c d in
    let l2 : suc c ≤ b = ordered way (suc c) b r in
    elim (round_place a c p lo l1) [
      | self e ↦ let f : latch_in (way p) ≡ c = ap latch_in (way_when way e x) in omega arith
      | top e ↦ absurd (no_loop way _ (way_when way e t) refl h)
      | body u v ↦ let f : latch_in (way p) < c = bounded way (suc (suc a)) c d p u v h in omega arith
      | latch e ↦ absurd (no_loop way _ (way_when way e q) refl h)
      | behind u ↦ bounded way (suc c) b r p u hi h
    ]

-- ---- what is said of each node

pub record IsRound (way : ℕ → Way) (l c : ℕ) : Type 0 where
  pub far : l < c
  pub ends : way c ≡ Back l
  pub inner : (p s : ℕ) → l < p → p ≤ c → IsEdge way p s → s ≤ c
  pub outer : (p s : ℕ) → p < l → IsEdge way p s → l < s → c < s
  pub after : (s : ℕ) → IsEdge way l s → c < s
  pub nests : (m : ℕ) → l < m → m ≤ c → IsTrue (is_around (way m)) → latch_in (way m) < c

pub record IsNode (way : ℕ → Way) (p : ℕ) : Type 0 where
  pub parted : IsParted (graph_by way) p
  pub round : IsTrue (is_around (way p)) → IsRound way p (latch_in (way p))

-- no edge from before a block leads into it but to its first node
abbrev Before : (ℕ → Way) → ℕ → ℕ → Type 0
Before way a b = (q s : ℕ) → q < a → IsEdge way q s → a < s → b ≤ s

before_rest : (way : ℕ → Way) (a b m : ℕ) → Before way a b → IsBlock way a m → Before way m b
before_rest way a b m f k q s lt h u = let le : a ≤ m = ordered way a m k in elim (cases_lt q a) [
  | inl x ↦ f q s x h (omega arith)
  | inr x ↦ let y : s ≤ m = (edges way a m k q s x lt h).ends in absurd (omega arith)
]

one_way : (way : ℕ → Way) (p m : ℕ) → ((s : ℕ) → IsEdge way p s → s ≡ m) → IsFalse (is_around (way p)) → IsNode way p
one_way way p m h n = record { parted = meets (λ s r x y. h r y ∙ sym (h s x)); round = λ x. absurd (clash x n) }

next_node : (way : ℕ → Way) (p : ℕ) → way p ≡ Next → IsNode way p
next_node way p e = one_way way p (suc p) (λ s h. next_at way _ s e h) (ap is_around e)

nodes : (way : ℕ → Way) → ((p s : ℕ) → IsEdge way p s → p < s) → (a b : ℕ) → IsBlock way a b → Before way a b → (p : ℕ) → a ≤ p → p < b → IsNode way p
nodes way up a b empty f p lo hi = absurd (omega arith)
nodes way up a b (plain x r) f p lo hi = elim (cases_eq a p) [
  | inl e ↦ next_node way p (way_when way e x)
  | inr e ↦ nodes way up (suc a) b r (before_rest way a b (suc a) f (plain x empty)) p (omega arith) hi
]
nodes way up a b (fork {n = n} {j = j} x y q lt o z r) f p lo hi =
    let l1 : suc a ≤ n = ordered way (suc a) n y in
    let l2 : suc j ≤ b = ordered way (suc j) b r in
    elim (fork_place a n j p lo) [
      | head e ↦ record {
        parted = parts (λ s u h k. elim (cases_lt u a) [
          | inl c ↦ let v : a < s = (let w : p < s = up p s h in omega arith) in let w : b ≤ s = f u s c k v in
              absurd (elim (fork_at way _ s (way_when way e x) h) [ inl d ↦ omega arith | inr d ↦ omega arith ])
          | inr c ↦ let w : u < s = up u s k in elim (fork_place a n j u c) [
            | head i ↦ omega arith
            | left i i2 ↦ let g : s ≤ n = (edges way (suc a) n y u s i i2 k).ends in absurd (elim (fork_at way _ s (way_when way e x) h) [ inl d ↦ omega arith | inr d ↦ omega arith ])
            | pad i ↦ let g : s ≡ j = jump_at way _ s (way_when way i q) k in absurd (elim (fork_at way _ s (way_when way e x) h) [ inl d ↦ omega arith | inr d ↦ omega arith ])
            | right i i2 ↦ absurd (elim (fork_at way _ s (way_when way e x) h) [ inl d ↦ omega arith | inr d ↦ omega arith ])
            | join i ↦ absurd (elim (fork_at way _ s (way_when way e x) h) [ inl d ↦ omega arith | inr d ↦ omega arith ])
            | rest i ↦ absurd (elim (fork_at way _ s (way_when way e x) h) [ inl d ↦ omega arith | inr d ↦ omega arith ])
          ]
        ]);
        round = λ h. absurd (no_loop way _ (way_when way e x) refl h);
      }
      | left c d ↦ nodes way up (suc a) n y (λ u s i h k. elim (cases_eq a u) [
        | inl e ↦ elim (fork_at way _ s (way_when way e x) h) [ inl g ↦ absurd (omega arith) | inr g ↦ omega arith ]
        | inr e ↦ let g : b ≤ s = f u s (omega arith) h (omega arith) in omega arith
      ]) p c d
      | pad e ↦ one_way way p j (λ s h. jump_at way _ s (way_when way e q) h) (ap is_around (way_when way e q))
      | right c d ↦ nodes way up (suc n) j o (λ u s i h k. elim (cases_lt u a) [
        | inl g ↦ let v : b ≤ s = f u s g h (omega arith) in omega arith
        | inr g ↦ elim (fork_place a n j u g) [
          | head e ↦ absurd (elim (fork_at way _ s (way_when way e x) h) [ inl v ↦ omega arith | inr v ↦ omega arith ])
          | left v v2 ↦ let w : s ≤ n = (edges way (suc a) n y u s v v2 h).ends in absurd (omega arith)
          | pad e ↦ let v : s ≡ j = jump_at way _ s (way_when way e q) h in omega arith
          | right v v2 ↦ absurd (omega arith)
          | join v ↦ absurd (omega arith)
          | rest v ↦ absurd (omega arith)
        ]
      ]) p c d
      | join e ↦ next_node way p (way_when way e z)
      | rest c ↦ nodes way up (suc j) b r (before_rest way a b (suc j) f (fork x y q lt o z empty)) p c hi
    ]
nodes way up a b (round {c = c} x t d q r) f p lo hi =
    let l1 : suc (suc a) ≤ c = ordered way (suc (suc a)) c d in
    let l2 : suc c ≤ b = ordered way (suc c) b r in
    elim (round_place a c p lo l1) [
      | self e ↦
          let around : IsRound way a c = record {
            far = omega arith;
            ends = q;
            inner = λ u s i k h. elim (round_place a c u (omega arith) l1) [
              | self g ↦ absurd (omega arith)
              | top g ↦ let v : s ≡ suc u = next_at way _ s (way_when way g t) h in omega arith
              | body g g2 ↦ (edges way (suc (suc a)) c d u s g g2 h).ends
              | latch g ↦ absurd (latch_at way _ s (way_when way g q) h)
              | behind g ↦ absurd (omega arith)
            ];
            outer = λ u s i h k. let v : b ≤ s = f u s i h k in omega arith;
            after = λ s h. let v : s ≡ suc c = loop_at way _ s x h in omega arith;
            nests = λ m i k h. elim (round_place a c m (omega arith) l1) [
              | self g ↦ absurd (omega arith)
              | top g ↦ absurd (no_loop way _ (way_when way g t) refl h)
              | body g g2 ↦ bounded way (suc (suc a)) c d m g g2 h
              | latch g ↦ absurd (no_loop way _ (way_when way g q) refl h)
              | behind g ↦ absurd (omega arith)
            ];
          } in
          record {
            parted = meets (λ s u h k. loop_at way _ u (way_when way e x) k ∙ sym (loop_at way _ s (way_when way e x) h));
            round = λ h. subst (λ (v : ℕ). IsRound way p v) (sym (ap latch_in (way_when way e x))) (subst (λ (v : ℕ). IsRound way v c) e around);
          }
      | top e ↦ next_node way p (way_when way e t)
      | body u v ↦ nodes way up (suc (suc a)) c d (λ w s i h k. elim (cases_lt w a) [
        | inl g ↦ let y : b ≤ s = f w s g h (omega arith) in omega arith
        | inr g ↦ elim (cases_eq a w) [
          | inl e ↦ let y : s ≡ suc c = loop_at way _ s (way_when way e x) h in omega arith
          | inr e ↦ let y : suc a ≡ w = omega arith in let y2 : s ≡ suc w = next_at way _ s (way_when way y t) h in absurd (omega arith)
        ]
      ]) p u v
      | latch e ↦ one_way way p 0 (λ s h. absurd (latch_at way _ s (way_when way e q) h)) (ap is_around (way_when way e q))
      | behind u ↦ nodes way up (suc c) b r (before_rest way a b (suc c) f (round x t d q empty)) p u hi
    ]

-- ---- the whole

-- a program's nodes, of which this is the last
pub record IsWhole (way : ℕ → Way) (e : ℕ) : Type 0 where
  pub block : IsBlock way 0 e
  pub ended : (p : ℕ) → e ≤ p → way p ≡ Nowhere

pub whole_up : (way : ℕ → Way) (e : ℕ) → IsWhole way e → (p s : ℕ) → IsEdge way p s → p < s
whole_up way e n p s h = elim (cases_lt p e) [
  | inl x ↦ (edges way 0 e n.block p s (omega arith) x h).up
  | inr x ↦ absurd (end_at way _ s (n.ended p x) h)
]

node : (way : ℕ → Way) (e : ℕ) → IsWhole way e → (p : ℕ) → IsNode way p
node way e n p = elim (cases_lt p e) [
  | inl x ↦ nodes way (whole_up way e n) 0 e n.block (λ q s i h k. absurd (omega arith)) p (omega arith) x
  | inr x ↦ one_way way p 0 (λ s h. absurd (end_at way _ s (n.ended p x) h)) (ap is_around (n.ended p x))
]

loop_below : (way : ℕ → Way) (e : ℕ) → IsWhole way e → (l : ℕ) → IsTrue (is_around (way l)) → latch_in (way l) < e
loop_below way e n l h = elim (cases_lt l e) [
  | inl x ↦ bounded way 0 e n.block l (omega arith) x h
  | inr x ↦ absurd (no_loop way _ (n.ended l x) refl h)
]

pub is_flow : (way : ℕ → Way) (e : ℕ) → IsWhole way e → IsFlow (graph_by way)
is_flow way e n = record {
  up = whole_up way e n;
  stays = λ p s l h i. let x : p < s = whole_up way e n p s h in
      let y : l < p = i.above in
      record { is_loop = i.is_loop; above = omega arith; below = ((node way e n l).round i.is_loop).inner p s i.above i.below h };
  stayed = λ p s l h i. let r = (node way e n l).round i.is_loop in
      let x : p < s = whole_up way e n p s h in
      let y : l < s = i.above in
      let z : s ≤ latch_in (way l) = i.below in
      record {
        is_loop = i.is_loop;
        above = elim (cases_lt l p) [
          | inl g ↦ g
          | inr g ↦ elim (cases_eq l p) [
            | inl same ↦ let v : latch_in (way l) < s = r.after s (subst (λ (q : ℕ). IsEdge way q s) (sym same) h) in absurd (omega arith)
            | inr ne ↦ let v : latch_in (way l) < s = r.outer p s (omega arith) h y in absurd (omega arith)
          ]
        ];
        below = omega arith;
      };
  parted = λ p. (node way e n p).parted;
  far = λ l h. ((node way e n l).round h).far;
  nests = λ l m i h. ((node way e n l).round i.is_loop).nests m i.above i.below h;
  latch_ends = λ l s h k. latch_at way _ s ((node way e n l).round h).ends k;
  top_begins = λ l p h k. let r = (node way e n l).round h in
      let x : p < suc l = whole_up way e n p (suc l) k in
      let y : l < latch_in (way l) = r.far in
      elim (cases_eq l p) [
        | inl same ↦ let v : latch_in (way l) < suc l = r.after (suc l) (subst (λ (q : ℕ). IsEdge way q (suc l)) (sym same) k) in omega arith
        | inr ne ↦ let v : latch_in (way l) < suc l = r.outer p (suc l) (omega arith) k (omega arith) in omega arith
      ];
  reached = λ l k h i. let x : latch_in (way l) < e = loop_below way e n l i.is_loop in
      let y : suc k ≤ latch_in (way l) = i.below in
      reach way 0 e n.block k (omega arith) (omega arith) h;
}

pub is_last : (way : ℕ → Way) (e : ℕ) → IsWhole way e → IsLast (graph_by way) e
is_last way e n = record {
  no_edge = λ p s h. elim (cases_lt p e) [ inl x ↦ x | inr x ↦ absurd (end_at way _ s (n.ended p x) h) ];
  inside = λ p s h. elim (cases_lt p e) [ inl x ↦ (edges way 0 e n.block p s (omega arith) x h).ends | inr x ↦ absurd (end_at way _ s (n.ended p x) h) ];
  no_loop = λ l h. loop_below way e n l h;
}
