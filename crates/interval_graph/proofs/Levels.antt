-- The nodes of a loop's body at its level, one after the other.
use Rattle.std.proofs.Common.{◌≡◌, ℕ, zero, suc, ◌+◌, ◌-◌, ◌<◌, ◌≤◌, ◌==◌, Bool, true, false, not, ◌&&◌, ◌||◌, nat_lt, if◌then◌else◌, IsTrue, IsFalse, ltb, List, [], ◌∷◌, ◌++◌, length, refl, sym, ◌∙◌, ap, ap₂, subst, inl, inr, append_assoc, arith}
use Rattle.std.proofs.lemmas.Bool.{cases_Bool, cases_lt, cases_eq, eq-eqb, ne_eqb, lt-ltb, le-ltb, ltb-true, le-leb, leb-true, true≢false}
use Rattle.std.proofs.lemmas.List.{append-nil}
use Rattle.fd_prog.specs.Flow.{Around, Within, is_around, latch_in}
use Rattle.interval_graph.specs.declared.chains.Told.{Told}
use Rattle.interval_graph.specs.declared.node.Row.{Row}
use Rattle.interval_graph.specs.Rows.{leads_at, flow_of, AreRows}
use Rattle.interval_graph.specs.Edges.{Edge, is_inside, is_deeper, is_child, child, children_below, children}
use Rattle.interval_graph.specs.Structure.{IsFlow}
use Rattle.interval_graph.specs.Chained.{told_by}
use Rattle.interval_graph.proofs.Tests.{clash}
use Rattle.interval_graph.proofs.Inside.{flow}
use Rattle.interval_graph.proofs.EachTold.{told_more}

not_true : false ≡ true → ⊥
not_true h = true≢false (sym h)

all_three : (a b c : Bool) → a ≡ true → b ≡ true → c ≡ true → (a && (b && c)) ≡ true
all_three a b c x y z = rw (x, y) z

pub inside_from : (rows : List Row) (l m : ℕ) → IsTrue (is_around (leads_at rows l)) → l < m → m ≤ latch_in (leads_at rows l) → is_inside rows l m ≡ true
inside_from rows l m a b c = all_three _ _ _ a (lt-ltb l m b) (le-leb m (latch_in (leads_at rows l)) c)

three_parts : (a b c : Bool) → (a && (b && c)) ≡ true → (a ≡ true) × (b ≡ true) × (c ≡ true)
three_parts true true c h = (refl, refl, h)
three_parts true false c h = absurd (not_true h)
three_parts false b c h = absurd (not_true h)

pub inside_parts : (rows : List Row) (l m : ℕ) → is_inside rows l m ≡ true → IsTrue (is_around (leads_at rows l)) × (l < m) × (m ≤ latch_in (leads_at rows l))
inside_parts rows l m h = let p = three_parts _ _ _ h in (p.0, ltb-true l m p.1, leb-true m (latch_in (leads_at rows l)) p.2)

not_inside : (rows : List Row) (l m : ℕ) → (IsTrue (is_around (leads_at rows l)) → l < m → m ≤ latch_in (leads_at rows l) → ⊥) → is_inside rows l m ≡ false
not_inside rows l m h = elim (cases_Bool (is_inside rows l m)) [
  | inl e ↦ let p = inside_parts rows l m e in absurd (h p.0 p.1 p.2)
  | inr e ↦ e
]

-- no loop that begins between node l and node m has node m in its body
abbrev pub IsLevel : List Row → ℕ → ℕ → Type 0
IsLevel rows l m = (k : ℕ) → l < k → k < m → IsTrue (is_around (leads_at rows k)) → latch_in (leads_at rows k) < m

or_none : (a b : Bool) → a ≡ false → b ≡ false → (a || b) ≡ false
or_none a b x y = rw x y

and_none : (a b : Bool) → (a ≡ true → b ≡ true → ⊥) → (a && b) ≡ false
and_none false b h = refl
and_none true false h = refl
and_none true true h = absurd (h refl refl)

level_flat : (rows : List Row) (l m k : ℕ) → IsLevel rows l m → k ≤ m → is_deeper rows l m k ≡ false
level_flat rows l m zero h le = refl
level_flat rows l m (suc k) h le =
    or_none _ _ (level_flat rows l m k h (omega (arith, le)))
    (and_none _ _ (λ a b. let x = inside_parts rows l k a in let y = inside_parts rows k m b in let z = h k x.1 (omega (arith, le)) y.0 in let w = y.2 in omega (arith, z, w)))

pub level_child : (rows : List Row) (l m : ℕ) → IsTrue (is_around (leads_at rows l)) → l < m → m ≤ latch_in (leads_at rows l) → IsLevel rows l m → is_child rows l m ≡ true
level_child rows l m a b c h = rw (inside_from rows l m a b c, level_flat rows l m m h (omega arith)) refl

-- ---- nodes that are no children

or_first : (a b : Bool) → a ≡ true → (a || b) ≡ true
or_first a b h = rw h refl

or_second : (a b : Bool) → b ≡ true → (a || b) ≡ true
or_second true b h = refl
or_second false b h = h

and_both : (a b : Bool) → a ≡ true → b ≡ true → (a && b) ≡ true
and_both a b x y = rw x y

deeper : (rows : List Row) (l m j k : ℕ) → is_inside rows l m ≡ true → is_inside rows m j ≡ true → m < k → is_deeper rows l j k ≡ true
deeper rows l m j zero a b h = absurd (omega (arith, h))
deeper rows l m j (suc k) a b h = elim (cases_eq m k) [
  | inl e ↦ or_second (is_deeper rows l j k) _ (and_both _ _ (subst (λ (x : ℕ). is_inside rows l x ≡ true) e a) (subst (λ (x : ℕ). is_inside rows x j ≡ true) e b))
  | inr e ↦ or_first _ _ (deeper rows l m j k a b (omega (arith, h, e)))
]

not_child : (a b : Bool) → b ≡ true → (a && not b) ≡ false
not_child true b h = rw h refl
not_child false b h = refl

pub deeper_child : (rows : List Row) (l m j : ℕ) → is_inside rows l m ≡ true → is_inside rows m j ≡ true → is_child rows l j ≡ false
deeper_child rows l m j a b = not_child _ _ (deeper rows l m j j a b (inside_parts rows m j b).1)

pub outer_child : (rows : List Row) (l j : ℕ) → is_inside rows l j ≡ false → is_child rows l j ≡ false
outer_child rows l j h = rw h refl

-- children don't come among nodes that are none
pub skipped : (rows : List Row) (l a d : ℕ) → ((j : ℕ) → a ≤ j → j < a + d → is_child rows l j ≡ false) → children_below rows l (a + d) ≡ children_below rows l a
skipped rows l a zero h = let e : a + 0 ≡ a = omega arith in ap (children_below rows l) e
skipped rows l a (suc d) h =
    let e : a + suc d ≡ suc (a + d) = omega arith in
    let rest = skipped rows l a d (λ j x y. h j x (omega (arith, y))) in
    let here : is_child rows l (a + d) ≡ false = h (a + d) (omega arith) (omega arith) in
    ap (children_below rows l) e ∙ (ap (λ b. children_below rows l (a + d) ++ (if b then child l (a + d) ∷ [] else [])) here ∙ (append-nil _ ∙ rest))

pub none_between : (rows : List Row) (l a b : ℕ) → a ≤ b → ((j : ℕ) → a ≤ j → j < b → is_child rows l j ≡ false) → children_below rows l b ≡ children_below rows l a
none_between rows l a b le h =
    let e : a + (b - a) ≡ b = omega (arith, le) in
    subst (λ (x : ℕ). children_below rows l x ≡ children_below rows l a) e (skipped rows l a (b - a) (λ j x y. h j x (omega (arith, y, e))))

-- ---- the walk

-- the node behind one and its body
abbrev pub behind_of : List Row → ℕ → ℕ
behind_of rows m = suc (if is_around (leads_at rows m) then latch_in (leads_at rows m) else m)

pub record Walked (rows : List Row) (l latch m r : ℕ) : Type 0 where
  pub up : m < r
  pub ends : r ≤ suc latch
  pub level : IsLevel rows l r
  pub told : children_below rows l r ≡ children_below rows l m ++ (child l m ∷ [])

within : (rows : List Row) (l m : ℕ) → IsTrue (is_around (leads_at rows l)) → l < m → m ≤ latch_in (leads_at rows l) → Within (flow_of rows) l m
within rows l m a b c = record { is_loop = a; above = b; below = c }

one_child : (rows : List Row) (l m : ℕ) → is_child rows l m ≡ true → children_below rows l (suc m) ≡ children_below rows l m ++ (child l m ∷ [])
one_child rows l m h = ap (λ b. children_below rows l m ++ (if b then child l m ∷ [] else [])) h

pub walked : (rows : List Row) (l latch m r : ℕ) → AreRows rows → leads_at rows l ≡ Around latch → l < m → m ≤ latch → IsLevel rows l m → r ≡ behind_of rows m → Walked rows l latch m r
walked rows l latch m r h e lo hi level f =
    let f_up : IsFlow (flow_of rows) = flow rows h in
    let around : IsTrue (is_around (leads_at rows l)) = ap is_around e in
    let same : latch_in (leads_at rows l) ≡ latch = ap latch_in e in
    let here : m ≤ latch_in (leads_at rows l) = omega (arith, hi, same) in
    let mine = one_child rows l m (level_child rows l m around lo here level) in
    elim (cases_Bool (is_around (leads_at rows m))) [
      | inl k ↦
          let c : ℕ = latch_in (leads_at rows m) in
          let next : r ≡ suc c = f ∙ ap (λ b. suc (if b then latch_in (leads_at rows m) else m)) k in
          let far : m < c = f_up.far m k in
          let inner : (j : ℕ) → suc m ≤ j → j < suc c → is_child rows l j ≡ false =
          λ j x y. deeper_child rows l m j (inside_from rows l m around lo here) (inside_from rows m j k (omega (arith, x)) (omega (arith, y))) in
          record {
            up = omega (arith, next, far);
            ends = let s = f_up.nests l m (within rows l m around lo here) k in omega (arith, s, next, same);
            level = λ j x y z. elim (cases_lt j m) [
              | inl p ↦ let q = level j x p z in omega (arith, q, next, far)
              | inr p ↦ elim (cases_eq j m) [
                | inl q ↦ let s : latch_in (leads_at rows j) ≡ c = ap (λ i. latch_in (leads_at rows i)) q in omega (arith, s, next)
                | inr q ↦ let s = f_up.nests m j (within rows m j k (omega (arith, p, q)) (omega (arith, y, next))) z in omega (arith, s, next)
              ]
            ];
            told = ap (children_below rows l) next ∙ (none_between rows l (suc m) (suc c) (omega (arith, far)) inner ∙ mine);
          }
      | inr k ↦
          let next : r ≡ suc m = f ∙ ap (λ b. suc (if b then latch_in (leads_at rows m) else m)) k in
          record {
            up = omega (arith, next);
            ends = omega (arith, next, hi);
            level = λ j x y z. elim (cases_lt j m) [
              | inl p ↦ let q = level j x p z in omega (arith, q, next)
              | inr p ↦ let q : j ≡ m = omega (arith, p, y, next) in absurd (clash (subst (λ (i : ℕ). IsTrue (is_around (leads_at rows i))) q z) k)
            ];
            told = ap (children_below rows l) next ∙ mine;
          }
    ]

-- before the top pad of a loop there are no children
pub first_children : (rows : List Row) (l : ℕ) → children_below rows l (l + 1) ≡ []
first_children rows l = none_between rows l 0 (l + 1) (omega arith) (λ j x y. outer_child rows l j (not_inside rows l j (λ a b c. omega (arith, y, b))))

-- behind the latch of a loop there are no more
pub last_children : (rows : List Row) (l latch m : ℕ) → leads_at rows l ≡ Around latch → latch < m → m ≤ length rows → children rows l ≡ children_below rows l m
last_children rows l latch m e h le =
    let same : latch_in (leads_at rows l) ≡ latch = ap latch_in e in
    none_between rows l m (length rows) le (λ j x y. outer_child rows l j (not_inside rows l j (λ a b c. omega (arith, x, c, same, h))))

-- a node that begins no loop has none
pub no_children : (rows : List Row) (l : ℕ) → IsFalse (is_around (leads_at rows l)) → children rows l ≡ []
no_children rows l h = none_between rows l 0 (length rows) (omega arith) (λ j x y. outer_child rows l j (not_inside rows l j (λ a b c. clash a h)))

-- ---- as the loop tells it

if_same : {A : Type 0} (b : Bool) (x : A) → (if b then x else x) ≡ x
if_same true x = refl
if_same false x = refl

pub begin_told : (rows : List Row) (l k : ℕ) (es : List Edge) → es ≡ es ++ (if l == k then children_below rows l (l + 1) else [])
begin_told rows l k es =
    sym (ap (λ (xs : List Edge). es ++ (if l == k then xs else [])) (first_children rows l) ∙ (ap (λ (xs : List Edge). es ++ xs) (if_same (l == k) []) ∙ append-nil es))

step_told : (b : Bool) (base old new xs ys : List Edge) (e : Edge) → ys ≡ xs ++ (e ∷ []) → old ≡ base ++ (if b then xs else []) → new ≡ old ++ (if b then e ∷ [] else []) → new ≡ base ++ (if b then ys else [])
step_told true base old new xs ys e h f g = g ∙ (ap (λ zs. zs ++ (e ∷ [])) f ∙ (append_assoc base xs (e ∷ []) ∙ ap (λ zs. base ++ zs) (sym h)))
step_told false base old new xs ys e h f g = g ∙ (append-nil old ∙ f)

pub walk_told : (rows : List Row) (l latch m r k : ℕ) (t : Told) (base : List Edge) (old new : List Told) → Walked rows l latch m r → t.by ≡ l → (t.node, t.kind) ≡ child l m
    → told_by k old ≡ base ++ (if l == k then children_below rows l m else []) → new ≡ old ++ (t ∷ []) → told_by k new ≡ base ++ (if l == k then children_below rows l r else [])
walk_told rows l latch m r k t base old new w by same f g =
    step_told (l == k) base (told_by k old) (told_by k new) (children_below rows l m) (children_below rows l r) (child l m) w.told f
    (ap (told_by k) g ∙ (told_more k old t ∙ ap₂ (λ (n : ℕ) (e : Edge). told_by k old ++ (if n == k then e ∷ [] else [])) by same))

pub end_told : (rows : List Row) (l latch m k : ℕ) (es base : List Edge) → leads_at rows l ≡ Around latch → latch < m → m ≤ length rows → es ≡ base ++ (if l == k then children_below rows l m else [])
    → es ≡ base ++ (if l == k then children rows l else [])
end_told rows l latch m k es base e h le f = f ∙ ap (λ (xs : List Edge). base ++ (if l == k then xs else [])) (sym (last_children rows l latch m e h le))

pub none_told : (rows : List Row) (l k : ℕ) (es : List Edge) → IsFalse (is_around (leads_at rows l)) → es ≡ es ++ (if l == k then children rows l else [])
none_told rows l k es h =
    sym (ap (λ (xs : List Edge). es ++ (if l == k then xs else [])) (no_children rows l h) ∙ (ap (λ (xs : List Edge). es ++ xs) (if_same (l == k) []) ∙ append-nil es))

-- the children of the loops below n + 1 are told after those of loop n
pub one_more_told : (rows : List Row) (n k : ℕ) (old new : List Edge) → old ≡ (if nat_lt k n then children rows k else []) → new ≡ old ++ (if n == k then children rows n else [])
    → new ≡ (if nat_lt k (n + 1) then children rows k else [])
one_more_told rows n k old new e f =
    elim (cases_eq n k) [
      | inl same ↦
          let before : ltb k n ≡ false = le-ltb k n (omega (arith, same)) in
          let after : ltb k (n + 1) ≡ true = lt-ltb k (n + 1) (omega (arith, same)) in
          let none : old ≡ [] = e ∙ ap (λ t. if t then children rows k else []) before in
          let all : new ≡ children rows n = f ∙ (ap (λ t. old ++ (if t then children rows n else [])) (eq-eqb n k same) ∙ ap (λ xs. xs ++ children rows n) none) in
          rw after (all ∙ ap (children rows) same)
      | inr other ↦
          let all : new ≡ old = f ∙ (ap (λ t. old ++ (if t then children rows n else [])) (ne_eqb n k other) ∙ append-nil old) in
          all ∙ (e ∙ elim (cases_lt k n) [
            | inl l ↦
                let before : ltb k n ≡ true = lt-ltb k n l in
                let after : ltb k (n + 1) ≡ true = lt-ltb k (n + 1) (omega (arith, l)) in
                rw (before, after) refl
            | inr l ↦
                let before : ltb k n ≡ false = le-ltb k n l in
                let after : ltb k (n + 1) ≡ false = le-ltb k (n + 1) (omega (arith, l, other)) in
                rw (before, after) refl
          ])
    ]
