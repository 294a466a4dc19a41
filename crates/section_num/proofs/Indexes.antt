-- Elements of a list are found by an index of their places in an order.
use Rattle.std.proofs.Common.{◌≡◌, ℕ, zero, suc, ◌+◌, ◌<◌, ◌≤◌, Bool, true, false, cond, ltb, List, [], ◌∷◌, ◌++◌, length, get_or, Option, Some, None, refl, sym, ap, ◌∙◌, ◌⊎◌, inl, inr, arith}
use Rattle.std.specs.Cmp.{IsTotalOrder}
use Rattle.std.specs.List.{insert, position, position_or_len, slice_get}
use Rattle.std.specs.List.Sorted.{IsNonDecreasingBy, IsPartitionPoint}
use Rattle.std.specs.Ordering.{is_eq, ordering_index, ordering_reverse}
use Rattle.std.specs.declared.cmp.Ordering.{Ordering}
use Rattle.std.specs.declared.cmp.Ordering.TheVariants.{Less, Equal, Greater}
use Rattle.std.proofs.lemmas.Bool.{cases_lt, cases_order, lt-ltb, le-ltb}
use Rattle.std.proofs.lemmas.List.{length-append, get_or_append_left, get_or_default}
use Rattle.std.proofs.lemmas.List.Edits.{length-insert, get_or-insert_below, get_or-insert_at, get_or-insert_above}
use Rattle.std.proofs.lemmas.List.Sums.{position_or_len_is}
use Rattle.section_num.specs.Ordered.{AreBeside, IsOrderOf, stands}

-- ---- the first place that passes a test

pub position_is : {A : Type 0} (p : A → Bool) (xs : List A) (i : ℕ) (d : A) → i < length xs → ((k : ℕ) → k < i → p (get_or xs k d) ≡ false) → p (get_or xs i d) ≡ true → position p xs ≡ Some i
position_is p xs i d h before at =
    let e : position_or_len p xs ≡ i = position_or_len_is p xs i d (omega arith) before (λ _. at) in
    ap (λ k. cond (ltb k (length xs)) (Some k) None) e ∙ ap (λ b. cond b (Some i) None) (lt-ltb i (length xs) h)

pub position_none : {A : Type 0} (p : A → Bool) (xs : List A) (d : A) → ((k : ℕ) → k < length xs → p (get_or xs k d) ≡ false) → position p xs ≡ None
position_none p xs d before =
    let e : position_or_len p xs ≡ length xs = position_or_len_is p xs (length xs) d (omega arith) before (λ h. absurd (omega (arith, h))) in
    ap (λ k. cond (ltb k (length xs)) (Some k) None) e ∙ ap (λ b. cond b (Some (length xs)) None) (le-ltb (length xs) (length xs) (omega arith))

pub at_place : {A : Type 0} (xs : List A) (k : ℕ) (d : A) → k < length xs → slice_get xs k ≡ Some (get_or xs k d)
at_place [] k d h = absurd (omega arith)
at_place (x ∷ xs) zero d h = refl
at_place (x ∷ xs) (suc k) d h = at_place xs k d (omega arith)

-- ---- the order

-- what stands to an element stands so to one that is equal
right : {A : Type 0} {cmp : A → A → Ordering} → IsTotalOrder cmp → (a b x : A) → cmp a x ≡ Equal → cmp b x ≡ cmp b a
right {A} {cmp} o a b x e = o.antisymm b x ∙ (ap ordering_reverse (sym (o.congr a x b e)) ∙ sym (o.antisymm b a))

no_higher_by : {A : Type 0} {cmp : A → A → Ordering} → IsTotalOrder cmp → (a b x : A) → cmp a b ≡ Less → (r : Ordering) → cmp b x ≡ r → ordering_index (cmp a x) ≤ ordering_index r
no_higher_by o a b x h Less e = let less = ap ordering_index (o.trans a b x h e) in omega (arith, less)
no_higher_by o a b x h Equal e = let less = ap ordering_index (right o b a x e ∙ h) in omega (arith, less)
no_higher_by {A} {cmp} o a b x h Greater e = at_most (cmp a x)
  where
    at_most : (r : Ordering) → ordering_index r ≤ 2
    at_most Less = omega arith
    at_most Equal = omega arith
    at_most Greater = omega arith

-- how the element at a place of the index stands
stands_at : {A : Type 0} {cmp : A → A → Ordering} (places : List ℕ) (xs : List A) → IsOrderOf cmp places xs → (x : A) (i d : ℕ) → i < length places → stands cmp x (slice_get xs (get_or places i d)) ≡ cmp (get_or xs (get_or places i 0) x) x
stands_at {A} {cmp} places xs is x i d h =
    ap (λ k. stands cmp x (slice_get xs k)) (get_or_default places i d 0 h) ∙ ap (stands cmp x) (at_place xs (get_or places i 0) x (is.within i h))

-- the elements rise along the index
pub rises : {A : Type 0} {cmp : A → A → Ordering} → IsTotalOrder cmp → (places : List ℕ) (xs : List A) → IsOrderOf cmp places xs → (x : A) → IsNonDecreasingBy (λ k. ordering_index (stands cmp x (slice_get xs k))) places
rises {A} {cmp} o places xs is x i j d le lt =
    let left = ap ordering_index (stands_at places xs is x i d (omega arith)) in
    let back = ap ordering_index (stands_at places xs is x j d lt) in
    elim (cases_lt i j) [
      | inl less ↦ (let up = no_higher_by o (get_or xs (get_or places i 0) x) (get_or xs (get_or places j 0) x) x (is.rising i j x less lt) (cmp (get_or xs (get_or places j 0) x) x) refl in omega (arith, left, back, up))
      | inr more ↦ (let same : i ≡ j = omega arith in let one = ap (λ k. ordering_index (stands cmp x (slice_get xs (get_or places k d)))) same in omega (arith, one))
    ]

-- ---- what a search finds

-- the one that is equal is the first
pub found_place : {A : Type 0} {cmp : A → A → Ordering} → IsTotalOrder cmp → (places : List ℕ) (xs : List A) → IsOrderOf cmp places xs → (x : A) (at : ℕ) → at < length places
    → ((d : ℕ) → stands cmp x (slice_get xs (get_or places at d)) ≡ Equal) → position (λ a. is_eq (cmp a x)) xs ≡ Some (get_or places at 0)
found_place {A} {cmp} o places xs is x at h e =
    let place = get_or places at 0 in
    let same : cmp (get_or xs place x) x ≡ Equal = sym (stands_at places xs is x at 0 h) ∙ e 0 in
    position_is (λ a. is_eq (cmp a x)) xs place x (is.within at h) (λ k less. other k (omega (arith, less, is.within at h)) (λ f. omega (arith, less, f)) same (is.complete k (omega (arith, less, is.within at h)))) (ap is_eq same)
  where
    other : (k : ℕ) → k < length xs → (k ≡ get_or places at 0 → ⊥) → cmp (get_or xs (get_or places at 0) x) x ≡ Equal → (i : ℕ) × (i < length places) × (get_or places i 0 ≡ k) → is_eq (cmp (get_or xs k x) x) ≡ false
    other k inside differ same c =
        let here : get_or xs (get_or places c.0 0) x ≡ get_or xs k x = ap (λ j. get_or xs j x) c.2 in
        let turned : cmp (get_or xs k x) x ≡ cmp (get_or xs k x) (get_or xs (get_or places at 0) x) = right o (get_or xs (get_or places at 0) x) (get_or xs k x) x same in
        elim (cases_order c.0 at) [
          | inl one ↦ absurd (differ (sym c.2 ∙ ap (λ j. get_or places j 0) one))
          | inr (inl less) ↦ ap is_eq (turned ∙ (ap (λ a. cmp a (get_or xs (get_or places at 0) x)) (sym here) ∙ is.rising c.0 at x less h))
          | inr (inr more) ↦ ap is_eq (turned ∙ (ap (λ a. cmp a (get_or xs (get_or places at 0) x)) (sym here) ∙ (o.antisymm (get_or xs (get_or places c.0 0) x) (get_or xs (get_or places at 0) x) ∙ ap ordering_reverse (is.rising at c.0 x more c.1))))
        ]

pub beside : {A : Type 0} {cmp : A → A → Ordering} (places : List ℕ) (xs : List A) → IsOrderOf cmp places xs → (x : A) (at : ℕ)
    → IsPartitionPoint (λ k. stands cmp x (slice_get xs k) ≡ Less) (λ k. stands cmp x (slice_get xs k) ≡ Greater) places at → AreBeside cmp places xs x at
beside places xs is x at h =
    record {
      below = λ i less inside. sym (stands_at places xs is x i 0 inside) ∙ h.0 i 0 (omega arith) less;
      above = λ i le inside. sym (stands_at places xs is x i 0 inside) ∙ h.1 i 0 le inside;
    }

-- where all stand on one side, none is equal
pub none_place : {A : Type 0} {cmp : A → A → Ordering} (places : List ℕ) (xs : List A) → IsOrderOf cmp places xs → (x : A) (at : ℕ) → AreBeside cmp places xs x at → position (λ a. is_eq (cmp a x)) xs ≡ None
none_place {A} {cmp} places xs is x at sides = position_none (λ a. is_eq (cmp a x)) xs x (λ k inside. other k (is.complete k inside))
  where
    other : (k : ℕ) → (i : ℕ) × (i < length places) × (get_or places i 0 ≡ k) → is_eq (cmp (get_or xs k x) x) ≡ false
    other k c =
        let here : cmp (get_or xs k x) x ≡ cmp (get_or xs (get_or places c.0 0) x) x = ap (λ j. cmp (get_or xs j x) x) (sym c.2) in
        elim (cases_lt c.0 at) [ inl less ↦ ap is_eq (here ∙ sides.below c.0 less c.1) | inr le ↦ ap is_eq (here ∙ sides.above c.0 le c.1) ]

-- ---- one more element

-- an index of the longer index: one before the new place, the new place, or one behind it
data Spot (places : List ℕ) (at n i : ℕ) : Type 0 where
  Before : i < at → i < length places → get_or (insert places at n) i 0 ≡ get_or places i 0 → Spot places at n i
  Here : i ≡ at → get_or (insert places at n) i 0 ≡ n → Spot places at n i
  Behind : (k : ℕ) → i ≡ k + 1 → at ≤ k → k < length places → get_or (insert places at n) i 0 ≡ get_or places k 0 → Spot places at n i

spot : (places : List ℕ) (at n i : ℕ) → at ≤ length places → i < length places + 1 → Spot places at n i
spot places at n i h less = elim (cases_order i at) [
  | inl one ↦ Here one (ap (λ k. get_or (insert places at n) k 0) one ∙ get_or-insert_at places at n 0 h)
  | inr (inl before) ↦ Before before (omega arith) (get_or-insert_below places at n 0 i before h)
  | inr (inr behind) ↦ past i behind less
]
  where
    past : (j : ℕ) → at < j → j < length places + 1 → Spot places at n j
    past zero l m = absurd (omega arith)
    past (suc k) l m =
        let e : suc k ≡ k + 1 = omega arith in
        Behind k e (omega arith) (omega arith) (ap (λ q. get_or (insert places at n) q 0) e ∙ get_or-insert_above places at n 0 k (omega arith) h)

pushed_old : {A : Type 0} (xs : List A) (x d : A) (k : ℕ) → k < length xs → get_or (xs ++ x ∷ []) k d ≡ get_or xs k d
pushed_old xs x d k h = get_or_append_left xs (x ∷ []) d k h

pushed_new : {A : Type 0} (xs : List A) (x d : A) → get_or (xs ++ x ∷ []) (length xs) d ≡ x
pushed_new [] x d = refl
pushed_new (y ∷ ys) x d = pushed_new ys x d

pushed_length : {A : Type 0} (xs : List A) (x : A) → length (xs ++ x ∷ []) ≡ length xs + 1
pushed_length xs x = let e = length-append xs (x ∷ []) in omega (arith, e)

-- the new element's place is put where it belongs
pub inserted : {A : Type 0} {cmp : A → A → Ordering} → IsTotalOrder cmp → (places : List ℕ) (xs : List A) → IsOrderOf cmp places xs → (x : A) (at : ℕ) → at ≤ length places → AreBeside cmp places xs x at
    → IsOrderOf cmp (insert places at (length xs)) (xs ++ x ∷ [])
inserted {A} {cmp} o places xs is x at h sides =
    let n = length xs in
    let longer : length (insert places at n) ≡ length places + 1 = length-insert places at n h in
    let more : length (xs ++ x ∷ []) ≡ length xs + 1 = pushed_length xs x in
    record {
      within = λ i less. inside i (spot places at n i h (omega (arith, less, longer)));
      rising = λ i j d less lt. rise i j d less (spot places at n i h (omega (arith, less, lt, longer))) (spot places at n j h (omega (arith, lt, longer)));
      complete = λ k less. reached k (cases_lt k n) (omega (arith, less, more));
    }
  where
    n : ℕ
    n = length xs

    ys : List A
    ys = xs ++ x ∷ []

    inside : (i : ℕ) → Spot places at n i → get_or (insert places at n) i 0 < length ys
    inside i (Before b l e) = omega (arith, e, is.within i l, pushed_length xs x)
    inside i (Here one e) = omega (arith, e, pushed_length xs x)
    inside i (Behind k s le l e) = omega (arith, e, is.within k l, pushed_length xs x)

    old : (i k : ℕ) (d : A) → k < length places → get_or (insert places at n) i 0 ≡ get_or places k 0 → get_or ys (get_or (insert places at n) i 0) d ≡ get_or xs (get_or places k 0) x
    old i k d l e =
        ap (λ q. get_or ys q d) e ∙ (pushed_old xs x d (get_or places k 0) (is.within k l) ∙ get_or_default xs (get_or places k 0) d x (is.within k l))

    new : (i : ℕ) (d : A) → get_or (insert places at n) i 0 ≡ n → get_or ys (get_or (insert places at n) i 0) d ≡ x
    new i d e = ap (λ q. get_or ys q d) e ∙ pushed_new xs x d

    between : (a b c e : A) → a ≡ c → b ≡ e → cmp c e ≡ Less → cmp a b ≡ Less
    between a b c e f g l = ap (λ z. cmp z b) f ∙ (ap (cmp c) g ∙ l)

    rise : (i j : ℕ) (d : A) → i < j → Spot places at n i → Spot places at n j → cmp (get_or ys (get_or (insert places at n) i 0) d) (get_or ys (get_or (insert places at n) j 0) d) ≡ Less
    rise i j d less (Before b l e) (Before c m f) = between _ _ _ _ (old i i d l e) (old j j d m f) (is.rising i j x less m)
    rise i j d less (Before b l e) (Here one f) = between _ _ _ _ (old i i d l e) (new j d f) (sides.below i b l)
    rise i j d less (Before b l e) (Behind k s le m f) = between _ _ _ _ (old i i d l e) (old j k d m f) (is.rising i k x (omega arith) m)
    rise i j d less (Here one e) (Behind k s le m f) =
        between _ _ _ _ (new i d e) (old j k d m f) (o.antisymm x (get_or xs (get_or places k 0) x) ∙ ap ordering_reverse (sides.above k le m))
    rise i j d less (Behind k s le l e) (Behind q t lf m f) = between _ _ _ _ (old i k d l e) (old j q d m f) (is.rising k q x (omega arith) m)
    rise i j d less (Here one e) (Before c m f) = absurd (omega arith)
    rise i j d less (Here one e) (Here two f) = absurd (omega arith)
    rise i j d less (Behind k s le l e) (Before c m f) = absurd (omega arith)
    rise i j d less (Behind k s le l e) (Here two f) = absurd (omega arith)

    reached : (k : ℕ) → (k < n) ⊎ (n ≤ k) → k < n + 1 → (i : ℕ) × (i < length (insert places at n)) × (get_or (insert places at n) i 0 ≡ k)
    reached k (inr le) less = (at, omega (arith, length-insert places at n h), get_or-insert_at places at n 0 h ∙ omega arith)
    reached k (inl lt) less = moved k (is.complete k lt)
      where
        moved : (k : ℕ) → (i : ℕ) × (i < length places) × (get_or places i 0 ≡ k) → (i : ℕ) × (i < length (insert places at n)) × (get_or (insert places at n) i 0 ≡ k)
        moved k c = elim (cases_lt c.0 at) [
          | inl before ↦ (c.0, omega (arith, c.1, length-insert places at n h), get_or-insert_below places at n 0 c.0 before h ∙ c.2)
          | inr behind ↦ (c.0 + 1, omega (arith, c.1, length-insert places at n h), get_or-insert_above places at n 0 c.0 behind h ∙ c.2)
        ]

pub none_yet : {A : Type 0} (cmp : A → A → Ordering) → IsOrderOf cmp [] []
none_yet cmp = record { within = λ i h. absurd (omega arith); rising = λ i j d h l. absurd (omega arith); complete = λ k h. absurd (omega arith) }
