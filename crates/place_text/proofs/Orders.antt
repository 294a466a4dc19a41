-- A stable sort gives the one list that stands in order and keeps the order of ties.
use Rattle.std.proofs.Common.{◌≡◌, suc, ◌+◌, Bool, true, false, not, ◌&&◌, cond, List, [], ◌∷◌, get_or, All, filter, refl, sym, ◌∙◌, ap, subst, arith}
use Rattle.std.specs.Cmp.{IsStrictWeakOrder}
use Rattle.std.specs.Cmp.Lexicographic.{slice_cmp, nat_list_cmp_total}
use Rattle.std.specs.List.Sorted.{IsSortedBy, ties}
use Rattle.std.specs.Ordering.{is_lt, is_le, nat_cmp, ordering_reverse}
use Rattle.std.specs.declared.cmp.Ordering.{Ordering}
use Rattle.std.specs.declared.cmp.Ordering.TheVariants.{Less, Equal, Greater}
use Rattle.std.proofs.lemmas.Bool.{false≢true}
use Rattle.std.proofs.lemmas.List.Elements.{All-nil, All-cons, All-head, All-tail, All-filter, All-same, All-weaker}
use Rattle.std.proofs.lemmas.List.Sorted.{ranks_by, sorted_far}
use Rattle.place_text.specs.declared.sum.PrintedTerm.{PrintedTerm}
use Rattle.place_text.specs.Sums.{comes_first, placed, in_byte_order}

-- no element stands behind one that is above it
abbrev Ascends : {X : Type 0} (lt : X → X → Bool) → List X → Type 0
Ascends lt [] = Unit {0}
Ascends lt (x ∷ xs) = All (λ y. lt y x ≡ false) xs × Ascends lt xs

-- ---- from places to elements

first_least : {X : Type 0} (lt : X → X → Bool) → IsStrictWeakOrder lt → (x : X) (xs : List X) → IsSortedBy lt (x ∷ xs) → All (λ y. lt y x ≡ false) xs
first_least lt o x xs up k d h = sorted_far lt o (x ∷ xs) up 0 (suc k) d (omega arith) (omega arith)

tail_sorted : {X : Type 0} (lt : X → X → Bool) → (x : X) (xs : List X) → IsSortedBy lt (x ∷ xs) → IsSortedBy lt xs
tail_sorted lt x xs up k d low h =
    let e : suc k + 1 ≡ suc (k + 1) = omega arith in
    subst (λ n. lt (get_or (x ∷ xs) n d) (get_or xs k d) ≡ false) e (up (suc k) d (omega arith) (omega arith))

ascends : {X : Type 0} (lt : X → X → Bool) → IsStrictWeakOrder lt → (xs : List X) → IsSortedBy lt xs → Ascends lt xs
ascends lt o [] up = tt
ascends lt o (x ∷ xs) up = (first_least lt o x xs up, ascends lt o xs (tail_sorted lt x xs up))

-- ---- tests

not_true : (b : Bool) → not b ≡ true → b ≡ false
not_true true e = absurd (false≢true e)
not_true false e = refl

not_false : (b : Bool) → not b ≡ false → b ≡ true
not_false true e = refl
not_false false e = absurd (false≢true (sym e))

both_not : (a b : Bool) → not a && not b ≡ true → (a ≡ false) × (b ≡ false)
both_not true b e = absurd (false≢true e)
both_not false true e = absurd (false≢true e)
both_not false false e = (refl, refl)

no_tie : (a b : Bool) → not a && not b ≡ false → a ≡ false → b ≡ false → ⊥
no_tie true b e f g = false≢true (sym f)
no_tie false true e f g = false≢true (sym g)
no_tie false false e f g = false≢true (sym e)

and_swap : (a b : Bool) → a && b ≡ b && a
and_swap true true = refl
and_swap true false = refl
and_swap false true = refl
and_swap false false = refl

never_true : (b : Bool) → (b ≡ true → b ≡ false) → b ≡ false
never_true true h = h refl
never_true false h = refl

ties_itself : {X : Type 0} (lt : X → X → Bool) → IsStrictWeakOrder lt → (x : X) → ties lt x x ≡ true
ties_itself lt o x = ap (λ (b : Bool). not b && not b) (never_true (lt x x) (o.one_way x x))

ties_swap : {X : Type 0} (lt : X → X → Bool) → (x y : X) → ties lt x y ≡ ties lt y x
ties_swap lt x y = and_swap (not (lt x y)) (not (lt y x))

-- ---- one list

passing : {X : Type 0} (q : X → Bool) (x : X) (xs : List X) → q x ≡ true → filter q (x ∷ xs) ≡ x ∷ filter q xs
passing q x xs e = ap (λ (b : Bool). cond b (x ∷ filter q xs) (filter q xs)) e

failing : {X : Type 0} (q : X → Bool) (x : X) (xs : List X) → q x ≡ false → filter q (x ∷ xs) ≡ filter q xs
failing q x xs e = ap (λ (b : Bool). cond b (x ∷ filter q xs) (filter q xs)) e

first_is : {X : Type 0} (y x : X) (ys xs : List X) → y ∷ ys ≡ x ∷ xs → y ≡ x
first_is {X} y x ys xs e = ap (λ (zs : List X). get_or zs 0 x) e

no_first : {X : Type 0} (x : X) (xs : List X) → x ∷ xs ≡ [] → ⊥
no_first x xs e = cc

behind_first : {X : Type 0} → List X → List X
behind_first [] = []
behind_first (x ∷ xs) = xs

rest_is : {X : Type 0} (b : Bool) (x : X) (ys xs : List X) → cond b (x ∷ ys) ys ≡ cond b (x ∷ xs) xs → ys ≡ xs
unfolding behind_first
rest_is true x ys xs e = ap behind_first e
rest_is false x ys xs e = e

-- what holds of all elements holds of the first that passes a test
first_passing : {X : Type 0} (P : X → Type 0) (q : X → Bool) (ys : List X) (x : X) (xs : List X) → filter q ys ≡ x ∷ xs → All P ys → P x
first_passing P q ys x xs e all = All-head P x xs (All-same P (x ∷ xs) (filter q ys) (sym e) (All-filter q P ys all))

-- where the ties of both first elements are the same, these are one
firsts_are_one : {X : Type 0} (lt : X → X → Bool) → IsStrictWeakOrder lt → (x : X) (xs : List X) (y : X) (ys : List X) → All (λ z. lt z x ≡ false) xs → All (λ z. lt z y ≡ false) ys
    → ((z : X) → filter (ties lt z) (y ∷ ys) ≡ filter (ties lt z) (x ∷ xs)) → y ≡ x
firsts_are_one {X} lt o x xs y ys least_x least_y h =
    let at_x : cond (ties lt x y) (y ∷ filter (ties lt x) ys) (filter (ties lt x) ys) ≡ x ∷ filter (ties lt x) xs = h x ∙ passing (ties lt x) x xs (ties_itself lt o x) in
    let at_y : cond (ties lt y x) (x ∷ filter (ties lt y) xs) (filter (ties lt y) xs) ≡ y ∷ filter (ties lt y) ys = sym (h y) ∙ passing (ties lt y) y ys (ties_itself lt o y) in
    elim (ties lt x y) as (λ b. ties lt x y ≡ b → y ≡ x) [
      | true ↦ λ e. first_is y x (filter (ties lt x) ys) (filter (ties lt x) xs) (sym (passing (ties lt x) y ys e) ∙ at_x)
      | false ↦ λ e.
          let not_x : lt x y ≡ false = first_passing (λ z. lt z y ≡ false) (ties lt x) ys x (filter (ties lt x) xs) (sym (failing (ties lt x) y ys e) ∙ at_x) least_y in
          let not_y : lt y x ≡ false = first_passing (λ z. lt z x ≡ false) (ties lt y) xs y (filter (ties lt y) ys) (sym (failing (ties lt y) x xs (sym (ties_swap lt x y) ∙ e)) ∙ at_y) least_x in
          absurd (no_tie (lt x y) (lt y x) e not_x not_y)
    ] refl

-- the rest has the same ties
rests_tie : {X : Type 0} (lt : X → X → Bool) (x : X) (xs ys : List X) → ((z : X) → filter (ties lt z) (x ∷ ys) ≡ filter (ties lt z) (x ∷ xs)) → (z : X) → filter (ties lt z) ys ≡ filter (ties lt z) xs
rests_tie lt x xs ys h z = rest_is (ties lt z x) x (filter (ties lt z) ys) (filter (ties lt z) xs) (h z)

one_order : {X : Type 0} (lt : X → X → Bool) → IsStrictWeakOrder lt → (xs ys : List X) → Ascends lt xs → Ascends lt ys → ((z : X) → filter (ties lt z) ys ≡ filter (ties lt z) xs) → ys ≡ xs
one_order lt o [] [] up_x up_y h = refl
one_order lt o [] (y ∷ ys) up_x up_y h = absurd (no_first y (filter (ties lt y) ys) (sym (passing (ties lt y) y ys (ties_itself lt o y)) ∙ h y))
one_order lt o (x ∷ xs) [] up_x up_y h = absurd (no_first x (filter (ties lt x) xs) (sym (passing (ties lt x) x xs (ties_itself lt o x)) ∙ sym (h x)))
one_order {X} lt o (x ∷ xs) (y ∷ ys) up_x up_y h =
    let e = firsts_are_one lt o x xs y ys up_x.0 up_y.0 h in
    let same = subst (λ (w : X). (z : X) → filter (ties lt z) (w ∷ ys) ≡ filter (ties lt z) (x ∷ xs)) e h in
    let rest = one_order lt o xs ys up_x.1 up_y.1 (rests_tie lt x xs ys same) in
    λ i. e i ∷ rest i

-- ---- placing one after the other

-- a test by which terms are placed
abbrev Places : (PrintedTerm → PrintedTerm → Bool) → Type 0
Places lt = (t u : PrintedTerm) → comes_first t u ≡ not (lt u t)

placed_all : (P : PrintedTerm → Type 0) (t : PrintedTerm) (us : List PrintedTerm) → P t → All P us → All P (placed t us)
placed_all P t [] h all = All-cons P t [] h all
placed_all P t (u ∷ us) h all =
    elim (comes_first t u) as (λ b. All P (cond b (t ∷ u ∷ us) (u ∷ placed t us))) [
      | true ↦ All-cons P t (u ∷ us) h all
      | false ↦ All-cons P u (placed t us) (All-head P u us all) (placed_all P t us h (All-tail P u us all))
    ]

placed_ascends : (lt : PrintedTerm → PrintedTerm → Bool) → IsStrictWeakOrder lt → Places lt → (t : PrintedTerm) (us : List PrintedTerm) → Ascends lt us → Ascends lt (placed t us)
placed_ascends lt o by t [] up = (All-nil (λ y. lt y t ≡ false), tt)
placed_ascends lt o by t (u ∷ us) up =
    elim (comes_first t u) as (λ b. comes_first t u ≡ b → Ascends lt (cond b (t ∷ u ∷ us) (u ∷ placed t us))) [
      | true ↦ λ e.
          let f : lt u t ≡ false = not_true (lt u t) (sym (by t u) ∙ e) in
          (All-cons (λ y. lt y t ≡ false) u us f (All-weaker (λ y. lt y u ≡ false) (λ y. lt y t ≡ false) (λ y g. o.chain y u t g f) us up.0), up)
      | false ↦ λ e.
          let f : lt u t ≡ true = not_false (lt u t) (sym (by t u) ∙ e) in
          (placed_all (λ y. lt y u ≡ false) t us (o.one_way u t f) up.0, placed_ascends lt o by t us up.1)
    ] refl

-- an element goes past one that is left in no list, or that stands alone there
swapped : (a b : Bool) (t u : PrintedTerm) (ts us : List PrintedTerm) → (a ≡ true → b ≡ true → ⊥) → us ≡ cond b (t ∷ ts) ts → cond a (u ∷ us) us ≡ cond b (t ∷ cond a (u ∷ ts) ts) (cond a (u ∷ ts) ts)
swapped true true t u ts us apart e = absurd (apart refl refl)
swapped true false t u ts us apart e = ap (λ (vs : List PrintedTerm). u ∷ vs) e
swapped false b t u ts us apart e = e

-- two that tie with a third don't stand above one another
both_tie : (lt : PrintedTerm → PrintedTerm → Bool) → IsStrictWeakOrder lt → (z t u : PrintedTerm) → lt u t ≡ true → ties lt z u ≡ true → ties lt z t ≡ true → ⊥
both_tie lt o z t u f at_u at_t =
    let above = (both_not (lt z u) (lt u z) at_u).1 in
    let below = (both_not (lt z t) (lt t z) at_t).0 in
    false≢true (sym (o.chain u z t above below) ∙ f)

placed_ties : (lt : PrintedTerm → PrintedTerm → Bool) → IsStrictWeakOrder lt → Places lt → (z t : PrintedTerm) (us : List PrintedTerm) → filter (ties lt z) (placed t us) ≡ filter (ties lt z) (t ∷ us)
placed_ties lt o by z t [] = refl
placed_ties lt o by z t (u ∷ us) =
    elim (comes_first t u) as (λ b. comes_first t u ≡ b → filter (ties lt z) (cond b (t ∷ u ∷ us) (u ∷ placed t us)) ≡ filter (ties lt z) (t ∷ u ∷ us)) [
      | true ↦ λ e. refl
      | false ↦ λ e.
          let f : lt u t ≡ true = not_false (lt u t) (sym (by t u) ∙ e) in
          swapped (ties lt z u) (ties lt z t) t u (filter (ties lt z) us) (filter (ties lt z) (placed t us)) (both_tie lt o z t u f) (placed_ties lt o by z t us)
    ] refl

order_ascends : (lt : PrintedTerm → PrintedTerm → Bool) → IsStrictWeakOrder lt → Places lt → (ts : List PrintedTerm) → Ascends lt (in_byte_order ts)
order_ascends lt o by [] = tt
order_ascends lt o by (t ∷ ts) = placed_ascends lt o by t (in_byte_order ts) (order_ascends lt o by ts)

order_ties : (lt : PrintedTerm → PrintedTerm → Bool) → IsStrictWeakOrder lt → Places lt → (z : PrintedTerm) (ts : List PrintedTerm) → filter (ties lt z) (in_byte_order ts) ≡ filter (ties lt z) ts
order_ties lt o by z [] = refl
order_ties lt o by z (t ∷ ts) =
    placed_ties lt o by z t (in_byte_order ts) ∙ ap (λ (us : List PrintedTerm). cond (ties lt z t) (t ∷ us) us) (order_ties lt o by z ts)

-- the text of one atom comes before that of another
abbrev pub is_before : PrintedTerm → PrintedTerm → Bool
is_before t u = is_lt (slice_cmp nat_cmp t.atom u.atom)

pub before_is_order : IsStrictWeakOrder is_before
before_is_order = ranks_by nat_list_cmp_total (λ (t : PrintedTerm). t.atom)

not_above_reverse : (s : Ordering) → is_le (ordering_reverse s) ≡ not (is_lt s)
not_above_reverse Less = refl
not_above_reverse Equal = refl
not_above_reverse Greater = refl

not_above : (r s : Ordering) → r ≡ ordering_reverse s → is_le r ≡ not (is_lt s)
not_above r s e = ap is_le e ∙ not_above_reverse s

placed_by_before : Places is_before
placed_by_before t u = not_above _ _ (nat_list_cmp_total.antisymm t.atom u.atom)

-- a stable sort of terms by their atoms' texts
pub sorted_is : (ts us : List PrintedTerm) → IsSortedBy is_before us → ((z : PrintedTerm) → filter (ties is_before z) us ≡ filter (ties is_before z) ts) → us ≡ in_byte_order ts
sorted_is ts us up stable =
    one_order is_before before_is_order (in_byte_order ts) us (order_ascends is_before before_is_order placed_by_before ts) (ascends is_before before_is_order us up)
    (λ z. stable z ∙ sym (order_ties is_before before_is_order placed_by_before z ts))
