-- What a walk found, in order and without repeats, are the needs.
use Rattle.std.proofs.Common.{◌≡◌, ◌≢◌, ℕ, suc, ◌<◌, ◌==◌, Bool, true, false, not, ◌&&◌, ◌||◌, cond, ℤ, List, All, [], ◌∷◌, ◌++◌, length, filter, take, Contains, Result, Ok, Err, IfOk, refl, sym, ap, ap₂, ◌∙◌, subst, ◌⊎◌, inl, inr, arith}
use Rattle.std.specs.List.{AllPairs, list_any, range_with_len}
use Rattle.std.specs.List.Sorted.{IsStrictlyIncreasing}
use Rattle.std.proofs.lemmas.Bool.{eqb-true, eq-eqb}
use Rattle.std.proofs.lemmas.List.Elements.{All-contains, All-from_get_or, Contains-append_cases, Contains-append_left, Contains-append_right, filter_passes}
use Rattle.std.proofs.lemmas.List.FromFn.{get_or-range_with_len, length-range_with_len}
use Rattle.std.proofs.lemmas.List.Kept.{AllPairs-filter, AllPairs-from_increasing}
use Rattle.std.proofs.lemmas.Map.Made.{Contains-tail}
use Rattle.fd_base.specs.declared.numbers.FaultKind.{FaultKind}
use Rattle.fd_base.specs.Places.{Place, is_owner}
use Rattle.fd_base.specs.Shapes.{ordinal_of, size_of}
use Rattle.fd_prog.specs.Outcomes.{and_then}
use Rattle.fd_prog.specs.FormValues.{part_values}
use Rattle.fd_prog.specs.Stores.{shape_of}
use Rattle.fd_prog.specs.Items.{LinearItem}
use Rattle.fd_prog.specs.Needs.{Sight, all_iterations, executes_at, is_element, is_needed, needs, reads_in, visited}
use Rattle.inspector.specs.Walks.{HaveSameMembers, Visits, Walk, element_in, found_at, found_in, others_element}
use Rattle.inspector.proofs.Elements.{ordinal-inside}
use Rattle.inspector.proofs.SameMembers.{members_equal, members_along}

-- ---- lists that rise

-- each number is below all behind it
pub Rises : List ℕ → Type 0
Rises [] = Unit {0}
Rises (x ∷ xs) = ((y : ℕ) → Contains xs y → x < y) × Rises xs

rises_from : (xs : List ℕ) → AllPairs (λ x y. x < y) xs → Rises xs
unfolding Rises
rises_from [] h = tt
rises_from (x ∷ xs) h = (
  λ y k. subst (λ (z : ℕ). x < z) k.2 (h 0 (suc k.0) y (omega arith) (omega (arith, k.1))),
  rises_from xs (λ i j d l m. h (suc i) (suc j) d (omega (arith, l)) (omega (arith, m))),
)

no_member : (x : ℕ) → Contains [] x → ⊥
no_member x k = omega (arith, k.1)

first_member : (x : ℕ) (xs : List ℕ) → Contains (x ∷ xs) x
first_member x xs = (0, omega arith, refl)

later_member : (x y : ℕ) (xs : List ℕ) → Contains xs y → Contains (x ∷ xs) y
later_member x y xs k = (suc k.0, omega (arith, k.1), k.2)

-- lists that rise and have the same members are equal
same_lists : (xs ys : List ℕ) → Rises xs → Rises ys → ((x : ℕ) → Contains xs x → Contains ys x) → ((x : ℕ) → Contains ys x → Contains xs x) → xs ≡ ys
unfolding Rises
same_lists [] [] r s f g = refl
same_lists [] (y ∷ ys) r s f g = absurd (no_member y (g y (first_member y ys)))
same_lists (x ∷ xs) [] r s f g = absurd (no_member x (f x (first_member x xs)))
same_lists (x ∷ xs) (y ∷ ys) r s f g =
    let same : x ≡ y = firsts (x == y) refl in
    ap (λ z. z ∷ xs) same ∙ ap (λ zs. y ∷ zs) (same_lists xs ys r.1 s.1 (forth same) (back same))
  where
    firsts : (b : Bool) → (x == y) ≡ b → x ≡ y
    firsts true e = eqb-true x y e
    firsts false e =
        let xy : x ≢ y = λ (k : x ≡ y). absurd (cc (eq-eqb x y k, e)) in
        let left : y < x = s.0 x (Contains-tail y ys x (λ k. xy (sym k)) (f x (first_member x xs))) in
        let right : x < y = r.0 y (Contains-tail x xs y xy (g y (first_member y ys))) in
        absurd (omega arith)

    forth : x ≡ y → (z : ℕ) → Contains xs z → Contains ys z
    forth e z k = let above : x < z = r.0 z k in Contains-tail y ys z (λ w. omega arith) (f z (later_member x z xs k))

    back : x ≡ y → (z : ℕ) → Contains ys z → Contains xs z
    back e z k = let above : y < z = s.0 z k in Contains-tail x xs z (λ w. omega arith) (g z (later_member y z ys k))

-- ---- members of a filtered range

filter-has : (p : ℕ → Bool) (xs : List ℕ) (x : ℕ) → Contains xs x → p x ≡ true → Contains (filter p xs) x
filter-has p [] x k h = absurd (no_member x k)
filter-has p (y ∷ ys) x k h = by (y == x) refl (λ rest. filter-has p ys x rest h)
  where
    with_first : (b : Bool) → p y ≡ b → y ≡ x → Contains (cond b (y ∷ filter p ys) (filter p ys)) x
    with_first true e same = subst (λ (z : ℕ). Contains (y ∷ filter p ys) z) same (first_member y (filter p ys))
    with_first false e same = absurd (cc (e, ap p same, h))

    behind : (b : Bool) → Contains (filter p ys) x → Contains (cond b (y ∷ filter p ys) (filter p ys)) x
    behind true k = later_member y x (filter p ys) k
    behind false k = k

    by : (b : Bool) → (y == x) ≡ b → (Contains ys x → Contains (filter p ys) x) → Contains (filter p (y ∷ ys)) x
    by true e rest = with_first (p y) refl (eqb-true y x e)
    by false e rest = behind (p y) (rest (Contains-tail y ys x (λ same. absurd (cc (eq-eqb y x same, e))) k))

range-has : (n x : ℕ) → x < n → Contains (range_with_len 0 n) x
range-has n x h = (x, omega (arith, h, length-range_with_len 0 n), get_or-range_with_len 0 n x x h ∙ omega arith)

range-below : (n : ℕ) → All (λ y. y < n) (range_with_len 0 n)
range-below n = All-from_get_or (λ y. y < n) (range_with_len 0 n) 0 (λ i l. let m : i < n = omega (arith, l, length-range_with_len 0 n) in omega (arith, m, get_or-range_with_len 0 n i 0 m))

range-pairs : (n : ℕ) → AllPairs (λ x y. x < y) (range_with_len 0 n)
range-pairs n = λ i j d l m.
    let k : j < n = omega (arith, m, length-range_with_len 0 n) in
    omega (arith, l, get_or-range_with_len 0 n j d k, get_or-range_with_len 0 n i d (omega (arith, l, k)))

-- ---- members of what was found

at_has : (a b : Bool) (place : Place) (rank size e : ℕ) (r : Result ℕ FaultKind) → IfOk r (λ n. n < size) → Contains (cond (a && b) (others_element place rank r) []) e
    → ((a && (b && is_element e r)) ≡ true) × (is_owner place e rank ≡ false) × (e < size)
at_has true true place rank size e (Ok n) h k = by (is_owner place n rank) refl k
  where
    one : Contains (n ∷ []) e → n ≡ e
    one k = split (n == e) refl
      where
        split : (b : Bool) → (n == e) ≡ b → n ≡ e
        split true q = eqb-true n e q
        split false q = absurd (no_member e (Contains-tail n [] e (λ same. absurd (cc (eq-eqb n e same, q))) k))

    by : (o : Bool) → is_owner place n rank ≡ o → Contains (cond o [] (n ∷ [])) e → ((n == e) ≡ true) × (is_owner place e rank ≡ false) × (e < size)
    by true q k = absurd (no_member e k)
    by false q k = let same : n ≡ e = one k in (eq-eqb n e same, ap (λ m. is_owner place m rank) (sym same) ∙ q, omega (arith, h, same))
at_has true true place rank size e (Err f) h k = absurd (no_member e k)
at_has true false place rank size e r h k = absurd (no_member e k)
at_has false b place rank size e r h k = absurd (no_member e k)

at_from : (a b : Bool) (place : Place) (rank e : ℕ) (r : Result ℕ FaultKind) → (a && (b && is_element e r)) ≡ true → is_owner place e rank ≡ false → Contains (cond (a && b) (others_element place rank r) []) e
at_from true true place rank e (Ok n) h q =
    let same : n ≡ e = eqb-true n e h in
    let others : is_owner place n rank ≡ false = ap (λ m. is_owner place m rank) same ∙ q in
    rw others (subst (λ (m : ℕ). Contains (n ∷ []) m) same (first_member n []))
at_from true true place rank e (Err f) h q = absurd (cc)
at_from true false place rank e r h q = absurd (cc)
at_from false b place rank e r h q = absurd (cc)

inside : (s : Sight) (x : LinearItem) (vs : List ℤ) → IfOk (element_in s.readings vs x s.program) (λ n. n < size_of (shape_of s.program x.array))
inside s x vs = by (part_values s.readings vs x.subs)
  where
    by : (found : Result (List ℤ) FaultKind) → IfOk (and_then found (ordinal_of (shape_of s.program x.array))) (λ n. n < size_of (shape_of s.program x.array))
    by (Ok xs) = ordinal-inside (shape_of s.program x.array) xs (ordinal_of (shape_of s.program x.array) xs) refl
    by (Err k) = tt

or_left : (a b : Bool) → a ≡ true → (a || b) ≡ true
or_left true b h = refl
or_left false b h = absurd (cc)

or_right : (a b : Bool) → b ≡ true → (a || b) ≡ true
or_right true b h = refl
or_right false b h = h

or_one : (a b : Bool) → (a || b) ≡ true → (a ≡ true) ⊎ (b ≡ true)
or_one true b h = inl refl
or_one false b h = inr h

found_has : (s : Sight) (x : LinearItem) (rank e : ℕ) (its : List (List ℤ)) → Contains (found_in s x rank its) e
    → (list_any (reads_in s x rank e) its ≡ true) × (is_owner (s.array_place x.array) e rank ≡ false) × (e < size_of (shape_of s.program x.array))
found_has s x rank e [] k = absurd (no_member e k)
found_has s x rank e (vs ∷ its) k = by (Contains-append_cases (found_at s x rank vs) (found_in s x rank its) e k) (λ rest. found_has s x rank e its rest)
  where
    by : Contains (found_at s x rank vs) e ⊎ Contains (found_in s x rank its) e
        → (Contains (found_in s x rank its) e → (list_any (reads_in s x rank e) its ≡ true) × (is_owner (s.array_place x.array) e rank ≡ false) × (e < size_of (shape_of s.program x.array)))
        → (list_any (reads_in s x rank e) (vs ∷ its) ≡ true) × (is_owner (s.array_place x.array) e rank ≡ false) × (e < size_of (shape_of s.program x.array))
    by (inl here) rest =
        let at = at_has (length vs == length x.loops) (executes_at s vs x.home rank) (s.array_place x.array) rank (size_of (shape_of s.program x.array)) e (element_in s.readings vs x s.program) (inside s x vs) here in
        (or_left (reads_in s x rank e vs) (list_any (reads_in s x rank e) its) at.0, at.1, at.2)
    by (inr later) rest = let r = rest later in (or_right (reads_in s x rank e vs) (list_any (reads_in s x rank e) its) r.0, r.1, r.2)

found_from : (s : Sight) (x : LinearItem) (rank e : ℕ) (its : List (List ℤ)) → list_any (reads_in s x rank e) its ≡ true → is_owner (s.array_place x.array) e rank ≡ false → Contains (found_in s x rank its) e
found_from s x rank e [] h q = absurd (cc)
found_from s x rank e (vs ∷ its) h q = by (or_one (reads_in s x rank e vs) (list_any (reads_in s x rank e) its) h) (λ r. found_from s x rank e its r q)
  where
    by : (reads_in s x rank e vs ≡ true) ⊎ (list_any (reads_in s x rank e) its ≡ true) → (list_any (reads_in s x rank e) its ≡ true → Contains (found_in s x rank its) e) → Contains (found_at s x rank vs ++ found_in s x rank its) e
    by (inl here) rest =
        Contains-append_left (found_at s x rank vs) (found_in s x rank its) e
        (at_from (length vs == length x.loops) (executes_at s vs x.home rank) (s.array_place x.array) rank e (element_in s.readings vs x s.program) here q)
    by (inr later) rest = Contains-append_right (found_at s x rank vs) (found_in s x rank its) e (rest later)

-- ---- the needs

and_both : (a b : Bool) → not a ≡ true → b ≡ true → (not a && b) ≡ true
and_both true b h k = absurd (cc)
and_both false b h k = k

and_parts : (a b : Bool) → (not a && b) ≡ true → (a ≡ false) × (b ≡ true)
and_parts true b h = absurd (cc)
and_parts false b h = (refl, h)

needed_has : (s : Sight) (x : LinearItem) (rank limit e : ℕ) → Contains (found_in s x rank (visited s.readings x limit)) e → Contains (needs s x rank limit) e
needed_has s x rank limit e k =
    let h = found_has s x rank e (visited s.readings x limit) k in
    filter-has (is_needed s x rank limit) (range_with_len 0 (size_of (shape_of s.program x.array))) e (range-has (size_of (shape_of s.program x.array)) e h.2)
    (and_both (is_owner (s.array_place x.array) e rank) (list_any (reads_in s x rank e) (visited s.readings x limit)) (ap not h.1) h.0)

found_needed : (s : Sight) (x : LinearItem) (rank limit e : ℕ) → Contains (needs s x rank limit) e → Contains (found_in s x rank (visited s.readings x limit)) e
found_needed s x rank limit e k =
    let passes : is_needed s x rank limit e ≡ true = All-contains (λ y. is_needed s x rank limit y ≡ true) (needs s x rank limit) e (filter_passes (is_needed s x rank limit) (range_with_len 0 (size_of (shape_of s.program x.array)))) k in
    let h = and_parts (is_owner (s.array_place x.array) e rank) (list_any (reads_in s x rank e) (visited s.readings x limit)) passes in
    found_from s x rank e (visited s.readings x limit) h.1 h.0

-- a list that rises and has what was found is the needs
pub needs_are : (s : Sight) (x : LinearItem) (rank limit : ℕ) (es : List ℕ) → IsStrictlyIncreasing es → HaveSameMembers es (found_in s x rank (visited s.readings x limit)) → es ≡ needs s x rank limit
needs_are s x rank limit es rises same =
    same_lists es (needs s x rank limit) (rises_from es (AllPairs-from_increasing es rises))
    (rises_from (needs s x rank limit) (AllPairs-filter (λ a b. a < b) (is_needed s x rank limit) (range_with_len 0 (size_of (shape_of s.program x.array))) (range-pairs (size_of (shape_of s.program x.array)))))
    (λ e k. needed_has s x rank limit e (same.forth e k))
    (λ e k. same.back e (found_needed s x rank limit e k))

-- what a walk over all iterations found, in order and without repeats, is the needs
pub needs_found : (s : Sight) (x : LinearItem) (rank limit : ℕ) (before after : Walk) (es : List ℕ) → before.left ≡ limit → before.found ≡ [] → Visits s x rank (all_iterations s.readings x.loops) before after
    → IsStrictlyIncreasing es → HaveSameMembers es after.found → es ≡ needs s x rank limit
needs_found s x rank limit before after es e none v rises same =
    needs_are s x rank limit es rises
    (members_along es after.found (found_in s x rank (visited s.readings x limit)) same
    (members_along after.found (before.found ++ found_in s x rank (take before.left (all_iterations s.readings x.loops))) (found_in s x rank (visited s.readings x limit)) v.found
    (members_equal (before.found ++ found_in s x rank (take before.left (all_iterations s.readings x.loops))) (found_in s x rank (visited s.readings x limit))
    (ap₂ (λ xs n. xs ++ found_in s x rank (take n (all_iterations s.readings x.loops))) none e))))
