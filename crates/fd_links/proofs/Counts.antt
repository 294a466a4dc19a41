-- How often slots stand in rings, before and after one is moved.
use Rattle.std.proofs.Common.{◌≡◌, ℕ, ◌+◌, ◌<◌, ◌==◌, true, cond, eqb, List, [], ◌∷◌, ◌++◌, length, get_or, map, set, count_by, refl, sym, ap, ap₂, ◌∙◌, arith, inl, inr}
use Rattle.std.specs.Prelude.{sum_by}
use Rattle.std.proofs.lemmas.Bool.{cases_Bool, eqb-true, eq-eqb, ne_eqb}
use Rattle.std.proofs.lemmas.List.{length-append, length-map, get_or-map}
use Rattle.std.proofs.lemmas.List.Sums.{sum_by-cons, sum_by-append, sum_by-set}
use Rattle.fd_links.specs.Chains.{without}
use Rattle.fd_links.proofs.Paths.{without_self, without_other}

-- how often a number stands in a list
abbrev pub times : ℕ → List ℕ → ℕ
times i xs = count_by (λ other. other == i) xs

pub times-cons : (i x : ℕ) (xs : List ℕ) → times i (x ∷ xs) ≡ cond (eqb x i) 1 0 + times i xs
times-cons i x xs = sum_by-cons (λ other. cond (eqb other i) 1 0) x xs

pub times-without_self : (s : ℕ) (xs : List ℕ) → times s (without s xs) ≡ 0
times-without_self s [] = refl
times-without_self s (x ∷ xs) =
    elim (cases_Bool (eqb x s)) [
      | inl e ↦ rw (without_self s x xs e) (times-without_self s xs)
      | inr e ↦ rw (without_other s x xs e) (times-cons s x (without s xs) ∙ rw e (omega (arith, times-without_self s xs)))
    ]

pub times-without_other : (i s : ℕ) (xs : List ℕ) → (s ≡ i → ⊥) → times i (without s xs) ≡ times i xs
times-without_other i s [] n = refl
times-without_other i s (x ∷ xs) n =
    elim (cases_Bool (eqb x s)) [
      | inl e ↦ rw (without_self s x xs e) (times-without_other i s xs n ∙ sym (times-cons i x xs ∙ rw (ne_eqb x i (λ q. n (sym (eqb-true x s e) ∙ q))) (omega arith)))
      | inr e ↦ rw (without_other s x xs e) (times-cons i x (without s xs) ∙ (ap (λ m. cond (eqb x i) 1 0 + m) (times-without_other i s xs n) ∙ sym (times-cons i x xs)))
    ]

pub length-without : (s : ℕ) (xs : List ℕ) → length (without s xs) + times s xs ≡ length xs
length-without s [] = refl
length-without s (x ∷ xs) =
    elim (cases_Bool (eqb x s)) [
      | inl e ↦ rw (without_self s x xs e, times-cons s x xs, e) (omega (arith, length-without s xs))
      | inr e ↦ rw (without_other s x xs e, times-cons s x xs, e) (omega (arith, length-without s xs))
    ]

one_more : (s x : ℕ) (xs : List ℕ) → eqb x s ≡ true → times s (x ∷ xs) ≡ 0 → ⊥
one_more s x xs e h = let c : times s (x ∷ xs) ≡ 1 + times s xs = times-cons s x xs ∙ rw e refl in omega (arith, c, h)

-- a list without a number is itself where the number isn't in it
pub without_none : (s : ℕ) (xs : List ℕ) → times s xs ≡ 0 → without s xs ≡ xs
without_none s [] h = refl
without_none s (x ∷ xs) h =
    elim (cases_Bool (eqb x s)) [
      | inl e ↦ absurd (one_more s x xs e h)
      | inr e ↦ rw (without_other s x xs e) (ap (λ ys. x ∷ ys) (without_none s xs (omega (arith, h, times-cons s x xs))))
    ]

-- ---- sums over rings

-- the rings with s moved to the end of ring t
abbrev pub moved_rings : List (List ℕ) → ℕ → ℕ → List (List ℕ)
moved_rings rings s t = set (map (without s) rings) t (without s (get_or rings t []) ++ s ∷ [])

sum_map : (f g : List ℕ → ℕ) (s : ℕ) → ((xs : List ℕ) → f (without s xs) ≡ g xs) → (rings : List (List ℕ)) → sum_by f (map (without s) rings) ≡ sum_by g rings
sum_map f g s h [] = refl
sum_map f g s h (r ∷ rings) =
    sum_by-cons f (without s r) (map (without s) rings) ∙ (ap₂ (λ a b. a + b) (h r) (sum_map f g s h rings) ∙ sym (sum_by-cons g r rings))

-- the front and the end of a list
pub times-append : (i : ℕ) (xs ys : List ℕ) → times i (xs ++ ys) ≡ times i xs + times i ys
times-append i xs ys = sum_by-append (λ other. cond (eqb other i) 1 0) xs ys

lengths-without : (s : ℕ) (rings : List (List ℕ)) → sum_by length (map (without s) rings) + sum_by (times s) rings ≡ sum_by length rings
lengths-without s [] = refl
lengths-without s (r ∷ rings) =
    omega (arith, sum_by-cons length (without s r) (map (without s) rings), sum_by-cons (times s) r rings, sum_by-cons length r rings, lengths-without s rings, length-without s r)

all_zero : (f : List ℕ → ℕ) → ((xs : List ℕ) → f xs ≡ 0) → (rings : List (List ℕ)) → sum_by f rings ≡ 0
all_zero f h [] = refl
all_zero f h (r ∷ rings) = omega (arith, sum_by-cons f r rings, h r, all_zero f h rings)

-- a sum over the rings after the move, of which the moved slot adds `one` to the ring that it comes to
sum_moved : (f : List ℕ → ℕ) (one s t : ℕ) (rings : List (List ℕ)) → ((xs : List ℕ) → f (xs ++ s ∷ []) ≡ f xs + one) → t < length rings → sum_by f (moved_rings rings s t) ≡ sum_by f (map (without s) rings) + one
sum_moved f one s t rings h l =
    let long : t < length (map (without s) rings) = omega (arith, l, length-map rings (without s)) in
    let old : get_or (map (without s) rings) t [] ≡ without s (get_or rings t []) = get_or-map (without s) rings t [] [] l in
    omega (arith, sum_by-set f (map (without s) rings) t (without s (get_or rings t []) ++ s ∷ []) [] long, ap f old, h (without s (get_or rings t [])))

pub total-moved : (s t : ℕ) (rings : List (List ℕ)) → sum_by (times s) rings ≡ 1 → t < length rings → sum_by length (moved_rings rings s t) ≡ sum_by length rings
total-moved s t rings once l =
    omega (arith, once, lengths-without s rings, sum_moved length 1 s t rings (λ xs. length-append xs (s ∷ [])) l)

pub once-moved_self : (s t : ℕ) (rings : List (List ℕ)) → t < length rings → sum_by (times s) (moved_rings rings s t) ≡ 1
once-moved_self s t rings l =
    let one : times s (s ∷ []) ≡ 1 = times-cons s s [] ∙ rw (eq-eqb s s refl) refl in
    omega (arith, sum_moved (times s) 1 s t rings (λ xs. times-append s xs (s ∷ []) ∙ ap (λ m. times s xs + m) one) l, sum_map (times s) (λ xs. 0) s (times-without_self s) rings, all_zero (λ xs. 0) (λ xs. refl) rings)

pub once-moved_other : (i s t : ℕ) (rings : List (List ℕ)) → (s ≡ i → ⊥) → t < length rings → sum_by (times i) (moved_rings rings s t) ≡ sum_by (times i) rings
once-moved_other i s t rings n l =
    let none : times i (s ∷ []) ≡ 0 = times-cons i s [] ∙ rw (ne_eqb s i n) refl in
    omega (arith, sum_moved (times i) 0 s t rings (λ xs. times-append i xs (s ∷ []) ∙ ap (λ m. times i xs + m) none) l, sum_map (times i) (times i) s (λ xs. times-without_other i s xs n) rings)
