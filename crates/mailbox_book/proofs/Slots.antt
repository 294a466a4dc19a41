-- Each slot stands in one chain, once, and there is no other.
use Rattle.std.proofs.Common.{◌≡◌, ◌≢◌, ℕ, zero, suc, ◌+◌, ◌<◌, ◌≤◌, Bool, true, false, cond, eqb, ltb, List, [], ◌∷◌, length, get_or, count_by, Contains, slice_index_or, refl, sym, ap, ◌∙◌, arith, inl, inr}
use Rattle.std.specs.List.{flat_map}
use Rattle.std.proofs.lemmas.Bool.{cases_Bool, eq-eqb, ltb-true}
use Rattle.std.proofs.lemmas.Bool.Decides.{nat_tests}
use Rattle.std.proofs.lemmas.List.Sums.{sum_by-cons}
use Rattle.fd_links.specs.Chains.{Chains, HasSlots, slots_of}
use Rattle.fd_links.proofs.Counts.{times, times-cons, times-append}

pub one_for : (b : Bool) → b ≡ true → cond b 1 0 ≡ suc zero
one_for true e = refl
one_for false e = absurd (cc)

pub none_for : (b : Bool) → b ≡ false → cond b 1 0 ≡ zero
none_for true e = absurd (cc)
none_for false e = refl

-- how many are below a number
abbrev pub below : ℕ → List ℕ → ℕ
below n xs = count_by (λ x. ltb x n) xs

below-cons : (n x : ℕ) (xs : List ℕ) → below n (x ∷ xs) ≡ cond (ltb x n) 1 0 + below n xs
below-cons n x xs = sum_by-cons (λ y. cond (ltb y n) 1 0) x xs

one_below : (n x : ℕ) → cond (ltb x (suc n)) 1 0 ≡ cond (eqb x n) 1 0 + cond (ltb x n) 1 0
one_below n x = grind (arith, nat_tests)

below-suc : (n : ℕ) (xs : List ℕ) → below (suc n) xs ≡ times n xs + below n xs
below-suc n [] = refl
below-suc n (x ∷ xs) =
    omega (arith, below-cons (suc n) x xs, below-cons n x xs, times-cons n x xs, one_below n x, below-suc n xs)

none_below : (xs : List ℕ) → below zero xs ≡ 0
none_below [] = refl
none_below (x ∷ xs) = below-cons zero x xs ∙ rw (at_zero x) (omega (arith, none_below xs))
  where
    at_zero : (x : ℕ) → ltb x zero ≡ false
    at_zero x = grind (arith, nat_tests)

below_all : (n : ℕ) (xs : List ℕ) → ((i : ℕ) → i < n → times i xs ≡ 1) → below n xs ≡ n
below_all zero xs h = none_below xs
below_all (suc n) xs h = omega (arith, below-suc n xs, h n (omega arith), below_all n xs (λ i l. h i (omega (arith, l))))

no_more : (n : ℕ) (xs : List ℕ) → below n xs ≤ length xs
no_more n [] = omega arith
no_more n (x ∷ xs) = elim (cases_Bool (ltb x n)) [
  | inl e ↦ omega (arith, below-cons n x xs, one_for (ltb x n) e, no_more n xs)
  | inr e ↦ omega (arith, below-cons n x xs, none_for (ltb x n) e, no_more n xs)
]

-- where all are below a number, each is
each_below : (n : ℕ) (xs : List ℕ) (k x : ℕ) → below n xs ≡ length xs → k < length xs → slice_index_or xs k x ≡ x → x < n
each_below n [] k x e l h = absurd (omega (arith, l))
each_below n (y ∷ ys) zero x e l h = elim (cases_Bool (ltb y n)) [
  | inl b ↦ omega (arith, ltb-true y n b, h)
  | inr b ↦ absurd (omega (arith, below-cons n y ys, none_for (ltb y n) b, no_more n ys, e))
]
each_below n (y ∷ ys) (suc k) x e l h = each_below n ys k x rest (omega (arith, l)) h
  where
    step : (b : Bool) → ltb y n ≡ b → below n ys ≡ length ys
    step true b = omega (arith, below-cons n y ys, one_for (ltb y n) b, e)
    step false b = absurd (omega (arith, below-cons n y ys, none_for (ltb y n) b, no_more n ys, e))

    rest : below n ys ≡ length ys
    rest = step (ltb y n) refl

-- what stands in a chain has a number below that of the slots
pub slot_below : (c : Chains) (n slot : ℕ) → HasSlots c n → Contains (slots_of c) slot → slot < n
slot_below c n slot h k = each_below n (slots_of c) k.0 slot (below_all n (slots_of c) h.1 ∙ sym h.0) k.1 k.2

-- ---- how often

pub Contains-times : (xs : List ℕ) (x k : ℕ) → k < length xs → slice_index_or xs k x ≡ x → 1 ≤ times x xs
Contains-times [] x k l h = absurd (omega (arith, l))
Contains-times (y ∷ ys) x zero l h =
    let c : times x (y ∷ ys) ≡ 1 + times x ys = times-cons x y ys ∙ rw (eq-eqb y x h) refl in omega (arith, c)
Contains-times (y ∷ ys) x (suc k) l h = omega (arith, times-cons x y ys, Contains-times ys x k (omega (arith, l)) h)

-- how often in one chain and in another
pub one_chain : (s : ℕ) (chains : List (List ℕ)) (i : ℕ) → times s (get_or chains i []) ≤ times s (flat_map (λ chain. chain) chains)
one_chain s [] i = omega arith
one_chain s (c ∷ cs) zero = omega (arith, times-append s c (flat_map (λ chain. chain) cs))
one_chain s (c ∷ cs) (suc i) = omega (arith, times-append s c (flat_map (λ chain. chain) cs), one_chain s cs i)

pub two_chains : (s : ℕ) (chains : List (List ℕ)) (i k : ℕ) → i ≢ k → times s (get_or chains i []) + times s (get_or chains k []) ≤ times s (flat_map (λ chain. chain) chains)
two_chains s [] i k n = omega arith
two_chains s (c ∷ cs) zero zero n = absurd (n refl)
two_chains s (c ∷ cs) zero (suc k) n = omega (arith, times-append s c (flat_map (λ chain. chain) cs), one_chain s cs k)
two_chains s (c ∷ cs) (suc i) zero n = omega (arith, times-append s c (flat_map (λ chain. chain) cs), one_chain s cs i)
two_chains s (c ∷ cs) (suc i) (suc k) n = omega (arith, times-append s c (flat_map (λ chain. chain) cs), two_chains s cs i k (λ e. n (ap suc e)))
