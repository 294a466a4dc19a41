-- The order of walks: by how many nodes they have, and then by the numbers of these from Start.
use Rattle.std.proofs.Common.{◌≡◌, ℕ, ◌<◌, ◌≤◌, ◌⊎◌, inl, inr, List, [], ◌∷◌, ◌++◌, length, reverse, refl, sym, ◌∙◌, ap, subst, arith}
use Rattle.std.proofs.lemmas.List.{reverse-append, length-reverse}
use Rattle.std.proofs.lemmas.Bool.{cases_eq}
use Rattle.place_check.specs.Verdicts.{IsAtMost}
use Rattle.place_check.specs.Walks.{IsBefore, IsNotAfter}

pub before_trans : (a b c : List ℕ) → IsBefore a b → IsBefore b c → IsBefore a c
before_trans [] [] c h k = absurd h
before_trans [] (y ∷ b) [] h k = k
before_trans [] (y ∷ b) (z ∷ c) h k = tt
before_trans (x ∷ a) [] c h k = absurd h
before_trans (x ∷ a) (y ∷ b) [] h k = k
before_trans (x ∷ a) (y ∷ b) (z ∷ c) (inl h) (inl k) = inl (before_trans a b c h k)
before_trans (x ∷ a) (y ∷ b) (z ∷ c) (inl h) (inr k) = inl (subst (λ (d : List ℕ). IsBefore a d) k.0 h)
before_trans (x ∷ a) (y ∷ b) (z ∷ c) (inr h) (inl k) = inl (subst (λ (d : List ℕ). IsBefore d c) (sym h.0) k)
before_trans (x ∷ a) (y ∷ b) (z ∷ c) (inr h) (inr k) = let p = h.1 in let q = k.1 in inr (h.0 ∙ k.0, omega arith)

pub not_after_before : (a b c : List ℕ) → IsNotAfter a b → IsBefore b c → IsBefore a c
not_after_before a b c (inl e) k = subst (λ (d : List ℕ). IsBefore d c) (sym e) k
not_after_before a b c (inr h) k = before_trans a b c h k

pub before_not_after : (a b c : List ℕ) → IsBefore a b → IsNotAfter b c → IsBefore a c
before_not_after a b c h (inl e) = subst (λ (d : List ℕ). IsBefore a d) e h
before_not_after a b c h (inr k) = before_trans a b c h k

pub not_after_trans : (a b c : List ℕ) → IsNotAfter a b → IsNotAfter b c → IsNotAfter a c
not_after_trans a b c (inl e) k = subst (λ (d : List ℕ). IsNotAfter d c) (sym e) k
not_after_trans a b c (inr h) k = inr (before_not_after a b c h k)

-- one node more keeps the order
pub not_after_on : (a b : List ℕ) (s : ℕ) → IsNotAfter a b → IsNotAfter (s ∷ a) (s ∷ b)
not_after_on a b s (inl e) = inl (ap (λ (l : List ℕ). s ∷ l) e)
not_after_on a b s (inr h) = inr (inl h)

pub before_longer : (a : List ℕ) (s : ℕ) → IsBefore a (s ∷ a)
before_longer [] s = tt
before_longer (x ∷ a) s = inl (before_longer a x)

pub not_after_longer : (a b : List ℕ) (s : ℕ) → IsNotAfter a b → IsNotAfter a (s ∷ b)
not_after_longer a b s h = inr (not_after_before a b (s ∷ b) h (before_longer b s))

-- with a lesser node, or the same one, behind a walk that isn't after the other
pub not_after_less : (a b : List ℕ) (s t : ℕ) → IsNotAfter a b → s ≤ t → IsNotAfter (s ∷ a) (t ∷ b)
not_after_less a b s t (inr h) le = inr (inl h)
not_after_less a b s t (inl e) le = elim (cases_eq s t) [
  | inl q ↦ inl (ap (λ (z : ℕ). z ∷ a) q ∙ ap (λ (l : List ℕ). t ∷ l) e)
  | inr q ↦ inr (inr (e, omega arith))
]

-- ---- from Start on

pub reverse-on : (a : List ℕ) (s : ℕ) → reverse (s ∷ a) ≡ reverse a ++ (s ∷ [])
reverse-on a s = reverse-append (s ∷ []) a

before_length : (a b : List ℕ) → IsBefore a b → length a ≤ length b
before_length [] b h = omega arith
before_length (x ∷ a) [] h = absurd h
before_length (x ∷ a) (y ∷ b) (inl h) = let r = before_length a b h in omega (arith, r)
before_length (x ∷ a) (y ∷ b) (inr h) = let e : length a ≡ length b = ap length h.0 in omega (arith, e)

-- this list has the lesser number where the two first differ
IsLess : List ℕ → List ℕ → Type 0
IsLess [] ms = ⊥
IsLess (n ∷ ns) [] = ⊥
IsLess (n ∷ ns) (m ∷ ms) = (n < m) ⊎ ((n ≡ m) × IsLess ns ms)

less_then : (a b c d : List ℕ) → IsLess a b → IsLess (a ++ c) (b ++ d)
unfolding IsLess
less_then [] b c d h = absurd h
less_then (x ∷ a) [] c d h = absurd h
less_then (x ∷ a) (y ∷ b) c d (inl h) = inl h
less_then (x ∷ a) (y ∷ b) c d (inr h) = inr (h.0, less_then a b c d h.1)

less_last : (a : List ℕ) (s t : ℕ) → s < t → IsLess (a ++ (s ∷ [])) (a ++ (t ∷ []))
unfolding IsLess
less_last [] s t h = inl h
less_last (x ∷ a) s t h = inr (refl, less_last a s t h)

less_at_most : (a b : List ℕ) → IsLess a b → IsAtMost a b
unfolding IsLess
less_at_most [] b h = absurd h
less_at_most (x ∷ a) [] h = absurd h
less_at_most (x ∷ a) (y ∷ b) (inl h) = inl h
less_at_most (x ∷ a) (y ∷ b) (inr h) = inr (h.0, less_at_most a b h.1)

at_most_same : (a : List ℕ) → IsAtMost a a
at_most_same [] = tt
at_most_same (x ∷ a) = inr (refl, at_most_same a)

before_less : (a b : List ℕ) → IsBefore a b → length a ≡ length b → IsLess (reverse a) (reverse b)
before_less [] [] h e = absurd h
before_less [] (y ∷ b) h e = absurd (omega (arith, e))
before_less (x ∷ a) [] h e = absurd h
before_less (x ∷ a) (y ∷ b) (inl h) e =
    rw (reverse-on a x, reverse-on b y) (less_then (reverse a) (reverse b) (x ∷ []) (y ∷ []) (before_less a b h (omega (arith, e))))
before_less (x ∷ a) (y ∷ b) (inr h) e =
    rw (reverse-on a x, reverse-on b y)
    (subst (λ (l : List ℕ). IsLess (reverse a ++ (x ∷ [])) (reverse l ++ (y ∷ []))) h.0 (less_last (reverse a) x y h.1))

-- a walk that isn't after another has no more nodes
pub not_longer : (a b : List ℕ) → IsNotAfter a b → length (reverse a) ≤ length (reverse b)
not_longer a b (inl e) = let q : length (reverse a) ≡ length (reverse b) = ap (λ (l : List ℕ). length (reverse l)) e in omega (arith, q)
not_longer a b (inr h) = omega (arith, length-reverse a, length-reverse b, before_length a b h)

-- and with as many its nodes are not greater
pub not_greater : (a b : List ℕ) → IsNotAfter a b → length (reverse b) ≡ length (reverse a) → IsAtMost (reverse a) (reverse b)
not_greater a b (inl e) q = subst (λ (l : List ℕ). IsAtMost (reverse a) (reverse l)) e (at_most_same (reverse a))
not_greater a b (inr h) q = less_at_most (reverse a) (reverse b) (before_less a b h (omega (arith, length-reverse a, length-reverse b, q)))
