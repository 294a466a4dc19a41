-- Counts over periods, runs and shifts.
use Rattle.std.proofs.Common.{◌≡◌, ℕ, zero, suc, ◌+◌, ◌*◌, ◌<◌, ◌≤◌, ◌-◌, Bool, true, false, cond, [], ◌∷◌, ◌++◌, map, take, count_by, inl, inr, refl, sym, ap, ap₂, ◌∙◌, arith, add_assoc, add-suc, add-zero}
use Rattle.std.specs.List.{range_with_len}
use Rattle.std.proofs.lemmas.Bool.{cases_lt}
use Rattle.std.proofs.lemmas.List.FromFn.{take-map-range_with_len, map-range_with_len_more}
use Rattle.std.proofs.lemmas.List.Sums.{sum_by_push}
use Rattle.decomp_map.specs.Counting.{count_below}

pub count_below-zero : (p : ℕ → Bool) → count_below p 0 ≡ 0
unfolding count_below
count_below-zero p = refl

pub count_below-suc : (p : ℕ → Bool) (n : ℕ) → count_below p (suc n) ≡ count_below p n + cond (p n) 1 0
unfolding count_below
count_below-suc p n = refl

-- tests that agree below the bound have one count
pub count_below-same : (p q : ℕ → Bool) (n : ℕ) → ((i : ℕ) → i < n → p i ≡ q i) → count_below p n ≡ count_below q n
unfolding count_below
count_below-same p q zero h = refl
count_below-same p q (suc n) h = ap₂ (λ a b. a + cond b 1 0) (count_below-same p q n (λ i k. h i (omega arith))) (h n (omega arith))

-- a count goes on behind a place
pub count_below-add : (p : ℕ → Bool) (m n : ℕ) → count_below p (m + n) ≡ count_below p m + count_below (λ i. p (m + i)) n
unfolding count_below
count_below-add p m zero = rw (add-zero) (sym (add-zero _))
count_below-add p m (suc n) =
    rw (add-suc) (ap (λ c. c + cond (p (m + n)) 1 0) (count_below-add p m n) ∙ add_assoc _ _ _)

pub count_below-le : (p : ℕ → Bool) (n : ℕ) → count_below p n ≤ n
unfolding count_below
count_below-le p zero = omega arith
count_below-le p (suc n) = elim (p n) as (λ b. count_below p n + cond b 1 0 ≤ suc n) [ true ↦ omega (arith, count_below-le p n) | false ↦ omega (arith, count_below-le p n) ]

-- where each of the first numbers gets one answer
pub count_below_run : (p : ℕ → Bool) (b : Bool) (n : ℕ) → ((i : ℕ) → i < n → p i ≡ b) → count_below p n ≡ cond b n 0
unfolding count_below
count_below_run p true zero h = refl
count_below_run p false zero h = refl
count_below_run p true (suc n) h = rw (h n (omega arith), count_below_run p true n (λ i k. h i (omega arith))) (omega arith)
count_below_run p false (suc n) h = rw (h n (omega arith), count_below_run p false n (λ i k. h i (omega arith))) refl

-- a longer stretch counts as many, or more
pub count_below-mono : (p : ℕ → Bool) (m n : ℕ) → m ≤ n → count_below p m ≤ count_below p n
count_below-mono p m n h =
    let e : m + (n - m) ≡ n = omega arith in
    let s : count_below p (m + (n - m)) ≡ count_below p m + count_below (λ i. p (m + i)) (n - m) = count_below-add p m (n - m) in
    let t : count_below p n ≡ count_below p m + count_below (λ i. p (m + i)) (n - m) = ap (count_below p) (sym e) ∙ s in
    omega arith

-- a smaller count belongs to a smaller bound
pub lt_from_count : (p : ℕ → Bool) (m n : ℕ) → count_below p m < count_below p n → m < n
lt_from_count p m n h =
    elim (cases_lt m n) [ inl k ↦ k | inr k ↦ absurd (omega (arith, count_below-mono p n m k)) ]

-- a test that repeats after w numbers
pub count_below_periodic : (p : ℕ → Bool) (w : ℕ) → ((i : ℕ) → p (w + i) ≡ p i) → (turns t : ℕ) → count_below p (turns * w + t) ≡ turns * count_below p w + count_below p t
count_below_periodic p w again zero t =
    let e : 0 * w + t ≡ t = omega arith in
    let z : count_below p t ≡ 0 * count_below p w + count_below p t = omega arith in
    ap (count_below p) e ∙ z
count_below_periodic p w again (suc turns) t =
    let e : suc turns * w + t ≡ w + (turns * w + t) = omega arith in
    let s : count_below p (w + (turns * w + t)) ≡ count_below p w + count_below (λ i. p (w + i)) (turns * w + t) = count_below-add p w (turns * w + t) in
    let r : count_below (λ i. p (w + i)) (turns * w + t) ≡ count_below p (turns * w + t) = count_below-same (λ i. p (w + i)) p (turns * w + t) (λ i k. again i) in
    let h : count_below p (turns * w + t) ≡ turns * count_below p w + count_below p t = count_below_periodic p w again turns t in
    ap (count_below p) e ∙ (s ∙ (ap (λ c. count_below p w + c) (r ∙ h) ∙ omega arith))

-- a test that gives each k numbers in a row one answer
count_below_stretched_whole : (p g : ℕ → Bool) (k : ℕ) → ((j c : ℕ) → c < k → p (j * k + c) ≡ g j) → (j : ℕ) → count_below p (j * k) ≡ k * count_below g j
count_below_stretched_whole p g k even zero =
    let e : 0 * k ≡ 0 = omega arith in
    let z : 0 ≡ k * count_below g 0 = rw (count_below-zero g) (omega arith) in
    ap (count_below p) e ∙ (count_below-zero p ∙ z)
count_below_stretched_whole p g k even (suc j) =
    let e : suc j * k ≡ j * k + k = omega arith in
    let s : count_below p (j * k + k) ≡ count_below p (j * k) + count_below (λ i. p (j * k + i)) k = count_below-add p (j * k) k in
    let r : count_below (λ i. p (j * k + i)) k ≡ cond (g j) k 0 = count_below_run (λ i. p (j * k + i)) (g j) k (even j) in
    let h : count_below p (j * k) ≡ k * count_below g j = count_below_stretched_whole p g k even j in
    let last : k * count_below g j + cond (g j) k 0 ≡ k * count_below g (suc j) = rw (count_below-suc g j) (elim (g j) as (λ b. k * count_below g j + cond b k 0 ≡ k * (count_below g j + cond b 1 0)) [ true ↦ omega arith | false ↦ omega arith ]) in
    ap (count_below p) e ∙ (s ∙ (ap₂ (λ a b. a + b) h r ∙ last))

pub count_below_stretched : (p g : ℕ → Bool) (k : ℕ) → ((j c : ℕ) → c < k → p (j * k + c) ≡ g j) → (j c : ℕ) → c ≤ k → count_below p (j * k + c) ≡ k * count_below g j + cond (g j) c 0
count_below_stretched p g k even j c h =
    count_below-add p (j * k) c ∙ ap₂ (λ a b. a + b) (count_below_stretched_whole p g k even j) (count_below_run (λ i. p (j * k + i)) (g j) c (λ i l. even j i (omega arith)))

-- a count in a list that is made from a function of the index
pub count_by-map : (q : ℕ → Bool) (f : ℕ → ℕ) (n : ℕ) → count_by q (map f (range_with_len 0 n)) ≡ count_below (λ i. q (f i)) n
count_by-map q f zero = sym (count_below-zero (λ i. q (f i)))
count_by-map q f (suc n) =
    let s : map f (range_with_len 0 (n + 1)) ≡ map f (range_with_len 0 n) ++ f n ∷ [] = map-range_with_len_more f 0 n n (omega arith) in
    let e : suc n ≡ n + 1 = omega arith in
    let t : map f (range_with_len 0 (suc n)) ≡ map f (range_with_len 0 (n + 1)) = ap (λ m. map f (range_with_len 0 m)) e in
    ap (count_by q) (t ∙ s) ∙ (sum_by_push (λ x. cond (q x) 1 0) (map f (range_with_len 0 n)) (f n) ∙ (ap (λ c. c + cond (q (f n)) 1 0) (count_by-map q f n) ∙ sym (count_below-suc (λ i. q (f i)) n)))

-- a count in the front of such a list
pub count_by-front : (q : ℕ → Bool) (f : ℕ → ℕ) (n e : ℕ) → e ≤ n → count_by q (take e (map f (range_with_len 0 n))) ≡ count_below (λ i. q (f i)) e
count_by-front q f n e h = ap (count_by q) (take-map-range_with_len f 0 n e h) ∙ count_by-map q f e
