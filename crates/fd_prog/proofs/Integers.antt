-- Products of whole numbers.
use Rattle.std.proofs.Common.{◌≡◌, refl, sym, ◌∙◌, ap, zero, suc, ℤ, pos, negsuc, ◌+ℤ◌, ◌*ℤ◌, neg_ℤ, arith}
use Rattle.std.proofs.Math.IntN.{suc_ℤ, pred_ℤ, suc_ℤ-*ℤ, pred_ℤ-*ℤ, zero-*ℤ, *ℤ_comm}
use Rattle.std.proofs.lemmas.Int.{ints}

suc-one : (z : ℤ) → suc_ℤ z ≡ z +ℤ pos 1
suc-one (pos n) = omega (arith, ints)
suc-one (negsuc zero) = refl
suc-one (negsuc (suc n)) = omega (arith, ints)

pred-one : (z : ℤ) → pred_ℤ z ≡ z +ℤ negsuc 0
pred-one (pos zero) = refl
pred-one (pos (suc n)) = omega (arith, ints)
pred-one (negsuc n) = omega (arith, ints)

one_more : (m k : ℤ) → (m +ℤ pos 1) *ℤ k ≡ m *ℤ k +ℤ k
one_more m k = ap (λ z. z *ℤ k) (sym (suc-one m)) ∙ suc_ℤ-*ℤ m k

one_less : (m k : ℤ) → (m +ℤ negsuc 0) *ℤ k ≡ m *ℤ k +ℤ neg_ℤ k
one_less m k = ap (λ z. z *ℤ k) (sym (pred-one m)) ∙ pred_ℤ-*ℤ m k

pub zero_plus : (b : ℤ) → pos 0 +ℤ b ≡ b
zero_plus b = omega (arith, ints)

combined : (whole left a b k more : ℤ) → whole ≡ left +ℤ k → left ≡ a +ℤ b → more ≡ a +ℤ k → whole ≡ more +ℤ b
combined whole left a b k more e f g = omega (arith, ints)

-- what is added to the first of two is added to their sum
later : (m b u : ℤ) → m +ℤ u +ℤ b ≡ m +ℤ b +ℤ u
later m b u = omega (arith, ints)

step_up : (m n b k : ℤ) → n ≡ m +ℤ pos 1 → (m +ℤ b) *ℤ k ≡ m *ℤ k +ℤ b *ℤ k → (n +ℤ b) *ℤ k ≡ n *ℤ k +ℤ b *ℤ k
step_up m n b k e same =
    let whole : (n +ℤ b) *ℤ k ≡ (m +ℤ b) *ℤ k +ℤ k = ap (λ z. (z +ℤ b) *ℤ k) e ∙ ap (λ z. z *ℤ k) (later m b (pos 1)) ∙ one_more (m +ℤ b) k in
    let more : n *ℤ k ≡ m *ℤ k +ℤ k = ap (λ z. z *ℤ k) e ∙ one_more m k in
    combined ((n +ℤ b) *ℤ k) ((m +ℤ b) *ℤ k) (m *ℤ k) (b *ℤ k) k (n *ℤ k) whole same more

step_down : (m n b k : ℤ) → n ≡ m +ℤ negsuc 0 → (m +ℤ b) *ℤ k ≡ m *ℤ k +ℤ b *ℤ k → (n +ℤ b) *ℤ k ≡ n *ℤ k +ℤ b *ℤ k
step_down m n b k e same =
    let whole : (n +ℤ b) *ℤ k ≡ (m +ℤ b) *ℤ k +ℤ neg_ℤ k = ap (λ z. (z +ℤ b) *ℤ k) e ∙ ap (λ z. z *ℤ k) (later m b (negsuc 0)) ∙ one_less (m +ℤ b) k in
    let more : n *ℤ k ≡ m *ℤ k +ℤ neg_ℤ k = ap (λ z. z *ℤ k) e ∙ one_less m k in
    combined ((n +ℤ b) *ℤ k) ((m +ℤ b) *ℤ k) (m *ℤ k) (b *ℤ k) (neg_ℤ k) (n *ℤ k) whole same more

none_of : (b k : ℤ) → (pos 0 +ℤ b) *ℤ k ≡ pos 0 *ℤ k +ℤ b *ℤ k
none_of b k = ap (λ z. z *ℤ k) (zero_plus b) ∙ sym (ap (λ z. z +ℤ b *ℤ k) (zero-*ℤ k) ∙ zero_plus (b *ℤ k))

-- a sum times a number
pub distributed : (a b k : ℤ) → (a +ℤ b) *ℤ k ≡ a *ℤ k +ℤ b *ℤ k
distributed (pos zero) b k = none_of b k
distributed (pos (suc n)) b k = step_up (pos n) (pos (suc n)) b k (omega (arith, ints)) (distributed (pos n) b k)
distributed (negsuc zero) b k = step_down (pos 0) (negsuc 0) b k refl (none_of b k)
distributed (negsuc (suc n)) b k = step_down (negsuc n) (negsuc (suc n)) b k (omega (arith, ints)) (distributed (negsuc n) b k)

pub distributed_left : (k a b : ℤ) → k *ℤ (a +ℤ b) ≡ k *ℤ a +ℤ k *ℤ b
distributed_left k a b = *ℤ_comm k (a +ℤ b) ∙ distributed a b k ∙ ap (λ z. z +ℤ b *ℤ k) (*ℤ_comm a k) ∙ ap (λ z. k *ℤ a +ℤ z) (*ℤ_comm b k)

-- the negative of a number times another
negative_of : (b k : ℤ) → neg_ℤ b *ℤ k ≡ neg_ℤ (b *ℤ k)
negative_of b k =
    let e : b *ℤ k +ℤ neg_ℤ b *ℤ k ≡ pos 0 = sym (distributed b (neg_ℤ b) k) ∙ ap (λ z. z *ℤ k) (nothing b) ∙ zero-*ℤ k in
    from_sum (b *ℤ k) (neg_ℤ b *ℤ k) e
  where
    nothing : (b : ℤ) → b +ℤ neg_ℤ b ≡ pos 0
    nothing b = omega (arith, ints)

    from_sum : (x y : ℤ) → x +ℤ y ≡ pos 0 → y ≡ neg_ℤ x
    from_sum x y e = omega (arith, ints)

times_up : (m n b k : ℤ) → n ≡ m +ℤ pos 1 → m *ℤ b *ℤ k ≡ m *ℤ (b *ℤ k) → n *ℤ b *ℤ k ≡ n *ℤ (b *ℤ k)
times_up m n b k e same =
    ap (λ z. z *ℤ b *ℤ k) e ∙ ap (λ z. z *ℤ k) (one_more m b) ∙ distributed (m *ℤ b) b k ∙ ap (λ z. z +ℤ b *ℤ k) same
    ∙ sym (ap (λ z. z *ℤ (b *ℤ k)) e ∙ one_more m (b *ℤ k))

times_down : (m n b k : ℤ) → n ≡ m +ℤ negsuc 0 → m *ℤ b *ℤ k ≡ m *ℤ (b *ℤ k) → n *ℤ b *ℤ k ≡ n *ℤ (b *ℤ k)
times_down m n b k e same =
    ap (λ z. z *ℤ b *ℤ k) e ∙ ap (λ z. z *ℤ k) (one_less m b) ∙ distributed (m *ℤ b) (neg_ℤ b) k ∙ ap (λ z. z +ℤ neg_ℤ b *ℤ k) same
    ∙ ap (λ z. m *ℤ (b *ℤ k) +ℤ z) (negative_of b k) ∙ sym (ap (λ z. z *ℤ (b *ℤ k)) e ∙ one_less m (b *ℤ k))

none_times : (b k : ℤ) → pos 0 *ℤ b *ℤ k ≡ pos 0 *ℤ (b *ℤ k)
none_times b k = ap (λ z. z *ℤ k) (zero-*ℤ b) ∙ zero-*ℤ k ∙ sym (zero-*ℤ (b *ℤ k))

-- products in either grouping
pub regrouped : (a b k : ℤ) → a *ℤ b *ℤ k ≡ a *ℤ (b *ℤ k)
regrouped (pos zero) b k = none_times b k
regrouped (pos (suc n)) b k = times_up (pos n) (pos (suc n)) b k (omega (arith, ints)) (regrouped (pos n) b k)
regrouped (negsuc zero) b k = times_down (pos 0) (negsuc 0) b k refl (none_times b k)
regrouped (negsuc (suc n)) b k = times_down (negsuc n) (negsuc (suc n)) b k (omega (arith, ints)) (regrouped (negsuc n) b k)

pub minus_once : (k : ℤ) → negsuc 0 *ℤ k ≡ neg_ℤ k
minus_once k = one_less (pos 0) k ∙ ap (λ z. z +ℤ neg_ℤ k) (zero-*ℤ k) ∙ zero_plus (neg_ℤ k)

pub once : (k : ℤ) → pos 1 *ℤ k ≡ k
once k = one_more (pos 0) k ∙ ap (λ z. z +ℤ k) (zero-*ℤ k) ∙ zero_plus k
