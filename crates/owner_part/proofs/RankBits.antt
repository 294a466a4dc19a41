-- Sets of ranks by their bits.
use Rattle.std.proofs.Common.{◌≡◌, ℕ, ◌-◌, ◌*◌, ◌%◌, ◌^◌, ◌<◌, ◌≤◌, ◌==◌, false, inl, inr, refl, subst, sym, ap, ◌∙◌, nat_lt, nat_eq, arith}
use Rattle.std.proofs.lemmas.Bool.{cases_eq, cases_lt, eq-eqb, ne_eqb, lt-ltb, le-ltb}
use Rattle.std.proofs.lemmas.Nat.Bits.{bit_at-pow_same, bit_at-pow_other, bit_at_ones, bit_at_ones_above, bit_at_above}
use Rattle.std.proofs.Math.Nat.{mod-eq_of_lt}
use Rattle.std.proofs.Math.Pow.{pow_mono}
use Rattle.std.specs.Int.{bit_at}

-- the lowest bits alone are those of the numbers below
pub ones_are_below : (n k : ℕ) → (bit_at (2 ^ n - 1) k == 1) ≡ nat_lt k n
ones_are_below n k =
    elim (cases_lt k n) [
      | inl l ↦ eq-eqb (bit_at (2 ^ n - 1) k) 1 (bit_at_ones n k l) ∙ sym (lt-ltb k n l)
      | inr h ↦ ap (λ b. b == 1) (bit_at_ones_above n k h) ∙ sym (le-ltb k n h)
    ]

-- one bit alone is that of its number
pub power_is_one : (n k : ℕ) → (bit_at (2 ^ n) k == 1) ≡ nat_eq n k
power_is_one n k =
    elim (cases_eq n k) [
      | inl e ↦ subst (λ m. (bit_at (2 ^ n) m == 1) ≡ nat_eq n m) e (eq-eqb (bit_at (2 ^ n) n) 1 (bit_at-pow_same n) ∙ sym (eq-eqb n n refl))
      | inr d ↦ ap (λ b. b == 1) (bit_at-pow_other n k (λ e. d (sym e))) ∙ sym (ne_eqb n k d)
    ]

-- a number of 16 bits has none from the sixteenth on
pub none_above : (n k : ℕ) → n < 2 ^ 16 → 16 ≤ k → false ≡ (bit_at n k == 1)
none_above n k h l = sym (ap (λ b. b == 1) (bit_at_above n 16 k h l))

-- one bit of a number of 16 bits, as a shift computes it
pub shifted_one : (n k : ℕ) → n < 16 → (bit_at (1 * 2 ^ n % 65536) k == 1) ≡ nat_eq n k
shifted_one n k h =
    let small : 2 ^ n ≤ 2 ^ 15 = pow_mono {j = 15} (omega arith) in
    let e : 1 * 2 ^ n % 65536 ≡ 2 ^ n = mod-eq_of_lt (omega arith) ∙ omega arith in
    ap (λ m. bit_at m k == 1) e ∙ power_is_one n k

-- the lowest bits of a number of 32 bits, as a shift and a difference compute them
pub shifted_ones : (n k : ℕ) → n ≤ 16 → (bit_at (1 * 2 ^ n % 4294967296 - 1) k == 1) ≡ nat_lt k n
shifted_ones n k h =
    let small : 2 ^ n ≤ 2 ^ 16 = pow_mono h in
    let e : 1 * 2 ^ n % 4294967296 ≡ 2 ^ n = mod-eq_of_lt (omega arith) ∙ omega arith in
    ap (λ m. bit_at (m - 1) k == 1) e ∙ ones_are_below n k
