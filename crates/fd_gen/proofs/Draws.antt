-- One draw more, and one exchange more.
use Rattle.std.proofs.Common.{◌≡◌, ℕ, zero, suc, ◌+◌, ◌-◌, ◌*◌, ◌/◌, ◌%◌, ◌<◌, ◌≤◌, List, [], ◌∷◌, ◌++◌, length}
use Rattle.std.proofs.Common.{refl, sym, ap, ◌∙◌, add-one, arith}
use Rattle.std.specs.List.{range_with_len, swap}
use Rattle.std.specs.List.Sorted.{IsPermutation}
use Rattle.std.proofs.Math.Nat.{mod-add-mod, mod-lt}
use Rattle.std.proofs.lemmas.List.FromFn.{length-range_with_len, map-range_with_len_more}
use Rattle.std.proofs.lemmas.List.Edits.{length-swap}
use Rattle.std.proofs.lemmas.List.Sorted.{IsPermutation-refl, IsPermutation-swap, IsPermutation-trans}
use Rattle.fd_gen.specs.Draws.{next_state, drawn, state_after, draw_at, draws_modulo, after_exchanges, permutation}

-- ---- draws

-- the state by arithmetic that wraps at 64 bits
pub state_by_wrapping : (state : ℕ)
    → (state * 6364136223846793005 % 18446744073709551616 + 1442695040888963407) % 18446744073709551616 ≡ next_state state
unfolding next_state
state_by_wrapping state = mod-add-mod (state * 6364136223846793005) 18446744073709551616 1442695040888963407

pub drawn_by_shift : (state : ℕ) → state / 8589934592 ≡ drawn state
unfolding drawn
drawn_by_shift state = refl

pub none_drawn : (start : ℕ) → start ≡ state_after start 0
unfolding state_after
none_drawn start = refl

-- a draw more
pub one_more : (start state next n : ℕ) → state ≡ state_after start n → next ≡ next_state state
    → next ≡ state_after start (n + 1)
unfolding state_after
one_more start state next n s e = e ∙ (ap next_state s ∙ ap (state_after start) (sym (add-one n)))

pub draw_is : (start next n : ℕ) → next ≡ state_after start (n + 1) → drawn next ≡ draw_at start n
unfolding draw_at
draw_is start next n e = ap drawn e

pub value_more : (start value n : ℕ) (values : List ℕ) → value ≡ draw_at start n → values ≡ draws_modulo 1000 start n
    → values ++ value % 1000 ∷ [] ≡ draws_modulo 1000 start (n + 1)
value_more start value n values v e =
    ap (λ xs. xs ++ value % 1000 ∷ []) e
    ∙ (ap (λ x. draws_modulo 1000 start n ++ x % 1000 ∷ []) v
    ∙ sym (map-range_with_len_more (λ m. draw_at start m % 1000) 0 n n (omega arith)))

-- ---- exchanges

pub none_exchanged : (start size : ℕ) → range_with_len 1 size ≡ after_exchanges start size 0
unfolding after_exchanges
none_exchanged start size = refl

pub exchange_more : (start size n last other : ℕ) (numbers : List ℕ) → numbers ≡ after_exchanges start size n
    → last ≡ size - n - 1 → other ≡ draw_at start n % (size - n)
    → swap numbers last other ≡ after_exchanges start size (n + 1)
unfolding after_exchanges
exchange_more start size n last other numbers e l o = rw (e, l, o) (ap (after_exchanges start size) (sym (add-one n)))

pub length-exchanges : (start size n : ℕ) → length (after_exchanges start size n) ≡ size
unfolding after_exchanges
length-exchanges start size zero = length-range_with_len 1 size
length-exchanges start size (suc n) =
    length-swap (after_exchanges start size n) (size - n - 1) (draw_at start n % (size - n)) ∙ length-exchanges start size n

pub permuted : (start size n : ℕ) (numbers : List ℕ) → numbers ≡ after_exchanges start size n → n ≡ size - 1
    → numbers ≡ permutation start size
unfolding permutation
permuted start size n numbers e h = e ∙ ap (after_exchanges start size) h

-- an exchange more is one place less that is left
pub left_more : (size left : ℕ) → 1 < left → left ≤ size → size - (left - 1) ≡ size - left + 1
left_more size left a b = omega (arith, a, b)

-- ---- each number from 1 to the size stands in it once

exchanges_permute : (start size n : ℕ) → n ≤ size - 1 → IsPermutation (range_with_len 1 size) (after_exchanges start size n)
unfolding after_exchanges
exchanges_permute start size zero h = IsPermutation-refl (range_with_len 1 size)
exchanges_permute start size (suc n) h =
    let numbers = after_exchanges start size n in
    let len : length numbers ≡ size = length-exchanges start size n in
    let last : ℕ = size - n - 1 in
    let other : ℕ = draw_at start n % (size - n) in
    let some : 0 < size - n = omega (arith, h) in
    let drawn_below : other < size - n = mod-lt (draw_at start n) some in
    let inside : last < length numbers = omega (arith, h, len) in
    let below : other < length numbers = omega (arith, drawn_below, len) in
    IsPermutation-trans (range_with_len 1 size) numbers (swap numbers last other) (exchanges_permute start size n (omega (arith, h)))
    (IsPermutation-swap numbers (swap numbers last other) last other inside below refl)

pub IsPermutation-permutation : (start size : ℕ) → IsPermutation (range_with_len 1 size) (permutation start size)
unfolding permutation
IsPermutation-permutation start size = exchanges_permute start size (size - 1) (omega arith)
