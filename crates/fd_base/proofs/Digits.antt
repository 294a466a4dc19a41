-- More digits stand for no smaller number.
use Rattle.std.proofs.Common.{◌≡◌, ℕ, ◌+◌, ◌^◌, ◌≤◌, ◌<◌, List, [], ◌∷◌, ◌++◌, length, take, drop, get_or, fold, Some, None, nat_lt, if◌then◌else◌, refl, ap, arith, le-ltb}
use Rattle.std.proofs.lemmas.List.{take-append-drop}
use Rattle.std.proofs.lemmas.List.Sums.{fold_more}
use Rattle.fd_base.specs.Digits.{with_digit, decimal_value}

fold_grows : (bs : List ℕ) (n : ℕ) → n ≤ fold with_digit n bs
fold_grows [] n = omega arith
fold_grows (b ∷ bs) n = omega (arith, fold_grows bs (with_digit n b))

fold_front : (bs cs : List ℕ) (n : ℕ) → fold with_digit n bs ≤ fold with_digit n (bs ++ cs)
fold_front [] cs n = fold_grows cs n
fold_front (b ∷ bs) cs n = fold_front bs cs (with_digit n b)

-- the number after one more digit is no greater than the whole
value_front : (bs : List ℕ) (i d : ℕ) → i < length bs → with_digit (decimal_value (take i bs)) (get_or bs i d) ≤ decimal_value bs
value_front bs i d lt = omega (arith, fold_more with_digit 0 bs i d lt, fold_front (take (i + 1) bs) (drop (i + 1) bs) 0, ap decimal_value (take-append-drop (i + 1) bs))

-- a front that is past the limit
pub decimal_value-past : (bs : List ℕ) (i n : ℕ) → i < length bs → n ≡ decimal_value (take i bs) → 2 ^ 64 ≤ with_digit n (get_or bs i 0)
    → None ≡ (if nat_lt (decimal_value bs) (2 ^ 64) then Some (decimal_value bs) else None)
decimal_value-past bs i n lt is past =
    let large : 2 ^ 64 ≤ decimal_value bs = omega (arith, value_front bs i 0 lt, is, past) in
    rw (le-ltb _ _ large) refl
