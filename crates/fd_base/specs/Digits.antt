-- Decimal digits, and the number that they stand for.
use Rattle.std.specs.Prelude.{ℕ, ◌+◌, ◌-◌, ◌*◌, Bool, ◌&&◌, nat_le, List, fold}

-- `0` to `9`
abbrev pub is_digit : ℕ → Bool
is_digit b = nat_le 48 b && nat_le b 57

-- the number that one more digit makes of a number
abbrev pub with_digit : ℕ → ℕ → ℕ
with_digit n b = 10 * n + (b - 48)

-- the number that digits stand for
abbrev pub decimal_value : List ℕ → ℕ
decimal_value digits = fold with_digit 0 digits
