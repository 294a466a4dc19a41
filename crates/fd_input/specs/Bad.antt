-- The bad bytes of an input, each by the rule that it breaks.
use Rattle.std.specs.Prelude.{◌≡◌, ℕ, zero, suc, ◌<◌, ◌==◌, ◌||◌, Bool, true, false, List, [], ◌∷◌, take}
use Rattle.std.specs.List.{prefix_len}
use Rattle.fd_base.specs.Numbers.{fits_i64}
use Rattle.fd_base.specs.Digits.{is_digit, decimal_value}
use Rattle.fd_input.specs.Numbers.{signed_value}
use Rattle.fd_input.specs.Text.{is_white}
use Rattle.fd_input.specs.declared.refusal.InputRefusal.{InputRefusal}
use Rattle.fd_input.specs.declared.refusal.InputRefusal.TheVariants.{Bad, Memory}

-- `+` or `-`
abbrev pub is_sign : ℕ → Bool
is_sign b = (b == 43) || (b == 45)

-- the digits that bytes begin with
abbrev pub front_digits : List ℕ → List ℕ
front_digits bs = take (prefix_len is_digit bs) bs

-- What is wrong with a byte, by whether a number may begin there, which is at the first byte and behind white space, and by the bytes behind it.
pub data IsWrong (begins : Bool) (b : ℕ) (behind : List ℕ) : Type 0 where
  -- it is neither white space, nor a digit, nor a sign at the start of a number
  stray : is_white b ≡ false → is_digit b ≡ false → (begins ≡ true → is_sign b ≡ false) → IsWrong begins b behind
  -- it is a sign that no digit follows
  lone_sign : is_sign b ≡ true → front_digits behind ≡ [] → IsWrong begins b behind
  -- it is the first byte of a number outside 64 bits, which begins with its first digit or with its sign
  large : begins ≡ true → is_digit b ≡ true → fits_i64 (signed_value false (decimal_value (front_digits (b ∷ behind)))) ≡ false → IsWrong begins b behind
  large_behind_sign : begins ≡ true → is_sign b ≡ true → fits_i64 (signed_value (b == 45) (decimal_value (front_digits behind))) ≡ false → IsWrong begins b behind

-- something is wrong with the byte at this offset
abbrev pub IsWrongAt : Bool → List ℕ → ℕ → Type 0
IsWrongAt begins [] k = ⊥
IsWrongAt begins (b ∷ bs) zero = IsWrong begins b bs
IsWrongAt begins (b ∷ bs) (suc k) = IsWrongAt (is_white b) bs k

-- the byte at this offset is a bad byte of an input
abbrev pub IsBadAt : List ℕ → ℕ → Type 0
IsBadAt bytes k = IsWrongAt true bytes k

-- it is the first one
abbrev pub IsFirstBad : List ℕ → ℕ → Type 0
IsFirstBad bytes k = IsBadAt bytes k × ((j : ℕ) → j < k → IsBadAt bytes j → ⊥)

-- the offset that a refusal tells is that of the first bad byte
abbrev pub IsToldBad : List ℕ → InputRefusal → Type 0
IsToldBad bytes (Bad k) = IsFirstBad bytes k
IsToldBad bytes Memory = Unit {0}
