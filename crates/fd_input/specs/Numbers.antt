-- The number that a word of the input is, or its first bad byte.
use Rattle.std.specs.Prelude.{ℕ, ◌+◌, Bool, true, false, ◌==◌, if◌then◌else◌, ℤ, pos, neg_ℤ, List, [], ◌∷◌, length, take, Result, Ok, Err}
use Rattle.std.specs.List.{prefix_len}
use Rattle.fd_base.specs.Digits.{is_digit, decimal_value}
use Rattle.fd_base.specs.Numbers.{fits_i64}

-- a number with its sign
abbrev pub signed_value : Bool → ℕ → ℤ
signed_value true v = neg_ℤ (pos v)
signed_value false v = pos v

-- a word behind its sign, of so many bytes, that begins with so many digits: bad at its first byte where there is no digit or the number is outside 64 bits, and else at the byte behind the digits, where there is one
abbrev pub judged : ℕ → Bool → ℕ → List ℕ → Result ℤ ℕ
judged sign negative count rest =
    if count == 0 then Err 0 else (
    if fits_i64 (signed_value negative (decimal_value (take count rest))) then (
    if count == length rest then Ok (signed_value negative (decimal_value (take count rest))) else Err (sign + count))
    else Err 0)

-- a word behind its sign
abbrev pub number_behind : ℕ → Bool → List ℕ → Result ℤ ℕ
number_behind sign negative rest = judged sign negative (prefix_len is_digit rest) rest

-- a word: its number, or how far its first bad byte is from its beginning
abbrev pub word_number : List ℕ → Result ℤ ℕ
word_number [] = Err 0
word_number (b ∷ bs) =
    if b == 45 then number_behind 1 true bs else (if b == 43 then number_behind 1 false bs else number_behind 0 false (b ∷ bs))
