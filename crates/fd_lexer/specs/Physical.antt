-- The physical lines of a text.
use Rattle.std.specs.Prelude.{◌≡◌, ℕ, ◌+◌, ◌-◌, ◌%◌, ◌<◌, Bool, false, not, ◌&&◌, ◌||◌, ◌==◌, nat_lt, List, [], ◌∷◌, length, take, count_by, filter, slice_index, if◌then◌else◌}
use Rattle.std.specs.List.{slice_split, position_or_len, suffix_len, range_with_len}
use Rattle.fd_lexer.specs.Bytes.{is_blank, is_plain, is_quotable}

-- ---- one line

-- an odd number of quotes stand before the place: it lies in a quoted text
abbrev pub in_text : List ℕ → ℕ → Bool
in_text bs k = count_by (λ b. b == 39) (take k bs) % 2 == 1

-- a `!` outside quoted texts
abbrev pub is_comment_at : List ℕ → ℕ → Bool
is_comment_at bs k = (slice_index bs k == 33) && not (in_text bs k)

-- how many bytes stand before the comment
unfoldable pub code_len : List ℕ → ℕ
code_len bs = position_or_len (is_comment_at bs) (range_with_len 0 (length bs))

-- how many bytes of the code there are up to the last that is no blank
unfoldable pub code_end : List ℕ → ℕ
code_end bs = code_len bs - suffix_len is_blank (take (code_len bs) bs)

-- a first byte C, c, * or ! makes the whole line a comment
abbrev pub begins_comment : List ℕ → Bool
begins_comment [] = false
begins_comment (b ∷ bs) = (b == 67) || (b == 99) || (b == 42) || (b == 33)

-- the line is neither blank nor a comment
unfoldable pub counts : List ℕ → Bool
counts bs = not (begins_comment bs) && nat_lt 0 (code_end bs)

-- the last byte of the code that is no blank is `&`, outside quoted texts: the line goes on with the next that counts
unfoldable pub continued : List ℕ → Bool
continued bs = nat_lt 0 (code_end bs) && (slice_index bs (code_end bs - 1) == 38) && not (in_text bs (code_end bs - 1))

-- the bytes that form tokens: the code, without the `&` of a line that goes on
unfoldable pub content : List ℕ → List ℕ
content bs = take (if continued bs then code_end bs - 1 else code_end bs) bs

-- whether a byte may stand in a quoted text, or outside
abbrev pub allowed_in : Bool → ℕ → Bool
allowed_in in_text b = if in_text then is_quotable b else is_plain b

-- some byte of the code may not stand where it stands
abbrev pub HasBadByte : List ℕ → Type 0
HasBadByte bs = (k : ℕ) × (k < code_len bs) × (allowed_in (in_text bs k) (slice_index bs k) ≡ false)

-- ---- the lines of a text

-- a line by its number, where it begins, its bytes without its end, and where its end ends
pub record Physical : Type 0 where
  pub number : ℕ
  pub start : ℕ
  pub bytes : List ℕ
  pub next : ℕ

abbrev pub is_feed : ℕ → Bool
is_feed b = b == 10

-- a carriage return before the line feed belongs to the line's end
abbrev pub without_return : List ℕ → List ℕ
without_return bs = if slice_index bs (length bs - 1) == 13 then take (length bs - 1) bs else bs

abbrev pub ended_line : ℕ → ℕ → List ℕ → Physical
ended_line number start bs = record { number = number; start = start; bytes = without_return bs; next = start + length bs + 1 }

abbrev pub last_line : ℕ → ℕ → List ℕ → Physical
last_line number start bs = record { number = number; start = start; bytes = bs; next = start + length bs }

-- the lines whose bytes stand between line feeds; only the last has no end
abbrev pub lines_from : ℕ → ℕ → List (List ℕ) → List Physical
lines_from number start [] = []
lines_from number start (bs ∷ []) = last_line number start bs ∷ []
lines_from number start (bs ∷ (cs ∷ more)) = ended_line number start bs ∷ lines_from (number + 1) (start + length bs + 1) (cs ∷ more)

-- the lines that count, of a text that begins at this offset, with a line of this number
unfoldable pub counted_from : ℕ → ℕ → List ℕ → List Physical
counted_from number start text = filter (λ p. counts p.bytes) (lines_from number start (slice_split is_feed text))
