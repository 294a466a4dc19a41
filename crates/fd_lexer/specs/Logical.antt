-- The logical lines of a text, and what is wrong with one.
use Rattle.std.specs.Prelude.{◌≡◌, ℕ, ◌+◌, ◌<◌, Bool, List, [], ◌∷◌, ◌++◌, length, sum_by, if◌then◌else◌, ◌⊎◌}
use Rattle.std.specs.List.{onto_first}
use Rattle.fd_base.specs.declared.numbering.Line.{Line}
use Rattle.fd_lexer.specs.declared.token.Token.{Token}
use Rattle.fd_lexer.specs.declared.cause.Cause.{Cause}
use Rattle.fd_lexer.specs.declared.cause.Cause.TheVariants.{BadByte, LineTooLong, BadToken, NumberTooLarge}
use Rattle.fd_lexer.specs.Tokens.{IsTokens, HasLarge}
use Rattle.fd_lexer.specs.Physical.{Physical, counted_from, continued, content, HasBadByte}

-- a line before logical lines: where it goes on it begins the first of them
abbrev pub line_before : Bool → Physical → List (List Physical) → List (List Physical)
line_before goes_on p ls = if goes_on then onto_first p ls else (p ∷ []) ∷ ls

-- the logical lines that lines form, each a list of physical lines, of which all but the last go on
abbrev pub groups : List Physical → List (List Physical)
groups [] = []
groups (p ∷ ps) = line_before (continued p.bytes) p (groups ps)

abbrev pub logical_lines : List ℕ → List (List Physical)
logical_lines text = groups (counted_from 1 0 text)

-- the number of the first physical line
abbrev pub number_of : List Physical → Line
number_of [] = record { 0 = 0 }
number_of (p ∷ ps) = record { 0 = p.number }

-- where the last physical line ends, before its line end
abbrev pub end_of : List Physical → ℕ
end_of [] = 0
end_of (p ∷ []) = p.start + length p.bytes
end_of (p ∷ (q ∷ ps)) = end_of (q ∷ ps)

-- where the line end of the last physical line ends
abbrev pub next_of : List Physical → ℕ
next_of [] = 0
next_of (p ∷ []) = p.next
next_of (p ∷ (q ∷ ps)) = next_of (q ∷ ps)

abbrev pub size_of : List Physical → ℕ
size_of ps = sum_by (λ p. length p.bytes) ps

-- the tokens of physical lines, one line after the other
abbrev pub AreTokens : Line → List Physical → List Token → Type 0
AreTokens line [] ts = ts ≡ []
AreTokens line (p ∷ ps) ts = (us : List Token) × (vs : List Token) × (ts ≡ us ++ vs) × IsTokens line p.start (content p.bytes) us × AreTokens line ps vs

-- the tokens of a logical line
abbrev pub HasTokens : List Physical → List Token → Type 0
HasTokens l ts = AreTokens (number_of l) l ts

abbrev pub HasBadLine : List Physical → Type 0
HasBadLine [] = ⊥
HasBadLine (p ∷ ps) = HasBadByte p.bytes ⊎ HasBadLine ps

-- what is wrong with a logical line
abbrev pub Names : Cause → List Physical → Type 0
Names BadByte l = HasBadLine l
Names LineTooLong l = 4096 < size_of l
Names BadToken l = (ts : List Token) → HasTokens l ts → ⊥
Names NumberTooLarge l = (ts : List Token) × HasTokens l ts × HasLarge ts

abbrev pub IsFine : List Physical → Type 0
IsFine l = (c : Cause) → Names c l → ⊥

-- the first of what is wrong with it, in the order of the numbers
abbrev pub IsLeast : Cause → List Physical → Type 0
IsLeast BadByte l = Names BadByte l
IsLeast LineTooLong l = (Names BadByte l → ⊥) × Names LineTooLong l
IsLeast BadToken l = (Names BadByte l → ⊥) × (Names LineTooLong l → ⊥) × Names BadToken l
IsLeast NumberTooLarge l = (Names BadByte l → ⊥) × (Names LineTooLong l → ⊥) × (Names BadToken l → ⊥) × Names NumberTooLarge l
