-- The numbers of an input, or its first bad byte.
use Rattle.std.specs.Prelude.{◌≡◌, ℕ, ◌+◌, Bool, ◌||◌, ◌==◌, ℤ, List, [], ◌∷◌, ◌++◌, length, Result, Ok, Err}
use Rattle.std.specs.List.{slice_split}
use Rattle.fd_input.specs.declared.refusal.InputRefusal.{InputRefusal}
use Rattle.fd_input.specs.declared.refusal.InputRefusal.TheVariants.{Bad, Memory}
use Rattle.fd_input.specs.Numbers.{word_number}

-- a blank, a tab, LF or CR
abbrev pub is_white : ℕ → Bool
is_white b = (b == 32) || (b == 9) || (b == 10) || (b == 13)

-- a word at an offset: its one number, or the offset of its first bad byte
abbrev pub placed : ℕ → Result ℤ ℕ → Result (List ℤ) ℕ
placed at (Ok x) = Ok (x ∷ [])
placed at (Err k) = Err (at + k)

-- what stands between two white bytes: nothing, or a word
abbrev pub part_numbers : ℕ → List ℕ → Result (List ℤ) ℕ
part_numbers at [] = Ok []
part_numbers at (b ∷ bs) = placed at (word_number (b ∷ bs))

-- these numbers, and then those that follow
abbrev pub before : List ℤ → Result (List ℤ) ℕ → Result (List ℤ) ℕ
before xs (Ok ys) = Ok (xs ++ ys)
before xs (Err k) = Err k

-- what was found, and then what follows; the first bad byte wins
abbrev pub followed : Result (List ℤ) ℕ → Result (List ℤ) ℕ → Result (List ℤ) ℕ
followed (Ok xs) more = before xs more
followed (Err k) more = Err k

-- the numbers of parts with one white byte between them, the first of which is at the offset
abbrev pub parts_numbers : ℕ → List (List ℕ) → Result (List ℤ) ℕ
parts_numbers at [] = Ok []
parts_numbers at (part ∷ parts) = followed (part_numbers at part) (parts_numbers (at + length part + 1) parts)

-- the numbers of a text, or the offset of its first bad byte
abbrev pub input_numbers : List ℕ → Result (List ℤ) ℕ
input_numbers bytes = parts_numbers 0 (slice_split is_white bytes)

-- what was read is that, or there was no memory
abbrev pub IsRead : Result (List ℤ) ℕ → Result (List ℤ) InputRefusal → Type 0
IsRead wanted (Ok xs) = wanted ≡ Ok xs
IsRead wanted (Err (Bad k)) = wanted ≡ Err k
IsRead wanted (Err Memory) = Unit {0}

-- the numbers of a part were put behind the others, or its bad byte was told
abbrev pub IsTaken : {A : Type 0} → Result (List ℤ) ℕ → List ℤ → List ℤ → Result A InputRefusal → Type 0
IsTaken part old new (Ok x) = before old part ≡ Ok new
IsTaken part old new (Err (Bad k)) = part ≡ Err k
IsTaken part old new (Err Memory) = Unit {0}
