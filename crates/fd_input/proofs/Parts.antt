-- The parts of a text, one after another.
use Rattle.std.proofs.Common.{◌≡◌, ℕ, ◌+◌, ◌<◌, ◌≤◌, ℤ, Bool, true, false, List, [], ◌∷◌, ◌++◌, length, take, drop, Result, Ok, Err, refl, ap, ◌∙◌, sym, append_assoc, arith, ◌⊎◌, inl, inr}
use Rattle.std.specs.List.{slice_split, position_or_len}
use Rattle.std.proofs.lemmas.Bool.{cases_lt}
use Rattle.std.proofs.lemmas.List.{take_all, append-nil}
use Rattle.std.proofs.lemmas.List.Splits.{slice_split_first}
use Rattle.fd_input.specs.declared.refusal.InputRefusal.{InputRefusal}
use Rattle.fd_input.specs.declared.refusal.InputRefusal.TheVariants.{Bad, Memory}
use Rattle.fd_input.specs.Text.{is_white, before, followed, parts_numbers, part_numbers, IsRead, IsTaken}

-- without an element that passes, the list is the one part
pub slice_split-end : {X : Type 0} (p : X → Bool) (xs : List X) → position_or_len p xs ≡ length xs → slice_split p xs ≡ xs ∷ []
slice_split-end p [] e = refl
slice_split-end p (x ∷ xs) e = at p x xs (p x) refl e (slice_split-end p xs)
  where
    at : {X : Type 0} (p : X → Bool) (x : X) (xs : List X) (b : Bool) → p x ≡ b → position_or_len p (x ∷ xs) ≡ length (x ∷ xs) → (position_or_len p xs ≡ length xs → slice_split p xs ≡ xs ∷ [])
        → slice_split p (x ∷ xs) ≡ (x ∷ xs) ∷ []
    at p x xs true e full rest = absurd (omega (arith, rw e at full))
    at p x xs false e full rest = rw (e, rest (omega (arith, rw e at full))) refl

-- numbers before numbers before others
before-before : (old xs : List ℤ) (more : Result (List ℤ) ℕ) → before old (before xs more) ≡ before (old ++ xs) more
before-before old xs (Ok ys) = ap Ok (sym (append_assoc old xs ys))
before-before old xs (Err k) = refl

-- a part that was taken
pub before-followed : (old new : List ℤ) (part more : Result (List ℤ) ℕ) → before old part ≡ Ok new → before old (followed part more) ≡ before new more
before-followed old new (Ok xs) more e = before-before old xs more ∙ ap (λ zs. before zs more) (cc e)
before-followed old new (Err k) more e = absurd (cc)

-- one more part was taken
pub taken_more : (bytes : List ℕ) (at : ℕ) (old new : List ℤ) (wanted : Result (List ℤ) ℕ) (rest : List ℕ) (count : ℕ) → count ≡ position_or_len is_white rest → count < length rest
    → wanted ≡ before old (parts_numbers at (slice_split is_white rest)) → before old (part_numbers at (take count rest)) ≡ Ok new
    → wanted ≡ before new (parts_numbers (at + length (take count rest) + 1) (slice_split is_white (drop (count + 1) rest)))
taken_more bytes at old new wanted rest count is within all taken =
    let place : position_or_len is_white rest < length rest = omega (arith, is) in
    let split : slice_split is_white rest ≡ take count rest ∷ slice_split is_white (drop (count + 1) rest) = rw is (slice_split_first is_white rest 0 place) in
    all ∙ ap (λ ps. before old (parts_numbers at ps)) split ∙ before-followed old new (part_numbers at (take count rest)) (parts_numbers (at + length (take count rest) + 1) (slice_split is_white (drop (count + 1) rest))) taken

-- the last part was taken
pub taken_last : (at : ℕ) (old new : List ℤ) (wanted : Result (List ℤ) ℕ) (rest : List ℕ) (count : ℕ) → count ≡ position_or_len is_white rest → count ≡ length rest
    → wanted ≡ before old (parts_numbers at (slice_split is_white rest)) → before old (part_numbers at (take count rest)) ≡ Ok new → wanted ≡ Ok new
taken_last at old new wanted rest count is full all taken =
    let whole : take count rest ≡ rest = take_all count rest (omega (arith, full)) in
    all ∙ ap (λ ps. before old (parts_numbers at ps)) (slice_split-end is_white rest (sym is ∙ full))
    ∙ before-followed old new (part_numbers at rest) (Ok []) (rw whole at taken) ∙ ap Ok (append-nil new)

-- a text begins with its first part
first_part : (rest : List ℕ) (count : ℕ) → count ≡ position_or_len is_white rest → count ≤ length rest → (more : List (List ℕ)) × (slice_split is_white rest ≡ take count rest ∷ more)
first_part rest count is within = either (cases_lt count (length rest))
  where
    either : (count < length rest) ⊎ (length rest ≤ count) → (more : List (List ℕ)) × (slice_split is_white rest ≡ take count rest ∷ more)
    either (inl some) =
        let place : position_or_len is_white rest < length rest = omega (arith, is) in
        (slice_split is_white (drop (count + 1) rest), rw is (slice_split_first is_white rest 0 place))
    either (inr none) =
        let full : position_or_len is_white rest ≡ length rest = omega (arith, is) in
        let whole : take count rest ≡ rest = take_all count rest none in
        ([], rw whole (slice_split-end is_white rest full))

-- a part with a bad byte
pub taken_bad : (A : Type 0) (at : ℕ) (old new : List ℤ) (wanted : Result (List ℤ) ℕ) (rest word : List ℕ) (count : ℕ) (r : InputRefusal) (result : Result (List ℤ) InputRefusal) → count ≡ position_or_len is_white rest → count ≤ length rest
    → wanted ≡ before old (parts_numbers at (slice_split is_white rest)) → word ≡ take count rest → IsTaken {A = A} (part_numbers at word) old new (Err r) → result ≡ Err r → IsRead wanted result
taken_bad A at old new wanted rest word count (Bad k) result is within all same bad e =
    let split = first_part rest count is within in
    let ends : wanted ≡ Err k = all ∙ ap (λ ps. before old (parts_numbers at ps)) split.1 ∙ ap (λ r. before old (followed r (parts_numbers (at + length (take count rest) + 1) split.0))) (ap (part_numbers at) (sym same) ∙ bad) in
    rw e ends
taken_bad A at old new wanted rest word count Memory result is within all same bad e = rw e tt
