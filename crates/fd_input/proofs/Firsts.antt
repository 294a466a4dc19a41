-- The offset that is told is that of the first bad byte.
use Rattle.std.proofs.Common.{◌≡◌, ℕ, zero, suc, ◌+◌, ◌<◌, ◌≤◌, ℤ, Bool, true, false, List, [], ◌∷◌, ◌++◌, length, take, Result, Ok, Err, refl, ap, ◌∙◌, sym, subst, append_assoc, append-nil, length-append, arith, ◌⊎◌, inl, inr}
use Rattle.std.specs.Prelude.{◌==◌, if◌then◌else◌}
use Rattle.std.specs.List.{prefix_len, slice_split}
use Rattle.std.proofs.lemmas.Bool.Decides.{nat_tests}
use Rattle.fd_base.specs.Numbers.{fits_i64}
use Rattle.fd_base.specs.Digits.{is_digit, decimal_value}
use Rattle.fd_input.specs.Numbers.{signed_value, judged, number_behind, word_number}
use Rattle.fd_input.specs.Text.{is_white, placed, part_numbers, before, followed, parts_numbers, input_numbers}
use Rattle.fd_input.specs.Bad.{is_sign, front_digits, IsWrong, stray, lone_sign, large, large_behind_sign, IsWrongAt, IsBadAt, IsFirstBad}

-- ---- bytes one behind the other

-- whether a number may begin behind these bytes
abbrev behind : Bool → List ℕ → Bool
behind s [] = s
behind s (x ∷ xs) = behind (is_white x) xs

wrong_on : (s : Bool) (xs tail : List ℕ) (i k : ℕ) → k ≡ length xs + i → IsWrongAt (behind s xs) tail i → IsWrongAt s (xs ++ tail) k
wrong_on s [] tail i k e w = let same : i ≡ k = omega arith in subst (λ (j : ℕ). IsWrongAt s tail j) same w
wrong_on s (x ∷ xs) tail i zero e w = absurd (omega arith)
wrong_on s (x ∷ xs) tail i (suc k) e w = wrong_on (is_white x) xs tail i k (omega arith) w

abbrev Splits : Bool → List ℕ → List ℕ → ℕ → Type 0
Splits s xs tail k = (k < length xs) ⊎ ((i : ℕ) × (k ≡ length xs + i) × IsWrongAt (behind s xs) tail i)

wrong_split : (s : Bool) (xs tail : List ℕ) (k : ℕ) → IsWrongAt s (xs ++ tail) k → Splits s xs tail k
wrong_split s [] tail k w = inr (k, omega arith, w)
wrong_split s (x ∷ xs) tail zero w = inl (omega arith)
wrong_split s (x ∷ xs) tail (suc k) w = one_more s x xs tail k (wrong_split (is_white x) xs tail k w)
  where
    one_more : (s : Bool) (x : ℕ) (xs tail : List ℕ) (k : ℕ) → Splits (is_white x) xs tail k → Splits s (x ∷ xs) tail (suc k)
    one_more s x xs tail k (inl lt) = inl (omega arith)
    one_more s x xs tail k (inr (i, e, w)) = inr (i, omega arith, w)

-- nothing is wrong with these bytes, before others
abbrev NoneIn : Bool → List ℕ → List ℕ → Type 0
NoneIn s xs tail = (j : ℕ) → j < length xs → IsWrongAt s (xs ++ tail) j → ⊥

-- what is read says which byte is the first that is wrong, by its offset from the beginning of these bytes
abbrev IsJudged : ℕ → Bool → List ℕ → Result (List ℤ) ℕ → Type 0
IsJudged at s bytes (Ok xs) = (k : ℕ) → IsWrongAt s bytes k → ⊥
IsJudged at s bytes (Err e) = (k : ℕ) × (e ≡ at + k) × IsWrongAt s bytes k × ((j : ℕ) → j < k → IsWrongAt s bytes j → ⊥)

judged_before : (at : ℕ) (s : Bool) (bytes : List ℕ) (xs : List ℤ) (r : Result (List ℤ) ℕ) → IsJudged at s bytes r → IsJudged at s bytes (before xs r)
judged_before at s bytes xs (Ok ys) h = h
judged_before at s bytes xs (Err e) h = h

none_behind : (s : Bool) (xs tail : List ℕ) (k : ℕ) → NoneIn s xs tail → ((i : ℕ) → k ≡ length xs + i → IsWrongAt (behind s xs) tail i → ⊥) → IsWrongAt s (xs ++ tail) k → ⊥
none_behind s xs tail k none rest w = by (wrong_split s xs tail k w)
  where
    by : Splits s xs tail k → ⊥
    by (inl lt) = none k lt w
    by (inr (i, e, v)) = rest i e v

-- bytes with nothing wrong come first
skip : (at from : ℕ) (s : Bool) (xs tail : List ℕ) (r : Result (List ℤ) ℕ) → from ≡ at + length xs → NoneIn s xs tail → IsJudged from (behind s xs) tail r → IsJudged at s (xs ++ tail) r
skip at from s xs tail (Ok ys) f none h = λ k w. none_behind s xs tail k none (λ i e v. h i v) w
skip at from s xs tail (Err e) f none (i, is, w, first) =
    (length xs + i, omega arith, wrong_on s xs tail i (length xs + i) refl w, λ j lt v. none_behind s xs tail j none (λ m g u. first m (omega arith) u) v)

-- ---- digits

abbrev AllDigits : List ℕ → Type 0
AllDigits [] = Unit {0}
AllDigits (d ∷ ds) = (is_digit d ≡ true) × AllDigits ds

-- no digit comes first
abbrev BeginsOther : List ℕ → Type 0
BeginsOther [] = Unit {0}
BeginsOther (c ∷ cs) = is_digit c ≡ false

digit_not_white : (d : ℕ) → is_digit d ≡ true → is_white d ≡ false
digit_not_white d e = grind (arith, nat_tests)

digit_no_sign : (d : ℕ) → is_digit d ≡ true → is_sign d ≡ false
digit_no_sign d e = grind (arith, nat_tests)

sign_no_digit : (d : ℕ) → is_sign d ≡ true → is_digit d ≡ false
sign_no_digit d e = grind (arith, nat_tests)

sign_not_white : (d : ℕ) → is_sign d ≡ true → is_white d ≡ false
sign_not_white d e = grind (arith, nat_tests)

white_no_digit : (d : ℕ) → is_white d ≡ true → is_digit d ≡ false
white_no_digit d e = grind (arith, nat_tests)

white_no_sign : (d : ℕ) → is_white d ≡ true → is_sign d ≡ false
white_no_sign d e = grind (arith, nat_tests)

both : (b : Bool) → b ≡ true → b ≡ false → ⊥
both true e f = absurd (cc f)
both false e f = absurd (cc e)

-- the digits that bytes begin with, and the rest
record Fronts (bs : List ℕ) : Type 0 where
  digits : List ℕ
  more : List ℕ
  is : bs ≡ digits ++ more
  all : AllDigits digits
  other : BeginsOther more
  count : prefix_len is_digit bs ≡ length digits

fronts : (bs : List ℕ) → Fronts bs
fronts [] = record { digits = []; more = []; is = refl; all = tt; other = tt; count = refl }
fronts (b ∷ bs) = at b bs (is_digit b) refl (fronts bs)
  where
    at : (b : ℕ) (bs : List ℕ) (x : Bool) → is_digit b ≡ x → Fronts bs → Fronts (b ∷ bs)
    at b bs true e f = record { digits = b ∷ f.digits; more = f.more; is = ap (λ (xs : List ℕ). b ∷ xs) f.is; all = (e, f.all); other = f.other; count = rw e (omega (arith, f.count)) }
    at b bs false e f = record { digits = []; more = b ∷ bs; is = refl; all = tt; other = e; count = rw e refl }

-- the same bytes with others behind them that don't begin with a digit
prefix_len-digits : (ds more : List ℕ) → AllDigits ds → BeginsOther more → prefix_len is_digit (ds ++ more) ≡ length ds
prefix_len-digits [] [] all other = refl
prefix_len-digits [] (c ∷ cs) all other = rw other refl
prefix_len-digits (d ∷ ds) more all other = rw (all.0) (omega (arith, prefix_len-digits ds more all.1 other))

take_front : (ds more : List ℕ) → take (length ds) (ds ++ more) ≡ ds
take_front [] more = refl
take_front (d ∷ ds) more = ap (λ (xs : List ℕ). d ∷ xs) (take_front ds more)

front_digits-are : (ds more : List ℕ) → AllDigits ds → BeginsOther more → front_digits (ds ++ more) ≡ ds
front_digits-are ds more all other = ap (λ (n : ℕ). take n (ds ++ more)) (prefix_len-digits ds more all other) ∙ take_front ds more

-- nothing is wrong with a digit behind a byte of the same number
digit_fine : (d : ℕ) (bs : List ℕ) → is_digit d ≡ true → IsWrong false d bs → ⊥
digit_fine d bs e (stray w n s) = both (is_digit d) e n
digit_fine d bs e (lone_sign s n) = both (is_sign d) s (digit_no_sign d e)
digit_fine d bs e (large b n f) = absurd (cc b)
digit_fine d bs e (large_behind_sign b n f) = absurd (cc b)

digits_fine : (ds tail : List ℕ) → AllDigits ds → NoneIn false ds tail
digits_fine [] tail all j lt w = absurd (omega arith)
digits_fine (d ∷ ds) tail all zero lt w = digit_fine d (ds ++ tail) all.0 w
digits_fine (d ∷ ds) tail all (suc j) lt w = digits_fine ds tail all.1 j (omega arith) (subst (λ (s : Bool). IsWrongAt s (ds ++ tail) j) (digit_not_white d all.0) w)

behind_digits : (ds : List ℕ) → AllDigits ds → behind false ds ≡ false
behind_digits [] all = refl
behind_digits (d ∷ ds) all = ap (λ (s : Bool). behind s ds) (digit_not_white d all.0) ∙ behind_digits ds all.1

-- ---- a word

-- what is said of a word before others: nothing is wrong in it, or this byte is its first wrong one
abbrev WordJudged : List ℕ → List ℕ → Result ℤ ℕ → Type 0
WordJudged word tail (Ok x) = NoneIn true word tail
WordJudged word tail (Err k) = IsWrongAt true (word ++ tail) k × ((j : ℕ) → j < k → IsWrongAt true (word ++ tail) j → ⊥)

abbrev AllDark : List ℕ → Type 0
AllDark [] = Unit {0}
AllDark (x ∷ xs) = (is_white x ≡ false) × AllDark xs

abbrev BeginsDark : List ℕ → Type 0
BeginsDark [] = Unit {0}
BeginsDark (x ∷ xs) = is_white x ≡ false

abbrev BeginsWhite : List ℕ → Type 0
BeginsWhite [] = Unit {0}
BeginsWhite (x ∷ xs) = is_white x ≡ true

dark_behind : (ds more : List ℕ) → AllDark (ds ++ more) → BeginsDark more
dark_behind [] [] dark = tt
dark_behind [] (c ∷ cs) dark = dark.0
dark_behind (d ∷ ds) more dark = dark_behind ds more dark.1

white_other : (tail : List ℕ) → BeginsWhite tail → BeginsOther tail
white_other [] white = tt
white_other (c ∷ cs) white = white_no_digit c white

other_behind : (more tail : List ℕ) → BeginsOther more → BeginsWhite tail → BeginsOther (more ++ tail)
other_behind [] tail other white = white_other tail white
other_behind (c ∷ cs) tail other white = other

-- what comes of digits within 64 bits: a number where nothing stands behind them in the word
abbrev last_of : ℤ → ℕ → List ℕ → Result ℤ ℕ
last_of v n [] = Ok v
last_of v n (c ∷ cs) = Err n

abbrev verdict : ℕ → Bool → List ℕ → List ℕ → Result ℤ ℕ
verdict sign negative [] more = Err 0
verdict sign negative (d ∷ ds) more = if fits_i64 (signed_value negative (decimal_value (d ∷ ds))) then last_of (signed_value negative (decimal_value (d ∷ ds))) (sign + length (d ∷ ds)) more else Err 0

judged_digits : (sign : ℕ) (negative : Bool) (ds more : List ℕ) → judged sign negative (length ds) (ds ++ more) ≡ verdict sign negative ds more
judged_digits sign negative [] more = refl
judged_digits sign negative (d ∷ ds) [] =
    let some : (length (d ∷ ds) == 0) ≡ false = grind (arith, nat_tests) in
    let size : length ((d ∷ ds) ++ []) ≡ length (d ∷ ds) = ap length (append-nil (d ∷ ds)) in
    let whole : (length (d ∷ ds) == length ((d ∷ ds) ++ [])) ≡ true = grind (arith, nat_tests) in
    let front : take (length ds) (ds ++ []) ≡ ds = take_front ds [] in
    rw (some, front, whole) refl
judged_digits sign negative (d ∷ ds) (c ∷ cs) =
    let some : (length (d ∷ ds) == 0) ≡ false = grind (arith, nat_tests) in
    let size : length ((d ∷ ds) ++ c ∷ cs) ≡ length (d ∷ ds) + length (c ∷ cs) = length-append (d ∷ ds) (c ∷ cs) in
    let part : (length (d ∷ ds) == length ((d ∷ ds) ++ c ∷ cs)) ≡ false = grind (arith, nat_tests) in
    let front : take (length ds) (ds ++ c ∷ cs) ≡ ds = take_front ds (c ∷ cs) in
    rw (some, front, part) refl

number_verdict : (sign : ℕ) (negative : Bool) (bs : List ℕ) (f : Fronts bs) → number_behind sign negative bs ≡ verdict sign negative f.digits f.more
number_verdict sign negative bs f =
    ap (λ (n : ℕ). judged sign negative n bs) f.count ∙ ap (λ (xs : List ℕ). judged sign negative (length f.digits) xs) f.is ∙ judged_digits sign negative f.digits f.more

-- a front of a word in which nothing is wrong, and what stands behind it in the word
close : (v : ℤ) (n : ℕ) (front more tail : List ℕ) → n ≡ length front → NoneIn true front (more ++ tail) → behind true front ≡ false → BeginsOther more → BeginsDark more → WordJudged (front ++ more) tail (last_of v n more)
close v n front [] tail e none flag other dark = subst (λ (w : List ℕ). NoneIn true w tail) (sym (append-nil front)) none
close v n front (c ∷ cs) tail e none flag other dark =
    let joined : (front ++ c ∷ cs) ++ tail ≡ front ++ (c ∷ (cs ++ tail)) = append_assoc front (c ∷ cs) tail in
    let wrong : IsWrong false c (cs ++ tail) = stray dark other (λ b. absurd (cc b)) in (
      subst (λ (w : List ℕ). IsWrongAt true w n) (sym joined) (wrong_on true front (c ∷ (cs ++ tail)) 0 n (omega arith) (subst (λ (s : Bool). IsWrong s c (cs ++ tail)) (sym flag) wrong)),
      λ j lt w. none j (omega arith) (subst (λ (w : List ℕ). IsWrongAt true w j) joined w),
    )

-- a sign before digits within 64 bits
sign_fine : (b d : ℕ) (ds tail : List ℕ) → is_sign b ≡ true → AllDigits (d ∷ ds) → BeginsOther tail → fits_i64 (signed_value (b == 45) (decimal_value (d ∷ ds))) ≡ true → NoneIn true (b ∷ d ∷ ds) tail
sign_fine b d ds tail s all other fits zero lt (stray w n g) = both (is_sign b) s (g refl)
sign_fine b d ds tail s all other fits zero lt (lone_sign t n) = let e : d ∷ ds ≡ [] = sym (front_digits-are (d ∷ ds) tail all other) ∙ n in absurd cc
sign_fine b d ds tail s all other fits zero lt (large t n f) = both (is_digit b) n (sign_no_digit b s)
sign_fine b d ds tail s all other fits zero lt (large_behind_sign t n f) =
    both (fits_i64 (signed_value (b == 45) (decimal_value (d ∷ ds)))) fits (subst (λ (xs : List ℕ). fits_i64 (signed_value (b == 45) (decimal_value xs)) ≡ false) (front_digits-are (d ∷ ds) tail all other) f)
sign_fine b d ds tail s all other fits (suc j) lt w =
    digits_fine (d ∷ ds) tail all j (omega arith) (subst (λ (x : Bool). IsWrongAt x ((d ∷ ds) ++ tail) j) (sign_not_white b s) w)

-- digits within 64 bits
number_fine : (d : ℕ) (ds tail : List ℕ) → AllDigits (d ∷ ds) → BeginsOther tail → fits_i64 (signed_value false (decimal_value (d ∷ ds))) ≡ true → NoneIn true (d ∷ ds) tail
number_fine d ds tail all other fits zero lt (stray w n g) = both (is_digit d) all.0 n
number_fine d ds tail all other fits zero lt (lone_sign t n) = both (is_sign d) t (digit_no_sign d all.0)
number_fine d ds tail all other fits zero lt (large t n f) =
    both (fits_i64 (signed_value false (decimal_value (d ∷ ds)))) fits (subst (λ (xs : List ℕ). fits_i64 (signed_value false (decimal_value xs)) ≡ false) (front_digits-are (d ∷ ds) tail all other) f)
number_fine d ds tail all other fits zero lt (large_behind_sign t n f) = both (is_sign d) n (digit_no_sign d all.0)
number_fine d ds tail all other fits (suc j) lt w =
    digits_fine ds tail all.1 j (omega arith) (subst (λ (x : Bool). IsWrongAt x (ds ++ tail) j) (digit_not_white d all.0) w)

sign_at : (b : ℕ) (ds more tail : List ℕ) → is_sign b ≡ true → AllDigits ds → BeginsOther more → BeginsDark more → BeginsWhite tail → WordJudged (b ∷ (ds ++ more)) tail (verdict 1 (b == 45) ds more)
sign_at b [] more tail s all other dark white = (lone_sign s (front_digits-are [] (more ++ tail) tt (other_behind more tail other white)), λ j lt w. absurd (omega arith))
sign_at b (d ∷ ds) more tail s all other dark white = by (fits_i64 (signed_value (b == 45) (decimal_value (d ∷ ds)))) refl
  where
    by : (x : Bool) → fits_i64 (signed_value (b == 45) (decimal_value (d ∷ ds))) ≡ x → WordJudged (b ∷ ((d ∷ ds) ++ more)) tail (verdict 1 (b == 45) (d ∷ ds) more)
    by true e = rw e (close (signed_value (b == 45) (decimal_value (d ∷ ds))) (1 + length (d ∷ ds)) (b ∷ d ∷ ds) more tail (omega arith)
        (sign_fine b d ds (more ++ tail) s all (other_behind more tail other white) e) (ap (λ (x : Bool). behind x (d ∷ ds)) (sign_not_white b s) ∙ behind_digits (d ∷ ds) all) other dark)
    by false e =
        let joined : ((d ∷ ds) ++ more) ++ tail ≡ (d ∷ ds) ++ (more ++ tail) = append_assoc (d ∷ ds) more tail in
        let front : front_digits (((d ∷ ds) ++ more) ++ tail) ≡ d ∷ ds = ap front_digits joined ∙ front_digits-are (d ∷ ds) (more ++ tail) all (other_behind more tail other white) in
        let past : fits_i64 (signed_value (b == 45) (decimal_value (front_digits (((d ∷ ds) ++ more) ++ tail)))) ≡ false = ap (λ (xs : List ℕ). fits_i64 (signed_value (b == 45) (decimal_value xs))) front ∙ e in
        rw e (large_behind_sign refl s past, λ j lt w. absurd (omega arith))

number_at : (b : ℕ) (ds more tail : List ℕ) → AllDigits (b ∷ ds) → BeginsOther more → BeginsDark more → BeginsWhite tail → WordJudged ((b ∷ ds) ++ more) tail (verdict 0 false (b ∷ ds) more)
number_at b ds more tail all other dark white = by (fits_i64 (signed_value false (decimal_value (b ∷ ds)))) refl
  where
    by : (x : Bool) → fits_i64 (signed_value false (decimal_value (b ∷ ds))) ≡ x → WordJudged ((b ∷ ds) ++ more) tail (verdict 0 false (b ∷ ds) more)
    by true e = rw e (close (signed_value false (decimal_value (b ∷ ds))) (0 + length (b ∷ ds)) (b ∷ ds) more tail (omega arith)
        (number_fine b ds (more ++ tail) all (other_behind more tail other white) e) (ap (λ (x : Bool). behind x ds) (digit_not_white b all.0) ∙ behind_digits ds all.1) other dark)
    by false e =
        let joined : ((b ∷ ds) ++ more) ++ tail ≡ (b ∷ ds) ++ (more ++ tail) = append_assoc (b ∷ ds) more tail in
        let front : front_digits (((b ∷ ds) ++ more) ++ tail) ≡ b ∷ ds = ap front_digits joined ∙ front_digits-are (b ∷ ds) (more ++ tail) all (other_behind more tail other white) in
        let past : fits_i64 (signed_value false (decimal_value (front_digits (((b ∷ ds) ++ more) ++ tail)))) ≡ false = ap (λ (xs : List ℕ). fits_i64 (signed_value false (decimal_value xs))) front ∙ e in
        rw e (large refl all.0 past, λ j lt w. absurd (omega arith))

-- a word that begins with a sign, and one that doesn't
sign_word : (b : ℕ) (bs tail : List ℕ) (negative : Bool) → (b == 45) ≡ negative → is_sign b ≡ true → AllDark bs → BeginsWhite tail → WordJudged (b ∷ bs) tail (number_behind 1 negative bs)
sign_word b bs tail negative neg s dark white =
    let f : Fronts bs = fronts bs in
    let seen : number_behind 1 negative bs ≡ verdict 1 (b == 45) f.digits f.more = number_verdict 1 negative bs f ∙ ap (λ (x : Bool). verdict 1 x f.digits f.more) (sym neg) in
    let same : AllDark (f.digits ++ f.more) = subst AllDark f.is dark in
    subst (λ (r : Result ℤ ℕ). WordJudged (b ∷ bs) tail r) (sym seen)
    (subst (λ (xs : List ℕ). WordJudged (b ∷ xs) tail (verdict 1 (b == 45) f.digits f.more)) (sym f.is) (sign_at b f.digits f.more tail s f.all f.other (dark_behind f.digits f.more same) white))

plain_word : (b : ℕ) (bs tail : List ℕ) → is_sign b ≡ false → AllDark (b ∷ bs) → BeginsWhite tail → WordJudged (b ∷ bs) tail (number_behind 0 false (b ∷ bs))
plain_word b bs tail s dark white = by (fronts (b ∷ bs)) refl
  where
    first_is : (b d : ℕ) (bs ds more : List ℕ) → b ∷ bs ≡ (d ∷ ds) ++ more → d ≡ b
    first_is b d bs ds more e = cc

    other_is : (b : ℕ) (bs more : List ℕ) → b ∷ bs ≡ [] ++ more → BeginsOther more → is_digit b ≡ false
    other_is b bs [] e other = absurd cc
    other_is b bs (c ∷ cs) e other = let same : b ≡ c = cc in ap is_digit same ∙ other

    by_digits : (ds more : List ℕ) → b ∷ bs ≡ ds ++ more → AllDigits ds → BeginsOther more → WordJudged (b ∷ bs) tail (verdict 0 false ds more)
    by_digits [] more e all other = (stray dark.0 (other_is b bs more e other) (λ t. s), λ j lt w. absurd (omega arith))
    by_digits (d ∷ ds) more e all other =
        let same : AllDark ((d ∷ ds) ++ more) = subst AllDark e dark in
        subst (λ (xs : List ℕ). WordJudged xs tail (verdict 0 false (d ∷ ds) more)) (sym e) (number_at d ds more tail all other (dark_behind (d ∷ ds) more same) white)

    by : (f : Fronts (b ∷ bs)) → f ≡ f → WordJudged (b ∷ bs) tail (number_behind 0 false (b ∷ bs))
    by f e = subst (λ (r : Result ℤ ℕ). WordJudged (b ∷ bs) tail r) (sym (number_verdict 0 false (b ∷ bs) f)) (by_digits f.digits f.more f.is f.all f.other)

word_judged : (b : ℕ) (bs tail : List ℕ) → AllDark (b ∷ bs) → BeginsWhite tail → WordJudged (b ∷ bs) tail (word_number (b ∷ bs))
word_judged b bs tail dark white = minus (b == 45) refl (b == 43) refl
  where
    minus : (x : Bool) → (b == 45) ≡ x → (y : Bool) → (b == 43) ≡ y → WordJudged (b ∷ bs) tail (word_number (b ∷ bs))
    minus true e y f = let s : is_sign b ≡ true = grind (arith, nat_tests) in rw e (sign_word b bs tail true e s dark.1 white)
    minus false e true f = let s : is_sign b ≡ true = grind (arith, nat_tests) in rw (e, f) (sign_word b bs tail false e s dark.1 white)
    minus false e false f = let s : is_sign b ≡ false = grind (arith, nat_tests) in rw (e, f) (plain_word b bs tail s dark white)

-- ---- words one behind the other

-- the bytes before the first white one, and the rest
record Words (bytes : List ℕ) : Type 0 where
  word : List ℕ
  tail : List ℕ
  is : bytes ≡ word ++ tail
  dark : AllDark word
  white : BeginsWhite tail

first_word : (bytes : List ℕ) → Words bytes
first_word [] = record { word = []; tail = []; is = refl; dark = tt; white = tt }
first_word (b ∷ bs) = at b bs (is_white b) refl (first_word bs)
  where
    at : (b : ℕ) (bs : List ℕ) (x : Bool) → is_white b ≡ x → Words bs → Words (b ∷ bs)
    at b bs true e w = record { word = []; tail = b ∷ bs; is = refl; dark = tt; white = e }
    at b bs false e w = record { word = b ∷ w.word; tail = w.tail; is = ap (λ (xs : List ℕ). b ∷ xs) w.is; dark = (e, w.dark); white = w.white }

split_end : (w : List ℕ) → AllDark w → slice_split is_white w ≡ w ∷ []
split_end [] dark = refl
split_end (x ∷ xs) dark = rw (dark.0, split_end xs dark.1) refl

split_at : (w : List ℕ) (c : ℕ) (more : List ℕ) → AllDark w → is_white c ≡ true → slice_split is_white (w ++ c ∷ more) ≡ w ∷ slice_split is_white more
split_at [] c more dark white = rw white refl
split_at (x ∷ xs) c more dark white = rw (dark.0, split_at xs c more dark.1 white) refl

white_fine : (s : Bool) (c : ℕ) (bs : List ℕ) → is_white c ≡ true → IsWrong s c bs → ⊥
white_fine s c bs e (stray w n g) = both (is_white c) e w
white_fine s c bs e (lone_sign t n) = both (is_sign c) t (white_no_sign c e)
white_fine s c bs e (large b n f) = both (is_digit c) n (white_no_digit c e)
white_fine s c bs e (large_behind_sign b n f) = both (is_sign c) n (white_no_sign c e)

white_none : (s : Bool) (c : ℕ) (cs : List ℕ) → is_white c ≡ true → NoneIn s (c ∷ []) cs
white_none s c cs e zero lt w = white_fine s c cs e w
white_none s c cs e (suc j) lt w = absurd (omega arith)

-- a part, and what stands behind it
combine : (at : ℕ) (word tail : List ℕ) (more : Result (List ℤ) ℕ) → AllDark word → BeginsWhite tail → IsJudged (at + length word) (behind true word) tail more → IsJudged at true (word ++ tail) (followed (part_numbers at word) more)
combine at [] tail more dark white h = judged_before at true tail [] more (skip at (at + length {A = ℕ} []) true [] tail more refl (λ j lt w. absurd (omega arith)) h)
combine at (b ∷ bs) tail more dark white h = by (word_number (b ∷ bs)) (word_judged b bs tail dark white)
  where
    by : (r : Result ℤ ℕ) → WordJudged (b ∷ bs) tail r → IsJudged at true ((b ∷ bs) ++ tail) (followed (placed at r) more)
    by (Ok x) none = judged_before at true ((b ∷ bs) ++ tail) (x ∷ []) more (skip at (at + length (b ∷ bs)) true (b ∷ bs) tail more refl none h)
    by (Err k) (wrong, first) = (k, refl, wrong, first)

-- what is said of shorter inputs
abbrev Shorter : List ℕ → Type 0
Shorter bytes = (from : ℕ) (rest : List ℕ) → length rest < length bytes → IsJudged from true rest (parts_numbers from (slice_split is_white rest))

words_at : (at : ℕ) (word tail : List ℕ) → AllDark word → BeginsWhite tail → Shorter (word ++ tail) → IsJudged at true (word ++ tail) (parts_numbers at (slice_split is_white (word ++ tail)))
words_at at word [] dark white shorter =
    let split : slice_split is_white (word ++ []) ≡ word ∷ [] = ap (slice_split is_white) (append-nil word) ∙ split_end word dark in
    subst (λ (ps : List (List ℕ)). IsJudged at true (word ++ []) (parts_numbers at ps)) (sym split) (combine at word [] (Ok []) dark white (λ k w. w))
words_at at word (c ∷ cs) dark white shorter =
    let less : length cs < length (word ++ c ∷ cs) = omega (arith, length-append word (c ∷ cs)) in
    let rest = parts_numbers (at + length word + 1) (slice_split is_white cs) in
    let behind_white : IsJudged (at + length word + 1) (behind (behind true word) (c ∷ [])) cs rest = subst (λ (s : Bool). IsJudged (at + length word + 1) s cs rest) (sym white) (shorter (at + length word + 1) cs less) in
    subst (λ (ps : List (List ℕ)). IsJudged at true (word ++ c ∷ cs) (parts_numbers at ps)) (sym (split_at word c cs dark white))
    (combine at word (c ∷ cs) rest dark white (skip (at + length word) (at + length word + 1) (behind true word) (c ∷ []) cs rest (omega arith) (white_none (behind true word) c cs white) behind_white))

judged_words : (at : ℕ) (bytes : List ℕ) → Words bytes → Shorter bytes → IsJudged at true bytes (parts_numbers at (slice_split is_white bytes))
judged_words at bytes w shorter =
    subst (λ (bs : List ℕ). IsJudged at true bs (parts_numbers at (slice_split is_white bs))) (sym w.is) (words_at at w.word w.tail w.dark w.white (subst Shorter w.is shorter))

judged_all : (n at : ℕ) (bytes : List ℕ) → length bytes ≤ n → IsJudged at true bytes (parts_numbers at (slice_split is_white bytes))
judged_all zero at [] le = λ k w. w
judged_all zero at (b ∷ bs) le = absurd (omega arith)
judged_all (suc n) at bytes le = judged_words at bytes (first_word bytes) (λ from rest lt. judged_all n from rest (omega arith))

judged_input : (bytes : List ℕ) → IsJudged 0 true bytes (input_numbers bytes)
judged_input bytes = judged_all (length bytes) 0 bytes (omega arith)

pub bad_is_first : (bytes : List ℕ) (k : ℕ) → input_numbers bytes ≡ Err k → IsFirstBad bytes k
bad_is_first bytes k e = at (subst (λ (r : Result (List ℤ) ℕ). IsJudged 0 true bytes r) e (judged_input bytes))
  where
    at : IsJudged 0 true bytes (Err k) → IsFirstBad bytes k
    at (i, is, wrong, first) = let same : i ≡ k = omega (arith, is) in subst (IsFirstBad bytes) same (wrong, first)

pub read_has_none : (bytes : List ℕ) (xs : List ℤ) → input_numbers bytes ≡ Ok xs → (k : ℕ) → IsBadAt bytes k → ⊥
read_has_none bytes xs e = subst (λ (r : Result (List ℤ) ℕ). IsJudged 0 true bytes r) e (judged_input bytes)
