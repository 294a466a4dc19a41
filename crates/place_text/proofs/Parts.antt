-- Texts by their parts.
use Rattle.std.proofs.Common.{◌≡◌, ℕ, ◌+◌, ◌-◌, ◌<◌, ◌≤◌, ◌^◌, ◌==◌, nat_lt, ◌&&◌, not, false, true, inl, inr, List, [], ◌∷◌, ◌++◌, length, take, drop, get_or, sym, ◌∙◌, ap, arith, append_assoc, length-take, true≢false}
use Rattle.std.specs.List.{count_by, position_or_len}
use Rattle.std.proofs.lemmas.List.{take_all}
use Rattle.std.proofs.lemmas.List.Sums.{fails_before_first, position_or_len_is, prefix_len-le-length, count_by-le-length, count_by_more_no}
use Rattle.std.proofs.lemmas.Bool.{cond_both, cases_lt, cases_Bool, and_from, lt-ltb}
use Rattle.std.proofs.lemmas.List.Splits.{slice_split_first, slice_split_none, length-slice_split}
use Rattle.place_text.specs.Readings.{lines_in, parts_at, unended}

-- the first place that has this byte
pub place_is : (sep : ℕ) (text : List ℕ) (i : ℕ) → i < length text → ((k : ℕ) → k < i → (get_or text k 0 == sep) ≡ false) → (get_or text i 0 == sep) ≡ true → i ≡ position_or_len (λ (b : ℕ). b == sep) text
place_is sep text i h before here = sym (position_or_len_is (λ (b : ℕ). b == sep) text i 0 (omega arith) before (λ _. here))

pub place_none : (sep : ℕ) (text : List ℕ) → ((k : ℕ) → k < length text → (get_or text k 0 == sep) ≡ false) → length text ≡ position_or_len (λ (b : ℕ). b == sep) text
place_none sep text before = sym (position_or_len_is (λ (b : ℕ). b == sep) text (length text) 0 (omega arith) before (λ h. absurd (omega arith)))

-- one part more
pub part_more : (sep : ℕ) (parts : List (List ℕ)) (rest text : List ℕ) (end : ℕ) → end ≡ position_or_len (λ (b : ℕ). b == sep) rest → end < length rest → parts ++ parts_at sep rest ≡ parts_at sep text
    → (parts ++ (take end rest ∷ [])) ++ parts_at sep (drop (end + 1) rest) ≡ parts_at sep text
part_more sep parts rest text end e h so =
    let p = λ (b : ℕ). b == sep in
    let short : position_or_len p rest < length rest = omega (arith, e) in
    append_assoc parts (take end rest ∷ []) (parts_at sep (drop (end + 1) rest))
    ∙ (ap (λ (n : ℕ). parts ++ (take n rest ∷ parts_at sep (drop (n + 1) rest))) e
    ∙ (ap (λ (ps : List (List ℕ)). parts ++ ps) (sym (slice_split_first p rest 0 short)) ∙ so))

-- the last part
pub part_last : (sep : ℕ) (parts : List (List ℕ)) (rest text : List ℕ) (end : ℕ) → end ≡ position_or_len (λ (b : ℕ). b == sep) rest → end ≡ length rest → parts ++ parts_at sep rest ≡ parts_at sep text
    → parts ++ (take end rest ∷ []) ≡ parts_at sep text
part_last sep parts rest text end e h so =
    let p = λ (b : ℕ). b == sep in
    ap (λ (t : List ℕ). parts ++ (t ∷ [])) (take_all end rest (omega (arith, h)))
    ∙ (ap (λ (ps : List (List ℕ)). parts ++ ps) (sym (slice_split_none p rest (λ k d l. fails_before_first p rest k d (omega (arith, e, h, l))))) ∙ so)

pub place_le : (sep : ℕ) (text : List ℕ) → position_or_len (λ (b : ℕ). b == sep) text ≤ length text
place_le sep text = prefix_len-le-length (λ (b : ℕ). not (b == sep)) text

short_unended : (text : List ℕ) → length (unended text) ≤ length text
short_unended text = cond_both _ (take (length text - 1) text) text (λ (u : List ℕ). length u ≤ length text) (λ _. omega (arith, length-take (length text - 1) text)) (λ _. omega arith)

-- a text that doesn't end with the end of a line has fewer of these than bytes
fewer_ends : (text : List ℕ) → 0 < length text → (get_or text (length text - 1) 0 == 10) ≡ false → count_by (λ (b : ℕ). b == 10) text < length text
fewer_ends text h other =
    let p = λ (b : ℕ). b == 10 in
    let k : ℕ = length text - 1 in
    let whole : take (k + 1) text ≡ text = take_all (k + 1) text (omega (arith, h)) in
    let counted : count_by p (take (k + 1) text) ≡ count_by p text = ap (count_by p) whole in
    let same : count_by p (take (k + 1) text) ≡ count_by p (take k text) = count_by_more_no p text k 0 (omega (arith, h)) other in
    omega (arith, h, counted, same, count_by-le-length p (take k text), length-take k text)

-- such a text has at most as many lines as bytes, or one
lines_unended : (text : List ℕ) → (nat_lt 0 (length text) && (get_or text (length text - 1) 0 == 10)) ≡ false → count_by (λ (b : ℕ). b == 10) text ≤ length text - 1
lines_unended text h = elim (cases_lt 0 (length text)) [
  | inl some ↦ elim (cases_Bool (get_or text (length text - 1) 0 == 10)) [
    | inl ends ↦ absurd (true≢false (sym (and_from _ _ (lt-ltb 0 (length text) some) ends) ∙ h))
    | inr other ↦ omega (arith, some, fewer_ends text some other)
  ]
  | inr none ↦ omega (arith, none, count_by-le-length (λ (b : ℕ). b == 10) text)
]

-- so many ends of lines has a text beside that of its last line
few_ends : (text : List ℕ) → count_by (λ (b : ℕ). b == 10) (unended text) ≤ length text - 1
few_ends text = cond_both _ (take (length text - 1) text) text (λ (u : List ℕ). count_by (λ (b : ℕ). b == 10) u ≤ length text - 1)
    (λ _. omega (arith, count_by-le-length (λ (b : ℕ). b == 10) (take (length text - 1) text), length-take (length text - 1) text))
    (λ h. lines_unended text h)

-- a text has at most as many lines as bytes, and one where it is empty
pub few_lines : (text : List ℕ) → length text + 1 < 2 ^ 32 → length (lines_in text) + 1 < 2 ^ 32
few_lines text h =
    let parts : length (lines_in text) ≡ count_by (λ (b : ℕ). b == 10) (unended text) + 1 = length-slice_split (λ (b : ℕ). b == 10) (unended text) in
    omega (arith, h, parts, few_ends text)
