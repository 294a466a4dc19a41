-- The physical lines from a place on.
use Rattle.std.proofs.Common.{◌≡◌, ℕ, ◌+◌, ◌-◌, ◌<◌, ◌≤◌, Bool, true, false, List, [], ◌∷◌, length, take, drop, refl, sym, ap, ◌∙◌, arith, inl, inr}
use Rattle.std.specs.Prelude.{filter, if◌then◌else◌, slice_index, ◌==◌}
use Rattle.std.specs.List.{slice_split, position_or_len}
use Rattle.std.proofs.lemmas.List.{length-take, length-drop, take_all, nil_from_length, drop-drop}
use Rattle.std.proofs.lemmas.List.Splits.{slice_split_none, slice_split_first, length-slice_split}
use Rattle.std.proofs.lemmas.List.Sums.{fails_before_first}
use Rattle.std.proofs.lemmas.Bool.{eqb-true}
use Rattle.fd_lexer.specs.declared.place.Place.{Place}
use Rattle.fd_lexer.specs.declared.place.PhysicalLine.{PhysicalLine}
use Rattle.fd_lexer.specs.Physical.{code_len, code_end, counts, Physical, is_feed, without_return, ended_line, last_line, lines_from, counted_from}
use Rattle.fd_lexer.proofs.Fronts.{cases_of}
use Rattle.fd_lexer.specs.Place.{counted_of, physical_of, IsFirstLine, IsNextLine}

pub counted_nil : (n s : ℕ) → counted_from n s [] ≡ []
unfolding counted_from counts code_end code_len
counted_nil n s = refl

abbrev line_counts : Physical → Bool
line_counts p = counts p.bytes

-- a line before the lines that count behind it
abbrev pub before : Physical → List Physical → List Physical
before p ps = if counts p.bytes then p ∷ ps else ps

counted_last : (n s : ℕ) (rest : List ℕ) → length rest ≤ position_or_len is_feed rest → counted_from n s rest ≡ before (last_line n s rest) []
unfolding counted_from
counted_last n s rest le = ap (λ (parts : List (List ℕ)). filter line_counts (lines_from n s parts)) (slice_split_none is_feed rest (λ k d lt. fails_before_first is_feed rest k d (omega (arith, le, lt))))

lines_ended : (n s : ℕ) (bs : List ℕ) (parts : List (List ℕ)) → 0 < length parts → lines_from n s (bs ∷ parts) ≡ ended_line n s bs ∷ lines_from (n + 1) (s + length bs + 1) parts
lines_ended n s bs [] lt = absurd (omega (arith, lt))
lines_ended n s bs (cs ∷ more) lt = refl

counted_ended : (n s : ℕ) (rest : List ℕ) (len : ℕ) → len ≡ position_or_len is_feed rest → len < length rest → counted_from n s rest ≡ before (ended_line n s (take len rest)) (counted_from (n + 1) (s + len + 1) (drop (len + 1) rest))
unfolding counted_from
counted_ended n s rest len e lt =
    let short : position_or_len is_feed rest < length rest = omega (arith, e, lt) in
    let some = length-slice_split is_feed (drop (len + 1) rest) in
    let l : length (take len rest) ≡ len = omega (arith, length-take len rest, lt) in
    let f : slice_split is_feed rest ≡ take len rest ∷ slice_split is_feed (drop (len + 1) rest) = rw e (slice_split_first is_feed rest 0 short) in
    let g : lines_from n s (slice_split is_feed rest) ≡ ended_line n s (take len rest) ∷ lines_from (n + 1) (s + len + 1) (slice_split is_feed (drop (len + 1) rest)) =
    ap (lines_from n s) f ∙ (lines_ended n s (take len rest) (slice_split is_feed (drop (len + 1) rest)) (omega (arith, some)) ∙ ap (λ (m : ℕ). ended_line n s (take len rest) ∷ lines_from (n + 1) (s + m + 1) (slice_split is_feed (drop (len + 1) rest))) l) in
    ap (filter line_counts) g

-- the last line, which has no end
pub step_last : (n s : ℕ) (rest bytes behind : List ℕ) (len : ℕ) → len ≡ position_or_len is_feed rest → len ≤ length rest → bytes ≡ take len rest → behind ≡ drop len rest → length behind ≡ 0 →
    counted_from n s rest ≡ before (record { number = n; start = s; bytes = bytes; next = s + len }) (counted_from n (s + len) behind)
step_last n s rest bytes behind len e le f g z =
    let all : length rest ≡ len = omega (arith, le, length-drop len rest, ap length g, z) in
    let b : bytes ≡ rest = f ∙ take_all len rest (omega (arith, all)) in
    let nil : behind ≡ [] = nil_from_length behind z in
    rw (b, nil, counted_nil n (s + len), ← all) (counted_last n s rest (omega (arith, e, all)))

after_is : (rest behind after : List ℕ) (b len : ℕ) → behind ≡ drop len rest → behind ≡ b ∷ after → after ≡ drop (len + 1) rest
after_is rest behind after b len g h =
    let t : drop 1 behind ≡ after = ap (drop 1) h in
    sym t ∙ (ap (drop 1) g ∙ drop-drop 1 len rest)

-- a line that has an end
pub step_ended : (n s : ℕ) (rest bytes behind line after : List ℕ) (b len : ℕ) → len ≡ position_or_len is_feed rest → bytes ≡ take len rest → behind ≡ drop len rest → behind ≡ b ∷ after → line ≡ without_return bytes →
    counted_from n s rest ≡ before (record { number = n; start = s; bytes = line; next = s + len + 1 }) (counted_from (n + 1) (s + len + 1) after)
step_ended n s rest bytes behind line after b len e f g h w =
    let lt : len < length rest = omega (arith, length-drop len rest, ap length g, ap length h) in
    let l : length (take len rest) ≡ len = omega (arith, length-take len rest, lt) in
    let a = after_is rest behind after b len g h in
    let k : line ≡ without_return (take len rest) = w ∙ ap without_return f in
    rw (a, k) (counted_ended n s rest len e lt ∙ ap (λ (m : ℕ). before (record { number = n; start = s; bytes = without_return (take len rest); next = s + m + 1 }) (counted_from (n + 1) (s + len + 1) (drop (len + 1) rest))) l)

-- ---- from place to place

-- lines that don't count lie between
pub record IsAhead (p q : Place) : Type 0 where
  pub same : counted_of p ≡ counted_of q
  pub later : p.at ≤ q.at
  pub all : q.at + length q.rest.now ≡ p.at + length p.rest.now
  pub numbers : q.number ≤ q.at + 1

pub counts_not : (p q : Place) (l : PhysicalLine) → false ≡ counts l.bytes.now → IsFirstLine p l q → counted_of p ≡ counted_of q
counts_not p q l e h = h.counted ∙ rw (← e) refl

pub counts_here : (p q : Place) (l : PhysicalLine) → true ≡ counts l.bytes.now → IsFirstLine p l q → counted_of p ≡ physical_of l ∷ counted_of q
counts_here p q l e h = h.counted ∙ rw (← e) refl

pub ahead_more : (p q r : Place) (l : PhysicalLine) → IsAhead p q → IsFirstLine q l r → false ≡ counts l.bytes.now → IsAhead p r
ahead_more p q r l a h e = record {
  same = a.same ∙ counts_not q r l e h;
  later = omega (arith, a.later, h.between.from, h.between.bytes, h.between.to);
  all = omega (arith, a.all, h.between.all);
  numbers = h.between.numbers;
}

pub ahead_line : (p q r : Place) (l : PhysicalLine) → IsAhead p q → IsFirstLine q l r → true ≡ counts l.bytes.now → IsNextLine p l r
ahead_line p q r l a h e = record {
  counted = a.same ∙ counts_here q r l e h;
  between = record {
    from = omega (arith, a.later, h.between.from);
    bytes = h.between.bytes;
    to = h.between.to;
    number = h.between.number;
    all = omega (arith, a.all, h.between.all);
    shorter = omega (arith, a.all, a.later, h.between.shorter);
    numbers = h.between.numbers;
  };
}

pub ahead_end : (p q : Place) → IsAhead p q → true ≡ (length q.rest.now == 0) → counted_of p ≡ []
ahead_end p q a t = let z : length q.rest.now ≡ 0 = eqb-true (length q.rest.now) 0 (sym t) in let e = nil_from_length q.rest.now z in a.same ∙ (ap (counted_from q.number q.at) e ∙ counted_nil q.number q.at)

-- ---- the carriage return

pub no_bytes : (bs : List ℕ) → length bs ≡ 0 → bs ≡ without_return bs
no_bytes bs z = let e = nil_from_length bs z in rw e refl

without_within : (bs : List ℕ) → length (without_return bs) ≤ length bs
without_within bs = elim (cases_of (slice_index bs (length bs - 1) == 13)) [
  | inl e ↦ rw e (omega (arith, length-take (length bs - 1) bs))
  | inr e ↦ rw e (omega arith)
]

pub without_shorter : (line bs : List ℕ) → line ≡ without_return bs → length line ≤ length bs
without_shorter line bs e = rw e (without_within bs)
