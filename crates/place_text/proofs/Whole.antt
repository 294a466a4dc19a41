-- A listing by its sections.
use Rattle.std.proofs.Common.{◌≡◌, ℕ, ◌+◌, ◌-◌, ◌<◌, ◌≤◌, Bool, true, false, IsTrue, ◌⊎◌, inl, inr, List, [], length, None, sym, ◌∙◌, ap, subst, arith, codes, true≢false}
use Rattle.std.specs.Prelude.{◌↔◌}
use Rattle.std.specs.List.{slice_get}
use Rattle.std.proofs.lemmas.Bool.{cases_lt, cases_Bool, lt-ltb, le-ltb}
use Rattle.std.proofs.lemmas.Option.{slice_get_past, slice_get-get_or}
use Rattle.fd_prog.specs.Paths.{Places}
use Rattle.place_text.specs.declared.entry.Entry.{Entry}
use Rattle.place_text.specs.Readings.{Layout, Either, IsCountLine, IsEntryLine, IsFirstWrong, IsReadAs, IsRight, IsToldIn, IsWrongOf, count_at, places_at, hoists_at, end_at, first_of, end_of, is_hoist, marked}
use Rattle.place_text.proofs.Readings.{none_some}

-- ---- one of two

here : (b : Bool) (A B : Type 0) → b ≡ true → A → Either b A B
here true A B e a = a
here false A B e a = absurd (true≢false (sym e))

there : (b : Bool) (A B : Type 0) → b ≡ false → B → Either b A B
there true A B e a = absurd (true≢false e)
there false A B e a = a

out_here : (b : Bool) (A B : Type 0) → b ≡ true → Either b A B → A
out_here true A B e a = a
out_here false A B e a = absurd (true≢false (sym e))

out_there : (b : Bool) (A B : Type 0) → b ≡ false → Either b A B → B
out_there true A B e a = absurd (true≢false e)
out_there false A B e a = a

-- ---- the sections

pub in_front : (front : List (List ℕ)) (y : Layout) (ls : List (List ℕ)) (i : ℕ) → i < places_at front → slice_get ls i ≡ slice_get front i → IsRight front y ls i
in_front front y ls i h x = here _ _ _ (lt-ltb i (places_at front) h) x

pub out_front : (front : List (List ℕ)) (y : Layout) (ls : List (List ℕ)) (i : ℕ) → i < places_at front → IsRight front y ls i → slice_get ls i ≡ slice_get front i
out_front front y ls i h x = out_here _ _ _ (lt-ltb i (places_at front) h) x

pub in_places : (front : List (List ℕ)) (y : Layout) (ls : List (List ℕ)) (i : ℕ) → places_at front ≤ i → i < places_at front + 1 → IsCountLine (codes "places ") ls i → IsRight front y ls i
in_places front y ls i lo hi x = there _ _ _ (le-ltb i (places_at front) lo) (here _ _ _ (lt-ltb i (places_at front + 1) hi) x)

pub out_places : (front : List (List ℕ)) (y : Layout) (ls : List (List ℕ)) (i : ℕ) → places_at front ≤ i → i < places_at front + 1 → IsRight front y ls i → IsCountLine (codes "places ") ls i
out_places front y ls i lo hi x = out_here _ _ _ (lt-ltb i (places_at front + 1) hi) (out_there _ _ _ (le-ltb i (places_at front) lo) x)

pub in_place : (front : List (List ℕ)) (y : Layout) (ls : List (List ℕ)) (i : ℕ) → places_at front + 1 ≤ i → i < hoists_at front ls → IsEntryLine y false ls (places_at front + 1) i → IsRight front y ls i
in_place front y ls i lo hi x =
    there _ _ _ (le-ltb i (places_at front) (omega (arith, lo))) (there _ _ _ (le-ltb i (places_at front + 1) lo) (here _ _ _ (lt-ltb i (hoists_at front ls) hi) x))

pub out_place : (front : List (List ℕ)) (y : Layout) (ls : List (List ℕ)) (i : ℕ) → places_at front + 1 ≤ i → i < hoists_at front ls → IsRight front y ls i → IsEntryLine y false ls (places_at front + 1) i
out_place front y ls i lo hi x =
    out_here _ _ _ (lt-ltb i (hoists_at front ls) hi) (out_there _ _ _ (le-ltb i (places_at front + 1) lo) (out_there _ _ _ (le-ltb i (places_at front) (omega (arith, lo))) x))

-- the place that counts the hoists stands behind the operations
past_places : (front ls : List (List ℕ)) (i : ℕ) → hoists_at front ls ≤ i → places_at front + 1 ≤ i
past_places front ls i h = omega (arith, h)

pub in_hoists : (front : List (List ℕ)) (y : Layout) (ls : List (List ℕ)) (i : ℕ) → hoists_at front ls ≤ i → i < hoists_at front ls + 1 → IsCountLine (codes "hoists ") ls i → IsRight front y ls i
in_hoists front y ls i lo hi x =
    let past = past_places front ls i lo in
    there _ _ _ (le-ltb i (places_at front) (omega (arith, past))) (there _ _ _ (le-ltb i (places_at front + 1) past) (there _ _ _ (le-ltb i (hoists_at front ls) lo) (here _ _ _ (lt-ltb i (hoists_at front ls + 1) hi) x)))

pub out_hoists : (front : List (List ℕ)) (y : Layout) (ls : List (List ℕ)) (i : ℕ) → hoists_at front ls ≤ i → i < hoists_at front ls + 1 → IsRight front y ls i → IsCountLine (codes "hoists ") ls i
out_hoists front y ls i lo hi x =
    let past = past_places front ls i lo in
    out_here _ _ _ (lt-ltb i (hoists_at front ls + 1) hi) (out_there _ _ _ (le-ltb i (hoists_at front ls) lo) (out_there _ _ _ (le-ltb i (places_at front + 1) past) (out_there _ _ _ (le-ltb i (places_at front) (omega (arith, past))) x)))

pub in_hoist : (front : List (List ℕ)) (y : Layout) (ls : List (List ℕ)) (i : ℕ) → hoists_at front ls + 1 ≤ i → i < end_at front ls → IsEntryLine y true ls (hoists_at front ls + 1) i → IsRight front y ls i
in_hoist front y ls i lo hi x =
    let past = past_places front ls i (omega (arith, lo)) in
    there _ _ _ (le-ltb i (places_at front) (omega (arith, past))) (there _ _ _ (le-ltb i (places_at front + 1) past) (there _ _ _ (le-ltb i (hoists_at front ls) (omega (arith, lo)))
    (there _ _ _ (le-ltb i (hoists_at front ls + 1) lo) (here _ _ _ (lt-ltb i (end_at front ls) hi) x))))

pub out_hoist : (front : List (List ℕ)) (y : Layout) (ls : List (List ℕ)) (i : ℕ) → hoists_at front ls + 1 ≤ i → i < end_at front ls → IsRight front y ls i → IsEntryLine y true ls (hoists_at front ls + 1) i
out_hoist front y ls i lo hi x =
    let past = past_places front ls i (omega (arith, lo)) in
    out_here _ _ _ (lt-ltb i (end_at front ls) hi) (out_there _ _ _ (le-ltb i (hoists_at front ls + 1) lo) (out_there _ _ _ (le-ltb i (hoists_at front ls) (omega (arith, lo)))
    (out_there _ _ _ (le-ltb i (places_at front + 1) past) (out_there _ _ _ (le-ltb i (places_at front) (omega (arith, past))) x))))

past_hoists : (front ls : List (List ℕ)) (i : ℕ) → end_at front ls ≤ i → hoists_at front ls + 1 ≤ i
past_hoists front ls i h = omega (arith, h)

pub in_end : (front : List (List ℕ)) (y : Layout) (ls : List (List ℕ)) (i : ℕ) → end_at front ls ≤ i → slice_get ls i ≡ None → IsRight front y ls i
in_end front y ls i lo x =
    let behind = past_hoists front ls i lo in
    let past = past_places front ls i (omega (arith, behind)) in
    there _ _ _ (le-ltb i (places_at front) (omega (arith, past))) (there _ _ _ (le-ltb i (places_at front + 1) past) (there _ _ _ (le-ltb i (hoists_at front ls) (omega (arith, behind)))
    (there _ _ _ (le-ltb i (hoists_at front ls + 1) behind) (there _ _ _ (le-ltb i (end_at front ls) lo) x))))

pub out_end : (front : List (List ℕ)) (y : Layout) (ls : List (List ℕ)) (i : ℕ) → end_at front ls ≤ i → IsRight front y ls i → slice_get ls i ≡ None
out_end front y ls i lo x =
    let behind = past_hoists front ls i lo in
    let past = past_places front ls i (omega (arith, behind)) in
    out_there _ _ _ (le-ltb i (end_at front ls) lo) (out_there _ _ _ (le-ltb i (hoists_at front ls + 1) behind) (out_there _ _ _ (le-ltb i (hoists_at front ls) (omega (arith, behind)))
    (out_there _ _ _ (le-ltb i (places_at front + 1) past) (out_there _ _ _ (le-ltb i (places_at front) (omega (arith, past))) x))))

-- ---- all lines before a section are right, and one in it is wrong

pub first_wrong : (front : List (List ℕ)) (y : Layout) (ls : List (List ℕ)) (P : ℕ → Type 0) (first end line : ℕ) → ((i : ℕ) → i < first → IsRight front y ls i) → ((i : ℕ) → first ≤ i → i < end → P i → IsRight front y ls i)
    → ((i : ℕ) → first ≤ i → i < end → IsRight front y ls i → P i) → IsWrongOf P first end (length ls) line → IsFirstWrong front y ls line
first_wrong front y ls P first end line before into out w =
    let lo : first ≤ w.place = w.low in
    let hi : w.place < end = w.high in
    let at : line - 1 ≡ w.place = omega (arith, w.is) in
    record {
      low = omega (arith, w.is);
      high = omega (arith, w.is, w.there);
      before = λ i lt. elim (cases_lt i first) [
        | inl less ↦ before i less
        | inr more ↦ let near : i < w.place = omega (arith, lt, w.is) in into i more (omega (arith, near, hi)) (w.before i more near)
      ];
      wrong = λ r. w.wrong (out w.place lo hi (subst (λ (k : ℕ). IsRight front y ls k) at r));
    }

-- something stands behind the end
pub end_wrong : (front : List (List ℕ)) (y : Layout) (ls : List (List ℕ)) → ((i : ℕ) → i < end_at front ls → IsRight front y ls i) → end_at front ls < length ls → IsFirstWrong front y ls (end_at front ls + 1)
end_wrong front y ls before more =
    let at : end_at front ls + 1 - 1 ≡ end_at front ls = omega arith in
    record {
      low = omega arith;
      high = omega (arith, more);
      before = λ i lt. before i (omega (arith, lt));
      wrong = λ r. none_some _ (sym (out_end front y ls (end_at front ls) (omega arith) (subst (λ (k : ℕ). IsRight front y ls k) at r)) ∙ slice_get-get_or ls (end_at front ls) [] more);
    }

-- lines that begin with these are as many at least
pub front_within : (front ls : List (List ℕ)) → ((i : ℕ) → i < length front → slice_get ls i ≡ slice_get front i) → length front ≤ length ls
front_within front ls h = elim (cases_lt (length ls) (length front)) [
  | inl less ↦ absurd (none_some _ (sym (slice_get_past ls (length ls) (omega arith)) ∙ (h (length ls) less ∙ slice_get-get_or front (length ls) [] less)))
  | inr more ↦ more
]

-- ---- section by section

abbrev pub BeginsWith : List (List ℕ) → List (List ℕ) → Type 0
BeginsWith front ls = (i : ℕ) → i < places_at front → slice_get ls i ≡ slice_get front i

upto_places : (front : List (List ℕ)) (y : Layout) (ls : List (List ℕ)) → BeginsWith front ls → IsCountLine (codes "places ") ls (places_at front) → (i : ℕ) → i < places_at front + 1 → IsRight front y ls i
upto_places front y ls begins counted i h = elim (cases_lt i (places_at front)) [
  | inl less ↦ in_front front y ls i less (begins i less)
  | inr more ↦ let at : places_at front ≡ i = omega (arith, h, more) in in_places front y ls i more h (subst (λ (k : ℕ). IsCountLine (codes "places ") ls k) at counted)
]

-- the operations: so many as are counted
abbrev pub AreEntries : Layout → Bool → List (List ℕ) → ℕ → ℕ → Type 0
AreEntries y hoists ls first count = (i : ℕ) → first ≤ i → i < first + count → IsEntryLine y hoists ls first i

upto_hoists : (front : List (List ℕ)) (y : Layout) (ls : List (List ℕ)) → BeginsWith front ls → IsCountLine (codes "places ") ls (places_at front)
    → AreEntries y false ls (places_at front + 1) (count_at (codes "places ") ls (places_at front)) → (i : ℕ) → i < hoists_at front ls → IsRight front y ls i
upto_hoists front y ls begins counted entries i h = elim (cases_lt i (places_at front + 1)) [
  | inl less ↦ upto_places front y ls begins counted i less
  | inr more ↦ in_place front y ls i more h (entries i more h)
]

upto_second : (front : List (List ℕ)) (y : Layout) (ls : List (List ℕ)) → BeginsWith front ls → IsCountLine (codes "places ") ls (places_at front)
    → AreEntries y false ls (places_at front + 1) (count_at (codes "places ") ls (places_at front)) → IsCountLine (codes "hoists ") ls (hoists_at front ls) → (i : ℕ) → i < hoists_at front ls + 1 → IsRight front y ls i
upto_second front y ls begins counted entries second i h = elim (cases_lt i (hoists_at front ls)) [
  | inl less ↦ upto_hoists front y ls begins counted entries i less
  | inr more ↦ let at : hoists_at front ls ≡ i = omega (arith, h, more) in in_hoists front y ls i more h (subst (λ (k : ℕ). IsCountLine (codes "hoists ") ls k) at second)
]

upto_end : (front : List (List ℕ)) (y : Layout) (ls : List (List ℕ)) → BeginsWith front ls → IsCountLine (codes "places ") ls (places_at front)
    → AreEntries y false ls (places_at front + 1) (count_at (codes "places ") ls (places_at front)) → IsCountLine (codes "hoists ") ls (hoists_at front ls)
    → AreEntries y true ls (hoists_at front ls + 1) (count_at (codes "hoists ") ls (hoists_at front ls)) → (i : ℕ) → i < end_at front ls → IsRight front y ls i
upto_end front y ls begins counted entries second hoists i h = elim (cases_lt i (hoists_at front ls + 1)) [
  | inl less ↦ upto_second front y ls begins counted entries second i less
  | inr more ↦ in_hoist front y ls i more h (hoists i more h)
]

-- ---- the first wrong line, in each section

wrong_place_at : (front : List (List ℕ)) (y : Layout) (ls : List (List ℕ)) (line : ℕ) → BeginsWith front ls → IsCountLine (codes "places ") ls (places_at front)
    → IsWrongOf (IsEntryLine y false ls (places_at front + 1)) (places_at front + 1) (hoists_at front ls) (length ls) line → IsFirstWrong front y ls line
wrong_place_at front y ls line begins counted w =
    first_wrong front y ls (IsEntryLine y false ls (places_at front + 1)) (places_at front + 1) (hoists_at front ls) line (upto_places front y ls begins counted)
    (in_place front y ls) (out_place front y ls) w

pub wrong_place : (front : List (List ℕ)) (y : Layout) (ls : List (List ℕ)) (line n : ℕ) → n ≡ count_at (codes "places ") ls (places_at front) → BeginsWith front ls → IsCountLine (codes "places ") ls (places_at front)
    → IsWrongOf (IsEntryLine y false ls (places_at front + 1)) (places_at front + 1) (places_at front + 1 + n) (length ls) line → IsFirstWrong front y ls line
wrong_place front y ls line n e begins counted w =
    wrong_place_at front y ls line begins counted (subst (λ (k : ℕ). IsWrongOf (IsEntryLine y false ls (places_at front + 1)) (places_at front + 1) (places_at front + 1 + k) (length ls) line) e w)

wrong_hoists_at : (front : List (List ℕ)) (y : Layout) (ls : List (List ℕ)) (line : ℕ) → BeginsWith front ls → IsCountLine (codes "places ") ls (places_at front)
    → AreEntries y false ls (places_at front + 1) (count_at (codes "places ") ls (places_at front))
    → IsWrongOf (IsCountLine (codes "hoists ") ls) (hoists_at front ls) (hoists_at front ls + 1) (length ls) line → IsFirstWrong front y ls line
wrong_hoists_at front y ls line begins counted entries w =
    first_wrong front y ls (IsCountLine (codes "hoists ") ls) (hoists_at front ls) (hoists_at front ls + 1) line (upto_hoists front y ls begins counted entries)
    (in_hoists front y ls) (out_hoists front y ls) w

pub wrong_hoists : (front : List (List ℕ)) (y : Layout) (ls : List (List ℕ)) (line n : ℕ) → n ≡ count_at (codes "places ") ls (places_at front) → BeginsWith front ls → IsCountLine (codes "places ") ls (places_at front)
    → AreEntries y false ls (places_at front + 1) n
    → IsWrongOf (IsCountLine (codes "hoists ") ls) (places_at front + 1 + n) (places_at front + 1 + n + 1) (length ls) line → IsFirstWrong front y ls line
wrong_hoists front y ls line n e begins counted entries w =
    wrong_hoists_at front y ls line begins counted (subst (λ (k : ℕ). AreEntries y false ls (places_at front + 1) k) e entries)
    (subst (λ (k : ℕ). IsWrongOf (IsCountLine (codes "hoists ") ls) (places_at front + 1 + k) (places_at front + 1 + k + 1) (length ls) line) e w)

wrong_hoist_at : (front : List (List ℕ)) (y : Layout) (ls : List (List ℕ)) (line : ℕ) → BeginsWith front ls → IsCountLine (codes "places ") ls (places_at front)
    → AreEntries y false ls (places_at front + 1) (count_at (codes "places ") ls (places_at front)) → IsCountLine (codes "hoists ") ls (hoists_at front ls)
    → IsWrongOf (IsEntryLine y true ls (hoists_at front ls + 1)) (hoists_at front ls + 1) (end_at front ls) (length ls) line → IsFirstWrong front y ls line
wrong_hoist_at front y ls line begins counted entries second w =
    first_wrong front y ls (IsEntryLine y true ls (hoists_at front ls + 1)) (hoists_at front ls + 1) (end_at front ls) line (upto_second front y ls begins counted entries second)
    (in_hoist front y ls) (out_hoist front y ls) w

-- what is known before the hoists are read
pub record IsHalf (front : List (List ℕ)) (y : Layout) (ls : List (List ℕ)) (n m : ℕ) : Type 0 where
  pub places : n ≡ count_at (codes "places ") ls (places_at front)
  pub begins : BeginsWith front ls
  pub counted : IsCountLine (codes "places ") ls (places_at front)
  pub entries : AreEntries y false ls (places_at front + 1) n
  pub second : IsCountLine (codes "hoists ") ls (places_at front + 1 + n)
  pub hoists : m ≡ count_at (codes "hoists ") ls (places_at front + 1 + n)

pub half_at : (front : List (List ℕ)) (ls : List (List ℕ)) (n : ℕ) → n ≡ count_at (codes "places ") ls (places_at front) → places_at front + 1 + n ≡ hoists_at front ls
half_at front ls n e = ap (λ (k : ℕ). places_at front + 1 + k) e

pub end_half : (front : List (List ℕ)) (y : Layout) (ls : List (List ℕ)) (n m : ℕ) → IsHalf front y ls n m → places_at front + 1 + n + 1 + m ≡ end_at front ls
end_half front y ls n m h = (λ i. half_at front ls n h.places i + 1 + h.hoists i) ∙ ap (λ (k : ℕ). hoists_at front ls + 1 + count_at (codes "hoists ") ls k) (half_at front ls n h.places)

pub wrong_hoist : (front : List (List ℕ)) (y : Layout) (ls : List (List ℕ)) (line n m : ℕ) → IsHalf front y ls n m
    → IsWrongOf (IsEntryLine y true ls (places_at front + 1 + n + 1)) (places_at front + 1 + n + 1) (places_at front + 1 + n + 1 + m) (length ls) line → IsFirstWrong front y ls line
wrong_hoist front y ls line n m h w =
    let at = half_at front ls n h.places in
    let end = end_half front y ls n m h in
    wrong_hoist_at front y ls line h.begins h.counted (subst (λ (k : ℕ). AreEntries y false ls (places_at front + 1) k) h.places h.entries) (subst (λ (k : ℕ). IsCountLine (codes "hoists ") ls k) at h.second)
    (subst (λ (k : ℕ). IsWrongOf (IsEntryLine y true ls (hoists_at front ls + 1)) (hoists_at front ls + 1) k (length ls) line) end
    (subst (λ (k : ℕ). IsWrongOf (IsEntryLine y true ls (k + 1)) (k + 1) (places_at front + 1 + n + 1 + m) (length ls) line) at w))

-- all lines up to the end are right
pub whole : (front : List (List ℕ)) (y : Layout) (ls : List (List ℕ)) (n m : ℕ) → IsHalf front y ls n m → AreEntries y true ls (places_at front + 1 + n + 1) m → (i : ℕ) → i < end_at front ls → IsRight front y ls i
whole front y ls n m h hoists =
    let at = half_at front ls n h.places in
    let count = h.hoists ∙ ap (count_at (codes "hoists ") ls) at in
    upto_end front y ls h.begins h.counted (subst (λ (k : ℕ). AreEntries y false ls (places_at front + 1) k) h.places h.entries) (subst (λ (k : ℕ). IsCountLine (codes "hoists ") ls k) at h.second)
    (subst (λ (k : ℕ). AreEntries y true ls (hoists_at front ls + 1) k) count (subst (λ (k : ℕ). AreEntries y true ls (k + 1) m) at hoists))

pub wrong_end : (front : List (List ℕ)) (y : Layout) (ls : List (List ℕ)) (n m : ℕ) → IsHalf front y ls n m → AreEntries y true ls (places_at front + 1 + n + 1) m → places_at front + 1 + n + 1 + m < length ls
    → IsFirstWrong front y ls (places_at front + 1 + n + 1 + m + 1)
wrong_end front y ls n m h hoists more =
    let end = end_half front y ls n m h in
    subst (λ (k : ℕ). IsFirstWrong front y ls (k + 1)) (sym end) (end_wrong front y ls (whole front y ls n m h hoists) (omega (arith, end, more)))

-- what two sections tell together
pub told_both : (front : List (List ℕ)) (y : Layout) (ls : List (List ℕ)) (n m : ℕ) → IsHalf front y ls n m → (e : Entry) (none some all : Bool) → none ≡ false
    → IsTrue some ↔ (IsTrue none ⊎ ((is_hoist e.kind ≡ false) × IsToldIn y ls (places_at front + 1) (places_at front + 1 + n) e))
    → IsTrue all ↔ (IsTrue some ⊎ ((is_hoist e.kind ≡ true) × IsToldIn y ls (places_at front + 1 + n + 1) (places_at front + 1 + n + 1 + m) e))
    → IsTrue all ↔ IsToldIn y ls (first_of (is_hoist e.kind) front ls) (end_of (is_hoist e.kind) front ls) e
told_both front y ls n m h e none some all nothing first second =
    let at = half_at front ls n h.places in
    let end = end_half front y ls n m h in
    let T : Bool → Type 0 = λ b. IsToldIn y ls (first_of b front ls) (end_of b front ls) e in
    let to_places : IsToldIn y ls (places_at front + 1) (places_at front + 1 + n) e → T false = λ t. subst (λ (k : ℕ). IsToldIn y ls (places_at front + 1) k e) at t in
    let to_hoists : IsToldIn y ls (places_at front + 1 + n + 1) (places_at front + 1 + n + 1 + m) e → T true =
    λ t. subst (λ (k : ℕ). IsToldIn y ls (hoists_at front ls + 1) k e) end (subst (λ (k : ℕ). IsToldIn y ls (k + 1) (places_at front + 1 + n + 1 + m) e) at t) in
    let from_places : T false → IsToldIn y ls (places_at front + 1) (places_at front + 1 + n) e = λ t. subst (λ (k : ℕ). IsToldIn y ls (places_at front + 1) k e) (sym at) t in
    let from_hoists : T true → IsToldIn y ls (places_at front + 1 + n + 1) (places_at front + 1 + n + 1 + m) e =
    λ t. subst (λ (k : ℕ). IsToldIn y ls (k + 1) (places_at front + 1 + n + 1 + m) e) (sym at) (subst (λ (k : ℕ). IsToldIn y ls (hoists_at front ls + 1) k e) (sym end) t) in (
      (λ x. elim (second.0 x) [
        | inl s ↦ elim (first.0 s) [
          | inl z ↦ absurd (true≢false (sym z ∙ nothing))
          | inr t ↦ subst T (sym t.0) (to_places t.1)
        ]
        | inr t ↦ subst T (sym t.0) (to_hoists t.1)
      ]),
      (λ x. elim (cases_Bool (is_hoist e.kind)) [
        | inl hoist ↦ second.1 (inr (hoist, from_hoists (subst T hoist x)))
        | inr other ↦ second.1 (inl (first.1 (inr (other, from_places (subst T other x)))))
      ]),
    )

pub read_whole : (front : List (List ℕ)) (y : Layout) (ls : List (List ℕ)) (n m : ℕ) (places : Places) → IsHalf front y ls n m → AreEntries y true ls (places_at front + 1 + n + 1) m
    → places_at front + 1 + n + 1 + m ≤ length ls → length ls ≤ places_at front + 1 + n + 1 + m
    → ((e : Entry) → IsTrue (marked places e) ↔ IsToldIn y ls (first_of (is_hoist e.kind) front ls) (end_of (is_hoist e.kind) front ls) e) → IsReadAs front y ls places
read_whole front y ls n m places h hoists lo hi told =
    let end = end_half front y ls n m h in
    record {
      right = λ i le. elim (cases_lt i (end_at front ls)) [
        | inl less ↦ whole front y ls n m h hoists i less
        | inr more ↦ in_end front y ls i more (slice_get_past ls i (omega (arith, end, hi, more)))
      ];
      told = told;
    }
