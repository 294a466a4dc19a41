-- A list of words that is refused before clap is called has no mode.
use Rattle.std.proofs.Common.{◌≡◌, ◌+◌, ◌==◌, ◌&&◌, ◌||◌, ℕ, Bool, true, false, refl, sym, subst, ap, List, [], ◌∷◌, ◌++◌, length, suc, Option, Some, None, cond, arith, nat_lt}
use Rattle.std.specs.List.{after_first, before_first, find, list_all, list_any}
use Rattle.std.specs.Char.{digit_value}
use Rattle.std.specs.Str.{bytes_eq}
use Rattle.std.proofs.lemmas.Bool.Decides.{nat_tests}
use Rattle.std.specs.Prelude.{option_and_then}
use Rattle.fdc_main.specs.declared.command_line.Mode.{Mode}
use Rattle.fdc_main.specs.WordsClean.{is_clean}
use Rattle.fdc_main.specs.Words.{Text, OptionRule, Look, wrong, flag, plain, look, Part, Piece, alone, pair, added, checked, has_equals, has_part, is_value, ModeRule, mode_of_parts, mode_with, mode_name, mode_named, option_named, parts_from, parts_of, part_of, pieces, given}
use Rattle.fdc_main.proofs.WordsTable.{mode_is, option_is}
use Rattle.fdc_main.proofs.WordsWalk.{both}

-- ---- texts with no plus

abbrev has_plus : Text → Bool
has_plus text = list_any (λ x. x == 43) text

digits_no_plus : (text : Text) → list_all (λ d. nat_lt (digit_value d) 10) text ≡ true → has_plus text ≡ false
digits_no_plus [] e = refl
digits_no_plus (d ∷ ds) e = go (d == 43) refl (digits_no_plus ds (both (nat_lt (digit_value d) 10) _ e).1)
  where
    go : (b : Bool) → (d == 43) ≡ b → has_plus ds ≡ false → (b || has_plus ds) ≡ false
    go false h rest = rest
    go true h rest =
        let is : d ≡ 43 = grind (arith, nat_tests) in
        let bad : false ≡ true = subst (λ (x : ℕ). nat_lt (digit_value x) 10 ≡ true) is (both (nat_lt (digit_value d) 10) _ e).0 in
        absurd (cc bad)

value_digits : (o : OptionRule) (text : Text) → is_value o text ≡ true → (nat_lt 0 (length text) ≡ true) × (list_all (λ d. nat_lt (digit_value d) 10) text ≡ true)
value_digits o text e = both (nat_lt 0 (length text)) _ (both (nat_lt 0 (length text) && list_all (λ d. nat_lt (digit_value d) 10) text) _ e).0

value_no_plus : (o : OptionRule) (text : Text) → is_value o text ≡ true → has_plus text ≡ false
value_no_plus o text e = digits_no_plus text (value_digits o text e).1

-- a value is a clean word
value_clean : (o : OptionRule) (text : Text) → is_value o text ≡ true → is_clean text ≡ true
value_clean o [] e = let bad : false ≡ true = (value_digits o [] e).0 in absurd (cc bad)
value_clean o (d ∷ ds) e = go (d == 45) refl (value_no_plus o (d ∷ ds) e)
  where
    go : (b : Bool) → (d == 45) ≡ b → has_plus (d ∷ ds) ≡ false → is_clean (d ∷ ds) ≡ true
    go false h no_plus = rw (h, no_plus) refl
    go true h no_plus =
        let is : d ≡ 45 = grind (arith, nat_tests) in
        let bad : false ≡ true = subst (λ (x : ℕ). nat_lt (digit_value x) 10 ≡ true) is (both (nat_lt (digit_value d) 10) _ (value_digits o (d ∷ ds) e).1).0 in
        absurd (cc bad)

name_no_plus : (name : Text) (o : OptionRule) → option_named name ≡ Some o → has_plus name ≡ false
name_no_plus name o e = let is = option_is name o e in subst (λ (t : Text). has_plus t ≡ false) is.0 is.1.no_plus

pub two_more : (n : ℕ) → 1 + n + 1 ≡ suc (n + 1)
two_more n = omega arith

pub one_more : (n : ℕ) → 1 + n ≡ suc n
one_more n = omega arith

pub or_none : (a b : Bool) → (a || b) ≡ false → (a ≡ false) × (b ≡ false)
or_none true b e = let bad : true ≡ false = e in absurd (cc bad)
or_none false b e = (refl, e)

joined_no_plus : (t : Text) → has_plus (before_first (λ x. x == 61) t) ≡ false → has_plus (after_first (λ x. x == 61) t) ≡ false → has_plus t ≡ false
joined_no_plus [] h k = refl
joined_no_plus (x ∷ xs) h k = go (x == 61) refl (joined_no_plus xs)
  where
    go : (b : Bool) → (x == 61) ≡ b → (has_plus (before_first (λ y. y == 61) xs) ≡ false → has_plus (after_first (λ y. y == 61) xs) ≡ false → has_plus xs ≡ false) → has_plus (x ∷ xs) ≡ false
    go true e later =
        let is : x ≡ 61 = grind (arith, nat_tests) in
        let rest : has_plus xs ≡ false = rw e at k in
        rw (is, rest) refl
    go false e later =
        let before : (x == 43 || has_plus (before_first (λ y. y == 61) xs)) ≡ false = rw (e, one_more) at h in
        let after : has_plus (after_first (λ y. y == 61) xs) ≡ false = rw (e, two_more) at k in
        let parts = or_none (x == 43) _ before in
        rw (parts.0, later parts.1 after) refl

-- a word with two hyphens has no plus where the rest has none
flag_clean : (word t : Text) → look word ≡ flag t → has_plus t ≡ false → is_clean word ≡ true
flag_clean [] t e h = absurd (cc e)
flag_clean (x ∷ []) t e h = elim (x == 45) as (λ b. cond b wrong plain ≡ flag t → is_clean (x ∷ []) ≡ true) [ true ↦ (λ k. absurd (cc k)) | false ↦ (λ k. absurd (cc k)) ] e
flag_clean (x ∷ y ∷ rest) t e h = go (x == 45) (y == 45) rest refl refl e
  where
    go : (b d : Bool) (zs : Text) → (x == 45) ≡ b → (y == 45) ≡ d → cond b (cond d (Rattle.fdc_main.specs.Words.look_behind_two zs) wrong) plain ≡ flag t → is_clean (x ∷ y ∷ zs) ≡ true
    go true true [] hx hy k = absurd (cc k)
    go true true (z ∷ zs) hx hy k =
        let is_x : x ≡ 45 = grind (arith, nat_tests) in
        let is_y : y ≡ 45 = grind (arith, nat_tests) in
        let same : z ∷ zs ≡ t = cc in
        let none : has_plus (z ∷ zs) ≡ false = subst (λ (u : Text). has_plus u ≡ false) (sym same) h in
        rw (is_x, is_y, none) refl
    go true false zs hx hy k = absurd (cc k)
    go false d zs hx hy k = absurd (cc k)

mode_clean : (word : Text) (m : ModeRule) → mode_named word ≡ Some m → is_clean word ≡ true
mode_clean word m e = let is = mode_is word m e in subst (λ (t : Text). is_clean t ≡ true) is.0 is.1.clean

-- ---- the parts so far stay in front

-- what a part that is added tells
pub record Adds (seen parts : List Part) (piece : Piece) (rest : List Piece) : Type 0 where
  pub part : Part
  pub is_part : part_of piece ≡ Some part
  pub is_new : has_part part.name seen ≡ false
  pub later : parts_from rest (seen ++ part ∷ []) ≡ Some parts

pub adds : (piece : Piece) (rest : List Piece) (seen parts : List Part) → parts_from (piece ∷ rest) seen ≡ Some parts → Adds seen parts piece rest
adds piece rest seen parts e = go (part_of piece) refl e
  where
    go : (o : Option Part) → part_of piece ≡ o → added o seen (parts_from rest) ≡ Some parts → Adds seen parts piece rest
    go None is h = absurd (cc h)
    go (Some p) is h = test (has_part p.name seen) refl h
      where
        test : (b : Bool) → has_part p.name seen ≡ b → cond b None (parts_from rest (seen ++ p ∷ [])) ≡ Some parts → Adds seen parts piece rest
        test true new k = absurd (cc k)
        test false new k = record { part = p; is_part = is; is_new = new; later = k }

abbrev found : Text → List Part → Option Part
found name parts = find (λ p. bytes_eq p.name name) parts

found-push : (name : Text) (seen : List Part) (p x : Part) → found name seen ≡ Some x → found name (seen ++ p ∷ []) ≡ Some x
found-push name [] p x e = absurd (cc e)
found-push name (q ∷ qs) p x e = go (bytes_eq q.name name) e (found-push name qs p x)
  where
    go : (b : Bool) → cond b (Some q) (found name qs) ≡ Some x → (found name qs ≡ Some x → found name (qs ++ p ∷ []) ≡ Some x) → cond b (Some q) (found name (qs ++ p ∷ [])) ≡ Some x
    go true h later = h
    go false h later = later h

found-new : (name : Text) (seen : List Part) (p : Part) → has_part name seen ≡ false → bytes_eq p.name name ≡ true → found name (seen ++ p ∷ []) ≡ Some p
found-new name [] p new same = rw same refl
found-new name (q ∷ qs) p new same =
    let parts = or_none (bytes_eq q.name name) _ new in
    rw parts.0 (found-new name qs p parts.1 same)

kept : (name : Text) (ps : List Piece) (seen parts : List Part) (x : Part) → parts_from ps seen ≡ Some parts → found name seen ≡ Some x → found name parts ≡ Some x
kept name [] seen parts x e f = let same : seen ≡ parts = cc in subst (λ (y : List Part). found name y ≡ Some x) same f
kept name (piece ∷ rest) seen parts x e f =
    let a = adds piece rest seen parts e in
    kept name rest (seen ++ a.part ∷ []) parts x a.later (found-push name seen a.part x f)

-- ---- all words are clean

pub record IsChecked (name text : Text) : Type 0 where
  pub rule : OptionRule
  pub named : option_named name ≡ Some rule
  pub value : is_value rule text ≡ true

pub checks : (name text : Text) (p : Part) → given name text ≡ Some p → IsChecked name text
checks name text p e = go (option_named name) refl e
  where
    go : (o : Option OptionRule) → option_named name ≡ o → checked text o ≡ Some p → IsChecked name text
    go None named h = absurd (cc h)
    go (Some o) named h = test (is_value o text) refl h
      where
        test : (b : Bool) → is_value o text ≡ b → cond b (Some (record { name = o.name; value = text })) None ≡ Some p → IsChecked name text
        test true v k = record { rule = o; named = named; value = v }
        test false v k = absurd (cc k)

-- the mode word that was found is clean
abbrev HasCleanMode : List Part → Type 0
HasCleanMode parts = (x : Part) → found mode_name parts ≡ Some x → is_clean x.value ≡ true

alone_clean : (word : Text) (rest : List Piece) (seen parts : List Part) (l : Look) → look word ≡ l → HasCleanMode parts → Adds seen parts (alone l word) rest → is_clean word ≡ true
alone_clean word rest seen parts wrong l mode a = absurd (cc a.is_part)
alone_clean word rest seen parts plain l mode a =
    let same : ◌≡◌ {A = Part} (record { name = mode_name; value = word }) a.part = cc a.is_part in
    let name : mode_name ≡ a.part.name = ap (λ (p : Part). p.name) same in
    let new : has_part mode_name seen ≡ false = subst (λ (n : Text). has_part n seen ≡ false) (sym name) a.is_new in
    let here : bytes_eq a.part.name mode_name ≡ true = subst (λ (n : Text). bytes_eq n mode_name ≡ true) name refl in
    subst (λ (p : Part). is_clean p.value ≡ true) (sym same) (mode a.part (kept mode_name rest (seen ++ a.part ∷ []) parts a.part a.later (found-new mode_name seen a.part new here)))
alone_clean word rest seen parts (flag t) l mode a = go (has_equals t) a.is_part
  where
    go : (b : Bool) → cond b (given (before_first (λ x. x == 61) t) (after_first (λ x. x == 61) t)) None ≡ Some a.part → is_clean word ≡ true
    go false h = absurd (cc h)
    go true h =
        let c = checks (before_first (λ x. x == 61) t) (after_first (λ x. x == 61) t) a.part h in
        flag_clean word t l (joined_no_plus t (name_no_plus (before_first (λ x. x == 61) t) c.rule c.named) (value_no_plus c.rule (after_first (λ x. x == 61) t) c.value))

abbrev Cleans : List Text → Type 0
Cleans words = (seen parts : List Part) → HasCleanMode parts → parts_from (pieces words) seen ≡ Some parts → list_all is_clean words ≡ true

alone_step : (word : Text) (rest : List Text) → pieces (word ∷ rest) ≡ alone (look word) word ∷ pieces rest → Cleans rest → Cleans (word ∷ rest)
alone_step word rest cut later seen parts mode e =
    let a = adds (alone (look word) word) (pieces rest) seen parts (subst (λ (ps : List Piece). parts_from ps seen ≡ Some parts) cut e) in
    rw (alone_clean word (pieces rest) seen parts (look word) refl mode a) (later (seen ++ a.part ∷ []) parts mode a.later)

pair_step : (word t next : Text) (rest : List Text) → look word ≡ flag t → pieces (word ∷ next ∷ rest) ≡ pair t next ∷ pieces rest → Cleans rest → Cleans (word ∷ next ∷ rest)
pair_step word t next rest l cut later seen parts mode e =
    let a = adds (pair t next) (pieces rest) seen parts (subst (λ (ps : List Piece). parts_from ps seen ≡ Some parts) cut e) in
    let c = checks t next a.part a.is_part in
    rw (flag_clean word t l (name_no_plus t c.rule c.named), value_clean c.rule next c.value) (later (seen ++ a.part ∷ []) parts mode a.later)

step : (word next : Text) (rest : List Text) (l : Look) → look word ≡ l → Cleans (next ∷ rest) → Cleans rest → Cleans (word ∷ next ∷ rest)
step word next rest wrong l later past = alone_step word (next ∷ rest) (rw l refl) later
step word next rest plain l later past = alone_step word (next ∷ rest) (rw l refl) later
step word next rest (flag t) l later past = go (has_equals t) refl
  where
    go : (b : Bool) → has_equals t ≡ b → Cleans (word ∷ next ∷ rest)
    go true h = alone_step word (next ∷ rest) (rw (l, h) refl) later
    go false h = pair_step word t next rest l (rw (l, h) refl) past

no_words : Cleans []
no_words seen parts mode e = refl

all_clean : (words : List Text) → Cleans words
all_clean [] = no_words
all_clean (word ∷ []) = alone_step word [] refl no_words
all_clean (word ∷ next ∷ rest) = step word next rest (look word) refl (all_clean (next ∷ rest)) (all_clean rest)

-- words that say a mode are clean
pub words_clean : (words : List Text) (mode : Mode) → option_and_then mode_of_parts (parts_of words) ≡ Some mode → list_all is_clean words ≡ true
words_clean words mode e = go (parts_of words) refl e
  where
    go : (o : Option (List Part)) → parts_of words ≡ o → option_and_then mode_of_parts o ≡ Some mode → list_all is_clean words ≡ true
    go None is h = absurd (cc h)
    go (Some parts) is h = all_clean words [] parts clean_mode is
      where
        clean_at : (x : Part) (m : Option ModeRule) → mode_named x.value ≡ m → option_and_then (mode_with parts) m ≡ Some mode → is_clean x.value ≡ true
        clean_at x None named k = absurd (cc k)
        clean_at x (Some m) named k = mode_clean x.value m named

        clean_mode : HasCleanMode parts
        clean_mode x f = clean_at x (mode_named x.value) refl (rw f at h)
