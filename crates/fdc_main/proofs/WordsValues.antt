-- What the getters read of the rows of good parts.
use Rattle.std.proofs.Common.{◌≡◌, ◌≢◌, ◌∙◌, ◌<◌, ◌^◌, ◌==◌, ◌&&◌, ◌||◌, ℕ, Bool, true, false, refl, subst, ap, List, [], ◌∷◌, ◌++◌, length, get_or, Option, Some, None, Ok, Err, option_map, cond, arith, nat_lt, nat_le, ltb-true}
use Rattle.std.specs.Prelude.{option_and_then}
use Rattle.std.specs.List.{after_first, before_first, find, list_all}
use Rattle.std.specs.Char.{digit_value}
use Rattle.std.specs.Str.{bytes_eq}
use Rattle.std.specs.Str.Parse.{AllDigits, ParsesUnsigned, digits_value, without_leading_plus}
use Rattle.std.proofs.lemmas.Str.Parse.{without_leading_plus_none}
use Rattle.std.proofs.lemmas.Slice.Eq.{bytes_eq-Decides}
use Rattle.std.proofs.lemmas.Bool.Decides.{nat_tests}
use Rattle.clap.specs.Matches.{ReadsOne, first_value, one_text}
use Rattle.clap.specs.Walk.{Row, first_of, one_of, row_text, rows_of}
use Rattle.clap.specs.declared.parser.matches.Found.{Found}
use Rattle.clap.proofs.WalkLemmas.{first_value-rows, one_text-rows}
use Rattle.fdc_main.specs.Words.{Text, OptionRule, wrong, flag, plain, Part, Piece, alone, pair, added, checked, has_equals, has_part, is_value, mode_name, option_named, parts_from, part_of, value_at}
use Rattle.fdc_main.specs.WordsRows.{are_good, is_good, row_of_part, rows_of_parts}
use Rattle.fdc_main.proofs.WordsWalk.{both}
use Rattle.fdc_main.proofs.WordsTable.{not_mode_name, option_is}

-- ---- each part has a value of its option

or_right : (a b : Bool) → b ≡ true → (a || b) ≡ true
or_right true b e = refl
or_right false b e = e

checked_good : (name text : Text) (p : Part) → checked text (option_named name) ≡ Some p → is_good p ≡ true
checked_good name text p e = go (option_named name) refl e
  where
    go : (o : Option OptionRule) → option_named name ≡ o → checked text o ≡ Some p → is_good p ≡ true
    go None named h = absurd (cc h)
    go (Some o) named h = test (is_value o text) refl h
      where
        test : (b : Bool) → is_value o text ≡ b → cond b (Some (record { name = o.name; value = text })) None ≡ Some p → is_good p ≡ true
        test false v k = absurd (cc k)
        test true v k =
            let same : ◌≡◌ {A = Part} (record { name = o.name; value = text }) p = cc in
            let self = (option_is name o named).1.self in
            subst (λ (q : Part). is_good q ≡ true) same (or_right (bytes_eq o.name mode_name) _ (rw self v))

part_good : (piece : Piece) (p : Part) → part_of piece ≡ Some p → is_good p ≡ true
part_good (pair name text) p e = checked_good name text p e
part_good (alone plain word) p e =
    let same : ◌≡◌ {A = Part} (record { name = mode_name; value = word }) p = cc in
    subst (λ (q : Part). is_good q ≡ true) same refl
part_good (alone wrong word) p e = absurd (cc e)
part_good (alone (flag t) word) p e = go (has_equals t) e
  where
    go : (b : Bool) → cond b (checked (after_first (λ x. x == 61) t) (option_named (before_first (λ x. x == 61) t))) None ≡ Some p → is_good p ≡ true
    go true h = checked_good (before_first (λ x. x == 61) t) (after_first (λ x. x == 61) t) p h
    go false h = absurd (cc h)

good-push : (parts : List Part) (p : Part) → are_good parts ≡ true → is_good p ≡ true → are_good (parts ++ p ∷ []) ≡ true
good-push [] p e h = rw h refl
good-push (q ∷ qs) p e h =
    let parts = both (is_good q) (are_good qs) e in
    rw parts.0 (good-push qs p parts.1 h)

pub parts_good : (ps : List Piece) (seen parts : List Part) → are_good seen ≡ true → parts_from ps seen ≡ Some parts → are_good parts ≡ true
parts_good [] seen parts good e = let same : seen ≡ parts = cc in subst (λ (x : List Part). are_good x ≡ true) same good
parts_good (piece ∷ rest) seen parts good e = go (part_of piece) refl e (λ q h. parts_good rest (seen ++ q ∷ []) parts h)
  where
    go : (o : Option Part) → part_of piece ≡ o → added o seen (parts_from rest) ≡ Some parts
        → ((q : Part) → are_good (seen ++ q ∷ []) ≡ true → parts_from rest (seen ++ q ∷ []) ≡ Some parts → are_good parts ≡ true) → are_good parts ≡ true
    go None is h later = absurd (cc h)
    go (Some q) is h later = test (has_part q.name seen) h
      where
        test : (b : Bool) → cond b None (parts_from rest (seen ++ q ∷ [])) ≡ Some parts → are_good parts ≡ true
        test true k = absurd (cc k)
        test false k = later q (good-push seen q good (part_good piece q is)) k

pub value_good : (name : Text) (o : OptionRule) (parts : List Part) (v : Text) → option_named name ≡ Some o → bytes_eq name mode_name ≡ false → are_good parts ≡ true
    → value_at name parts ≡ Some v → is_value o v ≡ true
value_good name o [] v named no_mode good e = absurd (cc e)
value_good name o (p ∷ ps) v named no_mode good e = go (bytes_eq p.name name) refl e (value_good name o ps v named no_mode (both (is_good p) (are_good ps) good).1)
  where
    go : (b : Bool) → bytes_eq p.name name ≡ b → option_map (λ (q : Part). q.value) (cond b (Some p) (find (λ (q : Part). bytes_eq q.name name) ps)) ≡ Some v
        → (value_at name ps ≡ Some v → is_value o v ≡ true) → is_value o v ≡ true
    go true is h later =
        let here : p.name ≡ name = (bytes_eq-Decides p.name name).0 is in
        let value : p.value ≡ v = cc in
        let test = (both (is_good p) (are_good ps) good).0 in
        rw (here, no_mode, named, value) at test
    go false is h later = later h

-- ---- the getters

pub text_at : (f : Found) (name : Text) (parts : List Part) → rows_of f ≡ rows_of_parts parts → one_text f name ≡ value_at name parts
text_at f name parts e = one_text-rows f name ∙ ap (one_of name) e ∙ go parts
  where
    step : (b : Bool) (p : Part) (ps : List Part) → one_of name (rows_of_parts ps) ≡ value_at name ps
        → option_and_then row_text (cond b (Some (row_of_part p)) (find (λ (r : Row). bytes_eq r.id name) (rows_of_parts ps)))
        ≡ option_map (λ (q : Part). q.value) (cond b (Some p) (find (λ (q : Part). bytes_eq q.name name) ps))
    step true p ps h = refl
    step false p ps h = h

    go : (ps : List Part) → one_of name (rows_of_parts ps) ≡ value_at name ps
    go [] = refl
    go (p ∷ ps) = step (bytes_eq p.name name) p ps (go ps)

pub first_at : (f : Found) (name : Text) (parts : List Part) → rows_of f ≡ rows_of_parts parts → first_value f name ≡ value_at name parts
first_at f name parts e = first_value-rows f name ∙ ap (first_of name) e ∙ go parts
  where
    step : (b : Bool) (p : Part) (ps : List Part) → first_of name (rows_of_parts ps) ≡ value_at name ps
        → option_and_then (λ (r : Row). Rattle.std.specs.Prelude.slice_get r.values 0) (cond b (Some (row_of_part p)) (find (λ (r : Row). bytes_eq r.id name) (rows_of_parts ps)))
        ≡ option_map (λ (q : Part). q.value) (cond b (Some p) (find (λ (q : Part). bytes_eq q.name name) ps))
    step true p ps h = refl
    step false p ps h = h

    go : (ps : List Part) → first_of name (rows_of_parts ps) ≡ value_at name ps
    go [] = refl
    go (p ∷ ps) = step (bytes_eq p.name name) p ps (go ps)

-- ---- the numbers

digits_all : (ds : List ℕ) → list_all (λ d. nat_lt (digit_value d) 10) ds ≡ true → AllDigits 10 ds
digits_all [] e = tt
digits_all (d ∷ ds) e = let parts = both (nat_lt (digit_value d) 10) _ e in (ltb-true _ _ parts.0, digits_all ds parts.1)

no_plus : (text : Text) → list_all (λ d. nat_lt (digit_value d) 10) text ≡ true → get_or text 0 0 ≢ 43
no_plus [] e h = absurd (omega arith)
no_plus (d ∷ ds) e h =
    let lt : digit_value d < 10 = ltb-true _ _ (both (nat_lt (digit_value d) 10) _ e).0 in
    let bad : digit_value 43 < 10 = subst (λ (x : ℕ). digit_value x < 10) h lt in
    absurd (omega arith)

-- the parser of `u64` reads the digits
pub reads_number : {E : Type 0} (bits : ℕ) (o : OptionRule) (text : Text) (r : Option ℕ) (gives : List ℕ → Rattle.std.specs.Prelude.Result ℕ E → Type 0)
    → ((t : List ℕ) (x : Rattle.std.specs.Prelude.Result ℕ E) → gives t x → ParsesUnsigned bits 10 t x) → o.high < 2 ^ bits → is_value o text ≡ true
    → ReadsOne gives text r → r ≡ Some (digits_value 10 text)
reads_number bits o text r gives parses small good reads =
    let outer = both (nat_lt 0 (length text) && list_all (λ d. nat_lt (digit_value d) 10) text) _ good in
    let inner = both (nat_lt 0 (length text)) _ outer.0 in
    let bounds = both (nat_le o.low (digits_value 10 text)) _ outer.1 in
    let same : without_leading_plus text ≡ text = without_leading_plus_none text (no_plus text inner.1) in
    let fits : digits_value 10 text < 2 ^ bits = grind (arith, nat_tests) in
    go r same reads (ltb-true _ _ inner.0) (digits_all text inner.1) fits
  where
    go : (x : Option ℕ) → without_leading_plus text ≡ text → ReadsOne gives text x → 0 < length text → AllDigits 10 text → digits_value 10 text < 2 ^ bits → x ≡ Some (digits_value 10 text)
    go (Some n) same h some all fits =
        let p : n ≡ digits_value 10 (without_leading_plus text) = (parses text (Ok n) h).1 in
        ap Some (p ∙ ap (digits_value 10) same)
    go None same h some all fits =
        let no = parses text (Err h.0) h.1 in
        absurd (no (rw same ((some, all), fits)))

-- what `get_one` gives of an option
pub number_is : {E : Type 0} (bits : ℕ) (f : Found) (name : Text) (o : OptionRule) (parts : List Part) (r : Option ℕ) (gives : List ℕ → Rattle.std.specs.Prelude.Result ℕ E → Type 0)
    → ((t : List ℕ) (x : Rattle.std.specs.Prelude.Result ℕ E) → gives t x → ParsesUnsigned bits 10 t x)
    → (one_text f name ≡ None → r ≡ None) → ((t : List ℕ) → one_text f name ≡ Some t → ReadsOne gives t r)
    → option_named name ≡ Some o → o.high < 2 ^ bits → are_good parts ≡ true → rows_of f ≡ rows_of_parts parts → r ≡ option_map (digits_value 10) (value_at name parts)
number_is bits f name o parts r gives parses none some named small good rows = go (value_at name parts) refl
  where
    go : (v : Option Text) → value_at name parts ≡ v → r ≡ option_map (digits_value 10) (value_at name parts)
    go None e = rw e (none (text_at f name parts rows ∙ e))
    go (Some t) e = rw e (reads_number bits o t r gives parses small (value_good name o parts t named (not_mode_name name o named) good e) (some t (text_at f name parts rows ∙ e)))
