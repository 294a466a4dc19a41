-- One use of an argument: when clap takes the value, and the row that it leaves.
use Rattle.std.proofs.Common.{◌≡◌, ◌≢◌, ◌∙◌, ◌<◌, ◌^◌, ◌==◌, ◌&&◌, ◌||◌, ℕ, Bool, true, false, refl, sym, subst, ap, List, [], ◌∷◌, ◌++◌, drop, get_or, cond, zero, suc, arith, append-nil, nat_lt, nat_le}
use Rattle.std.specs.List.{list_any}
use Rattle.std.specs.Str.{bytes_eq}
use Rattle.std.specs.Str.Parse.{digits_value, without_leading_plus}
use Rattle.std.proofs.lemmas.Str.Parse.{without_leading_plus_none}
use Rattle.std.proofs.lemmas.Bool.Decides.{nat_tests}
use Rattle.clap.specs.Kinds.{Kinds, or_else}
use Rattle.clap.specs.Faults.{repeat_fault, use_fault, values_fault}
use Rattle.clap.specs.ValueTests.{accepts, is_numeral}
use Rattle.clap.specs.Walk.{Row, at_row, has_row, more_values, used, with_values, without}
use Rattle.clap.specs.declared.builder.value_parser.ValueParser.TheVariants as vp
use Rattle.clap.specs.declared.builder.value_parser.Reading.TheVariants as reading
use Rattle.clap.specs.declared.parser.matches.ValueSource.TheVariants.{CommandLine}
use Rattle.fdc_main.specs.Words.{Text, OptionRule, wrong, flag, plain, look, Part, has_part, is_value, mode_name}
use Rattle.fdc_main.specs.WordsRows.{row_of_part, rows_of_parts}
use Rattle.fdc_main.proofs.WordsTurns.{cons≢nil, mode_built, option_built}

-- ---- lists

list_any-drop : (p : ℕ → Bool) (n : ℕ) (xs : List ℕ) → list_any p xs ≡ false → list_any p (drop n xs) ≡ false
list_any-drop p zero xs e = e
list_any-drop p (suc n) [] e = refl
list_any-drop p (suc n) (x ∷ xs) e = list_any-drop p n xs (right (p x) e)
  where
    right : (b : Bool) → (b || list_any p xs) ≡ false → list_any p xs ≡ false
    right true h = cc
    right false h = h

-- ---- rows

pub has_row-parts : (name : Text) (parts : List Part) → has_row name (rows_of_parts parts) ≡ has_part name parts
has_row-parts name [] = refl
has_row-parts name (p ∷ ps) = ap (λ b. bytes_eq p.name name || b) (has_row-parts name ps)

pub has_part-push : (name : Text) (parts : List Part) (p : Part) → has_part name (parts ++ p ∷ []) ≡ (has_part name parts || bytes_eq p.name name)
has_part-push name [] p = go (bytes_eq p.name name)
  where
    go : (b : Bool) → (b || false) ≡ b
    go true = refl
    go false = refl
has_part-push name (q ∷ qs) p = go (bytes_eq q.name name) (has_part-push name qs p)
  where
    go : (b : Bool) → has_part name (qs ++ p ∷ []) ≡ (has_part name qs || bytes_eq p.name name)
        → (b || has_part name (qs ++ p ∷ [])) ≡ ((b || has_part name qs) || bytes_eq p.name name)
    go true e = refl
    go false e = e

at_row-new : (id : Text) (change : Row → List Row) (missing rows : List Row) → has_row id rows ≡ false → at_row id change missing rows ≡ rows ++ missing
at_row-new id change missing [] e = refl
at_row-new id change missing (r ∷ rs) e = go (bytes_eq r.id id) refl (at_row-new id change missing rs)
  where
    go : (b : Bool) → bytes_eq r.id id ≡ b → (has_row id rs ≡ false → at_row id change missing rs ≡ rs ++ missing)
        → at_row id change missing (r ∷ rs) ≡ (r ∷ rs) ++ missing
    go true h rest = let bad : true ≡ false = rw h at e in cc
    go false h rest = rw h (ap (λ t. r ∷ t) (rest (rw h at e)))

placed : (id value : Text) (rows : List Row) → has_row id rows ≡ false
    → with_values id reading.AsWritten CommandLine (value ∷ []) (without id rows) ≡ rows ++ row_of_part (record { name = id; value = value }) ∷ []
placed id value rows e =
    let same : without id rows ≡ rows = at_row-new id (λ _. []) [] rows e ∙ append-nil rows in
    rw same (at_row-new id (more_values CommandLine (value ∷ [])) _ rows e)

pub option_used : (o : OptionRule) (value : Text) (rows : List Row) → has_row o.name rows ≡ false
    → used (option_built o) (value ∷ []) rows ≡ rows ++ row_of_part (record { name = o.name; value = value }) ∷ []
option_used o value rows e = placed o.name value rows e

pub mode_used : (value : Text) (rows : List Row) → has_row mode_name rows ≡ false
    → used mode_built (value ∷ []) rows ≡ rows ++ row_of_part (record { name = mode_name; value = value }) ∷ []
mode_used value rows e = placed mode_name value rows e

-- ---- when a use passes

pub or_else-left : (a b : Kinds) → or_else a b ≡ [] → a ≡ []
or_else-left [] b e = refl
or_else-left (k ∷ ks) b e = e

pub or_else-right : (a b : Kinds) → or_else a b ≡ [] → b ≡ []
or_else-right [] b e = e
or_else-right (k ∷ ks) b e = absurd (cons≢nil k ks e)

abbrev clap_takes : OptionRule → Text → Bool
clap_takes o value = accepts false (vp.Unsigned o.low o.high) value

pub option_passes : (again : Bool) (o : OptionRule) (value : Text) (rows : List Row) → has_row o.name rows ≡ false → clap_takes o value ≡ true
    → use_fault again (option_built o) (value ∷ []) rows ≡ []
option_passes again o value rows new taken = rw (new, taken) refl

pub option_refused : (again : Bool) (o : OptionRule) (value : Text) (rows : List Row) → clap_takes o value ≡ false
    → use_fault again (option_built o) (value ∷ []) rows ≡ [] → ⊥
option_refused again o value rows not_taken e =
    let values = or_else-right (repeat_fault again o.name rows) (values_fault (option_built o) (value ∷ [])) e in
    cons≢nil _ _ (rw not_taken at values)

pub option_repeated : (o : OptionRule) (value : Text) (rows : List Row) → has_row o.name rows ≡ true
    → use_fault false (option_built o) (value ∷ []) rows ≡ [] → ⊥
option_repeated o value rows old e = cons≢nil _ _ (rw old at e)

pub mode_passes : (again : Bool) (value : Text) (rows : List Row) → has_row mode_name rows ≡ false
    → use_fault again mode_built (value ∷ []) rows ≡ []
mode_passes again value rows new = rw new refl

-- ---- values

no_plus_first : (text : Text) → list_any (λ x. x == 43) text ≡ false → get_or text 0 0 ≢ 43
no_plus_first [] e = λ h. absurd (omega arith)
no_plus_first (x ∷ xs) e = λ h. go (x == 43) refl h
  where
    go : (b : Bool) → (x == 43) ≡ b → x ≡ 43 → ⊥
    go true k h = let bad : true ≡ false = rw k at e in cc
    go false k h = let bad : (x == 43) ≡ true = grind (arith, nat_tests) in let worse : true ≡ false = sym bad ∙ k in cc

three : (fits low high : Bool) → (high ≡ true → fits ≡ true) → (fits && (low && high)) ≡ (low && high)
three true low high h = refl
three false true true h = let bad : false ≡ true = h refl in cc
three false true false h = refl
three false false high h = refl

-- what clap takes as a value is what the definition does
pub value_same : (o : OptionRule) (text : Text) → list_any (λ x. x == 43) text ≡ false → o.high < 2 ^ 64 → clap_takes o text ≡ is_value o text
value_same o text no_plus small =
    let same : without_leading_plus text ≡ text = without_leading_plus_none text (no_plus_first text no_plus) in
    let n = digits_value 10 text in
    let fits : nat_le n o.high ≡ true → nat_lt n (2 ^ 64) ≡ true = λ h. grind (arith, nat_tests) in
    rw same (ap (λ b. is_numeral text && b) (three (nat_lt n (2 ^ 64)) (nat_le o.low n) (nat_le n o.high) fits))

-- a word that has no plus has none behind its hyphens
drop_two : (word t : Text) → look word ≡ flag t → drop 2 word ≡ t
drop_two [] t e = absurd (cc e)
drop_two (x ∷ []) t e = elim (x == 45) as (λ b. cond b wrong plain ≡ flag t → drop 2 (x ∷ []) ≡ t) [ true ↦ (λ h. absurd (cc h)) | false ↦ (λ h. absurd (cc h)) ] e
drop_two (x ∷ y ∷ rest) t e = two (x == 45) (y == 45) rest e
  where
    two : (b d : Bool) (rest : Text) → cond b (cond d (Rattle.fdc_main.specs.Words.look_behind_two rest) wrong) plain ≡ flag t → rest ≡ t
    two true true [] h = absurd (cc h)
    two true true (z ∷ zs) h = cc
    two true false rest h = absurd (cc h)
    two false d rest h = absurd (cc h)

pub flag_no_plus : (word t : Text) → look word ≡ flag t → list_any (λ x. x == 43) word ≡ false → (n : ℕ) → list_any (λ x. x == 43) (drop n t) ≡ false
flag_no_plus word t e no_plus n =
    let two = list_any-drop (λ x. x == 43) 2 word no_plus in
    list_any-drop (λ x. x == 43) n t (subst (λ (u : Text). list_any (λ x. x == 43) u ≡ false) (drop_two word t e) two)
