-- The numbers of a mode are in their ranges.
use Rattle.std.proofs.Common.{◌≡◌, ◌≤◌, ◌&&◌, Bool, true, false, refl, sym, subst, List, [], length, Option, Some, None, IfSome, cond, option_map, arith, nat_lt, nat_le}
use Rattle.std.specs.Prelude.{option_and_then, unwrap_or}
use Rattle.std.specs.List.{list_all}
use Rattle.std.specs.Char.{digit_value}
use Rattle.std.specs.Str.Parse.{digits_value}
use Rattle.std.proofs.lemmas.Bool.Decides.{nat_tests}
use Rattle.fdc_main.specs.declared.command_line.Mode.{Mode}
use Rattle.fdc_main.specs.WordsRows.{are_good}
use Rattle.fdc_main.specs.Words.{Text, IsInRange, ModeRule, OptionRule, Part, is_value, mode_name, mode_named, mode_of, mode_of_parts, mode_with, number_of, option_named, parts_of, pieces, value_at}
use Rattle.fdc_main.proofs.WordsTable.{IsWithin, mode_is, option_is, takes}
use Rattle.fdc_main.proofs.WordsValues.{parts_good, value_good}
use Rattle.fdc_main.proofs.WordsWalk.{both}

value_within : (o : OptionRule) (text : Text) → is_value o text ≡ true → IsWithin o (digits_value 10 text)
value_within o text e =
    let bounds = both (nat_le o.low (digits_value 10 text)) (nat_le (digits_value 10 text) o.high) (both (nat_lt 0 (length text) && list_all (λ d. nat_lt (digit_value d) 10) text) _ e).1 in
    let low : o.low ≤ digits_value 10 text = grind (arith, nat_tests) in
    let high : digits_value 10 text ≤ o.high = grind (arith, nat_tests) in
    (low, high)

number_within : (parts : List Part) → are_good parts ≡ true → (o : OptionRule) → option_named o.name ≡ Some o → IsWithin o (number_of parts o)
number_within parts good o named = go (value_at o.name parts) refl
  where
    go : (v : Option Text) → value_at o.name parts ≡ v → IsWithin o (unwrap_or (option_map (digits_value 10) v) o.default)
    go None e = (option_is o.name o named).1.default_within
    go (Some t) e = value_within o t (value_good o.name o parts t named (option_is o.name o named).1.not_mode good e)

-- a mode that the table has, by numbers that are in their ranges
mode_within : (parts : List Part) → are_good parts ≡ true → (x : Mode) → mode_of_parts parts ≡ Some x → IsInRange x
mode_within parts good x e = at_value (value_at mode_name parts) e
  where
    at_mode : (name : Text) (m : Option ModeRule) → mode_named name ≡ m → option_and_then (mode_with parts) m ≡ Some x → IsInRange x
    at_mode name None named h = absurd (cc h)
    at_mode name (Some m) named h = test (list_all (λ p. takes m p.name) parts) h
      where
        test : (b : Bool) → cond b (Some (m.mode (number_of parts))) None ≡ Some x → IsInRange x
        test false k = absurd (cc k)
        test true k =
            let same : m.mode (number_of parts) ≡ x = cc k in
            subst IsInRange same ((mode_is name m named).1.within (number_of parts) (number_within parts good))

    at_value : (v : Option Text) → option_and_then (mode_with parts) (option_and_then mode_named v) ≡ Some x → IsInRange x
    at_value None h = absurd (cc h)
    at_value (Some name) h = at_mode name (mode_named name) refl h

pub in_range : (words : List Text) (mode : Option Mode) → mode ≡ mode_of words → IfSome mode IsInRange
in_range words mode e = subst (λ (m : Option Mode). IfSome m IsInRange) (sym e) (at_parts (parts_of words) refl)
  where
    at_mode : (parts : List Part) → are_good parts ≡ true → (o : Option Mode) → mode_of_parts parts ≡ o → IfSome o IsInRange
    at_mode parts good None is = tt
    at_mode parts good (Some x) is = mode_within parts good x is

    at_parts : (o : Option (List Part)) → parts_of words ≡ o → IfSome (option_and_then mode_of_parts o) IsInRange
    at_parts None is = tt
    at_parts (Some parts) is = at_mode parts (parts_good (pieces words) [] parts refl is) (mode_of_parts parts) refl
