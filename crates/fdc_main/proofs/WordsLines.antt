-- The mode that the words say, from what clap made of them.
use Rattle.std.proofs.Common.{◌≡◌, ◌∙◌, ◌&&◌, ◌||◌, not, ℕ, Bool, true, false, refl, sym, subst, ap, List, [], ◌∷◌, map, Option, Some, None, ⊎_elim, is_some, option_map, cond, Global, String, string_bytes, ◌⊎◌}
use Rattle.std.specs.Prelude.{option_and_then}
use Rattle.std.specs.Str.Parse.{digits_value}
use Rattle.std.proofs.lemmas.Slice.Eq.{bytes_eq-Decides}
use Rattle.std.specs.List.{find, list_all, list_any}
use Rattle.std.specs.Str.{bytes_eq}
use Rattle.std.specs.Borrow.{Bor}
use Rattle.clap.specs.Faults.{fault_of}
use Rattle.clap.specs.Kinds.{IsAmong, Kinds}
use Rattle.clap.specs.Matches.{found_of, first_value}
use Rattle.clap.specs.Simple.{App, HasMatchesOf, matches_of}
use Rattle.clap.specs.Faults.{is_simple_and_free}
use Rattle.clap.specs.Values.{kind_of}
use Rattle.clap.specs.Walk.{Row, rows_of}
use Rattle.clap.specs.declared.error.Error.{Error}
use Rattle.clap.specs.declared.error.kind.ErrorKind.{ErrorKind}
use Rattle.clap.specs.declared.error.kind.ErrorKind.TheVariants.{OutOfMemory}
use Rattle.clap.specs.declared.parser.matches.ArgMatches.{ArgMatches}
use Rattle.clap.specs.declared.parser.matches.Found.{Found}
use Rattle.fdc_main.specs.declared.command_line.Mode.{Mode}
use Rattle.fdc_main.specs.WordsCommand.{command_app, is_out_of_memory}
use Rattle.fdc_main.specs.WordsRows.{are_good, mode_given, mode_without, rows_of_parts}
use Rattle.fdc_main.specs.WordsClean.{is_clean}
use Rattle.fdc_main.specs.Words.{ModeRule, Part, all_options, check_mode, gen_mode, Text, has_option, has_part, map_mode, mode_of, mode_of_parts, mode_name, mode_with, number_at, number_of, parts_of, pieces, plan_mode, ranks, seed, seq_mode, size, steps, value_at}
use Rattle.fdc_main.proofs.WordsClean.{words_clean}
use Rattle.fdc_main.proofs.WordsParse.{Outcome, is_free_command, is_plain_command, outcome}
use Rattle.fdc_main.proofs.WordsTable.{own_options}
use Rattle.fdc_main.proofs.WordsValues.{first_at, parts_good}

-- ---- the mode

pub mode_text : (f : Found) (parts : List Part) (r : Option (Bor Text)) → option_map (λ s. s.now) r ≡ first_value f mode_name → rows_of f ≡ rows_of_parts parts
    → value_at mode_name parts ≡ option_map (λ s. s.now) r
mode_text f parts r e rows = sym (first_at f mode_name parts rows) ∙ sym e

no_value : (name : Text) (parts : List Part) → has_part name parts ≡ false → value_at name parts ≡ None
no_value name [] e = refl
no_value name (p ∷ ps) e = go (bytes_eq p.name name) (no_value name ps) e
  where
    go : (b : Bool) → (has_part name ps ≡ false → value_at name ps ≡ None) → (b || has_part name ps) ≡ false
        → option_map (λ (q : Part). q.value) (cond b (Some p) (find (λ (q : Part). bytes_eq q.name name) ps)) ≡ None
    go true later h = let bad : true ≡ false = h in absurd (cc bad)
    go false later h = later h

has_number : (name : Text) (parts : List Part) → is_some (number_at name parts) ≡ has_part name parts
has_number name [] = refl
has_number name (p ∷ ps) = go (bytes_eq p.name name) (has_number name ps)
  where
    go : (b : Bool) → is_some (number_at name ps) ≡ has_part name ps
        → is_some (option_map (digits_value 10) (option_map (λ (q : Part). q.value) (cond b (Some p) (find (λ (q : Part). bytes_eq q.name name) ps)))) ≡ (b || has_part name ps)
    go true later = refl
    go false later = later

same_either_way : (a b : Text) → bytes_eq a b ≡ bytes_eq b a
same_either_way a b = go (bytes_eq a b) (bytes_eq b a) refl refl
  where
    go : (x y : Bool) → bytes_eq a b ≡ x → bytes_eq b a ≡ y → x ≡ y
    go true true h k = refl
    go false false h k = refl
    go true false h k = let same = (bytes_eq-Decides b a).1 (sym ((bytes_eq-Decides a b).0 h)) in sym same ∙ k
    go false true h k = let same = (bytes_eq-Decides a b).1 (sym ((bytes_eq-Decides b a).0 k)) in sym h ∙ same

-- whether a part has one of these names, by the numbers that the parts give
none_of : (parts : List Part) (names : List Text) (m : Mode)
    → mode_without (map (λ x. is_some (number_at x parts)) names) m ≡ cond (list_all (λ x. not (has_part x parts)) names) (Some m) None
none_of parts [] m = refl
none_of parts (x ∷ xs) m =
    ap (λ (h : Bool). cond (h || list_any (λ other. other) (map (λ y. is_some (number_at y parts)) xs)) None (Some m)) (has_number x parts)
    ∙ go (has_part x parts) (none_of parts xs m)
  where
    go : (h : Bool) → mode_without (map (λ y. is_some (number_at y parts)) xs) m ≡ cond (list_all (λ y. not (has_part y parts)) xs) (Some m) None
        → cond (h || list_any (λ other. other) (map (λ y. is_some (number_at y parts)) xs)) None (Some m)
        ≡ cond (not h && list_all (λ y. not (has_part y parts)) xs) (Some m) None
    go true later = refl
    go false later = later

-- the mode of a name, by the numbers that the parts give
pub given_is : (name : Text) (parts : List Part) → are_good parts ≡ true → value_at mode_name parts ≡ Some name
    → mode_given name (number_at ranks.name parts) (number_at steps.name parts) (number_at seed.name parts) (number_at size.name parts) ≡ mode_of_parts parts
given_is name parts good value =
    rw (value, same_either_way name seq_mode.name, same_either_way name map_mode.name, same_either_way name plan_mode.name, same_either_way name check_mode.name, same_either_way name gen_mode.name)
    (go (bytes_eq seq_mode.name name) (bytes_eq map_mode.name name) (bytes_eq plan_mode.name name) (bytes_eq check_mode.name name) (bytes_eq gen_mode.name name))
  where
    -- where no other option has a number, no part is of another mode
    alone : (m : ModeRule) (others : List Text) → list_all (λ o. has_option m o.name || not (has_part o.name parts)) all_options ≡ list_all (λ x. not (has_part x parts)) others
        → mode_without (map (λ x. is_some (number_at x parts)) others) (m.mode (number_of parts)) ≡ mode_with parts m
    alone m others only =
        none_of parts others (m.mode (number_of parts))
        ∙ sym (ap (λ (h : Bool). cond h (Some (m.mode (number_of parts))) None) (own_options m parts good ∙ only))

    r : Option ℕ
    r = number_at ranks.name parts

    s : Option ℕ
    s = number_at steps.name parts

    d : Option ℕ
    d = number_at seed.name parts

    z : Option ℕ
    z = number_at size.name parts

    go : (a b e f g : Bool) → cond a (mode_without (is_some r ∷ is_some d ∷ is_some z ∷ []) (seq_mode.mode (number_of parts)))
        (cond b (mode_without (is_some s ∷ is_some d ∷ is_some z ∷ []) (map_mode.mode (number_of parts)))
        (cond e (mode_without (is_some r ∷ is_some s ∷ is_some d ∷ is_some z ∷ []) (plan_mode.mode (number_of parts)))
        (cond f (mode_without (is_some r ∷ is_some s ∷ is_some d ∷ is_some z ∷ []) (check_mode.mode (number_of parts)))
        (cond g (mode_without (is_some r ∷ is_some s ∷ []) (gen_mode.mode (number_of parts))) None))))
        ≡ option_and_then (mode_with parts) (cond a (Some seq_mode) (cond b (Some map_mode) (cond e (Some plan_mode) (cond f (Some check_mode) (cond g (Some gen_mode) None)))))
    go true b e f g = alone seq_mode (ranks.name ∷ seed.name ∷ size.name ∷ []) refl
    go false true e f g = alone map_mode (steps.name ∷ seed.name ∷ size.name ∷ []) refl
    go false false true f g = alone plan_mode (ranks.name ∷ steps.name ∷ seed.name ∷ size.name ∷ []) refl
    go false false false true g = alone check_mode (ranks.name ∷ steps.name ∷ seed.name ∷ size.name ∷ []) refl
    go false false false false true = alone gen_mode (ranks.name ∷ steps.name ∷ []) refl
    go false false false false false = refl

-- ---- the words

pub clean_map : (p : Text → Bool) (words : List (String Global)) → list_all p (map string_bytes words) ≡ list_all (λ w. p (string_bytes w)) words
clean_map p [] = refl
clean_map p (w ∷ ws) = ap (λ b. p (string_bytes w) && b) (clean_map p ws)

pub refused_words : (words : List Text) → list_all is_clean words ≡ false → None ≡ mode_of words
refused_words words e = go (mode_of words) refl
  where
    go : (o : Option Mode) → mode_of words ≡ o → None ≡ o
    go None is = refl
    go (Some mode) is = let bad : false ≡ true = sym e ∙ words_clean words mode is in absurd (cc bad)

pub failed_words : (words : List Text) → list_all is_clean words ≡ true → (fault_of command_app words ≡ [] → ⊥) → None ≡ mode_of words
failed_words words clean fault = go (parts_of words) (outcome words clean)
  where
    mode : (parts : List Part) (b : Bool) → has_part mode_name parts ≡ b → (has_part mode_name parts ≡ true → fault_of command_app words ≡ []) → None ≡ mode_of_parts parts
    mode parts true e needs = absurd (fault (needs e))
    mode parts false e needs =
        let none : value_at mode_name parts ≡ None = no_value mode_name parts e in
        rw none refl

    go : (o : Option (List Part)) → Outcome words o → None ≡ option_and_then mode_of_parts o
    go None h = refl
    go (Some parts) h = mode parts (has_part mode_name parts) refl h.2

pub taken_words : (words : List Text) (rows : List Row) (mode : Option Mode) → list_all is_clean words ≡ true → fault_of command_app words ≡ [] → rows ≡ matches_of command_app words
    → ((parts : List Part) → are_good parts ≡ true → rows ≡ rows_of_parts parts → mode ≡ mode_of_parts parts) → mode ≡ mode_of words
taken_words words rows mode clean fine rows_are reads = go (parts_of words) refl (outcome words clean)
  where
    go : (o : Option (List Part)) → parts_of words ≡ o → Outcome words o → mode ≡ option_and_then mode_of_parts o
    go None e h = absurd (h fine)
    go (Some parts) e h = reads parts (parts_good (pieces words) [] parts refl e) (rows_are ∙ h.0)

-- ---- the parse

no_kind : (k : ErrorKind) (kinds : Kinds) → IsAmong k kinds → kinds ≡ [] → ⊥
no_kind k [] h e = h
no_kind k (x ∷ xs) h e = cc e

pub ok_words : (a : App) (words : List Text) (m : ArgMatches) (mode : Option Mode) → a ≡ command_app → list_all is_clean words ≡ true
    → HasMatchesOf a words m → (is_simple_and_free a ≡ true → fault_of a words ≡ [])
    → ((parts : List Part) → are_good parts ≡ true → rows_of (found_of m) ≡ rows_of_parts parts → mode ≡ mode_of_parts parts) → mode ≡ mode_of words
ok_words a words m mode same clean matches kinds reads =
    let has : HasMatchesOf command_app words m = subst (λ (x : App). HasMatchesOf x words m) same matches in
    let fine : is_simple_and_free command_app ≡ true → fault_of command_app words ≡ [] = subst (λ (x : App). is_simple_and_free x ≡ true → fault_of x words ≡ []) same kinds in
    taken_words words (rows_of (found_of m)) mode clean (fine is_free_command) (has is_plain_command).0 reads

pub err_words : (a : App) (words : List Text) (e : Error) → a ≡ command_app → list_all is_clean words ≡ true → is_out_of_memory (kind_of e) ≡ false
    → (is_simple_and_free a ≡ true → (kind_of e ≡ OutOfMemory) ⊎ IsAmong (kind_of e) (fault_of a words)) → None ≡ mode_of words
err_words a words e same clean other kinds =
    let has : is_simple_and_free command_app ≡ true → (kind_of e ≡ OutOfMemory) ⊎ IsAmong (kind_of e) (fault_of command_app words)
    = subst (λ (x : App). is_simple_and_free x ≡ true → (kind_of e ≡ OutOfMemory) ⊎ IsAmong (kind_of e) (fault_of x words)) same kinds in
    failed_words words clean (λ none. ⊎_elim (λ (h : kind_of e ≡ OutOfMemory). let bad : true ≡ false = subst (λ (k : ErrorKind). is_out_of_memory k ≡ false) h other in absurd (cc bad)) (λ h. no_kind (kind_of e) (fault_of command_app words) h none) (has is_free_command))
