-- What clap makes of a list of words with this command: the parts of the definition, or a fault.
use Rattle.std.proofs.Common.{◌≡◌, ◌∙◌, ◌||◌, not, Bool, true, false, refl, sym, ap, List, [], ◌∷◌, length, map, Option, Some, None, option_map, cond, arith, is_some}
use Rattle.std.specs.Option.{option_map_or}
use Rattle.std.specs.List.{find, fold, list_all}
use Rattle.std.specs.Str.{bytes_eq}
use Rattle.clap.specs.declared.error.kind.ErrorKind.TheVariants as kind
use Rattle.std.proofs.lemmas.Bool.Decides.{nat_tests}
use Rattle.clap.specs.Kinds.{Kinds, or_else}
use Rattle.clap.specs.Faults.{check_fault, default_fault, defaults_fault, entered_fault, fault_of, is_simple_and_free, level_fault, settle_fault, walk_fault}
use Rattle.clap.specs.Facts.{explicit_source}
use Rattle.clap.specs.Takes.{is_given}
use Rattle.clap.specs.Walk.{Held, Row, Rule, Walk, arg_by_id, arg_by_long, finished, has_row, settled_rows, is_empty, nothing_held, stop_after, with_default}
use Rattle.clap.specs.Simple.{Shape, built, entered, is_simple, matches_of}
use Rattle.fdc_main.specs.WordsClean.{is_clean}
use Rattle.fdc_main.specs.Words.{Text, OptionRule, Part, all_options, has_part, mode_name, named_option, option_named, parts_of}
use Rattle.fdc_main.specs.WordsCommand.{command_app}
use Rattle.fdc_main.proofs.WordsTable.{Each, named_is, option_is}
use Rattle.fdc_main.proofs.WordsTurns.{at, cons≢nil, option_built}
use Rattle.fdc_main.specs.WordsRows.{row_of_part, rows_of_parts}
use Rattle.fdc_main.proofs.WordsUses.{or_else-left, or_else-right}
use Rattle.fdc_main.proofs.WordsWalk.{both, IsCommand, Known, Reads, all_words, end_of}

abbrev pub top : Shape
top = (built command_app).top

pub is_plain_command : is_simple command_app ≡ true
is_plain_command = refl

pub is_free_command : is_simple_and_free command_app ≡ true
is_free_command = refl

-- ---- the command's arguments

long_option : (os : List OptionRule) (name : Text) → arg_by_long (map option_built os) name ≡ option_map option_built (named_option name os)
long_option [] name = refl
long_option (o ∷ os) name = go (bytes_eq o.name name) (long_option os name)
  where
    go : (b : Bool) → arg_by_long (map option_built os) name ≡ option_map option_built (named_option name os)
        → cond (b || false) (Some (option_built o)) (arg_by_long (map option_built os) name) ≡ option_map option_built (cond b (Some o) (named_option name os))
    go true later = refl
    go false later = later

by_long : (name : Text) → arg_by_long top.rules name ≡ option_map option_built (option_named name)
by_long name = long_option all_options name

has_id : Each (λ (o : OptionRule). arg_by_id top.rules o.name ≡ Some (option_built o)) all_options
has_id = (refl, (refl, (refl, (refl, tt))))

known : (name : Text) (o : OptionRule) → option_named name ≡ Some o → Known top o
known name o e =
    let is = (option_is name o e).1 in
    let id = named_is (λ (x : OptionRule). x.name) (λ (x : OptionRule). arg_by_id top.rules x.name ≡ Some (option_built x)) all_options has_id name o e in
    record { by_id = id.1; not_mode = is.not_mode; small = is.small }

is_command : IsCommand top
is_command = record { by_long = by_long; known = known; mode_id = refl; first = refl; second = refl; once = refl }

-- ---- behind the words

empty_is : (xs : List Text) → is_empty xs ≡ true → xs ≡ []
empty_is [] e = refl
empty_is (x ∷ xs) e = let bad : length (x ∷ xs) ≡ 0 = grind (arith, nat_tests) in absurd (omega arith)

one_default : (a : Rule) (rows : List Row) → is_empty a.defaults ≡ true → (default_fault rows a ≡ []) × (with_default rows a ≡ rows)
one_default a rows e =
    let none : a.defaults ≡ [] = empty_is a.defaults e in
    (rw e (go (has_row a.id rows) _), rw none (same (has_row a.id rows)))
  where
    go : (b : Bool) (k : Kinds) → cond (b || true) [] k ≡ []
    go true k = refl
    go false k = refl

    same : (b : Bool) → cond b rows rows ≡ rows
    same true = refl
    same false = refl

-- no argument has a default
no_defaults : (rules : List Rule) (rows : List Row) → list_all (λ a. is_empty a.defaults) rules ≡ true
    → (defaults_fault rows rules ≡ []) × (fold with_default rows rules ≡ rows)
unfolding defaults_fault
no_defaults [] rows e = (refl, refl)
no_defaults (a ∷ rest) rows e =
    let parts = both (is_empty a.defaults) _ e in
    let here = one_default a rows parts.0 in
    let later = no_defaults rest rows parts.1 in
    (rw (here.0, here.1) later.0, rw here.1 later.1)

given-parts : (name : Text) (parts : List Part) → is_given name (rows_of_parts parts) ≡ has_part name parts
given-parts name [] = refl
given-parts name (p ∷ ps) = go (bytes_eq p.name name) (given-parts name ps)
  where
    go : (b : Bool) → is_given name (rows_of_parts ps) ≡ has_part name ps
        → option_map_or (λ (r : Row). explicit_source r.source) (cond b (Some (row_of_part p)) (find (λ (r : Row). bytes_eq r.id name) (rows_of_parts ps))) false ≡ (b || has_part name ps)
    go true e = refl
    go false e = e

missing_none : (parts : List Part) → check_fault top (rows_of_parts parts) false ≡ [] → has_part mode_name parts ≡ true
missing_none parts e = sym (given-parts mode_name parts) ∙ go (is_given mode_name (rows_of_parts parts)) e
  where
    go : (b : Bool) → cond (not b || false) (kind.MissingRequiredArgument ∷ []) [] ≡ [] → b ≡ true
    go true h = refl
    go false h = absurd (cons≢nil _ _ h)

missing_some : (parts : List Part) → has_part mode_name parts ≡ true → check_fault top (rows_of_parts parts) false ≡ []
missing_some parts e = rw (given-parts mode_name parts ∙ e) refl

-- ---- the whole parse

-- this command has no subcommand to enter
no_stop : (stop : Option (Text × List Text)) (h : Held) (words : List Text)
    → level_fault top [] h words (is_some (entered (built command_app) stop)) (entered_fault (built command_app) stop) ≡ level_fault top [] h words false []
no_stop None h words = refl
no_stop (Some p) h words = refl

abbrev start : Walk
start = at false [] None

abbrev ending : List Text → Held
ending words = end_of top start words

fault_is : (words : List Text) → fault_of command_app words ≡ level_fault top [] nothing_held words false []
fault_is words = no_stop (stop_after top.rules [] words) nothing_held words

abbrev settled_end : List Text → List Row
settled_end words = settled_rows top.rules (ending words).pending (ending words).rows

matches_are : (words : List Text) (rows : List Row) → settled_rows top.rules (ending words).pending (ending words).rows ≡ rows → matches_of command_app words ≡ rows
matches_are words rows e = (no_defaults top.rules (settled_rows top.rules (ending words).pending (ending words).rows) refl).1 ∙ e

-- where the definition has no parts, clap has a fault; else it has the rows of these parts, and no
-- fault exactly where one is the mode word
abbrev pub Outcome : List Text → Option (List Part) → Type 0
Outcome words None = fault_of command_app words ≡ [] → ⊥
Outcome words (Some parts) = (matches_of command_app words ≡ rows_of_parts parts)
    × (fault_of command_app words ≡ [] → has_part mode_name parts ≡ true) × (has_part mode_name parts ≡ true → fault_of command_app words ≡ [])

abbrev walks : List Text → Kinds
walks words = walk_fault top [] start words

abbrev ends : List Text → Kinds
ends words = settle_fault top.rules false (ending words)

abbrev defaults : List Text → Kinds
defaults words = defaults_fault (settled_end words) top.rules

abbrev checks : List Text → Kinds
checks words = check_fault top (finished top.rules (ending words)) false

-- the steps of the parse
steps_of : (words : List Text) → fault_of command_app words ≡ or_else (walks words) (or_else (ends words) (or_else (defaults words) (checks words)))
steps_of words = fault_is words

pub outcome : (words : List Text) → list_all is_clean words ≡ true → Outcome words (parts_of words)
outcome words clean = go (parts_of words) (all_words top is_command words false [] None [] clean refl refl refl)
  where
    go : (o : Option (List Part)) → Reads top start words o → Outcome words o
    go None r = λ e.
        let all = sym (steps_of words) ∙ e in
        let later = or_else-right (walks words) (or_else (ends words) (or_else (defaults words) (checks words))) all in
        r (or_else-left (walks words) (or_else (ends words) (or_else (defaults words) (checks words))) all) (or_else-left (ends words) (or_else (defaults words) (checks words)) later)
    go (Some parts) r =
        let rows : matches_of command_app words ≡ rows_of_parts parts = matches_are words (rows_of_parts parts) r.2 in
        let check : checks words ≡ check_fault top (rows_of_parts parts) false = ap (λ (rs : List Row). check_fault top rs false) rows in
        let front : fault_of command_app words ≡ checks words =
        steps_of words ∙ ap (λ (k : Kinds). or_else k (or_else (ends words) (or_else (defaults words) (checks words)))) r.0
        ∙ ap (λ (k : Kinds). or_else k (or_else (defaults words) (checks words))) r.1
        ∙ ap (λ (k : Kinds). or_else k (checks words)) (no_defaults top.rules (settled_end words) refl).0 in
        (rows, (λ e. missing_none parts (sym (front ∙ check) ∙ e)), (λ e. front ∙ check ∙ missing_some parts e))
