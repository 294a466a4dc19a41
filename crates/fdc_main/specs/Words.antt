-- What the words of a command line say: a mode with its numbers, or nothing. By cutting the list of words into pieces.
use Rattle.std.specs.Prelude.{◌==◌, ◌≤◌, ◌&&◌, ◌||◌, ◌++◌, ℕ, Bool, List, [], ◌∷◌, length}
use Rattle.std.specs.Prelude.{Option, Some, None, if◌then◌else◌, nat_lt, nat_le, codes, find}
use Rattle.std.specs.Prelude.{option_map, option_and_then, unwrap_or}
use Rattle.std.specs.List.{list_all, list_any, before_first, after_first}
use Rattle.std.specs.Str.{bytes_eq}
use Rattle.std.specs.Str.Parse.{digits_value}
use Rattle.std.specs.Char.{is_digit}
use Rattle.fdc_main.specs.declared.command_line.DeckMode.TheVariants as asked
use Rattle.fdc_main.specs.declared.command_line.Mode.{Mode}
use Rattle.fdc_main.specs.declared.command_line.Mode.TheVariants as mode

abbrev pub Text : Type 0
Text = List ℕ

-- ---- the table of options and modes

-- an option `--name`: its least and its greatest number, and its number where it isn't given
pub record OptionRule : Type 0 where
  pub name : Text
  pub low : ℕ
  pub high : ℕ
  pub default : ℕ

abbrev pub ranks : OptionRule
ranks = record { name = codes "ranks"; low = 1; high = 16; default = 4 }

abbrev pub steps : OptionRule
steps = record { name = codes "steps"; low = 1; high = 100000000; default = 1000000 }

abbrev pub seed : OptionRule
seed = record { name = codes "seed"; low = 0; high = 18446744073709551615; default = 1 }

abbrev pub size : OptionRule
size = record { name = codes "size"; low = 1; high = 50000; default = 100 }

abbrev pub all_options : List OptionRule
all_options = ranks ∷ steps ∷ seed ∷ size ∷ []

-- a mode: its name, the options that it takes, and what it is by their numbers
pub record ModeRule : Type 0 where
  pub name : Text
  pub options : List OptionRule
  pub mode : (OptionRule → ℕ) → Mode

abbrev pub seq_mode : ModeRule
seq_mode = record { name = codes "seq"; options = steps ∷ []; mode = λ number. mode.Deck (asked.Seq (number steps)) }

abbrev pub map_mode : ModeRule
map_mode = record { name = codes "map"; options = ranks ∷ []; mode = λ number. mode.Deck (asked.Map (number ranks)) }

abbrev pub plan_mode : ModeRule
plan_mode = record { name = codes "plan"; options = []; mode = λ number. mode.Deck asked.Plan }

abbrev pub check_mode : ModeRule
check_mode = record { name = codes "check"; options = []; mode = λ number. mode.Deck asked.Check }

abbrev pub gen_mode : ModeRule
gen_mode = record { name = codes "gen"; options = size ∷ seed ∷ []; mode = λ number. mode.Gen (number size) (number seed) }

abbrev pub all_modes : List ModeRule
all_modes = seq_mode ∷ map_mode ∷ plan_mode ∷ check_mode ∷ gen_mode ∷ []

abbrev pub named_option : Text → List OptionRule → Option OptionRule
named_option name options = find (λ o. bytes_eq o.name name) options

abbrev pub option_named : Text → Option OptionRule
option_named name = named_option name all_options

abbrev pub mode_named : Text → Option ModeRule
mode_named name = find (λ m. bytes_eq m.name name) all_modes

-- one decimal digit or more, and the number is in the option's range
abbrev pub is_value : OptionRule → Text → Bool
is_value o text = nat_lt 0 (length text) && list_all (λ d. is_digit d 10) text
    && (nat_le o.low (digits_value 10 text) && nat_le (digits_value 10 text) o.high)

-- ---- one word

-- two hyphens and what follows them; a word with no hyphen in front; any other, as `--`, `-` and `-h`
pub data Look : Type 0 where
  wrong : Look
  flag : Text → Look
  plain : Look

abbrev pub look_behind_two : Text → Look
look_behind_two [] = wrong
look_behind_two (x ∷ xs) = flag (x ∷ xs)

abbrev pub look_behind_one : Text → Look
look_behind_one [] = wrong
look_behind_one (x ∷ xs) = if x == 45 then look_behind_two xs else wrong

abbrev pub look : Text → Look
look [] = plain
look (x ∷ xs) = if x == 45 then look_behind_one xs else plain

abbrev pub has_equals : Text → Bool
has_equals text = list_any (λ x. x == 61) text

-- ---- the pieces of the list: `--name` with the word behind it, or one word

pub data Piece : Type 0 where
  alone : Look → Text → Piece
  pair : Text → Text → Piece

-- the name of `--name`, which takes the next word
abbrev pub bare_name : Look → Option Text
bare_name (flag text) = if has_equals text then None else Some text
bare_name _ = None

abbrev pub cut : Option Text → Look → Text → Text → List Piece → List Piece → List Piece
cut (Some name) seen word next with_next from_next = pair name next ∷ with_next
cut None seen word next with_next from_next = alone seen word ∷ from_next

abbrev pub pieces : List Text → List Piece
pieces [] = []
pieces (word ∷ []) = alone (look word) word ∷ []
pieces (word ∷ next ∷ rest) =
    cut (bare_name (look word)) (look word) word next (pieces rest) (pieces (next ∷ rest))

-- ---- what a piece gives: a value under a name

pub record Part : Type 0 where
  pub name : Text
  pub value : Text

-- the name under which the mode's name stands; no option has it
abbrev pub mode_name : Text
mode_name = codes "mode"

abbrev pub checked : Text → Option OptionRule → Option Part
checked text None = None
checked text (Some o) = if is_value o text then Some (record { name = o.name; value = text }) else None

abbrev pub given : Text → Text → Option Part
given name text = checked text (option_named name)

abbrev pub part_of : Piece → Option Part
part_of (pair name text) = given name text
part_of (alone plain word) = Some (record { name = mode_name; value = word })
part_of (alone (flag text) word) = if has_equals text
    then given (before_first (λ x. x == 61) text) (after_first (λ x. x == 61) text) else None
part_of (alone wrong word) = None

abbrev pub has_part : Text → List Part → Bool
has_part name parts = list_any (λ p. bytes_eq p.name name) parts

abbrev pub added : Option Part → List Part → (List Part → Option (List Part)) → Option (List Part)
added None seen next = None
added (Some p) seen next = if has_part p.name seen then None else next (seen ++ p ∷ [])

-- the parts of the pieces, after those seen before; none where a piece is no part or a name comes twice
abbrev pub parts_from : List Piece → List Part → Option (List Part)
parts_from [] seen = Some seen
parts_from (piece ∷ rest) seen = added (part_of piece) seen (parts_from rest)

abbrev pub parts_of : List Text → Option (List Part)
parts_of words = parts_from (pieces words) []

-- ---- the mode

abbrev pub value_at : Text → List Part → Option Text
value_at name parts = option_map (λ p. p.value) (find (λ p. bytes_eq p.name name) parts)

abbrev pub number_at : Text → List Part → Option ℕ
number_at name parts = option_map (digits_value 10) (value_at name parts)

-- the number of an option: the one given, or else its default
abbrev pub number_of : List Part → OptionRule → ℕ
number_of parts o = unwrap_or (number_at o.name parts) o.default

abbrev pub has_option : ModeRule → Text → Bool
has_option m name = list_any (λ o. bytes_eq o.name name) m.options

-- the mode of these parts, where each is the mode's name or one of its options
abbrev pub mode_with : List Part → ModeRule → Option Mode
mode_with parts m = if list_all (λ p. bytes_eq p.name mode_name || has_option m p.name) parts then Some (m.mode (number_of parts)) else None

abbrev pub mode_of_parts : List Part → Option Mode
mode_of_parts parts = option_and_then (mode_with parts) (option_and_then mode_named (value_at mode_name parts))

-- what the words say: a mode, or nothing
abbrev pub mode_of : List Text → Option Mode
mode_of words = option_and_then mode_of_parts (parts_of words)

-- the ranges that the numbers of a mode are in
abbrev pub IsInRange : Mode → Type 0
IsInRange (mode.Deck (asked.Seq steps)) = (1 ≤ steps) × (steps ≤ 100000000)
IsInRange (mode.Deck (asked.Map ranks)) = (1 ≤ ranks) × (ranks ≤ 16)
IsInRange (mode.Deck asked.Plan) = Unit {0}
IsInRange (mode.Deck asked.Check) = Unit {0}
IsInRange (mode.Gen nodes _) = (1 ≤ nodes) × (nodes ≤ 50000)
