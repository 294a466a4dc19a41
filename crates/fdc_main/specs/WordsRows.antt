-- What clap finds in words that have these parts, and the mode that they give.
use Rattle.std.specs.Prelude.{◌||◌, ℕ, Bool, false, List, [], ◌∷◌, Option, Some, None, is_some, if◌then◌else◌, unwrap_or, codes, map}
use Rattle.std.specs.Option.{option_map_or}
use Rattle.std.specs.List.{list_all, list_any}
use Rattle.std.specs.Str.{bytes_eq}
use Rattle.clap.specs.Walk.{Row}
use Rattle.clap.specs.declared.builder.value_parser.Reading.TheVariants as reading
use Rattle.clap.specs.declared.parser.matches.ValueSource.TheVariants.{CommandLine}
use Rattle.fdc_main.specs.Words.{Text, Part, is_value, mode_name, option_named, ranks, seed, size, steps}
use Rattle.fdc_main.specs.declared.command_line.DeckMode.TheVariants as asked
use Rattle.fdc_main.specs.declared.command_line.Mode.{Mode}
use Rattle.fdc_main.specs.declared.command_line.Mode.TheVariants as mode

abbrev pub row_of_part : Part → Row
row_of_part p = record { id = p.name; values = p.value ∷ []; count = None; source = Some CommandLine; reading = reading.AsWritten }

abbrev pub rows_of_parts : List Part → List Row
rows_of_parts = map row_of_part

-- the part is a mode word, or a value of its option
abbrev pub is_good : Part → Bool
is_good p = bytes_eq p.name mode_name || option_map_or (λ o. is_value o p.value) (option_named p.name) false

abbrev pub are_good : List Part → Bool
are_good parts = list_all is_good parts

-- a mode, where none of some other numbers was given
abbrev pub mode_without : List Bool → Mode → Option Mode
mode_without others m = if list_any (λ other. other) others then None else Some m

-- the mode of a name and of the numbers that were given, of ranks, steps, the seed and the size, where the mode takes them
abbrev pub mode_given : Text → Option ℕ → Option ℕ → Option ℕ → Option ℕ → Option Mode
mode_given name r s d z =
    if bytes_eq name (codes "seq")
    then mode_without (is_some r ∷ is_some d ∷ is_some z ∷ []) (mode.Deck (asked.Seq (unwrap_or s steps.default)))
    else if bytes_eq name (codes "map")
    then mode_without (is_some s ∷ is_some d ∷ is_some z ∷ []) (mode.Deck (asked.Map (unwrap_or r ranks.default)))
    else if bytes_eq name (codes "plan")
    then mode_without (is_some r ∷ is_some s ∷ is_some d ∷ is_some z ∷ []) (mode.Deck asked.Plan)
    else if bytes_eq name (codes "check")
    then mode_without (is_some r ∷ is_some s ∷ is_some d ∷ is_some z ∷ []) (mode.Deck asked.Check)
    else if bytes_eq name (codes "gen")
    then mode_without (is_some r ∷ is_some s ∷ []) (mode.Gen (unwrap_or z size.default) (unwrap_or d seed.default))
    else None
