-- The lists of words that say a mode, by how they are written: the mode's name and options of its own, in any order.
use Rattle.std.specs.Prelude.{◌≡◌, ◌&&◌, ◌++◌, Bool, true, false, not, List, [], ◌∷◌, map, Some}
use Rattle.std.specs.List.{list_all}
use Rattle.std.specs.Option.{option_map_or}
use Rattle.std.specs.Str.{bytes_eq}
use Rattle.fdc_main.specs.declared.command_line.Mode.{Mode}
use Rattle.fdc_main.specs.Words.{Text, ModeRule, Part, has_part, is_value, mode_name, mode_named, named_option, number_of}

-- a name of a mode, `--name=value`, or `--name value`
pub data Item : Type 0 where
  word : Text → Item
  joined : Text → Text → Item
  apart : Text → Text → Item

abbrev pub spelling : Item → List Text
spelling (word w) = w ∷ []
spelling (joined name value) = (45 ∷ 45 ∷ (name ++ 61 ∷ value)) ∷ []
spelling (apart name value) = (45 ∷ 45 ∷ name) ∷ value ∷ []

abbrev pub spelled : List Item → List Text
spelled [] = []
spelled (item ∷ rest) = spelling item ++ spelled rest

-- a value of an option of this mode
abbrev pub is_given : ModeRule → Text → Text → Bool
is_given m name value = option_map_or (λ o. is_value o value) (named_option name m.options) false

-- the mode's name, or one of its options with a value
abbrev pub is_item : ModeRule → Item → Bool
is_item m (word w) = bytes_eq w m.name
is_item m (joined name value) = is_given m name value
is_item m (apart name value) = is_given m name value

abbrev pub part : Item → Part
part (word w) = record { name = mode_name; value = w }
part (joined name value) = record { name = name; value = value }
part (apart name value) = record { name = name; value = value }

-- no name comes twice
abbrev pub are_new : List Item → List Part → Bool
are_new [] seen = true
are_new (item ∷ rest) seen = not (has_part (part item).name seen) && are_new rest (seen ++ part item ∷ [])

-- The words are the items of a mode of the table: its name once, and each of its options at most once. And the mode is what it is by their
-- numbers, with the defaults of those that aren't given.
pub record IsWritten (words : List Text) (mode : Mode) : Type 0 where
  pub items : List Item
  pub rule : ModeRule
  pub rule_is : mode_named rule.name ≡ Some rule
  pub words_are : spelled items ≡ words
  pub good : list_all (is_item rule) items ≡ true
  pub new : are_new items [] ≡ true
  pub named : has_part mode_name (map part items) ≡ true
  pub mode_is : rule.mode (number_of (map part items)) ≡ mode
