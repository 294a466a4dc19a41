-- What clap's walk does at one word, for the command of the program.
use Rattle.std.proofs.Common.{◌≡◌, ◌==◌, ◌&&◌, ℕ, Bool, true, false, refl, ap, List, [], ◌∷◌, Option, Some, None, cond, option_map}
use Rattle.std.specs.Str.{bytes_eq}
use Rattle.clap.specs.Lexer.{long_of, short_of, name_and_value}
use Rattle.clap.specs.Kinds.{Kinds, or_else}
use Rattle.clap.specs.Faults.{react_fault, settle_fault, turn_fault}
use Rattle.clap.specs.Walk.{Held, Row, Rule, Walk, idle, option, arg_by_id, arg_by_index, arg_by_long, is_pending, pushed, settled_rows, used, walked}
use Rattle.clap.specs.Simple.{Shape, filled, with_index}
use Rattle.clap.specs.declared.error.kind.ErrorKind.{ErrorKind}
use Rattle.clap.specs.declared.error.kind.ErrorKind.TheVariants as kind
use Rattle.std.proofs.lemmas.Slice.Eq.{bytes_eq-Decides}
use Rattle.fdc_main.specs.Words.{Text, OptionRule, wrong, flag, plain, look, mode_name}
use Rattle.fdc_main.specs.WordsCommand.{mode_rule, option_rule}

-- ---- what clap makes of the arguments

abbrev pub option_built : OptionRule → Rule
option_built o = filled (option_rule o)

abbrev pub mode_built : Rule
mode_built = with_index 1 (filled mode_rule)

-- ---- words

abbrev pub hyphens : Text
hyphens = 45 ∷ 45 ∷ []

pub look_flag : (word t : Text) → look word ≡ flag t → (long_of word ≡ Some (name_and_value t)) × (bytes_eq word hyphens ≡ false)
look_flag [] t e = absurd (cc e)
look_flag (x ∷ []) t e = one (x == 45) refl
  where
    one : (b : Bool) → (x == 45) ≡ b → (long_of (x ∷ []) ≡ Some (name_and_value t)) × (bytes_eq (x ∷ []) hyphens ≡ false)
    one true h = let bad = rw h at e in absurd (cc bad)
    one false h = let bad = rw h at e in absurd (cc bad)
look_flag (x ∷ y ∷ []) t e = two (x == 45) (y == 45) refl refl
  where
    two : (b d : Bool) → (x == 45) ≡ b → (y == 45) ≡ d → (long_of (x ∷ y ∷ []) ≡ Some (name_and_value t)) × (bytes_eq (x ∷ y ∷ []) hyphens ≡ false)
    two true true h k = let bad = rw (h, k) at e in absurd (cc bad)
    two true false h k = let bad = rw (h, k) at e in absurd (cc bad)
    two false d h k = let bad = rw h at e in absurd (cc bad)
look_flag (x ∷ y ∷ z ∷ rest) t e = two (x == 45) (y == 45) refl refl
  where
    two : (b d : Bool) → (x == 45) ≡ b → (y == 45) ≡ d → (long_of (x ∷ y ∷ z ∷ rest) ≡ Some (name_and_value t)) × (bytes_eq (x ∷ y ∷ z ∷ rest) hyphens ≡ false)
    two true true h k =
        let same : flag (z ∷ rest) ≡ flag t = rw (h, k) at e in
        let inner : z ∷ rest ≡ t = cc same in
        (rw (h, k) (ap (λ u. Some (name_and_value u)) inner), rw (h, k) refl)
    two true false h k = let bad = rw (h, k) at e in absurd (cc bad)
    two false d h k = let bad = rw h at e in absurd (cc bad)

pub look_plain : (word : Text) → look word ≡ plain → (long_of word ≡ None) × (short_of word ≡ None) × (bytes_eq word hyphens ≡ false)
look_plain [] e = (refl, refl, refl)
look_plain (x ∷ xs) e = one (x == 45) refl
  where
    two : (ys : Text) → Rattle.fdc_main.specs.Words.look_behind_one ys ≡ plain → ⊥
    two [] h = cc
    two (y ∷ []) h = elim (y == 45) as (λ b. cond b wrong wrong ≡ plain → ⊥) [ true ↦ (λ k. cc k) | false ↦ (λ k. cc k) ] h
    two (y ∷ z ∷ zs) h = elim (y == 45) as (λ b. cond b (flag (z ∷ zs)) wrong ≡ plain → ⊥) [ true ↦ (λ k. cc k) | false ↦ (λ k. cc k) ] h

    one : (b : Bool) → (x == 45) ≡ b → (long_of (x ∷ xs) ≡ None) × (short_of (x ∷ xs) ≡ None) × (bytes_eq (x ∷ xs) hyphens ≡ false)
    one true h = absurd (two xs (rw h at e))
    one false h = (rw h refl, rw h refl, rw h refl)

-- ---- one turn of the walk, for a command `s` with these arguments

pub cons≢nil : (k : ErrorKind) (ks : Kinds) → ◌≡◌ {A = Kinds} (k ∷ ks) [] → ⊥
cons≢nil k ks e = cc

stray≢nil : (b : Bool) → cond b (kind.UnknownArgument ∷ []) (kind.UnknownArgument ∷ kind.InvalidSubcommand ∷ []) ≡ [] → ⊥
stray≢nil true e = cons≢nil _ _ e
stray≢nil false e = cons≢nil _ _ e

not_kept : {A : Type 0} (b : Bool) (x y : A) → cond (b && false) x y ≡ y
not_kept true x y = refl
not_kept false x y = refl

pub bytes_eq-same : (text : Text) → bytes_eq text text ≡ true
bytes_eq-same text = (bytes_eq-Decides text text).1 refl

or_else-nil : (k : Kinds) → or_else k [] ≡ k
or_else-nil [] = refl
or_else-nil (k ∷ ks) = refl

abbrev pub held : List Row → Option (Text × List Text) → Held
held rows pend = record { rows = rows; pending = pend; skip = 0 }

abbrev pub place : Bool → ℕ
place true = 2
place false = 1

-- between two pieces; b says that the mode word has come
abbrev pub at : Bool → List Row → Option (Text × List Text) → Walk
at b rows pend = record { held = held rows pend; waiting = idle; position = place b; is_trailing = false; stopped = None }

-- behind the mode word
abbrev mode_walk : Text → Held → Walk
mode_walk word h = record { held = pushed mode_name word h; waiting = idle; position = 2; is_trailing = false; stopped = None }

-- behind `--name`
abbrev pub behind : Text → Bool → List Row → Walk
behind id b rows = record { held = held rows (Some (id, [])); waiting = option id; position = place b; is_trailing = false; stopped = None }

module _ (s : Shape) where
  abbrev settles : List Row → Option (Text × List Text) → Kinds
  settles rows pend = settle_fault s.rules s.args_override_self (held rows pend)

  abbrev rows_settled : List Row → Option (Text × List Text) → List Row
  rows_settled rows pend = settled_rows s.rules pend rows

  -- `--name=value`
  pub joined_turn : (b : Bool) (rows : List Row) (pend : Option (Text × List Text)) (word name value : Text) (o : OptionRule)
      → long_of word ≡ Some (name, Some value) → bytes_eq word hyphens ≡ false → arg_by_long s.rules name ≡ Some (option_built o)
      → (turn_fault s [] (at b rows pend) word ≡ react_fault s.rules s.args_override_self (option_built o) (value ∷ []) (held rows pend))
      × (walked s.rules [] (at b rows pend) word ≡ at b (used (option_built o) (value ∷ []) (rows_settled rows pend)) None)
  unfolding walked
  joined_turn b rows pend word name value o long not_hyphens found =
      (rw (not_hyphens, long, found) (or_else-nil _), rw (not_hyphens, long, found) refl)

  -- `--name`
  pub bare_turn : (b : Bool) (rows : List Row) (pend : Option (Text × List Text)) (word name : Text) (o : OptionRule)
      → long_of word ≡ Some (name, None) → bytes_eq word hyphens ≡ false → arg_by_long s.rules name ≡ Some (option_built o)
      → (turn_fault s [] (at b rows pend) word ≡ settles rows pend)
      × (walked s.rules [] (at b rows pend) word ≡ behind o.name b (rows_settled rows pend))
  unfolding walked
  bare_turn b rows pend word name o long not_hyphens found =
      (rw (not_hyphens, long, found) (or_else-nil _), rw (not_hyphens, long, found) refl)

  -- a name that is no option's
  pub unknown_turn : (b : Bool) (rows : List Row) (pend : Option (Text × List Text)) (word name : Text) (value : Option Text)
      → long_of word ≡ Some (name, value) → bytes_eq word hyphens ≡ false → arg_by_long s.rules name ≡ None
      → turn_fault s [] (at b rows pend) word ≡ [] → ⊥
  unknown_turn b rows pend word name value long not_hyphens found e =
      cons≢nil _ _ (rw (not_hyphens, long, found) at e)

  -- the mode word
  pub mode_turn : (rows : List Row) (pend : Option (Text × List Text)) (word : Text)
      → long_of word ≡ None → short_of word ≡ None → bytes_eq word hyphens ≡ false → arg_by_index s.rules 1 ≡ Some mode_built
      → (turn_fault s [] (at false rows pend) word ≡ settles rows pend)
      × (walked s.rules [] (at false rows pend) word ≡ at true (rows_settled rows pend) (Some (mode_name, word ∷ [])))
  unfolding walked
  mode_turn rows pend word long short not_hyphens found =
      let free = is_pending mode_built pend in (
        rw (not_hyphens, long, short, found) (not_kept free [] (settles rows pend)),
        rw (not_hyphens, long, short, found)
            (ap (mode_walk word) (not_kept free (held rows pend) (held (rows_settled rows pend) None))),
      )

  pub second_turn : (rows : List Row) (pend : Option (Text × List Text)) (word : Text)
      → long_of word ≡ None → short_of word ≡ None → bytes_eq word hyphens ≡ false → arg_by_index s.rules 2 ≡ None
      → turn_fault s [] (at true rows pend) word ≡ [] → ⊥
  second_turn rows pend word long short not_hyphens found e =
      stray≢nil s.is_leaf (rw (not_hyphens, long, short, found) at e)

  -- behind `--name`: a word with no hyphen is the value, and any other is refused
  pub value_turn : (b : Bool) (rows : List Row) (word : Text) (o : OptionRule)
      → long_of word ≡ None → short_of word ≡ None → bytes_eq word hyphens ≡ false → arg_by_id s.rules o.name ≡ Some (option_built o)
      → (turn_fault s [] (behind o.name b rows) word ≡ [])
      × (walked s.rules [] (behind o.name b rows) word ≡ at b rows (Some (o.name, word ∷ [])))
  unfolding walked
  value_turn b rows word o long short not_hyphens found =
      let same = bytes_eq-same o.name in
      (rw (not_hyphens, long, short) refl, rw (not_hyphens, long, short, found, same) refl)

  pub flag_turn : (b : Bool) (rows : List Row) (word name : Text) (value : Option Text) (o : OptionRule) (other : Option OptionRule)
      → long_of word ≡ Some (name, value) → bytes_eq word hyphens ≡ false → arg_by_id s.rules o.name ≡ Some (option_built o)
      → arg_by_long s.rules name ≡ option_map option_built other
      → turn_fault s [] (behind o.name b rows) word ≡ [] → ⊥
  flag_turn b rows word name value o None long not_hyphens found by_long e =
      cons≢nil _ _ (rw (not_hyphens, long, by_long) at e)
  flag_turn b rows word name None o (Some x) long not_hyphens found by_long e =
      cons≢nil _ _ (rw (not_hyphens, long, by_long, found) at e)
  flag_turn b rows word name (Some v) o (Some x) long not_hyphens found by_long e =
      cons≢nil _ _ (rw (not_hyphens, long, by_long, found) at e)
