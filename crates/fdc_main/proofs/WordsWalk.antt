-- clap's walk over all the words gives the parts of the definition, or refuses where it has none.
use Rattle.std.proofs.Common.{◌≡◌, ◌∙◌, ◌+◌, ◌<◌, ◌^◌, ◌==◌, ◌&&◌, ◌||◌, not, ℕ, Bool, true, false, refl, sym, subst, ap, List, [], ◌∷◌, ◌++◌, length, Option, Some, None, option_map, arith, suc, nat_lt, ◌⊎◌, inl, inr}
use Rattle.std.proofs.lemmas.Bool.Decides.{nat_tests}
use Rattle.std.specs.List.{before_first, after_first, fold, list_all, list_any, position_or_len}
use Rattle.std.specs.Str.{bytes_eq}
use Rattle.std.proofs.lemmas.List.{map-append}
use Rattle.clap.specs.Kinds.{Kinds, or_else}
use Rattle.clap.specs.Faults.{react_fault, settle_fault, turn_fault, use_fault, walk_fault}
use Rattle.clap.specs.Walk.{Held, Row, Walk, arg_by_id, arg_by_index, arg_by_long, has_row, settled_rows, used, walked}
use Rattle.clap.specs.Lexer.{long_of}
use Rattle.clap.specs.Simple.{Shape}
use Rattle.fdc_main.specs.WordsClean.{is_clean, is_not_wrong}
use Rattle.fdc_main.specs.Words.{Text, OptionRule, Look, wrong, flag, plain, look, Part, alone, has_part, has_equals, is_value, mode_name, option_named, pieces, parts_from, part_of, added, checked, bare_name}
use Rattle.fdc_main.proofs.WordsTurns.{at, behind, cons≢nil, held, hyphens, look_flag, look_plain, mode_built, option_built, joined_turn, bare_turn, unknown_turn, mode_turn, second_turn, value_turn, flag_turn}
use Rattle.fdc_main.specs.WordsRows.{row_of_part, rows_of_parts}
use Rattle.fdc_main.proofs.WordsUses.{has_row-parts, has_part-push, option_used, mode_used, or_else-left, or_else-right, option_passes, option_refused, option_repeated, mode_passes, value_same, flag_no_plus}

-- what the proofs know of an option that a name names
pub record Known (s : Shape) (o : OptionRule) : Type 0 where
  pub by_id : arg_by_id s.rules o.name ≡ Some (option_built o)
  pub not_mode : bytes_eq o.name mode_name ≡ false
  pub small : o.high < 2 ^ 64

-- what they know of the command
pub record IsCommand (s : Shape) : Type 0 where
  pub by_long : (name : Text) → arg_by_long s.rules name ≡ option_map option_built (option_named name)
  pub known : (name : Text) (o : OptionRule) → option_named name ≡ Some o → Known s o
  pub mode_id : arg_by_id s.rules mode_name ≡ Some mode_built
  pub first : arg_by_index s.rules 1 ≡ Some mode_built
  pub second : arg_by_index s.rules 2 ≡ None
  pub once : s.args_override_self ≡ false

abbrev pub end_of : Shape → Walk → List Text → Held
end_of s w words = (fold (walked s.rules []) w words).held

abbrev pub end_fault : Shape → Walk → List Text → Kinds
end_fault s w words = settle_fault s.rules s.args_override_self (end_of s w words)

-- the walk ends with the rows of these parts and no fault, or has a fault where there are none
abbrev pub Reads : Shape → Walk → List Text → Option (List Part) → Type 0
Reads s w words None = walk_fault s [] w words ≡ [] → end_fault s w words ≡ [] → ⊥
Reads s w words (Some parts) = (walk_fault s [] w words ≡ []) × (end_fault s w words ≡ [])
    × (settled_rows s.rules (end_of s w words).pending (end_of s w words).rows ≡ rows_of_parts parts)

-- ---- tests

pub both : (a b : Bool) → (a && b) ≡ true → (a ≡ true) × (b ≡ true)
both true b e = (refl, e)
both false b e = let bad : false ≡ true = e in cc

pub not_true : (b : Bool) → not b ≡ true → b ≡ false
not_true true e = let bad : false ≡ true = e in cc
not_true false e = refl

clean_look : (word : Text) → is_clean word ≡ true → is_not_wrong (look word) ≡ true
clean_look word e = (both (is_not_wrong (look word)) _ e).0

clean_plus : (word : Text) → is_clean word ≡ true → list_any (λ x. x == 43) word ≡ false
clean_plus word e = not_true _ (both (is_not_wrong (look word)) _ e).1

clean_wrong : (word : Text) → look word ≡ wrong → is_clean word ≡ true → ⊥
clean_wrong word l e = let bad : false ≡ true = rw l at (clean_look word e) in cc

one_plus : (n : ℕ) → 1 + n ≡ suc n
one_plus n = omega arith

and_false : (a c : Bool) → (a && false && c) ≡ false
and_false true c = refl
and_false false c = refl

before_none : (text : Text) → has_equals text ≡ false → before_first (λ x. x == 61) text ≡ text
before_none [] e = refl
before_none (x ∷ xs) e = go (x == 61) refl (before_none xs)
  where
    go : (b : Bool) → (x == 61) ≡ b → (has_equals xs ≡ false → before_first (λ y. y == 61) xs ≡ xs) → before_first (λ y. y == 61) (x ∷ xs) ≡ x ∷ xs
    go true h rest = let bad : true ≡ false = rw h at e in cc
    go false h rest = rw (h, one_plus) (ap (λ t. x ∷ t) (rest (rw h at e)))

abbrev name_in : Text → Text
name_in t = before_first (λ x. x == 61) t

abbrev value_in : Text → Text
value_in t = after_first (λ x. x == 61) t

long_joined : (word t : Text) → look word ≡ flag t → has_equals t ≡ true → long_of word ≡ Some (name_in t, Some (value_in t))
long_joined word t l h = (look_flag word t l).0 ∙ rw h refl

long_bare : (word t : Text) → look word ≡ flag t → has_equals t ≡ false → long_of word ≡ Some (t, None)
long_bare word t l h =
    let name = before_none t h in
    (look_flag word t l).0 ∙ rw (h, name) refl

-- a word with a hyphen in front is no value
flag_no_value : (o : OptionRule) (word t : Text) → look word ≡ flag t → is_value o word ≡ false
flag_no_value o [] t l = absurd (cc l)
flag_no_value o (x ∷ xs) t l = go (x == 45) refl
  where
    go : (b : Bool) → (x == 45) ≡ b → is_value o (x ∷ xs) ≡ false
    go true h =
        let same : x ≡ 45 = grind (arith, nat_tests) in
        rw same (and_false (nat_lt 0 (length (x ∷ xs))) _)
    go false h = let bad : plain ≡ flag t = rw h at l in absurd (cc bad)

-- ---- the words

module _ (s : Shape) (is : IsCommand s) where
  abbrev settles : List Row → Option (Text × List Text) → Kinds
  settles rows pend = settle_fault s.rules s.args_override_self (held rows pend)

  abbrev rows_settled : List Row → Option (Text × List Text) → List Row
  rows_settled rows pend = settled_rows s.rules pend rows

  good_turn : (w after : Walk) (word : Text) (rest : List Text) (o : Option (List Part)) → turn_fault s [] w word ≡ []
      → walked s.rules [] w word ≡ after → Reads s after rest o → Reads s w (word ∷ rest) o
  unfolding walk_fault
  good_turn w after word rest None none next r =
      let back : Reads s (walked s.rules [] w word) rest None = subst (λ (v : Walk). Reads s v rest None) (sym next) r in
      λ walk end. back (or_else-right (turn_fault s [] w word) (walk_fault s [] (walked s.rules [] w word) rest) walk) end
  good_turn w after word rest (Some parts) none next r =
      let back = subst (λ (v : Walk). Reads s v rest (Some parts)) (sym next) r in
      (rw none back.0, back.1, back.2)

  bad_turn : (w : Walk) (word : Text) (rest : List Text) → (turn_fault s [] w word ≡ [] → ⊥) → Reads s w (word ∷ rest) None
  unfolding walk_fault
  bad_turn w word rest bad walk end = bad (or_else-left (turn_fault s [] w word) (walk_fault s [] (walked s.rules [] w word) rest) walk)

  -- ---- where the value that waits is refused

  refuse_named : (b : Bool) (rows : List Row) (pend : Option (Text × List Text)) (word name : Text) (value : Option Text) (o : Option OptionRule)
      → long_of word ≡ Some (name, value) → bytes_eq word hyphens ≡ false → option_named name ≡ o
      → (settles rows pend ≡ [] → ⊥) → turn_fault s [] (at b rows pend) word ≡ [] → ⊥
  refuse_named b rows pend word name value None long not_hyphens named bad e =
      unknown_turn s b rows pend word name value long not_hyphens (is.by_long name ∙ ap (option_map option_built) named) e
  refuse_named b rows pend word name None (Some o) long not_hyphens named bad e =
      bad (sym (bare_turn s b rows pend word name o long not_hyphens (is.by_long name ∙ ap (option_map option_built) named)).0 ∙ e)
  refuse_named b rows pend word name (Some v) (Some o) long not_hyphens named bad e =
      bad (or_else-left (settles rows pend) _ (sym (joined_turn s b rows pend word name v o long not_hyphens (is.by_long name ∙ ap (option_map option_built) named)).0 ∙ e))

  refuse_first : (b : Bool) (rows : List Row) (pend : Option (Text × List Text)) (word : Text) → is_clean word ≡ true
      → (settles rows pend ≡ [] → ⊥) → turn_fault s [] (at b rows pend) word ≡ [] → ⊥
  refuse_first b rows pend word clean bad e = go (look word) refl
    where
      go : (l : Look) → look word ≡ l → ⊥
      go wrong l = clean_wrong word l clean
      go (flag t) l = refuse_named b rows pend word _ _ _ (look_flag word t l).0 (look_flag word t l).1 refl bad e
      go plain l = modes b bad e
        where
          modes : (d : Bool) → (settles rows pend ≡ [] → ⊥) → turn_fault s [] (at d rows pend) word ≡ [] → ⊥
          modes true f g = second_turn s rows pend word (look_plain word l).0 (look_plain word l).1 (look_plain word l).2 is.second g
          modes false f g = f (sym (mode_turn s rows pend word (look_plain word l).0 (look_plain word l).1 (look_plain word l).2 is.first).0 ∙ g)

  unsettled : (words : List Text) (b : Bool) (rows : List Row) (pend : Option (Text × List Text)) → list_all is_clean words ≡ true
      → (settles rows pend ≡ [] → ⊥) → Reads s (at b rows pend) words None
  unsettled [] b rows pend clean bad = λ walk end. bad end
  unsettled (word ∷ rest) b rows pend clean bad =
      bad_turn (at b rows pend) word rest (refuse_first b rows pend word (both (is_clean word) _ clean).0 bad)

  -- ---- a value that has come

  abbrev part_with : OptionRule → Text → Part
  part_with o value = record { name = o.name; value = value }

  -- the use passes, and the definition goes on with the part
  record Passes (o : OptionRule) (value : Text) (rows : List Row) (seen : List Part) (next : List Part → Option (List Part)) : Type 0 where
    no_fault : use_fault s.args_override_self (option_built o) (value ∷ []) rows ≡ []
    goes_on : added (checked value (Some o)) seen next ≡ next (seen ++ part_with o value ∷ [])
    row_is : used (option_built o) (value ∷ []) rows ≡ rows_of_parts (seen ++ part_with o value ∷ [])
    mode_is : has_part mode_name (seen ++ part_with o value ∷ []) ≡ has_part mode_name seen

  -- the use is refused, and the definition has no line
  record Fails (o : OptionRule) (value : Text) (rows : List Row) (seen : List Part) (next : List Part → Option (List Part)) : Type 0 where
    fault : use_fault s.args_override_self (option_built o) (value ∷ []) rows ≡ [] → ⊥
    stops : added (checked value (Some o)) seen next ≡ None

  or_false : (b : Bool) → (b || false) ≡ b
  or_false true = refl
  or_false false = refl

  decide : (o : OptionRule) → Known s o → (value : Text) (rows : List Row) (seen : List Part) (next : List Part → Option (List Part))
      → list_any (λ x. x == 43) value ≡ false → rows ≡ rows_of_parts seen → Passes o value rows seen next ⊎ Fails o value rows seen next
  decide o known value rows seen next no_plus rows_are = go (is_value o value) (has_part o.name seen) refl refl
    where
      taken : Rattle.clap.specs.ValueTests.is_unsigned_in o.low o.high value ≡ is_value o value
      taken = value_same o value no_plus known.small

      row : has_row o.name rows ≡ has_part o.name seen
      row = ap (has_row o.name) rows_are ∙ has_row-parts o.name seen

      go : (v h : Bool) → is_value o value ≡ v → has_part o.name seen ≡ h → Passes o value rows seen next ⊎ Fails o value rows seen next
      go false h vs hs = inr (record {
        fault = option_refused s.args_override_self o value rows (taken ∙ vs);
        stops = rw vs refl;
      })
      go true true vs hs = inr (record {
        fault = λ e. option_repeated o value rows (row ∙ hs) (subst (λ (again : Bool). use_fault again (option_built o) (value ∷ []) rows ≡ []) is.once e);
        stops = rw (vs, hs) refl;
      })
      go true false vs hs = inl (record {
        no_fault = option_passes s.args_override_self o value rows (row ∙ hs) (taken ∙ vs);
        goes_on = rw (vs, hs) refl;
        row_is = option_used o value rows (row ∙ hs) ∙ ap (λ (rs : List Row). rs ++ row_of_part (part_with o value) ∷ []) rows_are ∙ sym (map-append row_of_part seen (part_with o value ∷ []));
        mode_is = has_part-push mode_name seen (part_with o value) ∙ rw known.not_mode (or_false (has_part mode_name seen));
      })

  -- ---- the words

  -- what the walk over these words comes to, from wherever a piece may begin
  abbrev Goal : List Text → Type 0
  Goal words = (b : Bool) (rows : List Row) (pend : Option (Text × List Text)) (seen : List Part) → list_all is_clean words ≡ true
      → settles rows pend ≡ [] → rows_settled rows pend ≡ rows_of_parts seen → has_part mode_name seen ≡ b
      → Reads s (at b rows pend) words (parts_from (pieces words) seen)

  no_words : Goal []
  unfolding walk_fault
  no_words b rows pend seen clean settled rows_are mode = (refl, settled, rows_are)

  -- a word that is a piece of its own
  alone_parts : (word : Text) (rest : List Text) (seen : List Part) (l : Look) → look word ≡ l → bare_name l ≡ None
      → parts_from (pieces (word ∷ rest)) seen ≡ added (part_of (alone l word)) seen (parts_from (pieces rest))
  alone_parts word [] seen l e bare = rw e refl
  alone_parts word (next ∷ rest) seen l e bare = rw (e, bare) refl

  by_long_is : (name : Text) (o : Option OptionRule) → option_named name ≡ o → arg_by_long s.rules name ≡ option_map option_built o
  by_long_is name o named = is.by_long name ∙ ap (option_map option_built) named

  joined_word : (word t : Text) (rest : List Text) → look word ≡ flag t → has_equals t ≡ true → Goal rest → Goal (word ∷ rest)
  joined_word word t rest l eq later b rows pend seen clean settled rows_are mode =
      subst (Reads s (at b rows pend) (word ∷ rest)) (sym parts) (go (option_named (name_in t)) refl)
    where
      cleans : (is_clean word ≡ true) × (list_all is_clean rest ≡ true)
      cleans = both (is_clean word) (list_all is_clean rest) clean

      no_plus : list_any (λ x. x == 43) (value_in t) ≡ false
      no_plus = flag_no_plus word t l (clean_plus word cleans.0) (position_or_len (λ x. x == 61) t + 1)

      bare : bare_name (flag t) ≡ None
      bare = rw eq refl

      parts : parts_from (pieces (word ∷ rest)) seen ≡ added (checked (value_in t) (option_named (name_in t))) seen (parts_from (pieces rest))
      parts = alone_parts word rest seen (flag t) l bare ∙ rw eq refl

      go : (o : Option OptionRule) → option_named (name_in t) ≡ o
          → Reads s (at b rows pend) (word ∷ rest) (added (checked (value_in t) (option_named (name_in t))) seen (parts_from (pieces rest)))
      go None named = rw named (bad_turn (at b rows pend) word rest
          (unknown_turn s b rows pend word (name_in t) (Some (value_in t)) (long_joined word t l eq) (look_flag word t l).1 (by_long_is (name_in t) None named)))
      go (Some o) named = rw named (chosen (decide o (is.known (name_in t) o named) (value_in t) (rows_settled rows pend) seen (parts_from (pieces rest)) no_plus rows_are))
        where
          turn : (turn_fault s [] (at b rows pend) word ≡ react_fault s.rules s.args_override_self (option_built o) (value_in t ∷ []) (held rows pend))
              × (walked s.rules [] (at b rows pend) word ≡ at b (used (option_built o) (value_in t ∷ []) (rows_settled rows pend)) None)
          turn = joined_turn s b rows pend word (name_in t) (value_in t) o (long_joined word t l eq) (look_flag word t l).1 (by_long_is (name_in t) (Some o) named)

          chosen : Passes o (value_in t) (rows_settled rows pend) seen (parts_from (pieces rest)) ⊎ Fails o (value_in t) (rows_settled rows pend) seen (parts_from (pieces rest))
              → Reads s (at b rows pend) (word ∷ rest) (added (checked (value_in t) (Some o)) seen (parts_from (pieces rest)))
          chosen (inl p) =
              let all_none : or_else (settles rows pend) (use_fault s.args_override_self (option_built o) (value_in t ∷ []) (rows_settled rows pend)) ≡ [] = rw (settled, p.no_fault) refl in
              subst (Reads s (at b rows pend) (word ∷ rest)) (sym p.goes_on)
              (good_turn (at b rows pend) _ word rest _ (turn.0 ∙ all_none) turn.1
              (later b (used (option_built o) (value_in t ∷ []) (rows_settled rows pend)) None (seen ++ part_with o (value_in t) ∷ []) cleans.1 refl p.row_is (p.mode_is ∙ mode)))
          chosen (inr f) =
              subst (Reads s (at b rows pend) (word ∷ rest)) (sym f.stops)
              (bad_turn (at b rows pend) word rest (λ e. f.fault (or_else-right (settles rows pend) _ (sym turn.0 ∙ e))))

  plain_word : (word : Text) (rest : List Text) → look word ≡ plain → Goal rest → Goal (word ∷ rest)
  plain_word word rest l later b rows pend seen clean settled rows_are mode =
      subst (Reads s (at b rows pend) (word ∷ rest)) (sym (alone_parts word rest seen plain l refl)) (go b mode)
    where
      go : (d : Bool) → has_part mode_name seen ≡ d → Reads s (at d rows pend) (word ∷ rest) (added (Some (record { name = mode_name; value = word })) seen (parts_from (pieces rest)))
      go true m = rw m (bad_turn (at true rows pend) word rest (second_turn s rows pend word (look_plain word l).0 (look_plain word l).1 (look_plain word l).2 is.second))
      go false m =
          let turn = mode_turn s rows pend word (look_plain word l).0 (look_plain word l).1 (look_plain word l).2 is.first in
          let new : has_row mode_name (rows_settled rows pend) ≡ false = ap (has_row mode_name) rows_are ∙ has_row-parts mode_name seen ∙ m in
          let settles_too : settles (rows_settled rows pend) (Some (mode_name, word ∷ [])) ≡ [] = rw is.mode_id (mode_passes s.args_override_self word (rows_settled rows pend) new) in
          let rows_too : rows_settled (rows_settled rows pend) (Some (mode_name, word ∷ [])) ≡ rows_of_parts (seen ++ record { name = mode_name; value = word } ∷ []) =
          rw is.mode_id (mode_used word (rows_settled rows pend) new ∙ ap (λ (rs : List Row). rs ++ row_of_part (record { name = mode_name; value = word }) ∷ []) rows_are
          ∙ sym (map-append row_of_part seen (record { name = mode_name; value = word } ∷ []))) in
          let mode_too : has_part mode_name (seen ++ record { name = mode_name; value = word } ∷ []) ≡ true = has_part-push mode_name seen (record { name = mode_name; value = word }) ∙ rw m refl in
          rw m (good_turn (at false rows pend) _ word rest _ (turn.0 ∙ settled) turn.1
          (later true (rows_settled rows pend) (Some (mode_name, word ∷ [])) (seen ++ record { name = mode_name; value = word } ∷ []) (both (is_clean word) _ clean).1 settles_too rows_too mode_too))

  -- `--name` at the end
  last_bare : (word t : Text) → look word ≡ flag t → has_equals t ≡ false → Goal (word ∷ [])
  last_bare word t l eq b rows pend seen clean settled rows_are mode =
      subst (Reads s (at b rows pend) (word ∷ [])) (sym parts) (go (option_named t) refl)
    where
      parts : parts_from (pieces (word ∷ [])) seen ≡ None
      parts = rw (l, eq) refl

      go : (o : Option OptionRule) → option_named t ≡ o → Reads s (at b rows pend) (word ∷ []) None
      go None named = bad_turn (at b rows pend) word [] (unknown_turn s b rows pend word t None (long_bare word t l eq) (look_flag word t l).1 (by_long_is t None named))
      go (Some o) named =
          let turn = bare_turn s b rows pend word t o (long_bare word t l eq) (look_flag word t l).1 (by_long_is t (Some o) named) in
          good_turn (at b rows pend) _ word [] None (turn.0 ∙ settled) turn.1 (λ walk end. cons≢nil _ _ (rw (is.known t o named).by_id at end))

  -- `--name` and a word
  bare_word : (word t next : Text) (rest : List Text) → look word ≡ flag t → has_equals t ≡ false → Goal rest → Goal (word ∷ next ∷ rest)
  bare_word word t next rest l eq later b rows pend seen clean settled rows_are mode =
      subst (Reads s (at b rows pend) (word ∷ next ∷ rest)) (sym parts) (go (option_named t) refl)
    where
      cleans : (is_clean word ≡ true) × (list_all is_clean (next ∷ rest) ≡ true)
      cleans = both (is_clean word) (list_all is_clean (next ∷ rest)) clean

      more : (is_clean next ≡ true) × (list_all is_clean rest ≡ true)
      more = both (is_clean next) (list_all is_clean rest) cleans.1

      parts : parts_from (pieces (word ∷ next ∷ rest)) seen ≡ added (checked next (option_named t)) seen (parts_from (pieces rest))
      parts = rw (l, eq) refl

      go : (o : Option OptionRule) → option_named t ≡ o → Reads s (at b rows pend) (word ∷ next ∷ rest) (added (checked next (option_named t)) seen (parts_from (pieces rest)))
      go None named = rw named (bad_turn (at b rows pend) word (next ∷ rest) (unknown_turn s b rows pend word t None (long_bare word t l eq) (look_flag word t l).1 (by_long_is t None named)))
      go (Some o) named =
          let turn = bare_turn s b rows pend word t o (long_bare word t l eq) (look_flag word t l).1 (by_long_is t (Some o) named) in
          rw named (good_turn (at b rows pend) (behind o.name b (rows_settled rows pend)) word (next ∷ rest) _ (turn.0 ∙ settled) turn.1 (value (look next) refl))
        where
          by_id : arg_by_id s.rules o.name ≡ Some (option_built o)
          by_id = (is.known t o named).by_id

          chosen : look next ≡ plain → Passes o next (rows_settled rows pend) seen (parts_from (pieces rest)) ⊎ Fails o next (rows_settled rows pend) seen (parts_from (pieces rest))
              → Reads s (at b (rows_settled rows pend) (Some (o.name, next ∷ []))) rest (added (checked next (Some o)) seen (parts_from (pieces rest)))
          chosen n (inl p) =
              let settles_too : settles (rows_settled rows pend) (Some (o.name, next ∷ [])) ≡ [] = rw by_id p.no_fault in
              let rows_too : rows_settled (rows_settled rows pend) (Some (o.name, next ∷ [])) ≡ rows_of_parts (seen ++ part_with o next ∷ []) = rw by_id p.row_is in
              subst (Reads s (at b (rows_settled rows pend) (Some (o.name, next ∷ []))) rest) (sym p.goes_on)
              (later b (rows_settled rows pend) (Some (o.name, next ∷ [])) (seen ++ part_with o next ∷ []) more.1 settles_too rows_too (p.mode_is ∙ mode))
          chosen n (inr f) =
              subst (Reads s (at b (rows_settled rows pend) (Some (o.name, next ∷ []))) rest) (sym f.stops)
              (unsettled rest b (rows_settled rows pend) (Some (o.name, next ∷ [])) more.1 (λ e. f.fault (rw by_id at e)))

          value : (n : Look) → look next ≡ n → Reads s (behind o.name b (rows_settled rows pend)) (next ∷ rest) (added (checked next (Some o)) seen (parts_from (pieces rest)))
          value wrong n = absurd (clean_wrong next n more.0)
          value (flag u) n =
              let no : is_value o next ≡ false = flag_no_value o next u n in
              rw no (bad_turn (behind o.name b (rows_settled rows pend)) next rest
              (flag_turn s b (rows_settled rows pend) next (name_in u) _ o (option_named (name_in u)) (look_flag next u n).0 (look_flag next u n).1 by_id (is.by_long (name_in u))))
          value plain n =
              let turn = value_turn s b (rows_settled rows pend) next o (look_plain next n).0 (look_plain next n).1 (look_plain next n).2 by_id in
              good_turn (behind o.name b (rows_settled rows pend)) _ next rest _ turn.0 turn.1
              (chosen n (decide o (is.known t o named) next (rows_settled rows pend) seen (parts_from (pieces rest)) (clean_plus next more.0) rows_are))

  wrong_word : (word : Text) (rest : List Text) → look word ≡ wrong → Goal (word ∷ rest)
  wrong_word word rest l b rows pend seen clean settled rows_are mode = absurd (clean_wrong word l (both (is_clean word) (list_all is_clean rest) clean).0)

  one_more : (word : Text) (l : Look) → look word ≡ l → Goal [] → Goal (word ∷ [])
  one_more word wrong l later = wrong_word word [] l
  one_more word plain l later = plain_word word [] l later
  one_more word (flag t) l later = go (has_equals t) refl
    where
      go : (h : Bool) → has_equals t ≡ h → Goal (word ∷ [])
      go true h = joined_word word t [] l h later
      go false h = last_bare word t l h

  two_more : (word next : Text) (rest : List Text) (l : Look) → look word ≡ l → Goal (next ∷ rest) → Goal rest → Goal (word ∷ next ∷ rest)
  two_more word next rest wrong l later past = wrong_word word (next ∷ rest) l
  two_more word next rest plain l later past = plain_word word (next ∷ rest) l later
  two_more word next rest (flag t) l later past = go (has_equals t) refl
    where
      go : (h : Bool) → has_equals t ≡ h → Goal (word ∷ next ∷ rest)
      go true h = joined_word word t (next ∷ rest) l h later
      go false h = bare_word word t next rest l h past

  pub all_words : (words : List Text) → Goal words
  all_words [] = no_words
  all_words (word ∷ []) = one_more word (look word) refl no_words
  all_words (word ∷ next ∷ rest) = two_more word next rest (look word) refl (all_words (next ∷ rest)) (all_words rest)
