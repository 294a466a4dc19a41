-- The words say a mode exactly where they are written as the grammar has it.
use Rattle.std.proofs.Common.{◌≡◌, ◌∙◌, ◌==◌, ◌||◌, Bool, true, false, not, refl, sym, subst, ap, List, [], ◌∷◌, ◌++◌, map, Option, Some, None, cond, arith, append_assoc, append-nil, option_map}
use Rattle.std.specs.Prelude.{find, option_and_then}
use Rattle.std.specs.Option.{option_map_or}
use Rattle.std.specs.List.{after_first, before_first, list_all, list_any}
use Rattle.std.specs.Str.{bytes_eq}
use Rattle.std.proofs.lemmas.Slice.Eq.{bytes_eq-Decides}
use Rattle.std.proofs.lemmas.Bool.Decides.{nat_tests}
use Rattle.clap.proofs.CutLemmas.{list_any-at}
use Rattle.fdc_main.specs.declared.command_line.Mode.{Mode}
use Rattle.fdc_main.specs.WordsGrammar.{IsWritten, Item, are_new, apart, is_given, is_item, joined, part, spelled, spelling, word}
use Rattle.fdc_main.specs.Words.{Text, ModeRule, OptionRule, Look, wrong, flag, plain, look, look_behind_two, Part, Piece, alone, pair, bare_name, given, has_equals, has_part, is_value, mode_name, mode_named, mode_of, mode_of_parts, mode_with, named_option, number_of, option_named, parts_from, parts_of, part_of, pieces, value_at}
use Rattle.fdc_main.proofs.WordsTable.{IsMode, mode_is, named_is, not_mode_name, option_is, or_true, takes}
use Rattle.fdc_main.proofs.WordsWalk.{both, not_true}
use Rattle.fdc_main.proofs.WordsClean.{adds, checks, one_more, or_none, two_more}

-- ---- items of the whole table

-- a value under a name of the table
abbrev is_listed : Text → Text → Bool
is_listed name value = option_map_or (λ o. is_value o value) (option_named name) false

abbrev is_plain : Look → Bool
is_plain plain = true
is_plain _ = false

-- a word with no hyphen in front, or a value of an option of any mode
abbrev is_any : Item → Bool
is_any (word w) = is_plain (look w)
is_any (joined name value) = is_listed name value
is_any (apart name value) = is_listed name value

-- a value under a name: its option, and the part that it gives
record IsGood (name value : Text) : Type 0 where
  rule : OptionRule
  named : option_named name ≡ Some rule
  is_good : is_value rule value ≡ true
  no_equals : has_equals name ≡ false
  is_flag : look_behind_two name ≡ flag name
  gives : given name value ≡ Some (record { name = name; value = value })

good_is : (name value : Text) → is_listed name value ≡ true → IsGood name value
good_is name value e = go (option_named name) refl e
  where
    go : (o : Option OptionRule) → option_named name ≡ o → option_map_or (λ r. is_value r value) o false ≡ true → IsGood name value
    go None named h = let bad : false ≡ true = h in absurd (cc bad)
    go (Some o) named h =
        let is = option_is name o named in
        record {
          rule = o;
          named = named;
          is_good = h;
          no_equals = subst (λ (t : Text). has_equals t ≡ false) is.0 is.1.no_equals;
          is_flag = subst (λ (t : Text). look_behind_two t ≡ flag t) is.0 is.1.is_flag;
          gives = rw (named, h) (ap (λ (t : Text). Some (record { name = t; value = value })) is.0);
        }

-- ---- the cut at `=`

before_at : (name value : Text) → has_equals name ≡ false → before_first (λ x. x == 61) (name ++ 61 ∷ value) ≡ name
before_at [] value e = refl
before_at (x ∷ xs) value e =
    let parts = or_none (x == 61) _ e in
    rw (parts.0, one_more) (ap (λ t. x ∷ t) (before_at xs value parts.1))

after_at : (name value : Text) → has_equals name ≡ false → after_first (λ x. x == 61) (name ++ 61 ∷ value) ≡ value
after_at [] value e = refl
after_at (x ∷ xs) value e =
    let parts = or_none (x == 61) _ e in
    rw (parts.0, two_more) (after_at xs value parts.1)

cut_whole : (t : Text) → has_equals t ≡ true → before_first (λ x. x == 61) t ++ 61 ∷ after_first (λ x. x == 61) t ≡ t
cut_whole [] e = let bad : false ≡ true = e in absurd (cc bad)
cut_whole (x ∷ xs) e = go (x == 61) refl (cut_whole xs)
  where
    go : (b : Bool) → (x == 61) ≡ b → (has_equals xs ≡ true → before_first (λ y. y == 61) xs ++ 61 ∷ after_first (λ y. y == 61) xs ≡ xs)
        → before_first (λ y. y == 61) (x ∷ xs) ++ 61 ∷ after_first (λ y. y == 61) (x ∷ xs) ≡ x ∷ xs
    go true h later = let is : x ≡ 61 = grind (arith, nat_tests) in rw (h, is) refl
    go false h later = rw (h, two_more, one_more) (ap (λ t. x ∷ t) (later (rw h at e)))

flag_is : (word t : Text) → look word ≡ flag t → 45 ∷ 45 ∷ t ≡ word
flag_is [] t e = absurd (cc e)
flag_is (x ∷ []) t e = elim (x == 45) as (λ b. cond b wrong plain ≡ flag t → 45 ∷ 45 ∷ t ≡ x ∷ []) [ true ↦ (λ k. absurd (cc k)) | false ↦ (λ k. absurd (cc k)) ] e
flag_is (x ∷ y ∷ rest) t e = go (x == 45) (y == 45) rest refl refl e
  where
    go : (b d : Bool) (zs : Text) → (x == 45) ≡ b → (y == 45) ≡ d → cond b (cond d (Rattle.fdc_main.specs.Words.look_behind_two zs) wrong) plain ≡ flag t → 45 ∷ 45 ∷ t ≡ x ∷ y ∷ zs
    go true true [] hx hy k = absurd (cc k)
    go true true (z ∷ zs) hx hy k =
        let is_x : x ≡ 45 = grind (arith, nat_tests) in
        let is_y : y ≡ 45 = grind (arith, nat_tests) in
        let same : z ∷ zs ≡ t = cc in
        cc
    go true false zs hx hy k = absurd (cc k)
    go false d zs hx hy k = absurd (cc k)

flag_of : (name value : Text) → look_behind_two (name ++ 61 ∷ value) ≡ flag (name ++ 61 ∷ value)
flag_of [] value = refl
flag_of (x ∷ xs) value = refl

pieces_alone : (w : Text) (rest : List Text) → bare_name (look w) ≡ None → pieces (w ∷ rest) ≡ alone (look w) w ∷ pieces rest
pieces_alone w [] e = refl
pieces_alone w (next ∷ rest) e = rw e refl

-- ---- what is written has its parts

plain_is : (l : Look) → is_plain l ≡ true → l ≡ plain
plain_is wrong e = let bad : false ≡ true = e in absurd (cc bad)
plain_is plain e = refl
plain_is (flag t) e = let bad : false ≡ true = e in absurd (cc bad)

-- the pieces of an item and of what follows it
first_piece : (item : Item) (rest : List Text) → is_any item ≡ true → (piece : Piece) × (pieces (spelling item ++ rest) ≡ piece ∷ pieces rest) × (part_of piece ≡ Some (part item))
first_piece (word w) rest e =
    let l = plain_is (look w) e in
    (alone plain w, pieces_alone w rest (rw l refl) ∙ rw l refl, refl)
first_piece (joined name value) rest e =
    let good = good_is name value e in
    let no = good.no_equals in
    let eq : has_equals (name ++ 61 ∷ value) ≡ true = list_any-at 61 name value in
    let l : look (45 ∷ 45 ∷ (name ++ 61 ∷ value)) ≡ flag (name ++ 61 ∷ value) = flag_of name value in
    let before = before_at name value no in
    let after = after_at name value no in (
      alone (flag (name ++ 61 ∷ value)) (45 ∷ 45 ∷ (name ++ 61 ∷ value)),
      pieces_alone (45 ∷ 45 ∷ (name ++ 61 ∷ value)) rest (rw (l, eq) refl) ∙ rw l refl,
      rw (eq, before, after) good.gives,
    )
first_piece (apart name value) rest e =
    let good = good_is name value e in
    let l : look (45 ∷ 45 ∷ name) ≡ flag name = good.is_flag in
    let no = good.no_equals in
    (pair name value, rw (l, no) refl, good.gives)

written_parts : (items : List Item) (seen : List Part) → list_all is_any items ≡ true → are_new items seen ≡ true
    → parts_from (pieces (spelled items)) seen ≡ Some (seen ++ map part items)
written_parts [] seen good new = ap Some (sym (append-nil seen))
written_parts (item ∷ rest) seen good new =
    let g = both (is_any item) _ good in
    let n = both (not (has_part (part item).name seen)) _ new in
    let first = first_piece item (spelled rest) g.0 in
    let none : has_part (part item).name seen ≡ false = not_true _ n.0 in
    let later = written_parts rest (seen ++ part item ∷ []) g.1 n.1 in
    rw (first.1, first.2, none) (later ∙ ap Some (append_assoc seen (part item ∷ []) (map part rest)))

-- ---- items of one mode

record IsOwn (m : ModeRule) (name value : Text) : Type 0 where
  rule : OptionRule
  own : named_option name m.options ≡ Some rule
  named : option_named name ≡ Some rule
  is_good : is_value rule value ≡ true

-- an option of a mode is one of the table
own_is : (m : ModeRule) → IsMode m → (name : Text) (o : OptionRule) → named_option name m.options ≡ Some o → option_named name ≡ Some o
own_is m is name o e =
    let found = named_is (λ (x : OptionRule). x.name) (λ (x : OptionRule). option_named x.name ≡ Some x) m.options is.own name o e in
    subst (λ (t : Text). option_named t ≡ Some o) found.0 found.1

own_item : (m : ModeRule) → IsMode m → (name value : Text) → is_given m name value ≡ true → IsOwn m name value
own_item m is name value e = go (named_option name m.options) refl e
  where
    go : (o : Option OptionRule) → named_option name m.options ≡ o → option_map_or (λ r. is_value r value) o false ≡ true → IsOwn m name value
    go None own h = let bad : false ≡ true = h in absurd (cc bad)
    go (Some o) own h = record { rule = o; own = own; named = own_is m is name o own; is_good = h }

is_any_item : (m : ModeRule) → IsMode m → (item : Item) → is_item m item ≡ true → is_any item ≡ true
is_any_item m is (word w) e =
    let name : w ≡ m.name = (bytes_eq-Decides w m.name).0 e in
    rw (name, is.plain_name) refl
is_any_item m is (joined name value) e = let o = own_item m is name value e in rw (o.named, o.is_good) refl
is_any_item m is (apart name value) e = let o = own_item m is name value e in rw (o.named, o.is_good) refl

are_any : (m : ModeRule) → IsMode m → (items : List Item) → list_all (is_item m) items ≡ true → list_all is_any items ≡ true
are_any m is [] e = refl
are_any m is (item ∷ rest) e =
    let parts = both (is_item m item) (list_all (is_item m) rest) e in
    rw (is_any_item m is item parts.0) (are_any m is rest parts.1)

found_any : (name : Text) (os : List OptionRule) (o : OptionRule) → named_option name os ≡ Some o → list_any (λ x. bytes_eq x.name name) os ≡ true
found_any name [] o e = absurd (cc e)
found_any name (x ∷ xs) o e = go (bytes_eq x.name name) e (found_any name xs o)
  where
    go : (b : Bool) → cond b (Some x) (named_option name xs) ≡ Some o → (named_option name xs ≡ Some o → list_any (λ y. bytes_eq y.name name) xs ≡ true)
        → (b || list_any (λ y. bytes_eq y.name name) xs) ≡ true
    go true h later = refl
    go false h later = later h

any_found : (name : Text) (os : List OptionRule) → list_any (λ x. bytes_eq x.name name) os ≡ true → (o : OptionRule) × (named_option name os ≡ Some o)
any_found name [] e = let bad : false ≡ true = e in absurd (cc bad)
any_found name (x ∷ xs) e = go (bytes_eq x.name name) refl e (any_found name xs)
  where
    go : (b : Bool) → bytes_eq x.name name ≡ b → (b || list_any (λ y. bytes_eq y.name name) xs) ≡ true
        → (list_any (λ y. bytes_eq y.name name) xs ≡ true → (o : OptionRule) × (named_option name xs ≡ Some o)) → (o : OptionRule) × (named_option name (x ∷ xs) ≡ Some o)
    go true is h later = (x, rw is refl)
    go false is h later = let found = later h in (found.0, rw is found.1)

takes_item : (m : ModeRule) → IsMode m → (item : Item) → is_item m item ≡ true → takes m (part item).name ≡ true
takes_item m is (word w) e = refl
takes_item m is (joined name value) e =
    let o = own_item m is name value e in
    rw (found_any name m.options o.rule o.own) (or_true (bytes_eq name mode_name))
takes_item m is (apart name value) e =
    let o = own_item m is name value e in
    rw (found_any name m.options o.rule o.own) (or_true (bytes_eq name mode_name))

take_items : (m : ModeRule) → IsMode m → (items : List Item) → list_all (is_item m) items ≡ true → list_all (λ p. takes m p.name) (map part items) ≡ true
take_items m is [] e = refl
take_items m is (item ∷ rest) e =
    let parts = both (is_item m item) (list_all (is_item m) rest) e in
    rw (takes_item m is item parts.0) (take_items m is rest parts.1)

-- the value under the mode's name is the mode's name
name_value : (m : ModeRule) → IsMode m → (items : List Item) → list_all (is_item m) items ≡ true → has_part mode_name (map part items) ≡ true → value_at mode_name (map part items) ≡ Some m.name
name_value m is [] good e = let bad : false ≡ true = e in absurd (cc bad)
name_value m is (word w ∷ rest) good e = ap Some ((bytes_eq-Decides w m.name).0 (both (bytes_eq w m.name) (list_all (is_item m) rest) good).0)
name_value m is (joined name value ∷ rest) good e =
    let parts = both (is_given m name value) (list_all (is_item m) rest) good in
    let o = own_item m is name value parts.0 in
    let other = not_mode_name name o.rule o.named in
    rw other (name_value m is rest parts.1 (rw other at e))
name_value m is (apart name value ∷ rest) good e =
    let parts = both (is_given m name value) (list_all (is_item m) rest) good in
    let o = own_item m is name value parts.0 in
    let other = not_mode_name name o.rule o.named in
    rw other (name_value m is rest parts.1 (rw other at e))

pub written_mode : (words : List Text) (mode : Mode) → IsWritten words mode → mode_of words ≡ Some mode
written_mode words mode w =
    let is = (mode_is w.rule.name w.rule w.rule_is).1 in
    let parts = written_parts w.items [] (are_any w.rule is w.items w.good) w.new in
    let name = name_value w.rule is w.items w.good w.named in
    let all = take_items w.rule is w.items w.good in
    ap mode_of (sym w.words_are) ∙ ap (option_and_then mode_of_parts) parts
    ∙ ap (λ (v : Option Text). option_and_then (mode_with (map part w.items)) (option_and_then mode_named v)) name
    ∙ ap (option_and_then (mode_with (map part w.items))) w.rule_is
    ∙ ap (λ (b : Bool). cond b (Some (w.rule.mode (number_of (map part w.items)))) None) all
    ∙ ap Some w.mode_is

-- ---- what has parts is written so

-- the item that a piece is
record ItemOf (words : List Text) (p : Part) : Type 0 where
  item : Item
  words_are : spelling item ≡ words
  good : is_any item ≡ true
  part_is : part item ≡ p

given_part : (name value : Text) (p : Part) → given name value ≡ Some p → (is_listed name value ≡ true) × (◌≡◌ {A = Part} (record { name = name; value = value }) p)
given_part name value p e =
    let c = checks name value p e in
    let good : is_listed name value ≡ true = rw (c.named, c.value) refl in
    let is = (good_is name value good).gives in
    let same : ◌≡◌ {A = Option Part} (Some (record { name = name; value = value })) (Some p) = sym is ∙ e in
    (good, cc same)

item_alone : (w : Text) (l : Look) (p : Part) → look w ≡ l → part_of (alone l w) ≡ Some p → ItemOf (w ∷ []) p
item_alone w wrong p l e = absurd (cc e)
item_alone w plain p l e = record { item = word w; words_are = refl; good = rw l refl; part_is = cc e }
item_alone w (flag t) p l e = go (has_equals t) refl e
  where
    go : (b : Bool) → has_equals t ≡ b → cond b (given (before_first (λ x. x == 61) t) (after_first (λ x. x == 61) t)) None ≡ Some p → ItemOf (w ∷ []) p
    go false h k = absurd (cc k)
    go true h k =
        let g = given_part (before_first (λ x. x == 61) t) (after_first (λ x. x == 61) t) p k in
        let whole : 45 ∷ 45 ∷ (before_first (λ x. x == 61) t ++ 61 ∷ after_first (λ x. x == 61) t) ≡ w = ap (λ u. 45 ∷ 45 ∷ u) (cut_whole t h) ∙ flag_is w t l in
        record {
          item = joined (before_first (λ x. x == 61) t) (after_first (λ x. x == 61) t);
          words_are = ap (λ (u : Text). u ∷ []) whole;
          good = g.0;
          part_is = g.1;
        }

item_pair : (w t next : Text) (p : Part) → look w ≡ flag t → part_of (pair t next) ≡ Some p → ItemOf (w ∷ next ∷ []) p
item_pair w t next p l e =
    let g = given_part t next p e in
    record { item = apart t next; words_are = ap (λ (u : Text). u ∷ next ∷ []) (flag_is w t l); good = g.0; part_is = g.1 }

-- the items behind the parts seen before
record ItemsOf (words : List Text) (seen parts : List Part) : Type 0 where
  items : List Item
  words_are : spelled items ≡ words
  good : list_all is_any items ≡ true
  new : are_new items seen ≡ true
  parts_are : seen ++ map part items ≡ parts

one_item : (front rest : List Text) (seen parts : List Part) (p : Part) → ItemOf front p → has_part p.name seen ≡ false → ItemsOf rest (seen ++ p ∷ []) parts
    → ItemsOf (front ++ rest) seen parts
one_item front rest seen parts p i new later =
    let fresh : has_part (part i.item).name seen ≡ false = ap (λ (q : Part). has_part q.name seen) i.part_is ∙ new in
    let others : are_new later.items (seen ++ part i.item ∷ []) ≡ true = ap (λ (q : Part). are_new later.items (seen ++ q ∷ [])) i.part_is ∙ later.new in
    record {
      items = i.item ∷ later.items;
      words_are = ap (λ (ws : List Text). ws ++ spelled later.items) i.words_are ∙ ap (λ (ws : List Text). front ++ ws) later.words_are;
      good = rw i.good later.good;
      new = rw fresh others;
      parts_are = sym (append_assoc seen (part i.item ∷ []) (map part later.items)) ∙ ap (λ (q : Part). (seen ++ q ∷ []) ++ map part later.items) i.part_is ∙ later.parts_are;
    }

abbrev Written : List Text → Type 0
Written words = (seen parts : List Part) → parts_from (pieces words) seen ≡ Some parts → ItemsOf words seen parts

alone_step : (w : Text) (rest : List Text) → pieces (w ∷ rest) ≡ alone (look w) w ∷ pieces rest → Written rest → Written (w ∷ rest)
alone_step w rest cut later seen parts e =
    let a = adds (alone (look w) w) (pieces rest) seen parts (subst (λ (ps : List Piece). parts_from ps seen ≡ Some parts) cut e) in
    one_item (w ∷ []) rest seen parts a.part (item_alone w (look w) a.part refl a.is_part) a.is_new (later (seen ++ a.part ∷ []) parts a.later)

pair_step : (w t next : Text) (rest : List Text) → look w ≡ flag t → pieces (w ∷ next ∷ rest) ≡ pair t next ∷ pieces rest → Written rest → Written (w ∷ next ∷ rest)
pair_step w t next rest l cut later seen parts e =
    let a = adds (pair t next) (pieces rest) seen parts (subst (λ (ps : List Piece). parts_from ps seen ≡ Some parts) cut e) in
    one_item (w ∷ next ∷ []) rest seen parts a.part (item_pair w t next a.part l a.is_part) a.is_new (later (seen ++ a.part ∷ []) parts a.later)

step : (w next : Text) (rest : List Text) (l : Look) → look w ≡ l → Written (next ∷ rest) → Written rest → Written (w ∷ next ∷ rest)
step w next rest wrong l later past = alone_step w (next ∷ rest) (rw l refl) later
step w next rest plain l later past = alone_step w (next ∷ rest) (rw l refl) later
step w next rest (flag t) l later past = go (has_equals t) refl
  where
    go : (b : Bool) → has_equals t ≡ b → Written (w ∷ next ∷ rest)
    go true h = alone_step w (next ∷ rest) (rw (l, h) refl) later
    go false h = pair_step w t next rest l (rw (l, h) refl) past

no_words : Written []
no_words seen parts e = record { items = []; words_are = refl; good = refl; new = refl; parts_are = append-nil seen ∙ cc e }

all_written : (words : List Text) → Written words
all_written [] = no_words
all_written (w ∷ []) = alone_step w [] refl no_words
all_written (w ∷ next ∷ rest) = step w next rest (look w) refl (all_written (next ∷ rest)) (all_written rest)

-- ---- and the items are of the mode

-- an option of the table that a mode has is its own
own_given : (m : ModeRule) → IsMode m → (name value : Text) → is_listed name value ≡ true → takes m name ≡ true → is_given m name value ≡ true
own_given m is name value any takes_it =
    let good = good_is name value any in
    let other = not_mode_name name good.rule good.named in
    let found = any_found name m.options (rw other at takes_it) in
    let same : Some found.0 ≡ Some good.rule = sym (own_is m is name found.0 found.1) ∙ good.named in
    let rule : found.0 ≡ good.rule = cc same in
    rw (found.1, rule) good.is_good

-- a value under a name that none before it has
value_behind : (name : Text) (seen more : List Part) → has_part name seen ≡ false → value_at name (seen ++ more) ≡ value_at name more
value_behind name [] more e = refl
value_behind name (p ∷ ps) more e =
    let parts = or_none (bytes_eq p.name name) (has_part name ps) e in
    rw parts.0 (value_behind name ps more parts.1)

own_items : (m : ModeRule) → IsMode m → (items : List Item) (seen : List Part) → list_all is_any items ≡ true → are_new items seen ≡ true
    → list_all (λ p. takes m p.name) (map part items) ≡ true → value_at mode_name (seen ++ map part items) ≡ Some m.name → list_all (is_item m) items ≡ true
own_items m is [] seen any new own value = refl
own_items m is (item ∷ rest) seen any new own value =
    let anys = both (is_any item) (list_all is_any rest) any in
    let news = both (not (has_part (part item).name seen)) (are_new rest (seen ++ part item ∷ [])) new in
    let owns = both (takes m (part item).name) (list_all (λ p. takes m p.name) (map part rest)) own in
    let later = own_items m is rest (seen ++ part item ∷ []) anys.1 news.1 owns.1 (ap (value_at mode_name) (append_assoc seen (part item ∷ []) (map part rest)) ∙ value) in
    rw (one item anys.0 (not_true (has_part (part item).name seen) news.0) owns.0 value) later
  where
    one : (i : Item) → is_any i ≡ true → has_part (part i).name seen ≡ false → takes m (part i).name ≡ true → value_at mode_name (seen ++ part i ∷ map part rest) ≡ Some m.name → is_item m i ≡ true
    one (word w) a n o v =
        let first : Some w ≡ Some m.name = sym (value_behind mode_name seen (part (word w) ∷ map part rest) n) ∙ v in
        (bytes_eq-Decides w m.name).1 (cc first)
    one (joined name value) a n o v = own_given m is name value a o
    one (apart name value) a n o v = own_given m is name value a o

has_value : (name : Text) (parts : List Part) (v : Text) → value_at name parts ≡ Some v → has_part name parts ≡ true
has_value name [] v e = absurd (cc e)
has_value name (p ∷ ps) v e = go (bytes_eq p.name name) e (has_value name ps v)
  where
    go : (b : Bool) → option_map (λ (q : Part). q.value) (cond b (Some p) (find (λ (q : Part). bytes_eq q.name name) ps)) ≡ Some v
        → (value_at name ps ≡ Some v → has_part name ps ≡ true) → (b || has_part name ps) ≡ true
    go true h later = refl
    go false h later = later h

-- the mode that the parts name, and that they are its own
record IsNamed (parts : List Part) (mode : Mode) : Type 0 where
  rule : ModeRule
  rule_is : mode_named rule.name ≡ Some rule
  value : value_at mode_name parts ≡ Some rule.name
  own : list_all (λ p. takes rule p.name) parts ≡ true
  mode_is : rule.mode (number_of parts) ≡ mode

named : (parts : List Part) (mode : Mode) → mode_of_parts parts ≡ Some mode → IsNamed parts mode
named parts mode e = at_value (value_at mode_name parts) refl e
  where
    at_mode : (v : Text) (m : Option ModeRule) → value_at mode_name parts ≡ Some v → mode_named v ≡ m → option_and_then (mode_with parts) m ≡ Some mode → IsNamed parts mode
    at_mode v None value is h = absurd (cc h)
    at_mode v (Some m) value is h = test (list_all (λ p. takes m p.name) parts) refl h
      where
        test : (b : Bool) → list_all (λ p. takes m p.name) parts ≡ b → cond b (Some (m.mode (number_of parts))) None ≡ Some mode → IsNamed parts mode
        test false own k = absurd (cc k)
        test true own k =
            let name : m.name ≡ v = (mode_is v m is).0 in
            record {
              rule = m;
              rule_is = subst (λ (t : Text). mode_named t ≡ Some m) (sym name) is;
              value = value ∙ ap Some (sym name);
              own = own;
              mode_is = cc k;
            }

    at_value : (v : Option Text) → value_at mode_name parts ≡ v → option_and_then (mode_with parts) (option_and_then mode_named v) ≡ Some mode → IsNamed parts mode
    at_value None value h = absurd (cc h)
    at_value (Some v) value h = at_mode v (mode_named v) value refl h

pub mode_written : (words : List Text) (mode : Mode) → mode_of words ≡ Some mode → IsWritten words mode
mode_written words mode e = go (parts_of words) refl e
  where
    go : (o : Option (List Part)) → parts_of words ≡ o → option_and_then mode_of_parts o ≡ Some mode → IsWritten words mode
    go None is h = absurd (cc h)
    go (Some parts) is h =
        let i = all_written words [] parts is in
        let n = named (map part i.items) mode (ap mode_of_parts i.parts_are ∙ h) in
        let m = (mode_is n.rule.name n.rule n.rule_is).1 in
        record {
          items = i.items;
          rule = n.rule;
          rule_is = n.rule_is;
          words_are = i.words_are;
          good = own_items n.rule m i.items [] i.good i.new n.own n.value;
          new = i.new;
          named = has_value mode_name (map part i.items) n.rule.name n.value;
          mode_is = n.mode_is;
        }
