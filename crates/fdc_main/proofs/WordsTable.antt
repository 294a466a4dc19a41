-- What holds of each option and mode of the table, and so of the one that a name names.
use Rattle.std.proofs.Common.{◌≡◌, ◌∙◌, ◌<◌, ◌≤◌, ◌^◌, ◌==◌, ◌&&◌, ◌||◌, not, ℕ, Bool, true, false, refl, sym, subst, ap, List, [], ◌∷◌, Option, Some, None, cond, arith}
use Rattle.std.specs.Prelude.{find}
use Rattle.std.specs.Option.{option_map_or}
use Rattle.std.specs.List.{list_all, list_any}
use Rattle.std.specs.Str.{bytes_eq}
use Rattle.std.proofs.lemmas.Slice.Eq.{bytes_eq-Decides}
use Rattle.fdc_main.specs.WordsClean.{is_clean}
use Rattle.fdc_main.specs.WordsRows.{are_good, is_good}
use Rattle.fdc_main.specs.Words.{Text, OptionRule, ModeRule, Part, IsInRange, flag, plain, look, look_behind_two, ranks, size, steps, all_modes, all_options, has_equals, has_option, has_part, is_value, mode_name, mode_named, option_named}

abbrev pub Each : {A : Type 0} → (A → Type 0) → List A → Type 0
Each P [] = Unit {0}
Each P (x ∷ xs) = P x × Each P xs

-- what is found by its name has that name, and what all have
pub named_is : {A : Type 0} (text : A → Text) (P : A → Type 0) (xs : List A) → Each P xs → (name : Text) (x : A)
    → find (λ a. bytes_eq (text a) name) xs ≡ Some x → (text x ≡ name) × P x
named_is text P [] each name x e = absurd (cc e)
named_is {A} text P (y ∷ ys) each name x e = go (bytes_eq (text y) name) refl e (named_is text P ys each.1 name x)
  where
    go : (b : Bool) → bytes_eq (text y) name ≡ b → cond b (Some y) (find (λ a. bytes_eq (text a) name) ys) ≡ Some x
        → (find (λ a. bytes_eq (text a) name) ys ≡ Some x → (text x ≡ name) × P x) → (text x ≡ name) × P x
    go true same h later =
        let here : text y ≡ name = (bytes_eq-Decides (text y) name).0 same in
        let is : y ≡ x = cc h in
        subst (λ (z : A). (text z ≡ name) × P z) is (here, each.0)
    go false other h later = later h

-- ---- the options

-- a number in the range of an option
abbrev pub IsWithin : OptionRule → ℕ → Type 0
IsWithin o n = (o.low ≤ n) × (n ≤ o.high)

pub record IsOption (o : OptionRule) : Type 0 where
  pub self : option_named o.name ≡ Some o
  pub not_mode : bytes_eq o.name mode_name ≡ false
  pub small : o.high < 2 ^ 64
  pub no_equals : has_equals o.name ≡ false
  pub no_plus : list_any (λ x. x == 43) o.name ≡ false
  pub is_flag : look_behind_two o.name ≡ flag o.name
  pub default_within : IsWithin o o.default

each_option : Each IsOption all_options
each_option = (
  record { self = refl; not_mode = refl; small = omega arith; no_equals = refl; no_plus = refl; is_flag = refl; default_within = (omega arith, omega arith) },
  (
    record { self = refl; not_mode = refl; small = omega arith; no_equals = refl; no_plus = refl; is_flag = refl; default_within = (omega arith, omega arith) },
    (
      record { self = refl; not_mode = refl; small = omega arith; no_equals = refl; no_plus = refl; is_flag = refl; default_within = (omega arith, omega arith) },
      (record { self = refl; not_mode = refl; small = omega arith; no_equals = refl; no_plus = refl; is_flag = refl; default_within = (omega arith, omega arith) }, tt),
    ),
  ),
)

pub option_is : (name : Text) (o : OptionRule) → option_named name ≡ Some o → (o.name ≡ name) × IsOption o
option_is name o e = named_is (λ (x : OptionRule). x.name) IsOption all_options each_option name o e

-- no option has the name under which the mode's name stands
pub not_mode_name : (name : Text) (o : OptionRule) → option_named name ≡ Some o → bytes_eq name mode_name ≡ false
not_mode_name name o e = let is = option_is name o e in subst (λ (t : Text). bytes_eq t mode_name ≡ false) is.0 is.1.not_mode

-- ---- the modes

pub record IsMode (m : ModeRule) : Type 0 where
  pub clean : is_clean m.name ≡ true
  pub plain_name : look m.name ≡ plain
  pub own : Each (λ o. option_named o.name ≡ Some o) m.options
  pub within : (number : OptionRule → ℕ) → ((o : OptionRule) → option_named o.name ≡ Some o → IsWithin o (number o)) → IsInRange (m.mode number)

each_mode : Each IsMode all_modes
each_mode = (
  record { clean = refl; plain_name = refl; own = (refl, tt); within = λ number given. given steps refl },
  (
    record { clean = refl; plain_name = refl; own = (refl, tt); within = λ number given. given ranks refl },
    (
      record { clean = refl; plain_name = refl; own = tt; within = λ number given. tt },
      (
        record { clean = refl; plain_name = refl; own = tt; within = λ number given. tt },
        (record { clean = refl; plain_name = refl; own = (refl, (refl, tt)); within = λ number given. given size refl }, tt),
      ),
    ),
  ),
)

pub mode_is : (name : Text) (m : ModeRule) → mode_named name ≡ Some m → (m.name ≡ name) × IsMode m
mode_is name m e = named_is (λ (x : ModeRule). x.name) IsMode all_modes each_mode name m e

-- ---- the options of a mode: each part is one of them exactly where no other option has a part

or_false : (b : Bool) → (b || false) ≡ b
or_false true = refl
or_false false = refl

pub or_true : (b : Bool) → (b || true) ≡ true
or_true true = refl
or_true false = refl

split : (T : Text → Bool) (n : Text) (h : OptionRule → Bool) (os : List OptionRule)
    → list_all (λ o. T o.name || not (bytes_eq n o.name || h o)) os ≡ ((T n || not (list_any (λ o. bytes_eq n o.name) os)) && list_all (λ o. T o.name || not (h o)) os)
split T n h [] = rw (or_true (T n)) refl
split T n h (o ∷ os) = go (bytes_eq n o.name) refl (list_any (λ x. bytes_eq n x.name) os) (list_all (λ x. T x.name || not (h x)) os) _ (split T n h os)
  where
    same : (t k r l a : Bool) → a ≡ ((t || not r) && l) → ((t || false) && a) ≡ ((t || false) && ((t || not k) && l))
    same true k r l a e = e
    same false k r l a e = refl

    other : (t u k r l a : Bool) → a ≡ ((t || not r) && l) → ((u || not k) && a) ≡ ((t || not r) && ((u || not k) && l))
    other true u k r l a e = ap (λ x. (u || not k) && x) e
    other false true k r l a e = e
    other false false true true l a e = refl
    other false false true false l a e = refl
    other false false false r l a e = e

    go : (b : Bool) → bytes_eq n o.name ≡ b → (r l a : Bool) → a ≡ ((T n || not r) && l)
        → ((T o.name || not (b || h o)) && a) ≡ ((T n || not (b || r)) && ((T o.name || not (h o)) && l))
    go true is r l a e =
        let here : n ≡ o.name = (bytes_eq-Decides n o.name).0 is in
        let t : T n ≡ T o.name = ap T here in
        rw t (same (T o.name) (h o) r l a (rw t at e))
    go false is r l a e = other (T n) (T o.name) (h o) r l a e

all_hold : (T : Text → Bool) (os : List OptionRule) → list_all (λ o. T o.name || true) os ≡ true
all_hold T [] = refl
all_hold T (o ∷ os) = rw (or_true (T o.name)) (all_hold T os)

is_listed : (name : Text) (os : List OptionRule) (o : OptionRule) → find (λ x. bytes_eq x.name name) os ≡ Some o → list_any (λ x. bytes_eq name x.name) os ≡ true
is_listed name [] o e = absurd (cc e)
is_listed name (x ∷ xs) o e = go (bytes_eq x.name name) refl e (is_listed name xs o)
  where
    go : (b : Bool) → bytes_eq x.name name ≡ b → cond b (Some x) (find (λ y. bytes_eq y.name name) xs) ≡ Some o
        → (find (λ y. bytes_eq y.name name) xs ≡ Some o → list_any (λ y. bytes_eq name y.name) xs ≡ true) → list_any (λ y. bytes_eq name y.name) (x ∷ xs) ≡ true
    go true is h later =
        let here : name ≡ x.name = sym ((bytes_eq-Decides x.name name).0 is) in
        rw ((bytes_eq-Decides name x.name).1 here) refl
    go false is h later = rw (later h) (or_true (bytes_eq name x.name))

abbrev pub takes : ModeRule → Text → Bool
takes m name = bytes_eq name mode_name || has_option m name

good_takes : (m : ModeRule) (p : Part) → is_good p ≡ true → takes m p.name ≡ (has_option m p.name || not (list_any (λ o. bytes_eq p.name o.name) all_options))
good_takes m p good = go (bytes_eq p.name mode_name) refl good
  where
    value : (o : Option OptionRule) → option_named p.name ≡ o → option_map_or (λ r. is_value r p.value) o false ≡ true
        → has_option m p.name ≡ (has_option m p.name || not (list_any (λ r. bytes_eq p.name r.name) all_options))
    value None named h = let bad : false ≡ true = h in absurd (cc bad)
    value (Some o) named h =
        let listed : list_any (λ r. bytes_eq p.name r.name) all_options ≡ true = is_listed p.name all_options o named in
        rw listed (sym (or_false (has_option m p.name)))

    go : (b : Bool) → bytes_eq p.name mode_name ≡ b → (b || option_map_or (λ r. is_value r p.value) (option_named p.name) false) ≡ true
        → (b || has_option m p.name) ≡ (has_option m p.name || not (list_any (λ r. bytes_eq p.name r.name) all_options))
    go true is h =
        let here : p.name ≡ mode_name = (bytes_eq-Decides p.name mode_name).0 is in
        rw here (sym (or_true (has_option m mode_name)))
    go false is h = value (option_named p.name) refl h

pub own_options : (m : ModeRule) (parts : List Part) → are_good parts ≡ true
    → list_all (λ p. takes m p.name) parts ≡ list_all (λ o. has_option m o.name || not (has_part o.name parts)) all_options
own_options m [] good = sym (all_hold (has_option m) all_options)
own_options m (p ∷ ps) good =
    let first : is_good p ≡ true = front (is_good p) (are_good ps) good in
    let later = own_options m ps (back (is_good p) (are_good ps) good) in
    ap (λ b. b && list_all (λ q. takes m q.name) ps) (good_takes m p first)
    ∙ ap (λ b. (has_option m p.name || not (list_any (λ o. bytes_eq p.name o.name) all_options)) && b) later
    ∙ sym (split (has_option m) p.name (λ o. has_part o.name ps) all_options)
  where
    front : (a b : Bool) → (a && b) ≡ true → a ≡ true
    front true b e = refl
    front false b e = let bad : false ≡ true = e in absurd (cc bad)

    back : (a b : Bool) → (a && b) ≡ true → b ≡ true
    back true b e = e
    back false b e = let bad : false ≡ true = e in absurd (cc bad)
