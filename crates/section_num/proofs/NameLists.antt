-- Tests and filters of names, where the names are seen without how they are kept.
use Rattle.std.proofs.Common.{◌≡◌, Bool, true, false, cond, eqb, arith, List, [], ◌∷◌, ◌++◌, ◌||◌, ◌&&◌, refl, sym, ap, ◌∙◌}
use Rattle.std.specs.Prelude.{ℕ, map, filter, not}
use Rattle.std.specs.List.{list_any}
use Rattle.std.proofs.lemmas.Bool.Decides.{nat_tests}
use Rattle.fd_prog.specs.Programs.{CheckedProgram}
use Rattle.fd_prog.specs.Items as items
use Rattle.fd_prog.specs.Items.{ScalarName, is_among, is_distributed, is_same_name, may_widen, without}
use Rattle.section_num.specs.declared.names.Name.{Name}
use Rattle.section_num.specs.declared.around.Loop.{Loop}
use Rattle.section_num.specs.Views.{counted_of, name_of, names_of}

pub list_any-map : {A B : Type 0} (f : B → Bool) (g : A → B) (xs : List A) → list_any f (map g xs) ≡ list_any (λ x. f (g x)) xs
list_any-map f g [] = refl
list_any-map f g (x ∷ xs) = ap (λ b. f (g x) || b) (list_any-map f g xs)

map-kept : {A B : Type 0} (b : Bool) (g : A → B) (x : A) (xs : List A) (ys : List B) → map g xs ≡ ys → map g (cond b (x ∷ xs) xs) ≡ cond b (g x ∷ ys) ys
map-kept true g x xs ys e = ap (λ zs. g x ∷ zs) e
map-kept false g x xs ys e = e

pub map-filter : {A B : Type 0} (f : B → Bool) (g : A → B) (xs : List A) → map g (filter (λ x. f (g x)) xs) ≡ filter f (map g xs)
map-filter f g [] = refl
map-filter {A} {B} f g (x ∷ xs) = map-kept (f (g x)) g x (filter (λ (y : A). f (g y)) xs) (filter f (map g xs)) (map-filter f g xs)

-- a name is among others
pub any_name : (name : Name) (names : List Name) → list_any (λ n. is_same_name (name_of name) (name_of n)) names ≡ is_among (names_of names) (name_of name)
any_name name names = sym (list_any-map (is_same_name (name_of name)) name_of names)

pub any-each : {A : Type 0} (f g : A → Bool) (xs : List A) → ((x : A) → f x ≡ g x) → list_any f xs ≡ list_any g xs
any-each f g [] h = refl
any-each f g (x ∷ xs) h = ap (λ b. b || list_any f xs) (h x) ∙ ap (λ b. g x || b) (any-each f g xs h)

-- some name is among others
pub any_names : (names some : List Name) → list_any (λ s. list_any (λ n. is_same_name (name_of s) (name_of n)) names) some ≡ list_any (is_among (names_of names)) (names_of some)
any_names names some =
    any-each (λ s. list_any (λ n. is_same_name (name_of s) (name_of n)) names) (λ s. is_among (names_of names) (name_of s)) some (λ s. any_name s names)
    ∙ sym (list_any-map (is_among (names_of names)) name_of some)

-- the names but for a variable
pub others_are : (var : ℕ) (names : List Name) → names_of (filter (λ n. not (is_same_name (name_of n) (ScalarName var))) names) ≡ without var (names_of names)
others_are var names = map-filter (λ n. not (is_same_name n (ScalarName var))) name_of names

-- where one part of three fails, all do
pub stopped : (d e r : Bool) → d ≡ e → d ≡ true → not d ≡ (not e && r)
stopped d e r same h = ap not h ∙ sym (ap (λ b. not b && r) (sym same ∙ h))

-- where it doesn't, the others decide
pub passed : (d e r x : Bool) → d ≡ e → d ≡ false → x ≡ r → x ≡ (not e && r)
passed d e r x same h k = k ∙ sym (ap (λ b. not b && r) (sym same ∙ h))

-- the three tests of widening, on names as they are kept
pub tests_are : (p : CheckedProgram) (names : List items.Name) (l : Loop) (all bounds : List Name) → names_of all ≡ names ++ names_of bounds
    → may_widen p names (counted_of l) (names_of bounds) ≡ (not (list_any (λ n. is_distributed p (name_of n)) bounds)
    && (not (list_any (λ n. is_same_name (ScalarName l.var) (name_of n)) bounds) && not (list_any (λ s. list_any (λ n. is_same_name (name_of s) (name_of n)) all) l.sets.now)))
tests_are p names l all bounds e =
    rw (list_any-map (is_distributed p) name_of bounds, list_any-map (is_same_name (ScalarName l.var)) name_of bounds, any_names all l.sets.now, e)

-- ---- names among names, either way round

none_any : {A B : Type 0} (r : A → B → Bool) (xs : List A) → list_any (λ x. list_any (r x) []) xs ≡ false
none_any r [] = refl
none_any r (x ∷ xs) = none_any r xs

or_middle : (a b c d : Bool) → ((a || b) || (c || d)) ≡ ((a || c) || (b || d))
or_middle true b c d = refl
or_middle false true true d = refl
or_middle false true false d = refl
or_middle false false c d = refl

-- some passes one test or the other
pub any_or : {A : Type 0} (f g : A → Bool) (xs : List A) → list_any (λ x. f x || g x) xs ≡ (list_any f xs || list_any g xs)
any_or f g [] = refl
any_or f g (x ∷ xs) = ap (λ b. (f x || g x) || b) (any_or f g xs) ∙ or_middle (f x) (g x) (list_any f xs) (list_any g xs)

any_turned : {A B : Type 0} (r : A → B → Bool) (xs : List A) (ys : List B) → list_any (λ x. list_any (r x) ys) xs ≡ list_any (λ y. list_any (λ x. r x y) xs) ys
any_turned r xs [] = none_any r xs
any_turned {A} r xs (y ∷ ys) = any_or (λ (x : A). r x y) (λ x. list_any (r x) ys) xs ∙ ap (λ b. list_any (λ x. r x y) xs || b) (any_turned r xs ys)

eqb_back : (a b : ℕ) → eqb a b ≡ eqb b a
eqb_back a b = grind (arith, nat_tests)

name_back : (m n : items.Name) → is_same_name m n ≡ is_same_name n m
name_back (items.ScalarName a) (items.ScalarName b) = eqb_back a b
name_back (items.ArrayName a) (items.ArrayName b) = eqb_back a b
name_back (items.DecompName a) (items.DecompName b) = eqb_back a b
name_back (items.ScalarName a) (items.ArrayName b) = refl
name_back (items.ScalarName a) (items.DecompName b) = refl
name_back (items.ArrayName a) (items.ScalarName b) = refl
name_back (items.ArrayName a) (items.DecompName b) = refl
name_back (items.DecompName a) (items.ScalarName b) = refl
name_back (items.DecompName a) (items.ArrayName b) = refl

-- some name of the first is among the second exactly where some name of the second is among the first
pub swapped : (names sets : List Name) → list_any (λ n. list_any (λ s. is_same_name (name_of n) (name_of s)) sets) names ≡ list_any (λ s. list_any (λ n. is_same_name (name_of s) (name_of n)) names) sets
swapped names sets =
    any_turned (λ n s. is_same_name (name_of n) (name_of s)) names sets
    ∙ any-each (λ s. list_any (λ n. is_same_name (name_of n) (name_of s)) names) (λ s. list_any (λ n. is_same_name (name_of s) (name_of n)) names) sets
    (λ s. any-each (λ n. is_same_name (name_of n) (name_of s)) (λ n. is_same_name (name_of s) (name_of n)) names (λ n. name_back (name_of n) (name_of s)))
