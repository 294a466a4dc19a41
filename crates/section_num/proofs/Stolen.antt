-- The numbers that nodes take and steal, as items of the program.
use Rattle.std.proofs.Common.{◌≡◌, ◌≢◌, ℕ, zero, suc, ◌+◌, ◌-◌, ◌<◌, ◌≤◌, Bool, true, false, cond, eqb, ◌&&◌, ◌||◌, List, [], ◌∷◌, ◌++◌, length, drop, get_or, Option, Some, None, refl, sym, ap, ◌∙◌, subst, arith}
use Rattle.std.specs.Prelude.{map, option_map, slice_get, unwrap_or, All}
use Rattle.std.specs.List.{list_any, position}
use Rattle.std.proofs.Math.ListN.{get_or-map}
use Rattle.std.proofs.lemmas.Bool.{ne_eqb, eq-eqb}
use Rattle.std.proofs.Math.Seq.{drop-cons}
use Rattle.std.proofs.lemmas.List.{append-nil, append_assoc, drop_all, length-map, map-append}
use Rattle.std.proofs.lemmas.List.Elements.{All-map, All-nil, All-cons}
use Rattle.std.proofs.lemmas.List.Quantifiers.{position-Some}
use Rattle.fd_base.specs.declared.numbering.ItemNo.{ItemNo}
use Rattle.fd_prog.specs.Items.{LinearItem, Name, is_among, is_same_item, item_names}
use Rattle.fd_prog.specs.Nodes.{node_at, nodes_of}
use Rattle.fd_prog.specs.Programs.{CheckedProgram}
use Rattle.fd_prog.specs.Uses.{Use, has_name, item_numbered, items_of, name_stolen, number_in, steals, takes, uses_by_node}
use Rattle.section_num.specs.Changes.{changes_of, numbers_from, numbers_with}
use Rattle.section_num.specs.Numbers.{number_of_use}
use Rattle.section_num.specs.declared.names.Name as kept
use Rattle.section_num.specs.Views.{names_of, numbers_of}
use Rattle.section_num.proofs.Changed.{change_is}
use Rattle.section_num.proofs.Filled.{is_one}
use Rattle.section_num.proofs.NameLists.{list_any-map}

-- a number is among others
abbrev is_number : ℕ → List ℕ → Bool
is_number x ks = list_any (λ k. eqb k x) ks

-- an item is one of a row where its number is
row_has : (rows : List (List ItemNo)) (kss : List (List ℕ)) (n x : ℕ) → map numbers_of rows ≡ kss → is_one (get_or rows n []) x ≡ is_number x (get_or kss n [])
row_has rows kss n x e =
    sym (list_any-map (λ k. eqb k x) (λ (k : ItemNo). k.0) (get_or rows n []))
    ∙ (ap (is_number x) (sym (get_or-map numbers_of rows n [])) ∙ ap (λ (ys : List (List ℕ)). is_number x (get_or ys n [])) e)

-- ---- bounds

-- what holds of each number of a list that is seen otherwise
all_back : {A B : Type 0} (P : B → Type 0) (f : A → B) (xs : List A) → All P (map f xs) → All (λ x. P (f x)) xs
all_back P f xs h k d l = subst P (get_or-map f xs k d) (h k (f d) (omega (arith, l, length-map xs f)))

pub rows_within : (rows : List (List ItemNo)) (kss : List (List ℕ)) (m : ℕ) → map numbers_of rows ≡ kss → All (All (λ k. k ≤ m)) kss → All (All (λ (k : ItemNo). k.0 ≤ m)) rows
rows_within rows kss m e h k d l =
    all_back (λ j. j ≤ m) (λ (j : ItemNo). j.0) (get_or rows k d) (all_back (All (λ j. j ≤ m)) numbers_of rows (subst (λ (ys : List (List ℕ)). All (All (λ j. j ≤ m)) ys) (sym e) h) k d l)

number_by : (xs : List LinearItem) (x : LinearItem) (r : Option ℕ) → position (is_same_item x) xs ≡ r → unwrap_or (option_map suc r) 0 ≤ length xs
number_by xs x None e = omega arith
number_by xs x (Some k) e = let within = (position-Some (is_same_item x) xs k x e).0 in omega (arith, within)

-- the number of an item is at most that of the last
pub number_within : (xs : List LinearItem) (x : LinearItem) → number_in xs x ≤ length xs
number_within xs x = number_by xs x (position (is_same_item x) xs) refl

pub taken_within : (p : CheckedProgram) (uss : List (List Use)) → All (All (λ k. k ≤ length (items_of p))) (map (map (number_of_use p)) uss)
taken_within p uss =
    All-map (All (λ k. k ≤ length (items_of p))) (map (number_of_use p)) uss (λ k d l. All-map (λ j. j ≤ length (items_of p)) (number_of_use p) (get_or uss k d) (λ i e h. number_within (items_of p) (get_or (get_or uss k d) i e).item))

from_if : (P : ℕ → Type 0) (b : Bool) (k : ℕ) (ks : List ℕ) → P k → All P ks → All P (cond b (k ∷ ks) ks)
from_if P true k ks h g = All-cons P k ks h g
from_if P false k ks h g = g

from_within : (m k : ℕ) (names : List (List Name)) (name : Name) → k + length names ≤ m + 1 → All (λ j. j ≤ m) (numbers_from k names name)
from_within m k [] name h = All-nil (λ j. j ≤ m)
from_within m k (own ∷ names) name h =
    from_if (λ j. j ≤ m) (is_among own name) k (numbers_from (k + 1) names name) (omega arith) (from_within m (k + 1) names name (omega arith))

with_within : (names : List (List Name)) (change : Option Name) → All (λ j. j ≤ length names) (numbers_with names change)
with_within names None = All-nil (λ j. j ≤ length names)
with_within names (Some name) = from_within (length names) 1 names name (omega arith)

pub stolen_within : (names : List (List Name)) (changes : List (Option Name)) → All (All (λ j. j ≤ length names)) (map (numbers_with names) changes)
stolen_within names changes = All-map (All (λ j. j ≤ length names)) (numbers_with names) changes (λ k d l. with_within names (get_or changes k d))

-- ---- what nodes take

pub taken_is : (p : CheckedProgram) (rows : List (List ItemNo)) (n x : ℕ) → map numbers_of rows ≡ map (map (number_of_use p)) (uses_by_node p) → is_one (get_or rows n []) x ≡ takes p n x
taken_is p rows n x e =
    row_has rows (map (map (number_of_use p)) (uses_by_node p)) n x e
    ∙ (ap (is_number x) (get_or-map (map (number_of_use p)) (uses_by_node p) n []) ∙ list_any-map (λ k. eqb k x) (number_of_use p) (get_or (uses_by_node p) n []))

-- ---- what nodes steal

any_if : (b : Bool) (k x : ℕ) (ks : List ℕ) → is_number x (cond b (k ∷ ks) ks) ≡ ((b && eqb k x) || is_number x ks)
any_if true k x ks = refl
any_if false k x ks = refl

-- numbers from one on have none below it
none_below : (k x : ℕ) (names : List (List Name)) (name : Name) → x < k → is_number x (numbers_from k names name) ≡ false
none_below k x [] name h = refl
none_below k x (own ∷ names) name h =
    any_if (is_among own name) k x (numbers_from (k + 1) names name)
    ∙ (ap (λ b. (is_among own name && b) || is_number x (numbers_from (k + 1) names name)) (ne_eqb k x (omega arith)) ∙ neither (is_among own name) (is_number x (numbers_from (k + 1) names name)) (none_below (k + 1) x names name (omega arith)))
  where
    neither : (a b : Bool) → b ≡ false → ((a && false) || b) ≡ false
    neither true b e = e
    neither false b e = e

first_alone : (a b : Bool) → b ≡ false → ((a && true) || b) ≡ a
first_alone true b e = refl
first_alone false b e = e

other_alone : (a b : Bool) → ((a && false) || b) ≡ b
other_alone true b = refl
other_alone false b = refl

from_has : (p : CheckedProgram) (xs : List LinearItem) (name : Name) (k j x : ℕ) → k + j ≡ x → is_number x (numbers_from k (map (item_names p) xs) name) ≡ has_name p (Some name) (slice_get xs j)
from_has p [] name k j x e = refl
from_has p (y ∷ ys) name k zero x e =
    let rest = numbers_from (k + 1) (map (item_names p) ys) name in
    any_if (is_among (item_names p y) name) k x rest
    ∙ (ap (λ b. (is_among (item_names p y) name && b) || is_number x rest) (eq-eqb k x (omega arith)) ∙ first_alone (is_among (item_names p y) name) (is_number x rest) (none_below (k + 1) x (map (item_names p) ys) name (omega arith)))
from_has p (y ∷ ys) name k (suc j) x e =
    let rest = numbers_from (k + 1) (map (item_names p) ys) name in
    any_if (is_among (item_names p y) name) k x rest
    ∙ (ap (λ b. (is_among (item_names p y) name && b) || is_number x rest) (ne_eqb k x (omega arith)) ∙ (other_alone (is_among (item_names p y) name) (is_number x rest) ∙ from_has p ys name (k + 1) j x (omega arith)))

numbered_at : (xs : List LinearItem) (j : ℕ) → item_numbered xs (suc j) ≡ slice_get xs j
numbered_at xs j =
    let less : suc j - 1 ≡ j = omega arith in
    ap (λ b. cond b None (slice_get xs (suc j - 1))) (ne_eqb (suc j) 0 (omega arith)) ∙ ap (slice_get xs) less

with_has : (p : CheckedProgram) (xs : List LinearItem) (change : Option Name) (x : ℕ) → is_number x (numbers_with (map (item_names p) xs) change) ≡ has_name p change (item_numbered xs x)
with_has p xs None x = refl
with_has p xs (Some name) zero = none_below 1 0 (map (item_names p) xs) name (omega arith)
with_has p xs (Some name) (suc j) = from_has p xs name 1 j (suc j) (omega arith) ∙ ap (has_name p (Some name)) (sym (numbered_at xs j))

pub stolen_is : (p : CheckedProgram) (rows : List (List ItemNo)) (n x : ℕ) → map numbers_of rows ≡ map (numbers_with (map (item_names p) (items_of p))) (changes_of p) → is_one (get_or rows n []) x ≡ steals p n x
stolen_is p rows n x e =
    let names = map (item_names p) (items_of p) in
    row_has rows (map (numbers_with names) (changes_of p)) n x e
    ∙ (ap (is_number x) (get_or-map (numbers_with names) (changes_of p) n None)
    ∙ (with_has p (items_of p) (get_or (changes_of p) n None) x ∙ ap (λ r. has_name p r (item_numbered (items_of p) x)) (change_is p n)))

-- ---- the numbers of the items with a name, one item after the other

if_named : (b : Bool) (row : List ItemNo) (i : ℕ) (rest : List ℕ) (all : List ℕ) → numbers_of row ++ cond b ((i + 1) ∷ rest) rest ≡ all → (b ≡ true → numbers_of (row ++ (record { 0 = i + 1 }) ∷ []) ++ rest ≡ all) × (b ≡ false → numbers_of row ++ rest ≡ all)
if_named true row i rest all h =
    (λ e. ap (λ ks. ks ++ rest) (map-append (λ (n : ItemNo). n.0) row ((record { 0 = i + 1 }) ∷ [])) ∙ (append_assoc (numbers_of row) ((i + 1) ∷ []) rest ∙ h), λ e. absurd cc)
if_named false row i rest all h = (λ e. absurd cc, λ e. h)

-- what is left begins with the item at hand
pub left_more : (names : List (List kept.Name)) (row : List ItemNo) (i : ℕ) (own : List kept.Name) (name : Name) (all : List ℕ) → i < length names → own ≡ get_or names i own
    → numbers_of row ++ numbers_from (i + 1) (map names_of (drop i names)) name ≡ all
    → (is_among (names_of own) name ≡ true → numbers_of (row ++ (record { 0 = i + 1 }) ∷ []) ++ numbers_from (i + 1 + 1) (map names_of (drop (i + 1) names)) name ≡ all)
    × (is_among (names_of own) name ≡ false → numbers_of row ++ numbers_from (i + 1 + 1) (map names_of (drop (i + 1) names)) name ≡ all)
left_more names row i own name all h e g =
    let next : i + 1 ≡ suc i = omega arith in
    let split : drop i names ≡ own ∷ drop (i + 1) names = drop-cons names i own h ∙ (ap (λ x. x ∷ drop (suc i) names) (sym e) ∙ ap (λ j. own ∷ drop j names) (sym next)) in
    if_named (is_among (names_of own) name) row i (numbers_from (i + 1 + 1) (map names_of (drop (i + 1) names)) name) all
    (ap (λ xs. numbers_of row ++ numbers_from (i + 1) (map names_of xs) name) (sym split) ∙ g)

-- at the end nothing is left
pub left_none : (names : List (List kept.Name)) (row : List ItemNo) (i : ℕ) (name : Name) (all : List ℕ) → length names ≤ i → numbers_of row ++ numbers_from (i + 1) (map names_of (drop i names)) name ≡ all → numbers_of row ≡ all
left_none names row i name all h g =
    sym (append-nil (numbers_of row)) ∙ (ap (λ xs. numbers_of row ++ numbers_from (i + 1) (map names_of xs) name) (sym (drop_all i names h)) ∙ g)
