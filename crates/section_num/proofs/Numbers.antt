-- What is noted of a program's uses, by the first use of each item.
use Rattle.std.proofs.Common.{◌≡◌, ℕ, zero, suc, ◌+◌, ◌<◌, ◌≤◌, Bool, true, false, cond, not, ◌&&◌, ◌||◌, List, [], ◌∷◌, ◌++◌, length, Option, Some, None, refl, sym, ap, ◌∙◌, arith}
use Rattle.std.specs.Prelude.{map, filter, nat_lt, option_map, unwrap_or}
use Rattle.std.specs.List.{list_any, position}
use Rattle.std.proofs.lemmas.Bool.{lt-ltb}
use Rattle.std.proofs.lemmas.List.{append_assoc}
use Rattle.std.proofs.lemmas.List.Folds.{list_any-append}
use Rattle.fd_prog.specs.Items.{LinearItem, is_same_item}
use Rattle.fd_prog.specs.Uses.{Use, first_uses, number_in}
use Rattle.section_num.specs.Noting.{Noted, all_noted, noted_at, with_number, with_site}
use Rattle.section_num.proofs.Places.{place_kept, place_pushed, place_same, none_passes, one_passes}
use Rattle.section_num.proofs.SameItems.{item_same, item_self}

-- ---- items that are new

abbrev item_in : Use → LinearItem
item_in u = u.item

-- some use has this item
abbrev pub is_known : List Use → LinearItem → Bool
is_known firsts x = list_any (λ (u : Use). is_same_item u.item x) firsts

-- the first uses of the items that are not among these
abbrev pub fresh : List Use → List Use → List Use
fresh firsts us = filter (λ (u : Use). not (is_known firsts u.item)) (first_uses us)

true_false : true ≡ false → ⊥
true_false h = absurd cc

flipped : (x y : LinearItem) (a b : Bool) → is_same_item x y ≡ a → is_same_item y x ≡ b → a ≡ b
flipped x y true true h g = refl
flipped x y false false h g = refl
flipped x y true false h g =
    let same : x ≡ y = item_same x y h in
    absurd (true_false (sym (item_self x) ∙ (ap (λ z. is_same_item z x) same ∙ g)))
flipped x y false true h g =
    let same : y ≡ x = item_same y x g in
    absurd (true_false (sym (item_self y) ∙ (ap (λ z. is_same_item z y) same ∙ h)))

-- of two items either is equal to the other
pub same_back : (x y : LinearItem) → is_same_item x y ≡ is_same_item y x
same_back x y = flipped x y (is_same_item x y) (is_same_item y x) refl refl

kept_by : {A : Type 0} (a b : Bool) (x : A) (ys zs : List A) → ys ≡ zs → cond a (cond b (x ∷ ys) ys) ys ≡ cond (a && b) (x ∷ zs) zs
kept_by true true x ys zs e = ap (λ ws. x ∷ ws) e
kept_by true false x ys zs e = e
kept_by false b x ys zs e = e

filter_cond : {A : Type 0} (p : A → Bool) (a : Bool) (x : A) (xs : List A) → filter p (cond a (x ∷ xs) xs) ≡ cond a (cond (p x) (x ∷ filter p xs) (filter p xs)) (filter p xs)
filter_cond p true x xs = refl
filter_cond p false x xs = refl

-- what passes two tests passes both at once
filter_both : {A : Type 0} (p q r : A → Bool) (xs : List A) → ((x : A) → (q x && p x) ≡ r x) → filter p (filter q xs) ≡ filter r xs
filter_both p q r [] h = refl
filter_both p q r (x ∷ xs) h =
    filter_cond p (q x) x (filter q xs)
    ∙ (kept_by (q x) (p x) x (filter p (filter q xs)) (filter r xs) (filter_both p q r xs h) ∙ ap (λ b. cond b (x ∷ filter r xs) (filter r xs)) (h x))

known_by : (firsts : List Use) (x y : LinearItem) (b : Bool) → is_known firsts x ≡ true → is_same_item x y ≡ b → (not b && not (is_known firsts y)) ≡ not (is_known firsts y)
known_by firsts x y false h g = refl
known_by firsts x y true h g =
    let same : x ≡ y = item_same x y g in
    sym (ap not (sym (ap (is_known firsts) same) ∙ h))

-- a use of a known item adds nothing
pub fresh_known : (firsts : List Use) (u : Use) (us : List Use) → is_known firsts u.item ≡ true → fresh firsts (u ∷ us) ≡ fresh firsts us
fresh_known firsts u us h =
    let p : Use → Bool = λ v. not (is_known firsts v.item) in
    let q : Use → Bool = λ v. not (is_same_item u.item v.item) in
    ap (λ b. cond (not b) (u ∷ filter p (filter q (first_uses us))) (filter p (filter q (first_uses us)))) h
    ∙ filter_both p q p (first_uses us) (λ v. known_by firsts u.item v.item (is_same_item u.item v.item) h refl)

either_or : (a b : Bool) → (not a && not b) ≡ not (b || (a || false))
either_or true true = refl
either_or true false = refl
either_or false true = refl
either_or false false = refl

-- one of a new item comes first
pub fresh_new : (firsts : List Use) (u : Use) (us : List Use) → is_known firsts u.item ≡ false → fresh firsts (u ∷ us) ≡ u ∷ fresh (firsts ++ u ∷ []) us
fresh_new firsts u us h =
    let p : Use → Bool = λ v. not (is_known firsts v.item) in
    let q : Use → Bool = λ v. not (is_same_item u.item v.item) in
    let r : Use → Bool = λ v. not (is_known (firsts ++ u ∷ []) v.item) in
    ap (λ b. cond (not b) (u ∷ filter p (filter q (first_uses us))) (filter p (filter q (first_uses us)))) h
    ∙ ap (λ xs. u ∷ xs) (filter_both p q r (first_uses us) (λ v. either_or (is_same_item u.item v.item) (is_known firsts v.item) ∙ sym (ap not (list_any-append (λ (w : Use). is_same_item w.item v.item) firsts (u ∷ [])))))
