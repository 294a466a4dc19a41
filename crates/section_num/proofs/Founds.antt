-- First uses are found by the order of their items.
use Rattle.std.proofs.Common.{◌≡◌, ℕ, ◌<◌, List, [], ◌∷◌, ◌++◌, length, subst, get_or, Option, Some, None, Result, Ok, Err, refl, sym, ap, ◌∙◌}
use Rattle.std.specs.Prelude.{◌≤◌, map, slice_get}
use Rattle.std.specs.List.{insert, position}
use Rattle.std.proofs.lemmas.List.{length-map, map-append}
use Rattle.std.specs.List.Sorted.{IsBinarySearchResult}
use Rattle.std.specs.Ordering.{is_eq}
use Rattle.fd_prog.specs.Items.{LinearItem, is_same_item, item_order}
use Rattle.fd_prog.specs.Uses as uses
use Rattle.section_num.specs.Ordered.{AreBeside, IsOrderOf, item_in, stands}
use Rattle.section_num.specs.Views.{use_of}
use Rattle.section_num.specs.declared.firsts.Use.{Use}
use Rattle.section_num.proofs.Indexes.{beside, found_place, inserted, none_place, rises}
use Rattle.section_num.proofs.ItemOrders.{item_order_total}
use Rattle.section_num.proofs.Places.{place_same}

-- the place of an item among uses and among their items
places_are : (xs : List Use) (x : LinearItem) → position (λ (u : uses.Use). is_same_item u.item x) (map use_of xs) ≡ position (λ a. is_eq (item_order a x)) (map item_in xs)
places_are xs x =
    sym (place_same (λ (u : Use). is_same_item (item_in u) x) (λ (u : uses.Use). is_same_item u.item x) use_of xs (λ u. refl))
    ∙ place_same (λ (u : Use). is_same_item (item_in u) x) (λ a. is_eq (item_order a x)) item_in xs (λ u. refl)

-- how the one at a place stands to an item
abbrev pub Searched : List Use → List ℕ → LinearItem → Result ℕ ℕ → Type 0
Searched xs order x r = IsBinarySearchResult (λ k. stands item_order x (slice_get (map item_in xs) k)) order r

-- where one is equal, it is the first
pub is_found : (xs : List Use) (order : List ℕ) → IsOrderOf item_order order (map item_in xs) → (x : LinearItem) (at : ℕ) → at < length order → Searched xs order x (Ok at)
    → Some (get_or order at 0) ≡ position (λ (u : uses.Use). is_same_item u.item x) (map use_of xs)
is_found xs order is x at h e = sym (places_are xs x ∙ found_place item_order_total order (map item_in xs) is x at h e)

-- where none is, the item belongs between those below it and those above it
pub is_beside : (xs : List Use) (order : List ℕ) → IsOrderOf item_order order (map item_in xs) → (x : LinearItem) (at : ℕ) → Searched xs order x (Err at) → AreBeside item_order order (map item_in xs) x at
is_beside xs order is x at e = beside order (map item_in xs) is x at (e (rises item_order_total order (map item_in xs) is x))

pub is_missing : (xs : List Use) (order : List ℕ) → IsOrderOf item_order order (map item_in xs) → (x : LinearItem) (at : ℕ) → Searched xs order x (Err at)
    → None ≡ position (λ (u : uses.Use). is_same_item u.item x) (map use_of xs)
is_missing xs order is x at e = sym (places_are xs x ∙ none_place order (map item_in xs) is x at (is_beside xs order is x at e))

-- the index with a new item
pub is_pushed : (xs : List Use) (order : List ℕ) → IsOrderOf item_order order (map item_in xs) → (u : Use) (at place : ℕ) (ys : List Use) (after : List ℕ) → at ≤ length order → AreBeside item_order order (map item_in xs) (item_in u) at
    → place ≡ length xs → ys ≡ xs ++ u ∷ [] → after ≡ insert order at place → IsOrderOf item_order after (map item_in ys)
is_pushed xs order is u at place ys after h sides e f g =
    let made = inserted item_order_total order (map item_in xs) is (item_in u) at h sides in
    let places : insert order at (length (map item_in xs)) ≡ after = ap (insert order at) (length-map xs item_in ∙ sym e) ∙ sym g in
    let items : map item_in xs ++ item_in u ∷ [] ≡ map item_in ys = sym (map-append item_in xs (u ∷ [])) ∙ ap (map item_in) (sym f) in
    subst (λ (o : List ℕ). IsOrderOf item_order o (map item_in ys)) places (subst (IsOrderOf item_order (insert order at (length (map item_in xs)))) items made)
