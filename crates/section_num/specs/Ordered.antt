-- An index of a list: the places of its elements, in an order of these.
use Rattle.std.specs.Prelude.{◌≡◌, ℕ, ◌<◌, ◌≤◌, List, length, get_or, Option, Some, None}
use Rattle.std.specs.declared.cmp.Ordering.{Ordering}
use Rattle.std.specs.declared.cmp.Ordering.TheVariants.{Less, Greater}
use Rattle.fd_prog.specs.Items.{LinearItem, linear_item_of}
use Rattle.section_num.specs.declared.firsts.Use.{Use}

-- the item of a use
abbrev pub item_in : Use → LinearItem
item_in u = linear_item_of u.item

-- how what is at a place stands to another; nothing comes first
abbrev pub stands : {A : Type 0} → (A → A → Ordering) → A → Option A → Ordering
stands cmp x None = Less
stands cmp x (Some a) = cmp a x

-- the places of a list's elements, each of them once, in the order of the elements
pub record IsOrderOf {A : Type 0} (cmp : A → A → Ordering) (places : List ℕ) (xs : List A) : Type 0 where
  pub within : (i : ℕ) → i < length places → get_or places i 0 < length xs
  pub rising : (i j : ℕ) (d : A) → i < j → j < length places → cmp (get_or xs (get_or places i 0) d) (get_or xs (get_or places j 0) d) ≡ Less
  pub complete : (k : ℕ) → k < length xs → (i : ℕ) × (i < length places) × (get_or places i 0 ≡ k)

-- how the elements on either side of a place of the index stand
pub record AreBeside {A : Type 0} (cmp : A → A → Ordering) (places : List ℕ) (xs : List A) (x : A) (at : ℕ) : Type 0 where
  pub below : (i : ℕ) → i < at → i < length places → cmp (get_or xs (get_or places i 0) x) x ≡ Less
  pub above : (i : ℕ) → at ≤ i → i < length places → cmp (get_or xs (get_or places i 0) x) x ≡ Greater
