-- Finite sets of items.
use Rattle.std.specs.Prelude.{◌≡◌, ℕ, ◌+◌, ◌*◌, ◌/◌, ◌%◌, ◌^◌, ◌<◌, ◌≤◌, max, Bool, List, true, false, refl, nat_eq, length, get_or, filter}
use Rattle.std.specs.Int.{bit_at}
use Rattle.std.specs.List.{range_with_len}
use Rattle.std.specs.Ordering.{nat_cmp}
use Rattle.std.specs.Coded.{Coded, code_by, coded×, coded_ℕ}
use Rattle.std.specs.FinSet as set

-- a set of items whose numbers are `size` at most
pub record Subset : Type 0 where
  pub size : ℕ
  pub members : set.FinSet nat_cmp

-- a set is stored as the pair of its parts
abbrev pub subset_code : Coded Subset
subset_code = code_by (ℕ × set.FinSet nat_cmp) (coded× coded_ℕ (set.code coded_ℕ)) (λ s. (s.size, s.members)) (λ p. record { size = p.0; members = p.1 }) (λ _. refl)

-- an item is in a set
abbrev pub Has : Subset → ℕ → Type 0
Has s item = set.contains s.members item ≡ true

-- every member from `from` on is `item` or above it
abbrev pub IsLeast : Subset → ℕ → ℕ → Type 0
IsLeast s from item = (from ≤ item) × Has s item × ((other : ℕ) → from ≤ other → Has s other → item ≤ other)

-- ---- the words that keep a set

-- an item is in where bit item mod 64 of word item div 64 is set
unfoldable pub in_words : List ℕ → ℕ → Bool
in_words words item = nat_eq (bit_at (get_or words (item / 64) 0) (item % 64)) 1

-- the set of the items whose bits are set
unfoldable pub members_of : List ℕ → set.FinSet nat_cmp
members_of words = set.from_list (filter (in_words words) (range_with_len 0 (64 * length words)))

-- there is a bit for each item up to the size, in nine words at the least, and none past it is set
pub record IsKept (size : ℕ) (words : List ℕ) : Type 0 where
  pub small : size < 2 ^ 16
  pub count : length words ≡ max 9 (size / 64 + 1)
  pub within : (item : ℕ) → size < item → in_words words item ≡ false

-- `item` is the least from `from` on whose bit is set
abbrev pub IsLeastIn : List ℕ → ℕ → ℕ → Type 0
IsLeastIn words from item = (from ≤ item) × (in_words words item ≡ true) × ((other : ℕ) → from ≤ other → in_words words other ≡ true → item ≤ other)

-- no bit is set from `from` on
abbrev pub AreNoneFrom : List ℕ → ℕ → Type 0
AreNoneFrom words from = (other : ℕ) → from ≤ other → in_words words other ≡ false
