-- Tables of sets of items, one set for each node.
use Rattle.std.specs.Prelude.{◌≡◌, ℕ, ◌<◌, List, length, get_or}
use Rattle.std.specs.FinSet as set
use Rattle.fd_sets.specs.Sets.{Subset}

-- the empty set without room for items, which stands for the set of a node behind the last
abbrev pub no_items : Subset
no_items = record { size = 0; members = set.empty }

-- a table has one set for each of so many nodes, each with room for so many items
pub record IsTable (nodes items : ℕ) (t : List Subset) : Type 0 where
  pub long : length t ≡ nodes
  pub sizes : (n : ℕ) → n < nodes → (get_or t n no_items).size ≡ items
