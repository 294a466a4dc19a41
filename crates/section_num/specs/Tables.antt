-- Tables of sets of items, one set for each node, that have what is marked.
use Rattle.std.specs.Prelude.{◌≡◌, ℕ, Bool, false, List, map, get_or}
use Rattle.std.specs.FinSet as set
use Rattle.fd_sets.specs.Sets.{Subset}
use Rattle.fd_sets.specs.Tables as sets
use Rattle.fd_prog.specs.Paths.{Marks}

-- an item is in the set of a node; behind the last node there is no set
abbrev pub is_in : List Subset → ℕ → ℕ → Bool
is_in t n x = get_or (map (λ (s : Subset). set.contains s.members x) t) n false

-- a table of so many nodes and items has an item in the set of a node exactly where it is marked
pub record IsTable (nodes items : ℕ) (marks : Marks) (t : List Subset) : Type 0 where
  pub table : sets.IsTable nodes items t
  pub members : (n x : ℕ) → is_in t n x ≡ marks n x
