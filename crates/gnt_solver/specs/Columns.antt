-- Tables of sets, seen for one item: whether it is in the set of each node.
use Rattle.std.specs.Prelude.{ℕ, Bool, false, List, map, length, get_or}
use Rattle.std.specs.FinSet as set
use Rattle.fd_sets.specs.Sets.{Subset}
use Rattle.fd_sets.specs.Tables as sets
use Rattle.fd_sets.specs.Tables.{no_items}
use Rattle.fd_prog.specs.Paths.{Uses}
use Rattle.gnt_solver.specs.declared.tables.Size.{Size}

-- an item is in a set
abbrev pub held : Subset → ℕ → Bool
held s x = set.contains s.members x

-- whether an item is in the set of each node
abbrev pub col : List Subset → ℕ → List Bool
col t x = map (λ (s : Subset). held s x) t

-- the mark of a node; none behind the last
abbrev pub at : List Bool → ℕ → Bool
at xs n = get_or xs n false

-- a table has one set for each node, all of one size
abbrev pub IsTable : Size → List Subset → Type 0
IsTable size t = sets.IsTable size.nodes size.items t

-- what the tables of takes and steals say of each node and item
abbrev pub uses_of : List Subset → List Subset → Uses
uses_of take steal = record { take = λ n x. at (col take x) n; steal = λ n x. at (col steal x) n }

-- how many nodes a table has sets for, and the size of the first of these
abbrev pub size_of : List Subset → Size
size_of t = record { nodes = length t; items = (get_or t 0 no_items).size }
