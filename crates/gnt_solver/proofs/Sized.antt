-- The size of a table that has a set.
use Rattle.std.proofs.Common.{◌≡◌, ℕ, ◌<◌, List, sym, ap₂, subst}
use Rattle.fd_sets.specs.Sets.{Subset}
use Rattle.gnt_solver.specs.declared.tables.Size.{Size}
use Rattle.gnt_solver.specs.Columns.{size_of, IsTable}

abbrev with_size : ℕ → ℕ → Size
with_size n i = record { nodes = n; items = i }

pub size_is : (size : Size) (t : List Subset) → IsTable size t → 0 < size.nodes → size_of t ≡ size
size_is size t h l = ap₂ with_size h.long (h.sizes 0 l)

-- tables of one size are of the size of either
pub table_as : (size : Size) (t u : List Subset) → IsTable size t → IsTable size u → 0 < size.nodes → IsTable (size_of t) u
table_as size t u h k l = subst (λ (s : Size). IsTable s u) (sym (size_is size t h l)) k
