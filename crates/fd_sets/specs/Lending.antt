-- A set of a table that is lent.
use Rattle.std.specs.Prelude.{ℕ, List, slice_set}
use Rattle.std.specs.Borrow.{Lends, MutBor, Fml}
use Rattle.fd_sets.specs.Sets.{Subset}
use Rattle.fd_sets.specs.contracts.sets.ItemSet as item_set
use Rattle.fd_sets.specs.contracts.tables.SetTable as table

-- the table ends with what was left in place of its set of the node
abbrev pub LendsSet : MutBor (List Subset) → ℕ → MutBor Subset → Fml
LendsSet t n s = Lends table.the_row item_set.the_row t s (slice_set t.now n)
