-- The store that the numbers in memory stand for.
use Rattle.std.specs.Prelude.{Result, Ok, Err}
use Rattle.fd_prog.specs.Stores as stores
use Rattle.fd_prog.specs.Sequence as sequence
use Rattle.seq_meaning.specs.declared.simple.Bounds.{Bounds}
use Rattle.seq_meaning.specs.declared.store.Store.{Store}
use Rattle.seq_meaning.specs.declared.store.Cell.{Cell}
use Rattle.seq_meaning.specs.declared.store.Cell.TheVariants as kept

abbrev pub store_of : Store → stores.Store
store_of s = record { scalars = s.scalars.items; arrays = s.arrays.items; taken = s.taken }

abbrev pub cell_in : Cell → stores.Cell
cell_in (kept.Scalar s) = stores.ScalarCell s
cell_in (kept.Element array n) = stores.ElementCell array n

-- what was found, seen so
abbrev pub map_ok : {A B E : Type 0} → (A → B) → Result A E → Result B E
map_ok view (Ok x) = Ok (view x)
map_ok view (Err e) = Err e

abbrev pub bounds_in : Bounds → sequence.Bounds
bounds_in b = record { first = b.first; by = b.by; count = b.count }
