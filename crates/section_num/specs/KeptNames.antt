-- Names without where they lie in memory, and names that are found by an index.
use Rattle.std.specs.Prelude.{◌≡◌, Bool, List, map}
use Rattle.std.specs.List.{list_any}
use Rattle.fd_prog.specs.Items as items
use Rattle.section_num.specs.declared.names.Name.{Name}
use Rattle.section_num.specs.declared.names.Name.TheVariants as stored_name

abbrev pub name_of : Name → items.Name
name_of (stored_name.Scalar s) = items.ScalarName s
name_of (stored_name.Array a) = items.ArrayName a
name_of (stored_name.Decomp d) = items.DecompName d

abbrev pub names_of : List Name → List items.Name
names_of names = map name_of names

-- a name is among others
abbrev pub has : List Name → Name → Bool
has names q = list_any (λ n. items.is_same_name (name_of q) (name_of n)) names

-- the keys of an index are the names of a list
abbrev pub IsIndex : List Name → List Name → Type 0
IsIndex keys names = (q : Name) → has keys q ≡ has names q
