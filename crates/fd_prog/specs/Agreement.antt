-- Two views of a run that agree on what the needs of an item are read from.
use Rattle.std.specs.Prelude.{◌≡◌, ℕ, List, ◌++◌, flat_map, None, All}
use Rattle.fd_prog.specs.Items.{LinearItem, Name, ScalarName, ArrayName, DecompName, forms_names, loop_names, executor_names}
use Rattle.fd_prog.specs.Needs.{Sight}

-- the names that the needs of an item are read from: those in its subscripts and in the bounds of its loops, and its home's
abbrev pub names_read : LinearItem → List Name
names_read x = forms_names x.subs ++ (flat_map loop_names x.loops ++ executor_names x.home)

-- both have the same of a name: a scalar's number, the numbers of an array's elements as a form reads them, or the place of a decomposition
abbrev pub HaveSame : Sight → Sight → Name → Type 0
HaveSame s t (ScalarName k) = t.readings.scalar k ≡ s.readings.scalar k
HaveSame s t (ArrayName array) = (element : ℕ) → t.readings.element array None element ≡ s.readings.element array None element
HaveSame s t (DecompName decomp) = t.decomp_place decomp ≡ s.decomp_place decomp

-- both are of one program, place the item's array alike, and have the same of all names that its needs are read from
pub record AgreeOn (s t : Sight) (x : LinearItem) : Type 0 where
  pub program : t.program ≡ s.program
  pub shapes : (array : ℕ) → t.readings.shape array ≡ s.readings.shape array
  pub place : t.array_place x.array ≡ s.array_place x.array
  pub names : All (HaveSame s t) (names_read x)
