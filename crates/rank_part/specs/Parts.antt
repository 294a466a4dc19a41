-- What one rank keeps of a run's store: the replicated numbers, the own elements of the distributed arrays, and what came from the other ranks.
use Rattle.std.specs.Prelude.{◌≡◌, ℕ, zero, suc, ◌<◌, ◌==◌, ℤ, pos, List, [], ◌∷◌, length, map, slice_index_or, slice_set, if◌then◌else◌, unwrap_or, Option, Some, None, IfSome, Bool, true, false, ◌⊎◌, Contains}
use Rattle.fd_base.specs.Places.{Place, Whole, Unset, Split, owner_in, local_in, count_in}
use Rattle.fd_prog.specs.Programs.{CheckedProgram}
use Rattle.fd_prog.specs.Values.{Readings}
use Rattle.fd_prog.specs.Stores.{Store, Cell, ScalarCell, ElementCell, shape_of}

-- ---- parts

-- elements that came from other ranks, and their numbers in the same order
pub record Received : Type 0 where
  pub elements : List ℕ
  pub numbers : List ℤ

-- a rank's numbers: those of the scalars; of each array all elements or the own ones by local number, by the array's place; and by an item's number, which
-- begins with 1, what came for it
pub record Part : Type 0 where
  pub rank : ℕ
  pub scalars : List ℤ
  pub locals : List (List ℤ)
  pub place : ℕ → Place
  pub received : ℕ → Received

-- the numbers of an array
abbrev pub row : List (List ℤ) → ℕ → List ℤ
row rows array = slice_index_or rows array []

-- ---- what a rank reads

-- the number of an element that a rank has by the array's place, where it has one
abbrev pub own_number : Place → ℕ → List ℤ → ℕ → Option ℤ
own_number Whole rank xs element = Some (slice_index_or xs element (pos 0))
own_number Unset rank xs element = None
own_number (Split owners) rank xs element = if owner_in owners element == rank then Some (slice_index_or xs (local_in owners element) (pos 0)) else None

-- a rank has an element by its place: the array is replicated, or the rank owns the element
abbrev pub is_own : Place → ℕ → ℕ → Bool
is_own Whole element rank = true
is_own Unset element rank = false
is_own (Split owners) element rank = owner_in owners element == rank

-- the number that came with an element; what didn't come would be 0
abbrev pub number_among : List ℕ → List ℤ → ℕ → ℤ
number_among [] ys element = pos 0
number_among (x ∷ xs) [] element = pos 0
number_among (x ∷ xs) (y ∷ ys) element = if x == element then y else number_among xs ys element

abbrev pub number_received : Received → ℕ → ℤ
number_received b element = number_among b.elements b.numbers element

-- the number that came with an element for an item. A reference without an item, whose number would be 0, reads own elements alone
abbrev pub came_number : Part → ℕ → ℕ → ℤ
came_number a zero element = pos 0
came_number a (suc x) element = number_received (a.received (suc x)) element

-- the number that a rank has of an element that isn't its own: what came for the item of the reference; an element inside a form has none
abbrev pub other_number : List ℕ → Part → Option ℕ → ℕ → ℤ
other_number sites a None element = pos 0
other_number sites a (Some site) element = came_number a (slice_index_or sites site 0) element

-- what a rank reads; `sites` has the item of each reference, and 0 where it has none
abbrev pub part_readings : CheckedProgram → List ℕ → Part → Readings
part_readings p sites a = record {
  scalar = λ k. slice_index_or a.scalars k (pos 0);
  shape = shape_of p;
  element = λ array site n. unwrap_or (own_number (a.place array) a.rank (row a.locals array) n) (other_number sites a site n);
}

-- ---- agreement with a store

-- the number of an element in a store
abbrev pub number_in : Store → ℕ → ℕ → ℤ
number_in s array n = slice_index_or (row s.arrays array) n (pos 0)

-- a rank has as many numbers of an array as its place wants, where the array has so many elements
abbrev pub HasRoom : Place → ℕ → ℕ → ℕ → Type 0
HasRoom Whole rank own size = own ≡ size
HasRoom Unset rank own size = Unit {0}
HasRoom (Split owners) rank own size = (own ≡ count_in owners rank) × (length owners ≡ size)

-- what a rank has of an array is that of a store
pub record IsPartOfRow (place : Place) (rank : ℕ) (own whole : List ℤ) : Type 0 where
  pub room : HasRoom place rank (length own) (length whole)
  pub numbers : (n : ℕ) → n < length whole → IfSome (own_number place rank own n) (λ x. x ≡ slice_index_or whole n (pos 0))

-- a rank's scalars and own elements are those of a store
pub record IsPartOf (a : Part) (s : Store) : Type 0 where
  pub scalars : a.scalars ≡ s.scalars
  pub arrays : length a.locals ≡ length s.arrays
  pub rows : (array : ℕ) → array < length s.arrays → IsPartOfRow (a.place array) a.rank (row a.locals array) (row s.arrays array)

-- what came for an item is these elements with their numbers in a store
pub record HasReceived (b : Received) (array : ℕ) (elements : List ℕ) (s : Store) : Type 0 where
  pub elements_are : b.elements ≡ elements
  pub numbers_are : b.numbers ≡ map (number_in s array) elements

-- an element came, with its number, for an item
abbrev pub CameByItem : Part → Store → ℕ → ℕ → ℕ → Type 0
CameByItem a s array zero n = ⊥
CameByItem a s array (suc x) n = let b = a.received (suc x) in (Contains b.elements n) × (b.numbers ≡ map (number_in s array) b.elements)

-- the same for the item of a reference
abbrev pub CameFor : List ℕ → Part → Store → ℕ → Option ℕ → ℕ → Type 0
CameFor sites a s array None n = ⊥
CameFor sites a s array (Some site) n = CameByItem a s array (slice_index_or sites site 0) n

-- a rank has the number of an element of a store that a reference reads: the element is its own, or it came for the item of the reference
pub record IsAtHand (sites : List ℕ) (a : Part) (s : Store) (array : ℕ) (site : Option ℕ) (n : ℕ) : Type 0 where
  pub array_inside : array < length s.arrays
  pub element_inside : n < length (row s.arrays array)
  pub found : (is_own (a.place array) n a.rank ≡ true) ⊎ CameFor sites a s array site n

-- the store has the cell
abbrev pub HasCell : Cell → Store → Type 0
HasCell (ScalarCell k) s = Unit {0}
HasCell (ElementCell array n) s = (array < length s.arrays) × (n < length (row s.arrays array))

-- ---- changes

-- an array's numbers at a rank with another number of an element, where the rank has it
abbrev pub put_by : Place → ℕ → ℕ → ℤ → List ℤ → List ℤ
put_by Whole rank element x xs = slice_set xs element x
put_by Unset rank element x xs = xs
put_by (Split owners) rank element x xs = if owner_in owners element == rank then slice_set xs (local_in owners element) x else xs

-- a rank's part with another number in a cell: all ranks put a scalar and an element of a replicated array, the owner alone one of a distributed array
abbrev pub put_part : Cell → ℤ → Part → Part
put_part (ScalarCell k) x a = record a { scalars = slice_set a.scalars k x }
put_part (ElementCell array n) x a = record a { locals = slice_set a.locals array (put_by (a.place array) a.rank n x (row a.locals array)) }
