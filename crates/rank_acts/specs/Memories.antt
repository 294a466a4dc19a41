-- One rank's memory: its place in the code, its part of the store, and what it keeps of the messages of a Send or Recv.
use Rattle.std.specs.Prelude.{ℕ, ◌+◌, ◌==◌, nat_lt, if◌then◌else◌, ℤ, pos, List, [], ◌∷◌, filter, drop, slice_index_or, Option, Some, None}
use Rattle.fd_base.specs.Places.{owner_in}
use Rattle.fd_prog.specs.declared.run.Printed.{Printed}
use Rattle.fd_prog.specs.Mappings.{Mapping, array_place}
use Rattle.fd_prog.specs.Stores.{Store}
use Rattle.exec_code.specs.Machine.{OpenLoop}
use Rattle.message_laws.specs.Behaviour.{Failure}
use Rattle.rank_part.specs.Parts.{Part, Received}

-- a rank runs, has ended, has a fault in the step of a number, or was cut off behind so many steps
pub data Status : Type 0 where
  Running : Status
  Ended : Status
  Faulted : ℕ → Failure → Status
  Cut : ℕ → Status

-- a rank's memory. The replicated numbers, the own elements by local number, the places, and how many numbers of the input were taken; what came for each item by its
-- number, which begins with 1; the position in the code, and the open DO loops, the innermost first; `phase` is the part of the instruction at hand and `peer` the other rank
-- at hand; the completed steps, the status and the printed lines. `wanted` has the needs of each item whose Send is begun or open, `asked` the elements of a Request that isn't
-- answered yet, and `came` by rank the numbers that were taken in the Recv at hand
pub record Memory : Type 0 where
  pub rank : ℕ
  pub scalars : List ℤ
  pub locals : List (List ℤ)
  pub mapping : Mapping
  pub taken : ℕ
  pub received : ℕ → Received
  pub at : ℕ
  pub loops : List OpenLoop
  pub phase : ℕ
  pub peer : ℕ
  pub steps : ℕ
  pub status : Status
  pub lines : List Printed
  pub wanted : ℕ → List ℕ
  pub asked : List ℕ
  pub came : ℕ → List ℤ

-- the rank's part of the store
abbrev pub part_of : Memory → Part
part_of m = record { rank = m.rank; scalars = m.scalars; locals = m.locals; place = array_place m.mapping; received = m.received }

-- the memory with the numbers of a part
abbrev pub with_numbers : Part → Memory → Memory
with_numbers a m = record m { scalars = a.scalars; locals = a.locals }

-- its replicated numbers as a store: the rows of replicated arrays are whole in it, and no other is read
abbrev pub own_store : Memory → Store
own_store m = record { scalars = m.scalars; arrays = m.locals; taken = m.taken }

-- a function with another value at one number
abbrev pub put_at : {A : Type 0} → (ℕ → A) → ℕ → A → ℕ → A
put_at f at value x = if x == at then value else f x

-- the least other rank from a number on, if there is one
abbrev pub peer_from : ℕ → ℕ → ℕ → Option ℕ
peer_from ranks rank from =
    let peer : ℕ = if from == rank then from + 1 else from in if nat_lt peer ranks then Some peer else None

-- ---- splitting and gathering by owners

-- those of some elements that a rank owns, in order
abbrev pub owned_by : List ℕ → ℕ → List ℕ → List ℕ
owned_by owners peer elements = filter (λ e. owner_in owners e == peer) elements

-- the numbers of elements, in order, out of those that came from the owner of each, in order
abbrev pub gathered : List ℕ → List ℕ → (ℕ → List ℤ) → List ℤ
gathered owners [] came = []
gathered owners (e ∷ es) came =
    slice_index_or (came (owner_in owners e)) 0 (pos 0) ∷ gathered owners es (put_at came (owner_in owners e) (drop 1 (came (owner_in owners e))))
