-- What the ranks of a job send each other at a configuration of its trace.
use Rattle.std.specs.Prelude.{ℕ, nat_lt, ℤ, pos, Bool, true, false, List, [], map, filter, Option, Some, None}
use Rattle.fd_base.specs.Places.{is_owner}
use Rattle.fd_prog.specs.Items.{LinearItem, linear_item_of}
use Rattle.fd_prog.specs.Mappings.{array_place, sight_of}
use Rattle.fd_prog.specs.Needs.{needs}
use Rattle.fd_prog.specs.Stores.{readings_of}
use Rattle.fd_prog.specs.Uses.{item_numbered}
use Rattle.exec_code.specs.Instructions as code
use Rattle.exec_code.specs.Instructions.{Instruction, FlatJob}
use Rattle.exec_code.specs.Machine.{Configuration, instruction_at}
use Rattle.message_laws.specs.Protocol.{Event, Local, Send, Recv}

-- ---- events

abbrev pub event_of : Instruction → Event
event_of (code.Assign target e) = Local
event_of (code.Read target) = Local
event_of (code.Print items) = Local
event_of code.Skip = Local
event_of (code.Install decomp number) = Local
event_of (code.Test c no_side) = Local
event_of (code.Start var first last by) = Local
event_of (code.Turn var exit) = Local
event_of (code.Jump to) = Local
event_of (code.Send x) = Send x.0
event_of (code.Recv x) = Recv x.0
event_of code.Stop = Local

abbrev pub event_where : Option Instruction → Event
event_where None = Local
event_where (Some i) = event_of i

-- with one rank there are no messages
abbrev pub event_among : Bool → Event → Event
event_among false e = Local
event_among true e = e

-- what the instruction at a configuration does with messages
abbrev pub event_at : FlatJob → Configuration → Event
event_at j c = event_among (nat_lt 1 j.ranks) (event_where (instruction_at j c.at))

-- ---- needs

-- a job's item of this number, which begins with 1
abbrev pub item_at : FlatJob → ℕ → Option LinearItem
item_at j item = item_numbered (map linear_item_of j.items) item

-- the elements that a rank needs of an item in the store of a configuration
abbrev pub needed_of : FlatJob → Configuration → ℕ → Option LinearItem → List ℕ
needed_of j c rank None = []
needed_of j c rank (Some x) = needs (sight_of j.program c.now.store c.mapping) x rank j.limit

-- those of some elements of an item's array that a rank owns
abbrev pub owned_of : Configuration → ℕ → List ℕ → Option LinearItem → List ℕ
owned_of c rank es None = []
owned_of c rank es (Some x) = filter (λ e. is_owner (array_place c.mapping x.array) e rank) es

-- the numbers of elements of an item's array
abbrev pub values_of : FlatJob → Configuration → List ℕ → Option LinearItem → List ℤ
values_of j c es None = []
values_of j c es (Some x) = map (λ e. (readings_of j.program c.now.store).element x.array None e) es

-- of the elements that one rank needs of an item, those that another owns
abbrev pub needed_from : FlatJob → Configuration → Option LinearItem → ℕ → ℕ → List ℕ
needed_from j c x rank owner = owned_of c owner (needed_of j c rank x) x

-- the item that is sent or received
abbrev pub item_of : FlatJob → Event → Option LinearItem
item_of j Local = None
item_of j (Send item) = item_at j item
item_of j (Recv item) = item_at j item

-- the Request of q to r: the elements that q needs and r owns
abbrev pub requested_at : FlatJob → ℕ → ℕ → Configuration → List ℤ
requested_at j q r c = map pos (needed_from j c (item_of j (event_at j c)) q r)

-- the Reply of q to r: the numbers of the elements that r needs and q owns
abbrev pub replied_at : FlatJob → ℕ → ℕ → Configuration → List ℤ
replied_at j q r c = values_of j c (needed_from j c (item_of j (event_at j c)) r q) (item_of j (event_at j c))
