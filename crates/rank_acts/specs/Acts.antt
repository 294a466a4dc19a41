-- What a rank's next step is, as a function of its own memory alone, and what comes of it.
use Rattle.std.specs.Prelude.{ℕ, zero, suc, ◌+◌, ◌==◌, Bool, true, false, nat_lt, if◌then◌else◌, ℤ, pos, List, [], ◌∷◌, ◌++◌, map, length, replicate, ok_or, slice_get, Option, Some, None, Result, Ok, Err}
use Rattle.std.specs.List.{range_with_len}
use Rattle.fd_base.specs.declared.numbers.FaultKind.{FaultKind}
use Rattle.fd_base.specs.declared.numbers.FaultKind.TheVariants.{StepLimit, EndOfInput}
use Rattle.fd_base.specs.Numbers.{at_least_zero}
use Rattle.fd_base.specs.Places.{Place, Whole, Unset, Split, count_in, owners_in}
use Rattle.fd_prog.specs.Expressions.{Expression}
use Rattle.fd_prog.specs.Items.{LinearItem}
use Rattle.fd_prog.specs.Mappings.{Mapping, array_place, decomp_place, installed}
use Rattle.fd_prog.specs.Needs.{Sight, needs}
use Rattle.fd_prog.specs.Outcomes.{and_then}
use Rattle.fd_prog.specs.Sequence.{Bounds, bounds_of, line_text}
use Rattle.fd_prog.specs.Statements.{Target, PrintItem}
use Rattle.fd_prog.specs.Stores.{Store, Cell, ScalarCell, ElementCell, cell_of}
use Rattle.fd_prog.specs.Values.{Readings, value_of, truth_of}
use Rattle.mailbox_book.specs.declared.message.Message.{Message}
use Rattle.mailbox_book.specs.declared.message.MsgKind.TheVariants.{Request, Reply}
use Rattle.mailbox_book.specs.declared.message.Tag.{Tag}
use Rattle.mailbox_book.specs.Boxes.{message}
use Rattle.exec_code.specs.Instructions.{Instruction, Assign, Read, Print, Skip, Install, Test, Start, Turn, Jump, Send, Recv, Stop, FlatJob}
use Rattle.exec_code.specs.Machine.{OpenLoop, choice, gained_after, instruction_at, line_at}
use Rattle.message_laws.specs.Outcomes.{failure}
use Rattle.message_laws.specs.Protocol.{tag_for}
use Rattle.rank_behaviour.specs.Exchanged.{item_at}
use Rattle.rank_part.specs.Parts.{Part, is_own, part_readings, put_part, row}
use Rattle.rank_acts.specs.Memories.{Memory, Status, Running, Ended, Faulted, Cut, part_of, with_numbers, own_store, put_at, peer_from, owned_by, gathered}

-- ---- acts

-- a step: none where the rank isn't running; a change of its own memory; a fault, which stops the rank and is told to the others by the completed steps; a message posted to a rank, with
-- the memory behind it; or a message of a tag taken from a rank, with the memory behind it as a function of the numbers that came
pub data Act : Type 0 where
  Rests : Act
  Changes : Memory → Act
  Fails : Memory → Act
  Posts : ℕ → Message → Memory → Act
  Takes : ℕ → Tag → (List ℤ → Memory) → Act

-- the item of each reference by its number, 0 where it has none
abbrev pub sites_of : FlatJob → List ℕ
sites_of j = map (λ x. x.0) j.of_site

-- what a rank reads: its replicated numbers, its own elements, and what came for the item of a reference
abbrev pub readings_at : FlatJob → Memory → Readings
readings_at j m = part_readings j.program (sites_of j) (part_of m)

-- ---- steps of the run

-- at a position of the code, at the first part of the instruction there
abbrev pub placed : ℕ → Memory → Memory
placed at m = record m { at = at; phase = 0; peer = 0 }

abbrev pub behind : Memory → Memory
behind m = placed (m.at + 1) m

abbrev pub counted : Memory → Memory
counted m = record m { steps = m.steps + 1 }

-- a fault is of the step behind those completed
abbrev pub faulted : FlatJob → FaultKind → Memory → Memory
faulted j kind m = record m { status = Faulted (m.steps + 1) (failure (line_at j m.at) kind) }

-- what comes of a step of the run
abbrev pub act_by : FlatJob → Memory → Result Memory FaultKind → Act
act_by j m (Ok next) = Changes (counted next)
act_by j m (Err kind) = Fails (faulted j kind m)

-- the same where the limit allows it
abbrev pub within_limit : FlatJob → Memory → Result Memory FaultKind → Act
within_limit j m r = if nat_lt m.steps j.limit then act_by j m r else Fails (faulted j StepLimit m)

-- ---- assignments and READs

-- a rank has a cell: every rank a replicated one, and the owner an element of a distributed array
abbrev pub has_cell : Part → Cell → Bool
has_cell a (ScalarCell k) = true
has_cell a (ElementCell array n) = is_own (a.place array) n a.rank

-- the memory with another number in a cell, as far as the rank has it
abbrev pub put_number : Cell → ℤ → Memory → Memory
put_number cell x m = with_numbers (put_part cell x (part_of m)) m

-- all ranks value a target's subscripts and their bounds; who has the cell values the right side and puts the number there
abbrev pub assigned_at : FlatJob → Memory → Target → Expression → Result Memory FaultKind
assigned_at j m target e =
    and_then (cell_of (readings_at j m) target)
    (λ cell. if has_cell (part_of m) cell then and_then (value_of (readings_at j m) e) (λ x. Ok (put_number cell x m)) else Ok m)

-- a READ moves the cursor of every rank; who has the cell puts the number there
abbrev pub read_at : FlatJob → Memory → Target → Result Memory FaultKind
read_at j m target =
    and_then (cell_of (readings_at j m) target) (λ cell. and_then (ok_or (slice_get j.input m.taken) EndOfInput) (λ x. Ok (put_number cell x (record m { taken = m.taken + 1 }))))

-- ---- PRINT

-- rank 0 alone values and prints
abbrev pub printed_at : FlatJob → Memory → List PrintItem → Result Memory FaultKind
printed_at j m items =
    if m.rank == 0 then and_then (line_text (readings_at j m) items) (λ text. Ok (record m { lines = m.lines ++ record { step = m.steps + 1; text = text } ∷ [] })) else Ok m

-- ---- executed DISTRIBUTEs

-- an array that gets its owners has only zeros, so many as the rank owns; any other keeps its numbers
abbrev pub laid : ℕ → Place → Place → List ℤ → List ℤ
laid rank Unset (Split owners) own = replicate (count_in owners rank) (pos 0)
laid rank Unset Whole own = own
laid rank Unset Unset own = own
laid rank Whole new own = own
laid rank (Split owners) new own = own

abbrev pub laid_rows : Memory → Mapping → List (List ℤ)
laid_rows m new = map (λ array. laid m.rank (array_place m.mapping array) (array_place new array) (row m.locals array)) (range_with_len 0 (length m.locals))

-- the new mapping comes from the rank's own copy of the map, which is replicated
abbrev pub installed_at : FlatJob → Memory → ℕ → ℕ → Memory
installed_at j m decomp number =
    let new : Mapping = installed j.program j.ranks decomp number (own_store m) m.mapping in record m { mapping = new; locals = laid_rows m new }

-- ---- loops

abbrev pub started_at : FlatJob → Memory → ℕ → Expression → Expression → Expression → Result Memory FaultKind
started_at j m var first last by =
    and_then (bounds_of (readings_at j m) first last by)
    (λ (b : Bounds). Ok (record (put_number (ScalarCell var) b.first m) { loops = record { left = b.count; by = b.by; begun = false } ∷ m.loops }))

-- behind a test: where an iteration is left, it begins; where none is left, the loop is no longer open
abbrev pub turned_to : ℕ → ℕ → ℤ → List OpenLoop → Memory → Memory
turned_to exit zero by outer m = record (placed exit m) { loops = outer }
turned_to exit (suc left) by outer m = record (behind m) { loops = record { left = left; by = by; begun = true } ∷ outer }

-- a test of a DO is one of its first, or the variable gains the step before it
abbrev pub turned_at : FlatJob → Memory → ℕ → ℕ → List OpenLoop → Act
turned_at j m var exit [] = Rests
turned_at j m var exit (l ∷ outer) =
    within_limit j m (and_then (gained_after l.begun var l.by (own_store m)) (λ (s : Store). Ok (turned_to exit l.left l.by outer (record m { scalars = s.scalars }))))

-- ---- Send and Recv

-- what a rank's needs are read from
abbrev pub sight_at : FlatJob → Memory → Sight
sight_at j m = record { program = j.program; readings = readings_at j m; array_place = array_place m.mapping; decomp_place = decomp_place m.mapping }

abbrev pub needs_of : FlatJob → Memory → Option LinearItem → List ℕ
needs_of j m None = []
needs_of j m (Some x) = needs (sight_at j m) x m.rank j.limit

-- the owners of the elements of an item's array
abbrev pub owners_of : Memory → Option LinearItem → List ℕ
owners_of m None = []
owners_of m (Some x) = owners_in (array_place m.mapping x.array)

-- the numbers that a rank has of elements of an item's array
abbrev pub numbers_of : FlatJob → Memory → Option LinearItem → List ℕ → List ℤ
numbers_of j m None elements = []
numbers_of j m (Some x) elements = map ((readings_at j m).element x.array None) elements

abbrev pub first_peer : FlatJob → Memory → Option ℕ
first_peer j m = peer_from j.ranks m.rank 0

abbrev pub next_peer : FlatJob → Memory → Option ℕ
next_peer j m = peer_from j.ranks m.rank (m.peer + 1)

-- at a part of an instruction with another rank, or, where there is none, as told
abbrev pub on_to : Option ℕ → ℕ → Memory → Memory → Memory
on_to (Some peer) phase otherwise m = record m { phase = phase; peer = peer }
on_to None phase otherwise m = otherwise

-- the rank keeps its needs of an item
abbrev pub wanting : FlatJob → ℕ → Memory → Memory
wanting j x m = record m { wanted = put_at m.wanted x (needs_of j m (item_at j x)) }

-- part 1: a Request to each other rank, with those needs that it owns; then part 2 with the first
abbrev pub requests_to : FlatJob → ℕ → Memory → Act
requests_to j x m =
    Posts m.peer (message (tag_for Request x) (map pos (owned_by (owners_of m (item_at j x)) m.peer (m.wanted x)))) (on_to (next_peer j m) 1 (on_to (first_peer j m) 2 (behind m) m) m)

-- part 0: a Send begins with the needs and the first Request, in one step; with one rank it is over
abbrev pub begins_send : FlatJob → ℕ → Option ℕ → Memory → Act
begins_send j x None m = Changes (behind (wanting j x m))
begins_send j x (Some peer) m = requests_to j x (record (wanting j x m) { phase = 1; peer = peer })

-- part 2: the Request of another rank; part 3: the Reply to it, with the numbers; then part 2 with the next
abbrev pub takes_request : ℕ → Memory → Act
takes_request x m = Takes m.peer (tag_for Request x) (λ numbers. record m { phase = 3; asked = map at_least_zero numbers })

abbrev pub replies_to : FlatJob → ℕ → Memory → Act
replies_to j x m =
    let answered : Memory = record m { asked = [] } in Posts m.peer (message (tag_for Reply x) (numbers_of j m (item_at j x) m.asked)) (on_to (next_peer j m) 2 (behind answered) answered)

-- behind the last Reply what came is the item's buffer
abbrev pub received_all : FlatJob → ℕ → Memory → Memory
received_all j x m =
    behind (record m {
      received = put_at m.received x (record { elements = m.wanted x; numbers = gathered (owners_of m (item_at j x)) (m.wanted x) m.came });
      wanted = put_at m.wanted x [];
      came = λ rank. [];
    })

-- part 1: the Reply of each other rank
abbrev pub takes_reply : FlatJob → ℕ → Memory → Act
takes_reply j x m =
    Takes m.peer (tag_for Reply x) (λ numbers. let filled : Memory = record m { came = put_at m.came m.peer numbers } in on_to (next_peer j m) 1 (received_all j x filled) filled)

-- part 0: a Recv begins with the first Reply; with one rank it is over
abbrev pub begins_recv : FlatJob → ℕ → Option ℕ → Memory → Act
begins_recv j x None m = Changes (received_all j x m)
begins_recv j x (Some peer) m = takes_reply j x (record m { phase = 1; peer = peer })

abbrev pub send_act : FlatJob → ℕ → ℕ → Memory → Act
send_act j x phase m =
    if phase == 0 then begins_send j x (first_peer j m) m else if phase == 1 then requests_to j x m else if phase == 2 then takes_request x m else replies_to j x m

abbrev pub recv_act : FlatJob → ℕ → ℕ → Memory → Act
recv_act j x phase m = if phase == 0 then begins_recv j x (first_peer j m) m else takes_reply j x m

-- ---- a step

abbrev pub instruction_act : FlatJob → Memory → Instruction → Act
instruction_act j m (Assign target e) = within_limit j m (and_then (assigned_at j m target e) (λ n. Ok (behind n)))
instruction_act j m (Read target) = within_limit j m (and_then (read_at j m target) (λ n. Ok (behind n)))
instruction_act j m (Print items) = within_limit j m (and_then (printed_at j m items) (λ n. Ok (behind n)))
instruction_act j m Skip = within_limit j m (Ok (behind m))
instruction_act j m (Install decomp number) = within_limit j m (Ok (behind (installed_at j m decomp number)))
instruction_act j m (Test condition no_side) = within_limit j m (and_then (truth_of (readings_at j m) condition) (λ b. Ok (placed (choice b (m.at + 1) no_side) m)))
instruction_act j m (Start var first last by) = within_limit j m (and_then (started_at j m var first last by) (λ n. Ok (behind n)))
instruction_act j m (Turn var exit) = turned_at j m var exit m.loops
instruction_act j m (Jump to) = Changes (placed to m)
instruction_act j m (Send x) = send_act j x.0 m.phase m
instruction_act j m (Recv x) = recv_act j x.0 m.phase m
instruction_act j m Stop = Changes (record m { status = Ended })

abbrev pub act_where : FlatJob → Memory → Option Instruction → Act
act_where j m None = Rests
act_where j m (Some i) = instruction_act j m i

abbrev pub act_while : Status → Act → Act
act_while Running a = a
act_while Ended a = Rests
act_while (Faulted step f) a = Rests
act_while (Cut steps) a = Rests

-- what a rank does next
abbrev pub act : FlatJob → Memory → Act
act j m = act_while m.status (act_where j m (instruction_at j m.at))

-- ---- what comes of a step

-- the rank did nothing; it waits for a message of a tag from a rank; or it has another memory
pub data Ending : Type 0 where
  Done : Ending
  Waits : ℕ → Tag → Ending
  Moved : Memory → Ending

-- a take that finds no message: the rank is cut off where the stop word is below its completed steps, and waits otherwise
abbrev pub missed : Bool → ℕ → Tag → Memory → Ending
missed true from tag m = Moved (record m { status = Cut m.steps })
missed false from tag m = Waits from tag

abbrev pub taken_by : Option (List ℤ) → Bool → ℕ → Tag → (List ℤ → Memory) → Memory → Ending
taken_by (Some numbers) below from tag next m = Moved (next numbers)
taken_by None below from tag next m = missed below from tag m

-- what comes of an act, where its message is there or not and the stop word is a number
abbrev pub ending : Memory → Act → Option (List ℤ) → ℕ → Ending
ending m Rests found stop = Done
ending m (Changes next) found stop = Moved next
ending m (Fails next) found stop = Moved next
ending m (Posts to text next) found stop = Moved next
ending m (Takes from tag next) found stop = taken_by found (nat_lt stop m.steps) from tag next m
