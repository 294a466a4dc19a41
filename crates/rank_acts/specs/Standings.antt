-- Where a rank stands in the trace of its job.
use Rattle.std.specs.Prelude.{◌≡◌, ℕ, ◌+◌, ◌-◌, ◌*◌, ◌<◌, ◌≤◌, ◌==◌, nat_lt, if◌then◌else◌, List, length, Option, Some, None}
use Rattle.fd_prog.specs.Items.{LinearItem}
use Rattle.fd_prog.specs.Paths.{Happening, Sent, Received as Came, happenings}
use Rattle.fd_prog.specs.PathConditions.{latest, is_gain_or_loss, is_operation}
use Rattle.exec_code.specs.Instructions.{FlatJob}
use Rattle.exec_code.specs.Machine.{Configuration}
use Rattle.exec_code.specs.Passing.{marks_of}
use Rattle.exec_code.specs.Trails.{events_in}
use Rattle.message_laws.specs.Behaviour.{printed}
use Rattle.message_laws.specs.Protocol.{Event, Local, Send, Recv}
use Rattle.message_laws.specs.Traces.{nth, front, way}
use Rattle.rank_behaviour.specs.Exchanged.{event_at, item_at, needed_of, needed_from, replied_at}
use Rattle.rank_behaviour.specs.Jobs.{configurations, trace_of, behaviour_of_job}
use Rattle.rank_part.specs.Parts.{IsPartOf, HasReceived}
use Rattle.rank_acts.specs.Memories.{Memory, part_of}

-- ---- items along the trace

-- what happened to an item before a configuration
abbrev pub happened_before : FlatJob → ℕ → ℕ → List Happening
happened_before j n x = happenings x (events_in (marks_of j (front n (configurations j))))

-- an item came, and wasn't stolen since
abbrev pub HasCome : FlatJob → ℕ → ℕ → Type 0
HasCome j n x = latest is_gain_or_loss (happened_before j n x) ≡ Some Came

-- an item was sent, and didn't come since
abbrev pub IsSentFor : FlatJob → ℕ → ℕ → Type 0
IsSentFor j n x = latest is_operation (happened_before j n x) ≡ Some Sent

-- ---- the place inside a configuration

-- how many other ranks stand before a peer
abbrev pub peers_before : ℕ → ℕ → ℕ
peers_before rank peer = if nat_lt rank peer then peer - 1 else peer

-- how many message steps of a Send a rank has made, by the part of it and the peer at hand: a Request to each other rank, and then for each its Request and the Reply to it
abbrev pub steps_of_send : ℕ → ℕ → ℕ → ℕ → ℕ
steps_of_send ranks rank phase peer =
    if phase == 0 then 0 else if phase == 1 then peers_before rank peer else if phase == 2 then ranks - 1 + 2 * peers_before rank peer else ranks - 1 + 2 * peers_before rank peer + 1

-- the same of a Recv: the Reply of each other rank
abbrev pub steps_of_recv : ℕ → ℕ → ℕ → ℕ
steps_of_recv rank phase peer = if phase == 0 then 0 else peers_before rank peer

-- how many message steps of the instruction at hand a rank has made
abbrev pub steps_made : FlatJob → Memory → Event → ℕ
steps_made j m Local = 0
steps_made j m (Send item) = steps_of_send j.ranks m.rank m.phase m.peer
steps_made j m (Recv item) = steps_of_recv m.rank m.phase m.peer

-- the parts of an instruction, and the peers that there are: a part past the first has a peer, which is another rank of the job
abbrev pub most_phase : Event → ℕ
most_phase Local = 0
most_phase (Send item) = 3
most_phase (Recv item) = 1

pub record HasPhase (j : FlatJob) (m : Memory) (e : Event) : Type 0 where
  pub phase : m.phase ≤ most_phase e
  pub peer : 0 < m.phase → m.peer < j.ranks
  pub other : 0 < m.phase → m.peer ≡ m.rank → ⊥

-- ---- buffers

-- what came for an item is what the rank needs of it in the store, with the numbers that the store has
abbrev pub HasBuffer : FlatJob → Configuration → Memory → ℕ → Option LinearItem → Type 0
HasBuffer j c m x None = ⊥
HasBuffer j c m x (Some i) = HasReceived (m.received x) i.array (needed_of j c m.rank (Some i)) c.now.store

-- what the rank keeps of the messages of the instruction at hand: behind the first Request of a Send its needs; of a Request that isn't answered yet, the elements; and of a Recv, the numbers that
-- each rank before the peer sent
abbrev pub KeepsMessages : FlatJob → Configuration → Memory → Event → Type 0
KeepsMessages j c m Local = Unit {0}
KeepsMessages j c m (Send item) =
    (0 < m.phase → m.wanted item ≡ needed_of j c m.rank (item_at j item)) × (m.phase ≡ 3 → m.asked ≡ needed_from j c (item_at j item) m.peer m.rank)
KeepsMessages j c m (Recv item) = (rank : ℕ) → 0 < m.phase → rank < m.peer → (rank ≡ m.rank → ⊥) → m.came rank ≡ replied_at j rank m.rank c

-- ---- standing

-- a rank's memory is that of a configuration of the trace, by its number: the replicated numbers and the own elements are the store's, each item that came and wasn't stolen has its
-- needs with their numbers, each Send that is open has its needs kept, and the rest is as the configuration says
pub record StandsIn (j : FlatJob) (n : ℕ) (c : Configuration) (m : Memory) : Type 0 where
  pub is : nth (configurations j) n ≡ Some c
  pub rank : m.rank < j.ranks
  pub at : m.at ≡ c.at
  pub loops : m.loops ≡ c.loops
  pub steps : m.steps ≡ c.now.steps
  pub mapping : m.mapping ≡ c.mapping
  pub taken : m.taken ≡ c.now.store.taken
  pub part : IsPartOf (part_of m) c.now.store
  pub buffers : (x : ℕ) → HasCome j n x → HasBuffer j c m x (item_at j x)
  pub wanted : (x : ℕ) → IsSentFor j n x → m.wanted x ≡ needed_of j c m.rank (item_at j x)
  pub phase : HasPhase j m (event_at j c)
  pub messages : KeepsMessages j c m (event_at j c)

-- a rank's memory stands at one of its places in the behaviour of the job's ranks: so many message steps behind the first place of its configuration, with the lines printed before
pub record StandsAt (j : FlatJob) (m : Memory) (place : ℕ) : Type 0 where
  pub number : ℕ
  pub here : Configuration
  pub stands : StandsIn j number here m
  pub place_is : place ≡ length (way (trace_of j) m.rank number) + steps_made j m (event_at j here)
  pub lines : m.lines ≡ printed (behaviour_of_job j) m.rank place
