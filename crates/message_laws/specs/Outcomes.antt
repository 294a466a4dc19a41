-- How a complete state ended, and how the trace ends.
use Rattle.std.specs.Prelude.{◌≡◌, ℕ, suc, ◌<◌, ◌≢◌, ◌⊎◌, nat_lt, List, map, filter, Some, None}
use Rattle.fd_base.specs.declared.numbering.Line.{Line}
use Rattle.fd_base.specs.declared.numbers.FaultKind.{FaultKind}
use Rattle.fd_prog.specs.declared.run.Outcome.{Outcome}
use Rattle.fd_prog.specs.declared.run.Outcome.TheVariants.{Done, Fault}
use Rattle.fd_prog.specs.declared.run.Printed.{Printed}
use Rattle.mailbox_book.specs.declared.message.Message.{Message}
use Rattle.mailbox_book.specs.Boxes.{Entry, headers_of, header_of, first_of}
use Rattle.message_laws.specs.Behaviour.{Behaviour, Failure, Fail, steps, printed, posted}
use Rattle.message_laws.specs.System.{State, Faulted, places_of, IsComplete, Moves}
use Rattle.message_laws.specs.Boxes.{new_entry}
use Rattle.message_laws.specs.Facts.{Facts}

-- the fault of this line and kind
abbrev pub failure : Line → FaultKind → Failure
failure line kind = record { line = line; kind = kind }

-- the lines of steps before the outcome
abbrev pub lines_before : Outcome → List Printed → List Printed
lines_before Done lines = lines
lines_before (Fault step line kind) lines = filter (λ (l : Printed). nat_lt l.step step) lines

-- the trace notes this fault first, or none
abbrev pub IsFirstFault : Behaviour → Outcome → Type 0
IsFirstFault b Done = (c : ℕ) → b.noted c ≡ None
IsFirstFault b (Fault step line kind) = (c : ℕ) × (step ≡ suc (b.completed c)) × (b.noted c ≡ Some (failure line kind)) × ((d : ℕ) → d < c → b.noted d ≡ None)

-- rank r is faulted with this step and fault
pub record HasFailed (b : Behaviour) (s : State) (r number : ℕ) (f : Failure) : Type 0 where
  pub status : (s.at r).status ≡ Faulted
  pub is : b.action r (places_of s r) ≡ Fail f
  pub step : number ≡ suc (steps b r (places_of s r))

-- the fault with the least step among the faulted ranks, or none; where steps are equal, the faults are
abbrev pub IsOutcome : Behaviour → State → Outcome → Type 0
IsOutcome b s Done = (r : ℕ) → r < b.ranks → (s.at r).status ≢ Faulted
IsOutcome b s (Fault step line kind) =
    ((r : ℕ) × (r < b.ranks) × HasFailed b s r step (failure line kind))
    × ((r other : ℕ) (g : Failure) → r < b.ranks → HasFailed b s r other g → (step < other) ⊎ ((step ≡ other) × (failure line kind ≡ g)))

-- the lines of a state are those of rank 0
abbrev pub lines_of : Behaviour → State → List Printed
lines_of b s = printed b 0 (places_of s 0)

-- the lines of the whole trace
abbrev pub all_lines : Behaviour → List Printed
all_lines b = printed b 0 (b.last 0)

-- what is promised of a state that an interleaving reached
pub record IsRight (b : Behaviour) (s : State) (o : Outcome) : Type 0 where
  pub facts : Facts b s
  pub outcome : IsComplete b s → IsOutcome b s o
  pub lines : IsComplete b s → lines_before o (lines_of b s) ≡ lines_before o (all_lines b)
  pub goes_on : IsComplete b s ⊎ Moves b s

-- the box from q to r holds every message that q posts to r, and all were taken
pub record IsEmptied (b : Behaviour) (q r : ℕ) (box : List Entry) : Type 0 where
  pub headers : headers_of box ≡ map (λ (m : Message). header_of (new_entry m)) (posted b q r (b.last q))
  pub none_left : (tag : ℕ) → first_of tag box ≡ None
