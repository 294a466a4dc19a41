-- The one call of the program: its statuses, and what its ends gain.
use Rattle.std.specs.Prelude.{◌≡◌, ◌⊎◌, ℕ, List, Option, None, Some, IfSome}
use Rattle.std.specs.Io.KnownBytes.{Keeps, Appends, IsAtEnd}
use Rattle.fd_io.specs.Causes.{Rose}
use Rattle.fd_io.specs.Piece.{GainsPrefix}
use Rattle.fdc_main.specs.Meaning.{Meaning, DeckMeans}
use Rattle.fdc_main.specs.Responses.{Response, Responds, mesh_told}
use Rattle.fdc_main.specs.Texts.{usage_text, reading_text, writing_text, memory_text}
use Rattle.fdc_main.specs.declared.command_line.Mode.{Mode}
use Rattle.fdc_main.specs.declared.command_line.Mode.TheVariants.{Deck, Gen}
use Rattle.fdc_main.specs.declared.status.Status.{Status}
use Rattle.fdc_main.specs.declared.status.Status.TheVariants as status

-- the words are a mode that reads the deck
abbrev pub ReadsDeck : Option Mode → Type 0
ReadsDeck None = ⊥
ReadsDeck (Some (Gen _ _)) = ⊥
ReadsDeck (Some (Deck mode)) = Unit {0}

-- The words are a mode, and this holds of its response: of that of a mode that reads nothing, and, where the deck tells
-- its bytes, of that of a mode that reads it to what they mean.
abbrev pub Asks : Option Mode → Option (List ℕ) → (Response → Type 0) → Type 0
Asks None held P = ⊥
Asks (Some (Gen nodes start)) held P = P (mesh_told nodes start)
Asks (Some (Deck mode)) held P = IfSome held (λ bytes. (m : Meaning) × DeckMeans bytes m × ((r : Response) × Responds mode m r × P r))

-- Where the words are a mode, this holds of each response of it: of that of a mode that reads nothing, and of each one of
-- a mode that reads the deck to each thing that the bytes mean, of which there is one at most.
abbrev pub EachResponse : Option Mode → Option (List ℕ) → (Response → Type 0) → Type 0
EachResponse None held P = Unit {0}
EachResponse (Some (Gen nodes start)) held P = P (mesh_told nodes start)
EachResponse (Some (Deck mode)) held P =
    (bytes : List ℕ) (m : Meaning) (r : Response) → held ≡ Some bytes → DeckMeans bytes m → Responds mode m r → P r

-- Each status comes only where it says so: 2 where the words are no mode; 3, 4, 8, 1 and 0 where they are the response's, and 6 in place of 0. 7 is free.
abbrev pub StatusFits : Option Mode → Option (List ℕ) → Status → Type 0
StatusFits mode held status.Memory = Unit {0}
StatusFits mode held status.Usage = mode ≡ None
StatusFits mode held status.ReadFault = ReadsDeck mode
StatusFits mode held status.WriteFault = Asks mode held (λ r. r.status ≡ status.Done)
StatusFits mode held s = Asks mode held (λ r. r.status ≡ s)

-- ---- the ends

-- an end was told this text: it gained all of it where its count didn't rise, and a prefix anyway
pub record Told (old new : Option (List ℕ)) (before now : ℕ) (text : List ℕ) : Type 0 where
  pub whole : (Rose before now → ⊥) → Appends old new text
  pub front : GainsPrefix old new text

-- what standard output gained: all of the response's text with 0, all or where its count rose a prefix with 1, a prefix with 6, and else nothing
abbrev pub OutFits : Option Mode → Option (List ℕ) → Status → Option (List ℕ) → Option (List ℕ) → ℕ → ℕ → Type 0
OutFits mode held status.Done old new before now = Asks mode held (λ r. Appends old new r.out)
OutFits mode held status.RunFault old new before now = Asks mode held (λ r. Told old new before now r.out)
OutFits mode held status.WriteFault old new before now = Asks mode held (λ r. GainsPrefix old new r.out)
OutFits mode held s old new before now = Keeps old new

-- what standard error was told: nothing with 0, and else the one line of the status
abbrev pub ErrFits : Option Mode → Option (List ℕ) → Status → Option (List ℕ) → Option (List ℕ) → ℕ → ℕ → Type 0
ErrFits mode held status.Done old new before now = Keeps old new
ErrFits mode held status.Usage old new before now = Told old new before now usage_text
ErrFits mode held status.ReadFault old new before now = Told old new before now reading_text
ErrFits mode held status.WriteFault old new before now = Told old new before now writing_text
ErrFits mode held status.Memory old new before now = Told old new before now memory_text
ErrFits mode held s old new before now = Asks mode held (λ r. Told old new before now r.err)

-- a status under which standard output isn't asked to write: all but 0, 1 and 6
abbrev pub IsQuiet : Status → ℕ → ℕ → Type 0
IsQuiet status.Done before now = Unit {0}
IsQuiet status.RunFault before now = Unit {0}
IsQuiet status.WriteFault before now = Unit {0}
IsQuiet s before now = now ≡ before

-- a deck that is read was read to its end
abbrev pub DeckFits : Status → Option (List ℕ) → Type 0
DeckFits status.Done new = IsAtEnd new
DeckFits status.RunFault new = IsAtEnd new
DeckFits status.Input new = IsAtEnd new
DeckFits status.Listing new = IsAtEnd new
DeckFits status.WriteFault new = IsAtEnd new
DeckFits s new = Unit {0}

-- the exit status of the program
abbrev pub status_number : Status → ℕ
status_number status.Done = 0
status_number status.RunFault = 1
status_number status.Usage = 2
status_number status.Source = 3
status_number status.Input = 4
status_number status.ReadFault = 5
status_number status.WriteFault = 6
status_number status.Memory = 7
status_number status.Listing = 8

-- a status that answers a response's: that one, or 6 in place of 0
abbrev pub IsAnswered : Status → Status → Type 0
IsAnswered wanted s = (s ≡ wanted) ⊎ ((wanted ≡ status.Done) × (s ≡ status.WriteFault))
