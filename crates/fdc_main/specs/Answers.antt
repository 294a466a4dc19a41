-- What is known of an answer before it is told, and what it is told with.
use Rattle.std.specs.Prelude.{◌≡◌, ℕ, List, [], Option, None}
use Rattle.std.specs.Io.KnownBytes.{Keeps, Appends, IsAtEnd}
use Rattle.fd_io.specs.Causes.{Rose}
use Rattle.fd_io.specs.Piece.{GainsPrefix}
use Rattle.fdc_main.specs.Meaning.{Meaning, DeckMeans, IsRefused, IsPastLimit}
use Rattle.fdc_main.specs.Responses.{Response, Responds, source_refused, input_refused, listing_refused, done_with}
use Rattle.fdc_main.specs.Texts.{usage_text, too_long_text, reading_text, writing_text}
use Rattle.fdc_main.specs.Top.{Asks, ReadsDeck, Told}
use Rattle.fdc_main.specs.declared.command_line.DeckMode.{DeckMode}
use Rattle.fdc_main.specs.declared.command_line.Mode.{Mode}
use Rattle.fdc_main.specs.declared.source.SourceRefusal.{SourceRefusal}
use Rattle.fdc_main.specs.declared.source.SourceRefusal.TheVariants as refused
use Rattle.fdc_main.specs.declared.answer.Answer.{Answer}
use Rattle.fdc_main.specs.declared.answer.Answer.TheVariants as answer
use Rattle.fdc_main.specs.declared.status.Status.{Status}
use Rattle.fdc_main.specs.declared.status.Status.TheVariants as status

-- ---- a source

abbrev pub RefusalFits : List ℕ → SourceRefusal → Type 0
RefusalFits bytes (refused.At line number) = IsRefused bytes line number
RefusalFits bytes (refused.TooMany line limit) = IsPastLimit bytes line limit
RefusalFits bytes refused.Memory = Unit {0}

-- ---- an answer

-- the response for which an answer stands
abbrev pub Stands : Answer → Response → Type 0
Stands answer.TooLong r = r ≡ source_refused too_long_text
Stands (answer.Source line) r = r ≡ source_refused line
Stands (answer.Input line) r = r ≡ input_refused line
Stands (answer.Listing line) r = r ≡ listing_refused line
Stands (answer.RunFault out line) r = r ≡ record { status = status.RunFault; out = out; err = line }
Stands (answer.Done out) r = r ≡ done_with out
Stands answer.Usage r = ⊥
Stands answer.ReadFault r = ⊥

-- the answer of a mode on these bytes
abbrev pub AnswersDeck : DeckMode → List ℕ → Answer → Type 0
AnswersDeck mode bytes a = (m : Meaning) × DeckMeans bytes m × ((r : Response) × Responds mode m r × Stands a r)

abbrev pub AnswerFits : Answer → Option Mode → Option (List ℕ) → ℕ → ℕ → Type 0
AnswerFits answer.Usage mode held before now = mode ≡ None
AnswerFits answer.ReadFault mode held before now = ReadsDeck mode × Rose before now
AnswerFits a mode held before now = Asks mode held (Stands a)

-- a deck that is read was read to its end
abbrev pub AnswerEnds : Answer → Option (List ℕ) → Type 0
AnswerEnds (answer.Input line) new = IsAtEnd new
AnswerEnds (answer.Listing line) new = IsAtEnd new
AnswerEnds (answer.RunFault out line) new = IsAtEnd new
AnswerEnds (answer.Done out) new = IsAtEnd new
AnswerEnds a new = Unit {0}

-- ---- what is told

abbrev pub DoneOut : List ℕ → Status → Option (List ℕ) → Option (List ℕ) → ℕ → ℕ → Type 0
DoneOut text status.Done old new before now = Appends old new text
DoneOut text status.WriteFault old new before now = GainsPrefix old new text × Rose before now
DoneOut text s old new before now = ⊥

abbrev pub DoneErr : Status → Option (List ℕ) → Option (List ℕ) → ℕ → ℕ → Type 0
DoneErr status.Done old new before now = Keeps old new
DoneErr status.WriteFault old new before now = Told old new before now writing_text
DoneErr s old new before now = ⊥

abbrev pub AnswerOut : Answer → Status → Option (List ℕ) → Option (List ℕ) → ℕ → ℕ → Type 0
AnswerOut (answer.Done out) s old new before now = DoneOut out s old new before now
AnswerOut (answer.RunFault out line) s old new before now = Told old new before now out
AnswerOut a s old new before now = Keeps old new

abbrev pub AnswerErr : Answer → Status → Option (List ℕ) → Option (List ℕ) → ℕ → ℕ → Type 0
AnswerErr answer.Usage s old new before now = (s ≡ status.Usage) × Told old new before now usage_text
AnswerErr answer.ReadFault s old new before now = (s ≡ status.ReadFault) × Told old new before now reading_text
AnswerErr answer.TooLong s old new before now = (s ≡ status.Source) × Told old new before now too_long_text
AnswerErr (answer.Source line) s old new before now = (s ≡ status.Source) × Told old new before now line
AnswerErr (answer.Input line) s old new before now = (s ≡ status.Input) × Told old new before now line
AnswerErr (answer.Listing line) s old new before now = (s ≡ status.Listing) × Told old new before now line
AnswerErr (answer.RunFault out line) s old new before now = (s ≡ status.RunFault) × Told old new before now line
AnswerErr (answer.Done out) s old new before now = DoneErr s old new before now
