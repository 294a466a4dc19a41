-- What there is to answer, by the words and by what the deck means, where no end fails and there is memory.
use Rattle.std.specs.Prelude.{◌≡◌, ℕ, ℤ, List, [], Result, Ok, Err}
use Rattle.fd_prog.specs.declared.run.Outcome.{Outcome}
use Rattle.fd_prog.specs.declared.run.Outcome.TheVariants.{Done, Fault}
use Rattle.fd_prog.specs.Programs.{CheckedProgram}
use Rattle.fd_prog.specs.Run.{Run, lines_text}
use Rattle.fd_prog.specs.Sequence.{sequential_run}
use Rattle.fd_gen.specs.Mesh.{mesh_text}
use Rattle.fd_input.specs.Text.{input_numbers}
use Rattle.fdc_main.specs.Meaning.{Meaning, TooLong, Refused, PastLimit, Accepted}
use Rattle.owner_part.specs.OwnerTable.{owner_table}
use Rattle.place_check.specs.declared.verdict.Verdict.{Verdict}
use Rattle.place_check.specs.declared.verdict.Verdict.TheVariants.{Good, Bad}
use Rattle.fdc_main.specs.Checks.{IsFound}
use Rattle.fdc_main.specs.Plans.{IsListing}
use Rattle.fdc_main.specs.Texts.{too_long_text, refused_text, past_limit_text, input_text, fault_text, wrong_line_text, broken_text, good_text}
use Rattle.fdc_main.specs.declared.check.Finding.{Finding}
use Rattle.fdc_main.specs.declared.check.Finding.TheVariants.{WrongLine, Judged}
use Rattle.fdc_main.specs.declared.command_line.DeckMode.{DeckMode}
use Rattle.fdc_main.specs.declared.command_line.DeckMode.TheVariants.{Seq, Map, Plan, Check}
use Rattle.fdc_main.specs.declared.status.Status.{Status}
use Rattle.fdc_main.specs.declared.status.Status.TheVariants as status

-- the exit status, the text for standard output, and the line for standard error, which status 0 has none of
pub record Response : Type 0 where
  pub status : Status
  pub out : List ℕ
  pub err : List ℕ

abbrev pub source_refused : List ℕ → Response
source_refused line = record { status = status.Source; out = []; err = line }

abbrev pub input_refused : List ℕ → Response
input_refused line = record { status = status.Input; out = []; err = line }

abbrev pub listing_refused : List ℕ → Response
listing_refused line = record { status = status.Listing; out = []; err = line }

-- what a run printed, and the line of its fault
abbrev pub run_ended : List ℕ → Outcome → Response
run_ended text Done = record { status = status.Done; out = text; err = [] }
run_ended text (Fault step line kind) = record { status = status.RunFault; out = text; err = fault_text line.0 kind }

abbrev pub run_told : Run → Response
run_told run = run_ended (lines_text run.lines) run.outcome

-- the run of a program in sequence on the numbers of its input, up to a limit of steps, or the first bad byte of the input
abbrev pub run_on : CheckedProgram → ℕ → Result (List ℤ) ℕ → Response
run_on program limit (Ok numbers) = run_told (sequential_run program numbers limit)
run_on program limit (Err offset) = input_refused (input_text offset)

-- a text was asked for, and this is it
abbrev pub done_with : List ℕ → Response
done_with text = record { status = status.Done; out = text; err = [] }

-- the verdict on a placement: that it is good, or the condition that is broken with the path that shows it
abbrev pub verdict_told : Verdict → Response
verdict_told Good = done_with good_text
verdict_told (Bad condition item path) = listing_refused (broken_text condition item.0 path)

-- a listing's first wrong line, or the verdict on its places
abbrev pub finding_told : Finding → Response
finding_told (WrongLine line) = listing_refused (wrong_line_text line.0)
finding_told (Judged verdict) = verdict_told verdict

-- the deck of a mesh of so many nodes, made from a number
abbrev pub mesh_told : ℕ → ℕ → Response
mesh_told nodes start = done_with (mesh_text nodes start)

-- What a mode answers to an accepted program and the bytes behind its END line: its run in sequence on the numbers of these bytes, its owner table on a number
-- of ranks, its listing, or what is found in these bytes as a listing of it.
abbrev pub AcceptedBy : DeckMode → CheckedProgram → List ℕ → Response → Type 0
AcceptedBy (Seq steps) program rest r = r ≡ run_on program steps (input_numbers rest)
AcceptedBy (Map ranks) program rest r = r ≡ done_with (owner_table program ranks)
AcceptedBy Plan program rest r = IsListing program r.out × (r ≡ done_with r.out)
AcceptedBy Check program rest r = (found : Finding) × IsFound program rest found × (r ≡ finding_told found)

-- what a mode that reads a deck answers to what the deck means; there is one answer at most
abbrev pub Responds : DeckMode → Meaning → Response → Type 0
Responds mode TooLong r = r ≡ source_refused too_long_text
Responds mode (Refused line number) r = r ≡ source_refused (refused_text line.0 number)
Responds mode (PastLimit line limit) r = r ≡ source_refused (past_limit_text line.0 limit)
Responds mode (Accepted program rest) r = AcceptedBy mode program rest r
