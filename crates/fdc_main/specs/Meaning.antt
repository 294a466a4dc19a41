-- What the bytes of a deck mean.
use Rattle.std.specs.Prelude.{◌≡◌, ℕ, ◌<◌, ◌≤◌, true, List, [], None, Some, length, drop}
use Rattle.fd_base.specs.declared.numbering.Line.{Line}
use Rattle.fd_base.specs.declared.limit.Limit.{Limit}
use Rattle.fd_base.specs.declared.limit.Limit.TheVariants.{Items}
use Rattle.fd_ast.specs.Tree.{ProgramTree}
use Rattle.fd_prog.specs.Programs.{CheckedProgram}
use Rattle.fd_lexer.specs.declared.token.Lexed.{Lexed}
use Rattle.fd_lexer.specs.View.{token_lines}
use Rattle.fd_lexer.specs.Text.{IsReading, IsFirstRefusal}
use Rattle.fd_parser.specs.declared.refusal.ParseRefusal.TheVariants as parsing
use Rattle.fd_parser.specs.Text.{IsText, AreFine, IsRefusal}
use Rattle.fd_names.specs.declared.refusal.NameRefusal.TheVariants as naming
use Rattle.fd_names.specs.Checked.{meaning_of, refusals_of}
use Rattle.fd_names.specs.First.{AnswersFirst}
use Rattle.section_num.specs.Numbers.{line_past_limit}

-- it is too long; it is refused on a line, by a number; it is refused on a line where a count passes a limit; or it is accepted: a program, and the bytes behind its END line
pub data Meaning : Type 0 where
  TooLong : Meaning
  Refused : Line → ℕ → Meaning
  PastLimit : Line → Limit → Meaning
  Accepted : CheckedProgram → List ℕ → Meaning

-- ---- from bytes to a tree

-- the bytes have an END line, and their lines before it are a source with this tree, where no line has a refusal
pub record HasTree (bytes : List ℕ) (lexed : Lexed) (tree : ProgramTree) : Type 0 where
  pub reading : IsReading bytes lexed
  pub ended : lexed.ended ≡ true
  pub text : IsText (token_lines lexed) tree
  pub fine : AreFine (token_lines lexed)

-- ---- the program

-- the bytes are accepted by their tokens, by the grammar and by the names in their tree, and their program is this one
pub record IsChecked (bytes : List ℕ) (program : CheckedProgram) : Type 0 where
  pub lexed : Lexed
  pub tree : ProgramTree
  pub has : HasTree bytes lexed tree
  pub accepted : refusals_of tree ≡ []
  pub meaning : program ≡ meaning_of tree lexed.end_line lexed.rest

-- the bytes are accepted, and their program is this one, which has no 513th item
pub record IsProgram (bytes : List ℕ) (program : CheckedProgram) : Type 0 where
  pub checked : IsChecked bytes program
  pub few : line_past_limit program ≡ None

-- ---- the first refusal; what an earlier phase refuses, no later phase sees

-- The line with the number of its refusal: by the tokens of the lines, by the grammar, or by the names in the tree.
pub data IsRefused (bytes : List ℕ) (line : Line) (number : ℕ) : Type 0 where
  by_tokens : IsFirstRefusal bytes line number → IsRefused bytes line number
  by_grammar : (lexed : Lexed) → IsReading bytes lexed → IsRefusal (token_lines lexed) lexed.ended lexed.end_line (parsing.At line number) → IsRefused bytes line number
  by_names : (lexed : Lexed) (tree : ProgramTree) → HasTree bytes lexed tree → AnswersFirst (refusals_of tree) (naming.At line number) → IsRefused bytes line number

-- The line on which a count passes a limit: in the tree, or among the items of the program, by the reference that makes the 513th.
pub data IsPastLimit (bytes : List ℕ) (line : Line) (limit : Limit) : Type 0 where
  in_tree : (lexed : Lexed) (tree : ProgramTree) → HasTree bytes lexed tree → AnswersFirst (refusals_of tree) (naming.TooMany line limit) → IsPastLimit bytes line limit
  in_items : (program : CheckedProgram) → IsChecked bytes program → line_past_limit program ≡ Some line → limit ≡ Items → IsPastLimit bytes line limit

-- ---- what the bytes mean

abbrev pub DeckMeans : List ℕ → Meaning → Type 0
DeckMeans bytes TooLong = 1048576 < length bytes
DeckMeans bytes (Refused line number) = (length bytes ≤ 1048576) × IsRefused bytes line number
DeckMeans bytes (PastLimit line limit) = (length bytes ≤ 1048576) × IsPastLimit bytes line limit
DeckMeans bytes (Accepted program rest) = (length bytes ≤ 1048576) × IsProgram bytes program × (rest ≡ drop program.rest bytes)
