-- What a phase finds says what the bytes mean.
use Rattle.std.proofs.Common.{◌≡◌, ◌≢◌, ◌≤◌, ℕ, List, true, length, drop, refl, sym, ap, subst, Result, Ok, Err, IfOk}
use Rattle.fd_base.specs.declared.numbering.Line.{Line}
use Rattle.fd_base.specs.declared.limit.Limit.{Limit}
use Rattle.fd_base.specs.declared.memory.Memory.{Memory}
use Rattle.fd_ast.specs.declared.statement.Tree.{Tree}
use Rattle.fd_ast.specs.Tree.{program_tree}
use Rattle.fd_prog.specs.Programs.{CheckedProgram}
use Rattle.fd_lexer.specs.declared.token.Lexed.{Lexed}
use Rattle.fd_lexer.specs.View.{token_lines}
use Rattle.fd_lexer.specs.Text.{IsReading}
use Rattle.fd_parser.specs.declared.refusal.ParseRefusal.{ParseRefusal}
use Rattle.fd_parser.specs.declared.refusal.ParseRefusal.TheVariants as parsing
use Rattle.fd_parser.specs.Text.{IsText, AreFine, IsRefusal}
use Rattle.fd_names.specs.declared.refusal.NameRefusal.{NameRefusal}
use Rattle.fd_names.specs.declared.refusal.NameRefusal.TheVariants as naming
use Rattle.fd_names.specs.Checked.{refusals_of}
use Rattle.fd_names.specs.First.{AnswersFirst}
use Rattle.section_num.specs.Numbers.{IsPast}
use Rattle.section_num.specs.declared.numbering.NumberRefusal.{NumberRefusal}
use Rattle.section_num.specs.declared.numbering.NumberRefusal.TheVariants as numbering
use Rattle.fdc_main.specs.Meaning.{IsRefused, by_grammar, by_names, IsPastLimit, in_tree, in_items, IsChecked, IsProgram, Refused, PastLimit, Accepted}
use Rattle.fdc_main.specs.Responses.{Response, AcceptedBy, source_refused}
use Rattle.fdc_main.specs.Texts.{refused_text, past_limit_text}
use Rattle.fdc_main.specs.Answers.{RefusalFits, Stands, AnswersDeck}
use Rattle.fdc_main.specs.declared.command_line.DeckMode.{DeckMode}
use Rattle.fdc_main.specs.declared.source.SourceRefusal.{SourceRefusal}
use Rattle.fdc_main.specs.declared.source.SourceRefusal.TheVariants as refused
use Rattle.fdc_main.specs.declared.answer.Answer.{Answer}
use Rattle.fdc_main.specs.declared.answer.Answer.TheVariants as answer

-- ---- the phases

pub grammar_refused : (bytes : List ℕ) (lexed : Lexed) (e : ParseRefusal) (line : Line) (number : ℕ) → IsReading bytes lexed → IsRefusal (token_lines lexed) lexed.ended lexed.end_line e → e ≡ parsing.At line number → IsRefused bytes line number
grammar_refused bytes lexed e line number reading r is = by_grammar lexed reading (subst (λ (x : ParseRefusal). IsRefusal (token_lines lexed) lexed.ended lexed.end_line x) is r)

pub names_refused : (bytes : List ℕ) (lexed : Lexed) (tree : Tree) (e : NameRefusal) (line : Line) (number : ℕ) → IsReading bytes lexed → lexed.ended ≡ true → IsText (token_lines lexed) (program_tree tree) → AreFine (token_lines lexed)
    → AnswersFirst (refusals_of (program_tree tree)) e → e ≡ naming.At line number → IsRefused bytes line number
names_refused bytes lexed tree e line number reading ended text fine r is =
    by_names lexed (program_tree tree) (record { reading = reading; ended = ended; text = text; fine = fine }) (subst (AnswersFirst (refusals_of (program_tree tree))) is r)

pub names_past : (bytes : List ℕ) (lexed : Lexed) (tree : Tree) (e : NameRefusal) (line : Line) (limit : Limit) → IsReading bytes lexed → lexed.ended ≡ true → IsText (token_lines lexed) (program_tree tree) → AreFine (token_lines lexed)
    → AnswersFirst (refusals_of (program_tree tree)) e → e ≡ naming.TooMany line limit → IsPastLimit bytes line limit
names_past bytes lexed tree e line limit reading ended text fine r is =
    in_tree lexed (program_tree tree) (record { reading = reading; ended = ended; text = text; fine = fine }) (subst (AnswersFirst (refusals_of (program_tree tree))) is r)

pub items_past : (bytes : List ℕ) (p : CheckedProgram) (e : NumberRefusal) (line : Line) (limit : Limit) → IsChecked bytes p → (e ≢ numbering.Memory → IsPast p e) → e ≡ numbering.TooMany line limit → IsPastLimit bytes line limit
items_past bytes p e line limit is past same =
    let found = subst (λ (x : NumberRefusal). x ≢ numbering.Memory → IsPast p x) same past (λ q. cc) in
    in_items p is found.0 found.1

-- ---- the answer of a deck

pub accepted_fits : (result : Result Answer Memory) (mode : DeckMode) (bytes : List ℕ) (p : CheckedProgram) (rest : List ℕ) → length bytes ≤ 1048576 → IsProgram bytes p → rest ≡ drop p.rest bytes
    → IfOk result (λ a. (r : Response) × AcceptedBy mode p rest r × Stands a r) → IfOk result (AnswersDeck mode bytes)
accepted_fits (Ok a) mode bytes p rest short is e h = (Accepted p rest, (short, is, e), h)
accepted_fits (Err m) mode bytes p rest short is e h = tt

pub refusal_fits : (mode : DeckMode) (bytes : List ℕ) (e : SourceRefusal) (line : Line) (number : ℕ) (told : List ℕ) → length bytes ≤ 1048576 → RefusalFits bytes e → e ≡ refused.At line number → told ≡ refused_text line.0 number → AnswersDeck mode bytes (answer.Source told)
refusal_fits mode bytes e line number told short r is text = (Refused line number, (short, subst (RefusalFits bytes) is r), (source_refused (refused_text line.0 number), refl, ap source_refused (sym text)))

pub limit_fits : (mode : DeckMode) (bytes : List ℕ) (e : SourceRefusal) (line : Line) (limit : Limit) (told : List ℕ) → length bytes ≤ 1048576 → RefusalFits bytes e → e ≡ refused.TooMany line limit → told ≡ past_limit_text line.0 limit → AnswersDeck mode bytes (answer.Source told)
limit_fits mode bytes e line limit told short r is text = (PastLimit line limit, (short, subst (RefusalFits bytes) is r), (source_refused (past_limit_text line.0 limit), refl, ap source_refused (sym text)))
