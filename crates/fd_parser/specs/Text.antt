-- The grammar of sources, over logical lines by their tokens, and the refusals.
use Rattle.std.specs.Prelude.{◌≡◌, ℕ, ◌+◌, ◌<◌, Bool, true, false, List, [], ◌∷◌, ◌++◌, fold, sum, Result, Ok, Err}
use Rattle.fd_base.specs.declared.numbering.Line.{Line}
use Rattle.fd_lexer.specs.View.{TokenLine}
use Rattle.fd_ast.specs.Tree.{ProgramTree}
use Rattle.fd_parser.specs.declared.refusal.ParseRefusal.{ParseRefusal}
use Rattle.fd_parser.specs.declared.refusal.ParseRefusal.TheVariants as refusals
use Rattle.fd_parser.specs.Forms.{LineForm, ProgramLine, DeclLine, SimpleLine, LogicalIf, IfThen, ElseIf, Else, EndIf, DoLine, WhileLine, EndDo, IsForm}
use Rattle.fd_parser.specs.Program.{FormLine, At, IsProgram}
use Rattle.fd_parser.specs.Scans.{is_too_deep, is_left_out}

-- each line has its form
pub data HaveForms : List TokenLine → List FormLine → Type 0 where
  no_lines : HaveForms [] []
  one_more : {t : TokenLine} {f : LineForm} {ts : List TokenLine} {fs : List FormLine} → IsForm t.number t.toks f → HaveForms ts fs → HaveForms (t ∷ ts) (At t.number f ∷ fs)

-- the lines are a source with this tree
pub record IsText (ls : List TokenLine) (x : ProgramTree) : Type 0 where
  pub forms : List FormLine
  pub have : HaveForms ls forms
  pub program : IsProgram forms x

-- some source begins with these lines
abbrev pub BeginsText : List TokenLine → Type 0
BeginsText ls = (more : List TokenLine) × (x : ProgramTree) × IsText (ls ++ more) x

-- ---- nesting of statements: an IF, each of its ELSE IFs and a loop are a level each, and so is a logical IF on its line

abbrev pub without_first : List ℕ → List ℕ
without_first [] = []
without_first (n ∷ ns) = ns

abbrev pub one_deeper : List ℕ → List ℕ
one_deeper [] = []
one_deeper (n ∷ ns) = (n + 1) ∷ ns

-- the levels of each open block behind a line, the innermost first
abbrev pub levels_behind : List ℕ → LineForm → List ℕ
levels_behind ns ProgramLine = ns
levels_behind ns (DeclLine ds) = ns
levels_behind ns (SimpleLine xs) = ns
levels_behind ns (LogicalIf c xs) = ns
levels_behind ns (IfThen c) = 1 ∷ ns
levels_behind ns (ElseIf c) = one_deeper ns
levels_behind ns Else = ns
levels_behind ns EndIf = without_first ns
levels_behind ns (DoLine s x y z) = 1 ∷ ns
levels_behind ns (WhileLine c) = 1 ∷ ns
levels_behind ns EndDo = without_first ns

abbrev pub form_in : FormLine → LineForm
form_in (At l f) = f

abbrev pub levels_after : List FormLine → List ℕ
levels_after fs = fold (λ ns f. levels_behind ns (form_in f)) [] fs

-- so many levels, and that of a logical IF
abbrev pub with_own : LineForm → ℕ → ℕ
with_own ProgramLine n = n
with_own (DeclLine ds) n = n
with_own (SimpleLine xs) n = n
with_own (LogicalIf c xs) n = n + 1
with_own (IfThen c) n = n
with_own (ElseIf c) n = n
with_own Else n = n
with_own EndIf n = n
with_own (DoLine s x y z) n = n
with_own (WhileLine c) n = n
with_own EndDo n = n

-- the nesting level of a line of this form behind these lines
abbrev pub level_of : List FormLine → LineForm → ℕ
level_of fs f = with_own f (sum (levels_behind (levels_after fs) f))

-- ---- refusals

-- the line t, behind these lines, is nested 33 levels of statements deep
pub record IsNested (ls : List TokenLine) (t : TokenLine) : Type 0 where
  pub forms : List FormLine
  pub form : LineForm
  pub have : HaveForms ls forms
  pub is : IsForm t.number t.toks form
  pub deep : 32 < level_of forms form

-- the line has no refusal behind these lines
pub record IsFine (ls : List TokenLine) (t : TokenLine) : Type 0 where
  pub shallow : is_too_deep t.toks ≡ false
  pub in_language : is_left_out t.toks ≡ false
  pub begins : BeginsText (ls ++ t ∷ [])
  pub flat : IsNested ls t → ⊥

-- The number of the line's refusal behind these lines: 15 too deep, 18 left out of the language, 5 no line that can stand there.
pub data Names (ls : List TokenLine) (t : TokenLine) : ℕ → Type 0 where
  parentheses : is_too_deep t.toks ≡ true → Names ls t 15
  nested : is_too_deep t.toks ≡ false → is_left_out t.toks ≡ false → BeginsText (ls ++ t ∷ []) → IsNested ls t → Names ls t 15
  left_out : is_too_deep t.toks ≡ false → is_left_out t.toks ≡ true → Names ls t 18
  syntax : is_too_deep t.toks ≡ false → is_left_out t.toks ≡ false → (BeginsText (ls ++ t ∷ []) → ⊥) → Names ls t 5

-- none of the lines has a refusal behind those before it
pub data AreFine : List TokenLine → Type 0 where
  none_fine : AreFine []
  one_fine : {ls : List TokenLine} {t : TokenLine} → AreFine ls → IsFine ls t → AreFine (ls ++ t ∷ [])

-- The first refusal: that of the first line that has one; where none has, 5 on the END line, where a block is still open,
-- and 17 where there is no END line.
pub data IsRefusal (ls : List TokenLine) (ended : Bool) (end_line : Line) : ParseRefusal → Type 0 where
  at_line : (before behind : List TokenLine) (t : TokenLine) {n : ℕ} → ls ≡ before ++ t ∷ behind → AreFine before → Names before t n → IsRefusal ls ended end_line (refusals.At t.number n)
  at_end : AreFine ls → ended ≡ true → ((x : ProgramTree) → IsText ls x → ⊥) → IsRefusal ls ended end_line (refusals.At end_line 5)
  no_end : AreFine ls → ended ≡ false → IsRefusal ls ended end_line (refusals.At end_line 17)
  no_memory : IsRefusal ls ended end_line refusals.Memory

-- no line is too deep, left out, or nested too deep
abbrev pub IsAllowed : List TokenLine → Type 0
IsAllowed ls = (before behind : List TokenLine) (t : TokenLine) → ls ≡ before ++ t ∷ behind → (is_too_deep t.toks ≡ false) × (is_left_out t.toks ≡ false) × (IsNested before t → ⊥)

-- the answer, seen by view, is this one, unless memory ran out
abbrev pub Gives : {X Y : Type 0} → (X → Y) → Result X ParseRefusal → Y → Type 0
Gives view (Ok x) y = view x ≡ y
Gives view (Err e) y = e ≡ refusals.Memory
