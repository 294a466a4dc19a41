-- The names in the tree of a text are plain, and its statements stand behind its declarations.
use Rattle.std.proofs.Common.{◌≡◌, ℕ, ◌≤◌, true, List, [], ◌∷◌, ◌++◌, subst, ap, sym, arith}
use Rattle.std.specs.List.{All, AllByRecursion}
use Rattle.std.proofs.lemmas.List.Elements.{All-from_recursion, All-weaker}
use Rattle.fd_base.specs.declared.numbering.Line.{Line}
use Rattle.fd_lexer.specs.declared.token.Lexed.{Lexed}
use Rattle.fd_lexer.specs.Text.{IsReading}
use Rattle.fd_lexer.specs.View.{TokenLine, token_lines}
use Rattle.fd_ast.specs.Tree.{DeclTree, StmtTree, AssignStmt, IfStmt, DoStmt, WhileStmt, ReadStmt, PrintStmt, SkipStmt, RemapStmt, StmtTrees, NoStmts, Stmt, ProgramTree}
use Rattle.fd_parser.specs.Program as grammar
use Rattle.fd_parser.specs.Program.{FormLine, At, joined_stmts, all_stmts, IsBlock, IsStmts, IsChoices, IsHead, AreDecls}
use Rattle.fd_parser.specs.Text.{HaveForms, no_lines, one_more, IsText}
use Rattle.program_laws.specs.Named.{IsPlain}
use Rattle.fd_names.specs.Declarations.{line_of}
use Rattle.fd_names.specs.Written.{AreNoLater, EachAmong, EachIn, HasPlainHead, IsWritten, line_of_stmt, name_of}
use Rattle.text_trees.proofs.Ascending.{Ascend, lower, reading_ascends, token_number}
use Rattle.text_trees.proofs.PlainForms.{IsPlainForm, IsPlainFrom, IsPlainOn, Makes, form_plain}
use Rattle.text_trees.proofs.PlainTokens.{ArePlainLines, reading_plain}

-- ---- lines by their forms

abbrev form_number : FormLine → ℕ
form_number (At l f) = l.0

abbrev ArePlainForms : List FormLine → Type 0
ArePlainForms [] = Unit {0}
ArePlainForms (At l f ∷ fs) = IsPlainForm l f × ArePlainForms fs

forms_plain : {ls : List TokenLine} {fs : List FormLine} → HaveForms ls fs → ArePlainLines ls → ArePlainForms fs
forms_plain no_lines h = tt
forms_plain (one_more d more) h = (form_plain d h.0, forms_plain more h.1)

forms_ascend : {ls : List TokenLine} {fs : List FormLine} → HaveForms ls fs → (n : ℕ) → Ascend token_number n ls → Ascend form_number n fs
forms_ascend no_lines n h = tt
forms_ascend (one_more {t = t} d more) n h = (h.0, forms_ascend more t.number.0 h.1)

-- each of these lines makes statements that are so
abbrev AllMake : (StmtTree → Type 0) → List FormLine → Type 0
AllMake P [] = Unit {0}
AllMake P (At l f ∷ fs) = Makes P l f × AllMake P fs

all_make : (n : ℕ) (fs : List FormLine) → ArePlainForms fs → Ascend form_number n fs → AllMake (IsPlainFrom n) fs
all_make n [] h a = tt
all_make n (At l f ∷ fs) h a = (h.0.1 n a.0, all_make n fs h.1 (lower form_number fs n l.0 a.0 a.1))

-- ---- statements

joined_each : (P : StmtTree → Type 0) (xs : List StmtTree) (ys : StmtTrees) → AllByRecursion (EachIn P) xs → EachAmong P ys → EachAmong P (joined_stmts xs ys)
joined_each P [] ys h k = k
joined_each P (x ∷ xs) ys h k = (h.0, joined_each P xs ys h.1 k)

mutual
  block_each : (P : StmtTree → Type 0) {ts us : List FormLine} {xs : StmtTrees} → IsBlock ts xs us → AllMake P ts → EachAmong P xs × AllMake P us
  block_each P grammar.none h = (tt, h)
  block_each P (grammar.more {xs = xs} {ys = ys} s b) h =
      let p = stmts_each P s h in
      let q = block_each P b p.1 in
      (joined_each P xs ys p.0 q.0, q.1)

  stmts_each : (P : StmtTree → Type 0) {ts us : List FormLine} {xs : List StmtTree} → IsStmts ts xs us → AllMake P ts → AllByRecursion (EachIn P) xs × AllMake P us
  stmts_each P grammar.simple h = (h.0, h.1)
  stmts_each P (grammar.logical {xs = xs}) h = (((h.0.0 (all_stmts xs) NoStmts, joined_each P xs NoStmts h.0.1 tt, tt), tt), h.1)
  stmts_each P (grammar.choice {first = front} {second = behind} a c) h =
      let p = block_each P a h.1 in
      let q = choices_each P c p.1 in
      (((h.0 front behind, p.0, q.0), tt), q.1)
  stmts_each P (grammar.counted {body = body} a) h = let p = block_each P a h.1 in (((h.0 body, p.0), tt), p.1.1)
  stmts_each P (grammar.while {body = body} a) h = let p = block_each P a h.1 in (((h.0 body, p.0), tt), p.1.1)

  choices_each : (P : StmtTree → Type 0) {ts us : List FormLine} {xs : StmtTrees} → IsChoices ts xs us → AllMake P ts → EachAmong P xs × AllMake P us
  choices_each P grammar.over h = (tt, h.1)
  choices_each P (grammar.otherwise a) h = let p = block_each P a h.1 in (p.0, p.1.1)
  choices_each P (grammar.chained {first = front} {second = behind} a c) h =
      let p = block_each P a h.1 in
      let q = choices_each P c p.1 in
      (((h.0 front behind, p.0, q.0), tt), q.1)

mutual
  in_weaker : (P Q : StmtTree → Type 0) → ((x : StmtTree) → P x → Q x) → (x : StmtTree) → EachIn P x → EachIn Q x
  in_weaker P Q f (AssignStmt l t e) h = f (AssignStmt l t e) h
  in_weaker P Q f (IfStmt l c so otherwise) h = (f (IfStmt l c so otherwise) h.0, among_weaker P Q f so h.1, among_weaker P Q f otherwise h.2)
  in_weaker P Q f (DoStmt l n a b by body) h = (f (DoStmt l n a b by body) h.0, among_weaker P Q f body h.1)
  in_weaker P Q f (WhileStmt l c body) h = (f (WhileStmt l c body) h.0, among_weaker P Q f body h.1)
  in_weaker P Q f (ReadStmt l t) h = f (ReadStmt l t) h
  in_weaker P Q f (PrintStmt l xs) h = f (PrintStmt l xs) h
  in_weaker P Q f (SkipStmt l) h = f (SkipStmt l) h
  in_weaker P Q f (RemapStmt l n xs) h = f (RemapStmt l n xs) h

  among_weaker : (P Q : StmtTree → Type 0) → ((x : StmtTree) → P x → Q x) → (xs : StmtTrees) → EachAmong P xs → EachAmong Q xs
  among_weaker P Q f NoStmts h = tt
  among_weaker P Q f (Stmt x xs) h = (in_weaker P Q f x h.0, among_weaker P Q f xs h.1)

-- ---- declarations

-- a declaration is of a plain name, and stands on a line up to this one
abbrev IsPlainUpTo : ℕ → DeclTree → Type 0
IsPlainUpTo n x = IsPlain (name_of x) × ((line_of x).0 ≤ n)

-- the declarations stand on lines up to one from which the lines behind them go on
record AreEnded (n : ℕ) (ds : List DeclTree) (us : List FormLine) : Type 0 where
  last : ℕ
  behind : n ≤ last
  declared : AllByRecursion (IsPlainUpTo last) ds
  forms : ArePlainForms us
  ascend : Ascend form_number last us

up_to : (l : Line) (n : ℕ) (es ds : List DeclTree) → l.0 ≤ n → AllByRecursion (IsPlainOn l) es → AllByRecursion (IsPlainUpTo n) ds → AllByRecursion (IsPlainUpTo n) (es ++ ds)
up_to l n [] ds le h k = k
up_to l n (e ∷ es) ds le h k = ((h.0.0, subst (λ (m : Line). m.0 ≤ n) (sym h.0.1) le), up_to l n es ds le h.1 k)

decls_ended : {ts us : List FormLine} {ds : List DeclTree} → AreDecls ts ds us → (n : ℕ) → ArePlainForms ts → Ascend form_number n ts → AreEnded n ds us
decls_ended grammar.no_decls n h a = record { last = n; behind = omega arith; declared = tt; forms = h; ascend = a }
decls_ended (grammar.decls {l = l} {ds = ds} {es = es} d) n h a =
    let r = decls_ended d l.0 h.1 a.1 in
    record { last = r.last; behind = omega (arith, a.0, r.behind); declared = up_to l r.last es ds r.behind h.0.0 r.declared; forms = r.forms; ascend = r.ascend }

-- ---- the text

head_plain : {ts us : List FormLine} → IsHead ts us → ArePlainForms ts → ArePlainForms us
head_plain grammar.no_head h = h
head_plain grammar.head h = h.1

head_ascends : {ts us : List FormLine} → IsHead ts us → (n : ℕ) → Ascend form_number n ts → Ascend form_number n us
head_ascends grammar.no_head n a = a
head_ascends (grammar.head {l = l} {ts = ts}) n a = lower form_number ts n l.0 a.0 a.1

later : (a b c : ℕ) → a ≤ b → b ≤ c → a ≤ c
later a b c h k = omega (arith, h, k)

pub trees_are_written : (text : List ℕ) (x : Lexed) (t : ProgramTree) → IsReading text x → x.ended ≡ true → IsText (token_lines x) t → IsWritten t
trees_are_written text x t r ended w =
    let forms = head_plain w.program.head (forms_plain w.have (reading_plain text x r)) in
    let ascend = head_ascends w.program.head 1 (forms_ascend w.have 1 (reading_ascends text x r ended)) in
    let e = decls_ended w.program.declarations 1 forms ascend in
    let body = (block_each (IsPlainFrom e.last) w.program.statements (all_make e.last w.program.body e.forms e.ascend)).0 in
    let decls = All-from_recursion (IsPlainUpTo e.last) t.decls e.declared in
    let NoLater : StmtTree → Type 0 = λ y. AreNoLater t.decls (line_of_stmt y) in
    record {
      declared = All-weaker (IsPlainUpTo e.last) (λ (d : DeclTree). IsPlain (name_of d)) (λ d h. h.0) t.decls decls;
      named = among_weaker (IsPlainFrom e.last) HasPlainHead (λ y h. h.0) t.body body;
      ordered = among_weaker (IsPlainFrom e.last) NoLater (λ y h. All-weaker (IsPlainUpTo e.last) (λ (d : DeclTree). (line_of d).0 ≤ (line_of_stmt y).0) (λ d k. later (line_of d).0 e.last (line_of_stmt y).0 k.1 h.1) t.decls decls) t.body body;
    }
