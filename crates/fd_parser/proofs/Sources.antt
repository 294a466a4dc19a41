-- What remains of a source behind the lines so far.
use Rattle.std.proofs.Common.{◌≡◌, List, [], ◌∷◌, ◌++◌, refl, sym, ◌∙◌, ap, subst, append_assoc}
use Rattle.std.proofs.lemmas.List.{append-nil}
use Rattle.std.specs.Prelude.{Option, Some, None}
use Rattle.fd_base.specs.declared.numbering.Line.{Line}
use Rattle.fd_ast.specs.Tree.{DeclTree, StmtTree, StmtTrees, ProgramTree}
use Rattle.fd_parser.specs.declared.source.Section.{Section}
use Rattle.fd_parser.specs.declared.source.Section.TheVariants.{Start, Declarations, Statements}
use Rattle.fd_parser.specs.Forms.{LineForm, ProgramLine, DeclLine, SimpleLine, LogicalIf, IfThen, ElseIf, Else, EndIf, DoLine, WhileLine, EndDo}
use Rattle.fd_parser.specs.Program.{FormLine, At, all_stmts, IsBlock, IsHead, no_head, head, AreDecls, no_decls, decls, IsProgram}
use Rattle.fd_parser.specs.Open.{Place, Inside, step}
use Rattle.fd_parser.specs.Sections.{Here, start, taken, with_inside}
use Rattle.fd_parser.proofs.Completes.{Completes, completes, at_end, Makes, line_out, line_in, no_program_line, no_decl_line, nothing_left}

-- declarations may still come
pub data IsOpen : Section → Type 0 where
  at_start : IsOpen Start
  in_decls : IsOpen Declarations

-- the lines go on behind these declarations, blocks and statements, to this tree
pub data GoesOn : Section → List DeclTree → List Place → List StmtTree → List FormLine → ProgramTree → Type 0 where
  title : {ds : List DeclTree} {ps : List Place} {done : List StmtTree} {l : Line} {ts : List FormLine} {t : ProgramTree} → GoesOn Declarations ds ps done ts t → GoesOn Start ds ps done (At l ProgramLine ∷ ts) t
  declared : {s : Section} {ds es : List DeclTree} {ps : List Place} {done : List StmtTree} {l : Line} {ts : List FormLine} {t : ProgramTree} → IsOpen s → GoesOn Declarations (ds ++ es) ps done ts t → GoesOn s ds ps done (At l (DeclLine es) ∷ ts) t
  body : {s : Section} {ds : List DeclTree} {ps : List Place} {done : List StmtTree} {ts : List FormLine} {xs : StmtTrees} → Completes ps done ts xs → GoesOn s ds ps done ts (record { decls = ds; body = xs })

abbrev pub Remains : Here → List FormLine → ProgramTree → Type 0
Remains h ts t = GoesOn h.section h.decls h.inside.places h.inside.done ts t

abbrev here : Section → List DeclTree → List Place → List StmtTree → Here
here s ds ps done = record { section = s; decls = ds; inside = record { places = ps; done = done } }

abbrev program : List DeclTree → StmtTrees → ProgramTree
program ds xs = record { decls = ds; body = xs }

-- ---- from the line to what it makes

pub record MakesHere (h : Here) (l : Line) (f : LineForm) (q : List FormLine) (t : ProgramTree) : Type 0 where
  pub next : Here
  pub made : taken l f h ≡ Some next
  pub rest : Remains next q t

statement_out : {s : Section} {ds : List DeclTree} {ps : List Place} {done : List StmtTree} {l : Line} {f : LineForm} {q : List FormLine} {xs : StmtTrees} → taken l f (here s ds ps done) ≡ with_inside (here s ds ps done) (step l f (record { places = ps; done = done })) → Makes (record { places = ps; done = done }) l f q xs → MakesHere (here s ds ps done) l f q (program ds xs)
statement_out {s = s} {ds = ds} {ps = ps} {done = done} e m = record { next = record { section = Statements; decls = ds; inside = m.next }; made = e ∙ ap (with_inside (here s ds ps done)) m.made; rest = body m.rest }

pub source_out : (l : Line) (f : LineForm) {s : Section} {ds : List DeclTree} {ps : List Place} {done : List StmtTree} {q : List FormLine} {t : ProgramTree} → GoesOn s ds ps done (At l f ∷ q) t → MakesHere (here s ds ps done) l f q t
source_out l ProgramLine {ds = ds} {ps = ps} {done = done} (title k) = record { next = here Declarations ds ps done; made = refl; rest = k }
source_out l ProgramLine (body k) = absurd (no_program_line k)
source_out l (DeclLine es) {ds = ds} {ps = ps} {done = done} (declared at_start k) = record { next = here Declarations (ds ++ es) ps done; made = refl; rest = k }
source_out l (DeclLine es) {ds = ds} {ps = ps} {done = done} (declared in_decls k) = record { next = here Declarations (ds ++ es) ps done; made = refl; rest = k }
source_out l (DeclLine es) (body k) = absurd (no_decl_line k)
source_out l (SimpleLine xs) (body k) = statement_out refl (line_out l (SimpleLine xs) k)
source_out l (LogicalIf c xs) (body k) = statement_out refl (line_out l (LogicalIf c xs) k)
source_out l (IfThen c) (body k) = statement_out refl (line_out l (IfThen c) k)
source_out l (ElseIf c) (body k) = statement_out refl (line_out l (ElseIf c) k)
source_out l Else (body k) = statement_out refl (line_out l Else k)
source_out l EndIf (body k) = statement_out refl (line_out l EndIf k)
source_out l (DoLine s x y z) (body k) = statement_out refl (line_out l (DoLine s x y z) k)
source_out l (WhileLine c) (body k) = statement_out refl (line_out l (WhileLine c) k)
source_out l EndDo (body k) = statement_out refl (line_out l EndDo k)

-- ---- and back

abbrev some : Here → Option Here
some h = Some h

pub remains_at : (h g : Here) (q : List FormLine) (t : ProgramTree) → some h ≡ some g → Remains g q t → Remains h q t
remains_at h g q t e k = let f : h ≡ g = cc in subst (λ (x : Here). Remains x q t) (sym f) k

none_open : IsOpen Statements → ⊥
none_open o = elim o [ ]

statement_body : (l : Line) (f : LineForm) (s : Section) (ds : List DeclTree) (ps : List Place) (done : List StmtTree) (i : Inside) (q : List FormLine) (t : ProgramTree) → step l f (record { places = ps; done = done }) ≡ Some i → GoesOn Statements ds i.places i.done q t → GoesOn s ds ps done (At l f ∷ q) t
statement_body l f s ds ps done i q t e (declared o k) = absurd (none_open o)
statement_body l f s ds ps done i q t e (body {xs = xs} k) = body (line_in l f ps done i q xs e k)

record Within (h : Here) (o : Option Inside) (g : Here) : Type 0 where
  inside : Inside
  is : o ≡ Some inside
  made : some (record { section = Statements; decls = h.decls; inside = inside }) ≡ some g

within : (h : Here) (o : Option Inside) (g : Here) → with_inside h o ≡ Some g → Within h o g
within h None g e = absurd cc
within h (Some i) g e = record { inside = i; is = refl; made = e }

statement_in : (l : Line) (f : LineForm) (s : Section) (ds : List DeclTree) (ps : List Place) (done : List StmtTree) (g : Here) (q : List FormLine) (t : ProgramTree) → with_inside (here s ds ps done) (step l f (record { places = ps; done = done })) ≡ Some g → Remains g q t → GoesOn s ds ps done (At l f ∷ q) t
statement_in l f s ds ps done g q t e k =
    let w = within (here s ds ps done) (step l f (record { places = ps; done = done })) g e in
    statement_body l f s ds ps done w.inside q t w.is (remains_at (record { section = Statements; decls = ds; inside = w.inside }) g q t w.made k)

pub source_in : (l : Line) (f : LineForm) (s : Section) (ds : List DeclTree) (ps : List Place) (done : List StmtTree) (g : Here) (q : List FormLine) (t : ProgramTree) → taken l f (here s ds ps done) ≡ Some g → Remains g q t → GoesOn s ds ps done (At l f ∷ q) t
source_in l ProgramLine Start ds ps done g q t e k = title (remains_at (here Declarations ds ps done) g q t e k)
source_in l ProgramLine Declarations ds ps done g q t e k = absurd cc
source_in l ProgramLine Statements ds ps done g q t e k = absurd cc
source_in l (DeclLine es) Start ds ps done g q t e k = declared at_start (remains_at (here Declarations (ds ++ es) ps done) g q t e k)
source_in l (DeclLine es) Declarations ds ps done g q t e k = declared in_decls (remains_at (here Declarations (ds ++ es) ps done) g q t e k)
source_in l (DeclLine es) Statements ds ps done g q t e k = absurd cc
source_in l (SimpleLine xs) s ds ps done g q t e k = statement_in l (SimpleLine xs) s ds ps done g q t e k
source_in l (LogicalIf c xs) s ds ps done g q t e k = statement_in l (LogicalIf c xs) s ds ps done g q t e k
source_in l (IfThen c) s ds ps done g q t e k = statement_in l (IfThen c) s ds ps done g q t e k
source_in l (ElseIf c) s ds ps done g q t e k = statement_in l (ElseIf c) s ds ps done g q t e k
source_in l Else s ds ps done g q t e k = statement_in l Else s ds ps done g q t e k
source_in l EndIf s ds ps done g q t e k = statement_in l EndIf s ds ps done g q t e k
source_in l (DoLine n x y z) s ds ps done g q t e k = statement_in l (DoLine n x y z) s ds ps done g q t e k
source_in l (WhileLine c) s ds ps done g q t e k = statement_in l (WhileLine c) s ds ps done g q t e k
source_in l EndDo s ds ps done g q t e k = statement_in l EndDo s ds ps done g q t e k

-- ---- what remains at the start is a program

same_decls : {ds es : List DeclTree} {s : Section} {fs : List DeclTree} {ts : List FormLine} {xs : StmtTrees} → ds ≡ es → GoesOn s fs [] [] ts (program ds xs) → GoesOn s fs [] [] ts (program es xs)
same_decls {s = s} {fs = fs} {ts = ts} {xs = xs} e k = subst (λ (ds : List DeclTree). GoesOn s fs [] [] ts (program ds xs)) e k

decls_in : {s : Section} {ts us : List FormLine} {ds : List DeclTree} {xs : StmtTrees} (es : List DeclTree) → IsOpen s → AreDecls ts ds us → IsBlock us xs [] → GoesOn s es [] [] ts (program (es ++ ds) xs)
decls_in es o no_decls b = same_decls (sym (append-nil es)) (body (completes b at_end))
decls_in es o (decls {ds = ds} {es = fs} a) b = same_decls (append_assoc es fs ds) (declared o (decls_in (es ++ fs) in_decls a b))

headed_in : {ts us vs : List FormLine} {ds : List DeclTree} {xs : StmtTrees} → IsHead ts us → AreDecls us ds vs → IsBlock vs xs [] → Remains start ts (program ds xs)
headed_in no_head a b = decls_in [] at_start a b
headed_in head a b = title (decls_in [] in_decls a b)

pub program_out : (ts : List FormLine) (t : ProgramTree) → IsProgram ts t → Remains start ts t
program_out ts t p = headed_in p.head p.declarations p.statements

record DeclsOut (ds : List DeclTree) (ts : List FormLine) (t : ProgramTree) : Type 0 where
  others : List DeclTree
  rest : List FormLine
  are : AreDecls ts others rest
  is : ds ++ others ≡ t.decls
  statements : IsBlock rest t.body []

body_alone : {ts : List FormLine} {xs : StmtTrees} → Completes [] [] ts xs → IsBlock ts xs []
body_alone (completes b at_end) = b

decls_out : {ds : List DeclTree} {ts : List FormLine} {t : ProgramTree} → GoesOn Declarations ds [] [] ts t → DeclsOut ds ts t
decls_out {ds = ds} (declared {es = es} o k) = let q = decls_out k in record { others = es ++ q.others; rest = q.rest; are = decls q.are; is = sym (append_assoc ds es q.others) ∙ q.is; statements = q.statements }
decls_out {ds = ds} {ts = ts} (body k) = record { others = []; rest = ts; are = no_decls; is = append-nil ds; statements = body_alone k }

program_of : {ts us : List FormLine} {t : ProgramTree} → IsHead ts us → DeclsOut [] us t → IsProgram ts t
program_of {us = us} h q = record { behind_head = us; body = q.rest; head = h; declarations = subst (λ (ds : List DeclTree). AreDecls us ds q.rest) q.is q.are; statements = q.statements }

declared_out : {ts : List FormLine} {es : List DeclTree} {t : ProgramTree} {l : Line} → GoesOn Declarations es [] [] ts t → DeclsOut [] (At l (DeclLine es) ∷ ts) t
declared_out {es = es} k = let q = decls_out k in record { others = es ++ q.others; rest = q.rest; are = decls q.are; is = q.is; statements = q.statements }

pub program_in : (ts : List FormLine) (t : ProgramTree) → Remains start ts t → IsProgram ts t
program_in ts t (title k) = program_of head (decls_out k)
program_in ts t (declared o k) = program_of no_head (declared_out k)
program_in ts t (body k) = record { behind_head = ts; body = ts; head = no_head; declarations = no_decls; statements = body_alone k }

-- ---- at most one tree

no_line : {s : Section} {ds : List DeclTree} {ps : List Place} {done : List StmtTree} {t : ProgramTree} → GoesOn s ds ps done [] t → (ps ≡ []) × (program ds (all_stmts done) ≡ t)
no_line {ds = ds} (body k) = let q = nothing_left k in (q.0, ap (λ (xs : StmtTrees). program ds xs) q.1)

pub remains_nothing : (h : Here) (t : ProgramTree) → Remains h [] t → (h.inside.places ≡ []) × (program h.decls (all_stmts h.inside.done) ≡ t)
remains_nothing h t k = no_line k

same_tree : (ts : List FormLine) (h : Here) (x y : ProgramTree) → Remains h ts x → Remains h ts y → x ≡ y
same_tree [] h x y a b = sym (remains_nothing h x a).1 ∙ (remains_nothing h y b).1
same_tree (At l f ∷ ts) h x y a b =
    let m = source_out l f a in
    let n = source_out l f b in
    same_tree ts m.next x y m.rest (remains_at m.next n.next ts y (sym m.made ∙ n.made) n.rest)

pub one_program : (ts : List FormLine) (x y : ProgramTree) → IsProgram ts x → IsProgram ts y → x ≡ y
one_program ts x y a b = same_tree ts start x y (program_out ts x a) (program_out ts y b)
