-- What remains of a body behind the lines so far, by the blocks that are open.
use Rattle.std.proofs.Common.{◌≡◌, ℕ, List, [], ◌∷◌, ◌++◌, refl, sym, subst}
use Rattle.std.specs.Prelude.{Bool, true, false, Option, Some}
use Rattle.fd_base.specs.declared.numbering.Line.{Line}
use Rattle.fd_ast.specs.Tree.{ExprTree, CondTree, DeclTree, StmtTree, IfStmt, StmtTrees, NoStmts}
use Rattle.fd_parser.specs.Forms.{LineForm, ProgramLine, DeclLine, SimpleLine, LogicalIf, IfThen, ElseIf, Else, EndIf, DoLine, WhileLine, EndDo}
use Rattle.fd_parser.specs.Program.{FormLine, At, joined_stmts, all_stmts, IsBlock, none, more, IsStmts, simple, logical, choice, counted, while, IsChoices, over, otherwise, chained}
use Rattle.fd_parser.specs.Open.{LoopHead, Counted, While, loop_stmt, Place, InLoop, InFirst, InSecond, Inside, step, choice_ended_at, resumed}
use Rattle.fd_parser.proofs.Statements.{joined_stmts-append}

mutual
  -- the lines go on behind these statements of the innermost block, to this body
  pub data Completes : List Place → List StmtTree → List FormLine → StmtTrees → Type 0 where
    completes : {ps : List Place} {done : List StmtTree} {ts us : List FormLine} {xs t : StmtTrees} → IsBlock ts xs us → Ends ps (joined_stmts done xs) us t → Completes ps done ts t

  -- the lines go on at the end of the innermost block
  pub data Ends : List Place → StmtTrees → List FormLine → StmtTrees → Type 0 where
    at_end : {b : StmtTrees} → Ends [] b [] b
    at_loop : {ps : List Place} {front : List StmtTree} {h : LoopHead} {b t : StmtTrees} {l : Line} {ts : List FormLine} → Completes ps (front ++ loop_stmt h b ∷ []) ts t → Ends (InLoop h front ∷ ps) b (At l EndDo ∷ ts) t
    at_first : {ps : List Place} {front : List StmtTree} {l : Line} {c : CondTree} {ch : Bool} {b d t : StmtTrees} {us vs : List FormLine} → IsChoices us d vs → Resumes ch ps (front ++ IfStmt l c b d ∷ []) vs t → Ends (InFirst l c front ch ∷ ps) b us t
    at_second : {ps : List Place} {front : List StmtTree} {l m : Line} {c : CondTree} {ch : Bool} {a b t : StmtTrees} {vs : List FormLine} → Resumes ch ps (front ++ IfStmt l c a b ∷ []) vs t → Ends (InSecond l c a front ch ∷ ps) b (At m EndIf ∷ vs) t

  -- the lines go on behind an IF, which may be chained
  pub data Resumes : Bool → List Place → List StmtTree → List FormLine → StmtTrees → Type 0 where
    goes_on : {ps : List Place} {done : List StmtTree} {ts : List FormLine} {t : StmtTrees} → Completes ps done ts t → Resumes false ps done ts t
    ends_first : {ps : List Place} {front done : List StmtTree} {l : Line} {c : CondTree} {ch : Bool} {ts : List FormLine} {t : StmtTrees} → Resumes ch ps (front ++ IfStmt l c (all_stmts done) NoStmts ∷ []) ts t → Resumes true (InFirst l c front ch ∷ ps) done ts t
    ends_second : {ps : List Place} {front done : List StmtTree} {l : Line} {c : CondTree} {ch : Bool} {a : StmtTrees} {ts : List FormLine} {t : StmtTrees} → Resumes ch ps (front ++ IfStmt l c a (all_stmts done) ∷ []) ts t → Resumes true (InSecond l c a front ch ∷ ps) done ts t

-- statements at the front
stmts_in : {ps : List Place} {done xs : List StmtTree} {ts us : List FormLine} {t : StmtTrees} → IsStmts ts xs us → Completes ps (done ++ xs) us t → Completes ps done ts t
stmts_in {ps = ps} {done = done} {xs = xs} {t = t} s (completes {us = vs} {xs = ys} b e) = completes (more s b) (subst (λ (y : StmtTrees). Ends ps y vs t) (joined_stmts-append done xs ys) e)

stmts_out : {ps : List Place} (done xs : List StmtTree) {us vs : List FormLine} {ys t : StmtTrees} → IsBlock us ys vs → Ends ps (joined_stmts done (joined_stmts xs ys)) vs t → Completes ps (done ++ xs) us t
stmts_out {ps = ps} done xs {vs = vs} {ys = ys} {t = t} b e = completes b (subst (λ (y : StmtTrees). Ends ps y vs t) (sym (joined_stmts-append done xs ys)) e)

-- ---- what stands at the end of a block

pub data Closer : LineForm → Type 0 where
  by_else_if : {c : CondTree} → Closer (ElseIf c)
  by_else : Closer Else
  by_end_if : Closer EndIf
  by_end_do : Closer EndDo

choices_close : {l : Line} {f : LineForm} {ts vs : List FormLine} {d : StmtTrees} → IsChoices (At l f ∷ ts) d vs → Closer f
choices_close over = by_end_if
choices_close (otherwise b) = by_else
choices_close (chained b c) = by_else_if

ends_close : {ps : List Place} {b t : StmtTrees} {l : Line} {f : LineForm} {ts : List FormLine} → Ends ps b (At l f ∷ ts) t → Closer f
ends_close (at_loop k) = by_end_do
ends_close (at_first c r) = choices_close c
ends_close (at_second r) = by_end_if

-- ---- from the line to what it makes

pub record Makes (h : Inside) (l : Line) (f : LineForm) (q : List FormLine) (t : StmtTrees) : Type 0 where
  pub next : Inside
  pub made : step l f h ≡ Some next
  pub rest : Completes next.places next.done q t

no_simple : {xs : List StmtTree} → Closer (SimpleLine xs) → ⊥
no_simple c = elim c [ ]

no_logical : {d : CondTree} {xs : List StmtTree} → Closer (LogicalIf d xs) → ⊥
no_logical c = elim c [ ]

no_if : {d : CondTree} → Closer (IfThen d) → ⊥
no_if c = elim c [ ]

no_do : {s : List ℕ} {x y z : ExprTree} → Closer (DoLine s x y z) → ⊥
no_do c = elim c [ ]

no_while : {d : CondTree} → Closer (WhileLine d) → ⊥
no_while c = elim c [ ]

no_program : Closer ProgramLine → ⊥
no_program c = elim c [ ]

no_decls : {ds : List DeclTree} → Closer (DeclLine ds) → ⊥
no_decls c = elim c [ ]

out_simple : {l : Line} {ps : List Place} {done xs : List StmtTree} {q : List FormLine} {t : StmtTrees} → Completes ps done (At l (SimpleLine xs) ∷ q) t → Makes (record { places = ps; done = done }) l (SimpleLine xs) q t
out_simple (completes none e) = absurd (no_simple (ends_close e))
out_simple {ps = ps} {done = done} {xs = xs} (completes (more simple b) e) = record { next = record { places = ps; done = done ++ xs }; made = refl; rest = stmts_out done xs b e }

out_logical : {l : Line} {c : CondTree} {ps : List Place} {done xs : List StmtTree} {q : List FormLine} {t : StmtTrees} → Completes ps done (At l (LogicalIf c xs) ∷ q) t → Makes (record { places = ps; done = done }) l (LogicalIf c xs) q t
out_logical (completes none e) = absurd (no_logical (ends_close e))
out_logical {l = l} {c = c} {ps = ps} {done = done} {xs = xs} (completes (more logical b) e) = record { next = record { places = ps; done = done ++ IfStmt l c (all_stmts xs) NoStmts ∷ [] }; made = refl; rest = stmts_out done (IfStmt l c (all_stmts xs) NoStmts ∷ []) b e }

out_if : {l : Line} {c : CondTree} {ps : List Place} {done : List StmtTree} {q : List FormLine} {t : StmtTrees} → Completes ps done (At l (IfThen c) ∷ q) t → Makes (record { places = ps; done = done }) l (IfThen c) q t
out_if (completes none e) = absurd (no_if (ends_close e))
out_if {l = l} {c = c} {ps = ps} {done = done} (completes (more (choice a d) b) e) = record { next = record { places = InFirst l c done false ∷ ps; done = [] }; made = refl; rest = completes a (at_first d (goes_on (stmts_out done _ b e))) }

out_do : {l : Line} {s : List ℕ} {x y z : ExprTree} {ps : List Place} {done : List StmtTree} {q : List FormLine} {t : StmtTrees} → Completes ps done (At l (DoLine s x y z) ∷ q) t → Makes (record { places = ps; done = done }) l (DoLine s x y z) q t
out_do (completes none e) = absurd (no_do (ends_close e))
out_do {l = l} {s = s} {x = x} {y = y} {z = z} {ps = ps} {done = done} (completes (more (counted a) b) e) = record { next = record { places = InLoop (Counted l s x y z) done ∷ ps; done = [] }; made = refl; rest = completes a (at_loop (stmts_out done _ b e)) }

out_while : {l : Line} {c : CondTree} {ps : List Place} {done : List StmtTree} {q : List FormLine} {t : StmtTrees} → Completes ps done (At l (WhileLine c) ∷ q) t → Makes (record { places = ps; done = done }) l (WhileLine c) q t
out_while (completes none e) = absurd (no_while (ends_close e))
out_while {l = l} {c = c} {ps = ps} {done = done} (completes (more (while a) b) e) = record { next = record { places = InLoop (While l c) done ∷ ps; done = [] }; made = refl; rest = completes a (at_loop (stmts_out done _ b e)) }

no_stmts_else_if : {l : Line} {c : CondTree} {q us : List FormLine} {xs : List StmtTree} → IsStmts (At l (ElseIf c) ∷ q) xs us → ⊥
no_stmts_else_if s = elim s [ ]

no_stmts_else : {l : Line} {q us : List FormLine} {xs : List StmtTree} → IsStmts (At l Else ∷ q) xs us → ⊥
no_stmts_else s = elim s [ ]

no_stmts_end_if : {l : Line} {q us : List FormLine} {xs : List StmtTree} → IsStmts (At l EndIf ∷ q) xs us → ⊥
no_stmts_end_if s = elim s [ ]

no_stmts_end_do : {l : Line} {q us : List FormLine} {xs : List StmtTree} → IsStmts (At l EndDo ∷ q) xs us → ⊥
no_stmts_end_do s = elim s [ ]

no_stmts_program : {l : Line} {q us : List FormLine} {xs : List StmtTree} → IsStmts (At l ProgramLine ∷ q) xs us → ⊥
no_stmts_program s = elim s [ ]

no_stmts_decls : {l : Line} {ds : List DeclTree} {q us : List FormLine} {xs : List StmtTree} → IsStmts (At l (DeclLine ds) ∷ q) xs us → ⊥
no_stmts_decls s = elim s [ ]

out_else_if : {l : Line} {c : CondTree} {ps : List Place} {done : List StmtTree} {q : List FormLine} {t : StmtTrees} → Completes ps done (At l (ElseIf c) ∷ q) t → Makes (record { places = ps; done = done }) l (ElseIf c) q t
out_else_if {l = m} {c = c} {done = done} (completes none (at_first {ps = ps} {front = front} {l = l0} {c = c0} {ch = ch} (chained a d) r)) = record { next = record { places = InFirst m c [] true ∷ (InSecond l0 c0 (all_stmts done) front ch ∷ ps); done = [] }; made = refl; rest = completes a (at_first d (ends_second r)) }
out_else_if (completes (more s b) e) = absurd (no_stmts_else_if s)

out_else : {l : Line} {ps : List Place} {done : List StmtTree} {q : List FormLine} {t : StmtTrees} → Completes ps done (At l Else ∷ q) t → Makes (record { places = ps; done = done }) l Else q t
out_else {done = done} (completes none (at_first {ps = ps} {front = front} {l = l0} {c = c0} {ch = ch} (otherwise a) r)) = record { next = record { places = InSecond l0 c0 (all_stmts done) front ch ∷ ps; done = [] }; made = refl; rest = completes a (at_second r) }
out_else (completes (more s b) e) = absurd (no_stmts_else s)

pub record Resumed (ch : Bool) (h : Inside) (q : List FormLine) (t : StmtTrees) : Type 0 where
  pub next : Inside
  pub made : resumed ch h ≡ Some next
  pub rest : Completes next.places next.done q t

resumes_out : {ch : Bool} {ps : List Place} {done : List StmtTree} {q : List FormLine} {t : StmtTrees} → Resumes ch ps done q t → Resumed ch (record { places = ps; done = done }) q t
resumes_out (goes_on {ps = ps} {done = done} k) = record { next = record { places = ps; done = done }; made = refl; rest = k }
resumes_out (ends_first {ch = true} r) = let q = resumes_out r in record { next = q.next; made = q.made; rest = q.rest }
resumes_out (ends_first {ch = false} r) = let q = resumes_out r in record { next = q.next; made = q.made; rest = q.rest }
resumes_out (ends_second {ch = true} r) = let q = resumes_out r in record { next = q.next; made = q.made; rest = q.rest }
resumes_out (ends_second {ch = false} r) = let q = resumes_out r in record { next = q.next; made = q.made; rest = q.rest }

out_end_if : {l : Line} {ps : List Place} {done : List StmtTree} {q : List FormLine} {t : StmtTrees} → Completes ps done (At l EndIf ∷ q) t → Makes (record { places = ps; done = done }) l EndIf q t
out_end_if (completes none (at_first {ch = true} over r)) = let q = resumes_out r in record { next = q.next; made = q.made; rest = q.rest }
out_end_if (completes none (at_first {ch = false} over r)) = let q = resumes_out r in record { next = q.next; made = q.made; rest = q.rest }
out_end_if (completes none (at_second {ch = true} r)) = let q = resumes_out r in record { next = q.next; made = q.made; rest = q.rest }
out_end_if (completes none (at_second {ch = false} r)) = let q = resumes_out r in record { next = q.next; made = q.made; rest = q.rest }
out_end_if (completes (more s b) e) = absurd (no_stmts_end_if s)

out_end_do : {l : Line} {ps : List Place} {done : List StmtTree} {q : List FormLine} {t : StmtTrees} → Completes ps done (At l EndDo ∷ q) t → Makes (record { places = ps; done = done }) l EndDo q t
out_end_do {done = done} (completes none (at_loop {ps = ps} {front = front} {h = h} k)) = record { next = record { places = ps; done = front ++ loop_stmt h (all_stmts done) ∷ [] }; made = refl; rest = k }
out_end_do (completes none (at_first d r)) = elim d [ ]
out_end_do (completes (more s b) e) = absurd (no_stmts_end_do s)

pub no_program_line : {l : Line} {ps : List Place} {done : List StmtTree} {q : List FormLine} {t : StmtTrees} → Completes ps done (At l ProgramLine ∷ q) t → ⊥
no_program_line (completes none e) = no_program (ends_close e)
no_program_line (completes (more s b) e) = no_stmts_program s

pub no_decl_line : {l : Line} {ds : List DeclTree} {ps : List Place} {done : List StmtTree} {q : List FormLine} {t : StmtTrees} → Completes ps done (At l (DeclLine ds) ∷ q) t → ⊥
no_decl_line (completes none e) = no_decls (ends_close e)
no_decl_line (completes (more s b) e) = no_stmts_decls s

pub line_out : (l : Line) (f : LineForm) {ps : List Place} {done : List StmtTree} {q : List FormLine} {t : StmtTrees} → Completes ps done (At l f ∷ q) t → Makes (record { places = ps; done = done }) l f q t
line_out l ProgramLine k = absurd (no_program_line k)
line_out l (DeclLine ds) k = absurd (no_decl_line k)
line_out l (SimpleLine xs) k = out_simple k
line_out l (LogicalIf c xs) k = out_logical k
line_out l (IfThen c) k = out_if k
line_out l (ElseIf c) k = out_else_if k
line_out l Else k = out_else k
line_out l EndIf k = out_end_if k
line_out l (DoLine s x y z) k = out_do k
line_out l (WhileLine c) k = out_while k
line_out l EndDo k = out_end_do k

-- ---- and back

in_if : {l : Line} {c : CondTree} {ps : List Place} {done : List StmtTree} {q : List FormLine} {t : StmtTrees} → Completes (InFirst l c done false ∷ ps) [] q t → Completes ps done (At l (IfThen c) ∷ q) t
in_if (completes a (at_first d (goes_on k))) = stmts_in (choice a d) k

in_do : {l : Line} {s : List ℕ} {x y z : ExprTree} {ps : List Place} {done : List StmtTree} {q : List FormLine} {t : StmtTrees} → Completes (InLoop (Counted l s x y z) done ∷ ps) [] q t → Completes ps done (At l (DoLine s x y z) ∷ q) t
in_do (completes a (at_loop k)) = stmts_in (counted a) k

in_while : {l : Line} {c : CondTree} {ps : List Place} {done : List StmtTree} {q : List FormLine} {t : StmtTrees} → Completes (InLoop (While l c) done ∷ ps) [] q t → Completes ps done (At l (WhileLine c) ∷ q) t
in_while (completes a (at_loop k)) = stmts_in (while a) k

in_else_if : {l l0 : Line} {c c0 : CondTree} {ps : List Place} {done front : List StmtTree} {ch : Bool} {q : List FormLine} {t : StmtTrees} → Completes (InFirst l c [] true ∷ (InSecond l0 c0 (all_stmts done) front ch ∷ ps)) [] q t → Completes (InFirst l0 c0 front ch ∷ ps) done (At l (ElseIf c) ∷ q) t
in_else_if (completes a (at_first d (ends_second r))) = completes none (at_first (chained a d) r)

in_else : {l l0 : Line} {c0 : CondTree} {ps : List Place} {done front : List StmtTree} {ch : Bool} {q : List FormLine} {t : StmtTrees} → Completes (InSecond l0 c0 (all_stmts done) front ch ∷ ps) [] q t → Completes (InFirst l0 c0 front ch ∷ ps) done (At l Else ∷ q) t
in_else (completes a (at_second r)) = completes none (at_first (otherwise a) r)

abbrev some : Inside → Option Inside
some h = Some h

at : (h g : Inside) (q : List FormLine) (t : StmtTrees) → some h ≡ some g → Completes g.places g.done q t → Completes h.places h.done q t
at h g q t e k = let f : h ≡ g = cc in subst (λ (x : Inside). Completes x.places x.done q t) (sym f) k

resumes_in : (ps : List Place) (done : List StmtTree) (g : Inside) (q : List FormLine) (t : StmtTrees) → choice_ended_at ps done ≡ Some g → Completes g.places g.done q t → Resumes true ps done q t
resumes_in [] done g q t e k = absurd cc
resumes_in (InLoop h front ∷ ps) done g q t e k = absurd cc
resumes_in (InFirst l c front true ∷ ps) done g q t e k = ends_first (resumes_in ps _ g q t e k)
resumes_in (InFirst l c front false ∷ ps) done g q t e k = ends_first (goes_on (at (record { places = ps; done = front ++ IfStmt l c (all_stmts done) NoStmts ∷ [] }) g q t e k))
resumes_in (InSecond l c a front true ∷ ps) done g q t e k = ends_second (resumes_in ps _ g q t e k)
resumes_in (InSecond l c a front false ∷ ps) done g q t e k = ends_second (goes_on (at (record { places = ps; done = front ++ IfStmt l c a (all_stmts done) ∷ [] }) g q t e k))

in_end_if : (m : Line) (ps : List Place) (done : List StmtTree) (g : Inside) (q : List FormLine) (t : StmtTrees) → choice_ended_at ps done ≡ Some g → Completes g.places g.done q t → Completes ps done (At m EndIf ∷ q) t
in_end_if m [] done g q t e k = absurd cc
in_end_if m (InLoop h front ∷ ps) done g q t e k = absurd cc
in_end_if m (InFirst l c front true ∷ ps) done g q t e k = completes none (at_first over (resumes_in ps _ g q t e k))
in_end_if m (InFirst l c front false ∷ ps) done g q t e k = completes none (at_first over (goes_on (at (record { places = ps; done = front ++ IfStmt l c (all_stmts done) NoStmts ∷ [] }) g q t e k)))
in_end_if m (InSecond l c a front true ∷ ps) done g q t e k = completes none (at_second (resumes_in ps _ g q t e k))
in_end_if m (InSecond l c a front false ∷ ps) done g q t e k = completes none (at_second (goes_on (at (record { places = ps; done = front ++ IfStmt l c a (all_stmts done) ∷ [] }) g q t e k)))

pub line_in : (m : Line) (f : LineForm) (ps : List Place) (done : List StmtTree) (g : Inside) (q : List FormLine) (t : StmtTrees) → step m f (record { places = ps; done = done }) ≡ Some g → Completes g.places g.done q t → Completes ps done (At m f ∷ q) t
line_in m ProgramLine ps done g q t e k = absurd cc
line_in m (DeclLine ds) ps done g q t e k = absurd cc
line_in m (SimpleLine xs) ps done g q t e k = stmts_in simple (at (record { places = ps; done = done ++ xs }) g q t e k)
line_in m (LogicalIf c xs) ps done g q t e k = stmts_in logical (at (record { places = ps; done = done ++ IfStmt m c (all_stmts xs) NoStmts ∷ [] }) g q t e k)
line_in m (IfThen c) ps done g q t e k = in_if (at (record { places = InFirst m c done false ∷ ps; done = [] }) g q t e k)
line_in m (ElseIf c) [] done g q t e k = absurd cc
line_in m (ElseIf c) (InLoop h front ∷ ps) done g q t e k = absurd cc
line_in m (ElseIf c) (InFirst l c0 front ch ∷ ps) done g q t e k = in_else_if (at (record { places = InFirst m c [] true ∷ (InSecond l c0 (all_stmts done) front ch ∷ ps); done = [] }) g q t e k)
line_in m (ElseIf c) (InSecond l c0 a front ch ∷ ps) done g q t e k = absurd cc
line_in m Else [] done g q t e k = absurd cc
line_in m Else (InLoop h front ∷ ps) done g q t e k = absurd cc
line_in m Else (InFirst l c0 front ch ∷ ps) done g q t e k = in_else (at (record { places = InSecond l c0 (all_stmts done) front ch ∷ ps; done = [] }) g q t e k)
line_in m Else (InSecond l c0 a front ch ∷ ps) done g q t e k = absurd cc
line_in m EndIf ps done g q t e k = in_end_if m ps done g q t e k
line_in m (DoLine s x y z) ps done g q t e k = in_do (at (record { places = InLoop (Counted m s x y z) done ∷ ps; done = [] }) g q t e k)
line_in m (WhileLine c) ps done g q t e k = in_while (at (record { places = InLoop (While m c) done ∷ ps; done = [] }) g q t e k)
line_in m EndDo [] done g q t e k = absurd cc
line_in m EndDo (InLoop h front ∷ ps) done g q t e k = completes none (at_loop (at (record { places = ps; done = front ++ loop_stmt h (all_stmts done) ∷ [] }) g q t e k))
line_in m EndDo (InFirst l c0 front ch ∷ ps) done g q t e k = absurd cc
line_in m EndDo (InSecond l c0 a front ch ∷ ps) done g q t e k = absurd cc

no_choices : {us : List FormLine} {d : StmtTrees} → IsChoices [] d us → ⊥
no_choices c = elim c [ ]

no_stmts : {us : List FormLine} {xs : List StmtTree} → IsStmts [] xs us → ⊥
no_stmts s = elim s [ ]

-- where no line is left, no block is open
pub nothing_left : {ps : List Place} {done : List StmtTree} {t : StmtTrees} → Completes ps done [] t → (ps ≡ []) × (all_stmts done ≡ t)
nothing_left (completes none at_end) = (refl, refl)
nothing_left (completes none (at_first c r)) = absurd (no_choices c)
nothing_left (completes (more s b) e) = absurd (no_stmts s)
