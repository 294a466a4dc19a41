-- The stacks of open blocks that come about: each can be completed, and its length is its nesting level.
use Rattle.std.proofs.Common.{◌≡◌, ℕ, ◌+◌, List, [], ◌∷◌, ◌++◌, length, refl, subst, ◌∙◌, arith, sum}
use Rattle.std.proofs.lemmas.List.Sums.{sum_by-cons}
use Rattle.std.specs.Prelude.{Bool, true, false, Option, Some, None, codes}
use Rattle.fd_base.specs.declared.numbering.Line.{Line}
use Rattle.fd_lexer.specs.View.{Name, TokenLine}
use Rattle.fd_ast.specs.Tree.{DeclTree, StmtTree, IfStmt, StmtTrees, NoStmts}
use Rattle.fd_parser.specs.declared.source.Section.{Section}
use Rattle.fd_parser.specs.declared.source.Section.TheVariants.{Start, Declarations, Statements}
use Rattle.fd_parser.specs.Forms.{LineForm, ProgramLine, DeclLine, SimpleLine, LogicalIf, IfThen, ElseIf, Else, EndIf, DoLine, WhileLine, EndDo, endif, enddo, end_line, choice, other}
use Rattle.fd_parser.specs.Program.{FormLine, At, all_stmts, none, over}
use Rattle.fd_parser.specs.Open.{Counted, While, loop_stmt, Place, InLoop, InFirst, InSecond, Inside, step, choice_ended_at}
use Rattle.fd_parser.specs.Sections.{Here, taken, titled, declared_at, with_decls, with_inside, level_here}
use Rattle.fd_parser.specs.Text.{HaveForms, no_lines, one_more, without_first, one_deeper, levels_behind, with_own}
use Rattle.fd_parser.proofs.Completes.{Completes, completes, at_end, at_loop, at_first, at_second, Resumes, goes_on, ends_first, ends_second}

-- an IF is innermost
abbrev pub IsChoice : List Place → Type 0
IsChoice [] = ⊥
IsChoice (InLoop h front ∷ ps) = ⊥
IsChoice (InFirst l c front ch ∷ ps) = Unit {0}
IsChoice (InSecond l c a front ch ∷ ps) = Unit {0}

abbrev pub IsChained : Bool → List Place → Type 0
IsChained true ps = IsChoice ps
IsChained false ps = Unit {0}

-- what is chained is chained to an IF
abbrev pub IsStack : List Place → Type 0
IsStack [] = Unit {0}
IsStack (InLoop h front ∷ ps) = IsStack ps
IsStack (InFirst l c front ch ∷ ps) = IsChained ch ps × IsStack ps
IsStack (InSecond l c a front ch ∷ ps) = IsChained ch ps × IsStack ps

-- ---- each can be completed, by the lines ENDIF and ENDDO

abbrev end_if : Line → TokenLine
end_if m = record { number = m; toks = Name (codes "ENDIF") ∷ [] }

abbrev end_do : Line → TokenLine
end_do m = record { number = m; toks = Name (codes "ENDDO") ∷ [] }

if_ended : (m : Line) {ts : List TokenLine} {fs : List FormLine} → HaveForms ts fs → HaveForms (end_if m ∷ ts) (At m EndIf ∷ fs)
if_ended m h = one_more (choice endif) h

do_ended : (m : Line) {ts : List TokenLine} {fs : List FormLine} → HaveForms ts fs → HaveForms (end_do m ∷ ts) (At m EndDo ∷ fs)
do_ended m h = one_more (other (end_line enddo)) h

pub record CanComplete (ps : List Place) (done : List StmtTree) : Type 0 where
  pub tokens : List TokenLine
  pub lines : List FormLine
  pub have : HaveForms tokens lines
  pub tree : StmtTrees
  pub completes : Completes ps done lines tree

record CanResume (ch : Bool) (ps : List Place) (done : List StmtTree) : Type 0 where
  tokens : List TokenLine
  lines : List FormLine
  have : HaveForms tokens lines
  tree : StmtTrees
  resumes : Resumes ch ps done lines tree

record Can (ps : List Place) : Type 0 where
  goes : (done : List StmtTree) → CanComplete ps done
  ends : IsChoice ps → (done : List StmtTree) → CanResume true ps done

resume : (ch : Bool) (ps : List Place) → Can ps → IsChained ch ps → (done : List StmtTree) → CanResume ch ps done
resume true ps c h done = c.ends h done
resume false ps c h done = let r = c.goes done in record { tokens = r.tokens; lines = r.lines; have = r.have; tree = r.tree; resumes = goes_on r.completes }

can : Line → (ps : List Place) → IsStack ps → Can ps
can m [] h = record { goes = λ done. record { tokens = []; lines = []; have = no_lines; tree = all_stmts done; completes = completes none at_end }; ends = λ i done. absurd i }
can m (InLoop head front ∷ ps) h = record {
  goes = λ done. let r = (can m ps h).goes (front ++ loop_stmt head (all_stmts done) ∷ []) in record { tokens = end_do m ∷ r.tokens; lines = At m EndDo ∷ r.lines; have = do_ended m r.have; tree = r.tree; completes = completes none (at_loop r.completes) };
  ends = λ i done. absurd i;
}
can m (InFirst l c front ch ∷ ps) h = record {
  goes = λ done. let r = resume ch ps (can m ps h.1) h.0 (front ++ IfStmt l c (all_stmts done) NoStmts ∷ []) in record { tokens = end_if m ∷ r.tokens; lines = At m EndIf ∷ r.lines; have = if_ended m r.have; tree = r.tree; completes = completes none (at_first over r.resumes) };
  ends = λ i done. let r = resume ch ps (can m ps h.1) h.0 (front ++ IfStmt l c (all_stmts done) NoStmts ∷ []) in record { tokens = r.tokens; lines = r.lines; have = r.have; tree = r.tree; resumes = ends_first r.resumes };
}
can m (InSecond l c a front ch ∷ ps) h = record {
  goes = λ done. let r = resume ch ps (can m ps h.1) h.0 (front ++ IfStmt l c a (all_stmts done) ∷ []) in record { tokens = end_if m ∷ r.tokens; lines = At m EndIf ∷ r.lines; have = if_ended m r.have; tree = r.tree; completes = completes none (at_second r.resumes) };
  ends = λ i done. let r = resume ch ps (can m ps h.1) h.0 (front ++ IfStmt l c a (all_stmts done) ∷ []) in record { tokens = r.tokens; lines = r.lines; have = r.have; tree = r.tree; resumes = ends_second r.resumes };
}

pub can_complete : (m : Line) (ps : List Place) (done : List StmtTree) → IsStack ps → CanComplete ps done
can_complete m ps done h = (can m ps h).goes done

-- ---- the levels of a stack

abbrev pub raised : Bool → List ℕ → List ℕ
raised false ns = 1 ∷ ns
raised true [] = 1 ∷ []
raised true (n ∷ ns) = (n + 1) ∷ ns

abbrev pub levels_of : List Place → List ℕ
levels_of [] = []
levels_of (InLoop h front ∷ ps) = 1 ∷ levels_of ps
levels_of (InFirst l c front ch ∷ ps) = raised ch (levels_of ps)
levels_of (InSecond l c a front ch ∷ ps) = raised ch (levels_of ps)

sum-cons : (n : ℕ) (ns : List ℕ) → sum (n ∷ ns) ≡ n + sum ns
sum-cons n ns = sum_by-cons (λ x. x) n ns

sum-raised : (ch : Bool) (ns : List ℕ) → sum (raised ch ns) ≡ sum ns + 1
sum-raised false ns = omega (arith, sum-cons 1 ns)
sum-raised true [] = refl
sum-raised true (n ∷ ns) = omega (arith, sum-cons (n + 1) ns, sum-cons n ns)

pub sum-levels_of : (ps : List Place) → sum (levels_of ps) ≡ length ps
sum-levels_of [] = refl
sum-levels_of (InLoop h front ∷ ps) = omega (arith, sum-levels_of ps, sum-cons 1 (levels_of ps))
sum-levels_of (InFirst l c front ch ∷ ps) = omega (arith, sum-levels_of ps, sum-raised ch (levels_of ps))
sum-levels_of (InSecond l c a front ch ∷ ps) = omega (arith, sum-levels_of ps, sum-raised ch (levels_of ps))

without_first-raised : (ns : List ℕ) → without_first (raised true ns) ≡ without_first ns
without_first-raised [] = refl
without_first-raised (n ∷ ns) = refl

one_deeper-raised : (ch : Bool) (ns : List ℕ) → one_deeper (raised ch ns) ≡ raised true (raised ch ns)
one_deeper-raised false ns = refl
one_deeper-raised true [] = refl
one_deeper-raised true (n ∷ ns) = refl

-- what a line makes of a stack is a stack, with the levels behind the line
pub record IsNext (f : LineForm) (ps qs : List Place) : Type 0 where
  pub stack : IsStack qs
  pub levels : levels_behind (levels_of ps) f ≡ levels_of qs

abbrev some : Inside → Option Inside
some h = Some h

next_at : (f : LineForm) (ps : List Place) (h g : Inside) → some h ≡ some g → IsNext f ps h.places → IsNext f ps g.places
next_at f ps h g e n = let k : h ≡ g = cc in subst (λ (x : Inside). IsNext f ps x.places) k n

abbrev with_done : List Place → List StmtTree → Inside
with_done ps done = record { places = ps; done = done }

choice_next : (ps : List Place) (done : List StmtTree) (g : Inside) → choice_ended_at ps done ≡ Some g → IsStack ps → IsNext EndIf ps g.places
choice_next [] done g e h = absurd cc
choice_next (InLoop head front ∷ ps) done g e h = absurd cc
choice_next (InFirst l c front true ∷ ps) done g e h = let r = choice_next ps _ g e h.1 in record { stack = r.stack; levels = without_first-raised (levels_of ps) ∙ r.levels }
choice_next (InFirst l c front false ∷ ps) done g e h = next_at EndIf (InFirst l c front false ∷ ps) (with_done ps (front ++ IfStmt l c (all_stmts done) NoStmts ∷ [])) g e (record { stack = h.1; levels = refl })
choice_next (InSecond l c a front true ∷ ps) done g e h = let r = choice_next ps _ g e h.1 in record { stack = r.stack; levels = without_first-raised (levels_of ps) ∙ r.levels }
choice_next (InSecond l c a front false ∷ ps) done g e h = next_at EndIf (InSecond l c a front false ∷ ps) (with_done ps (front ++ IfStmt l c a (all_stmts done) ∷ [])) g e (record { stack = h.1; levels = refl })

line_next : (m : Line) (f : LineForm) (ps : List Place) (done : List StmtTree) (g : Inside) → step m f (with_done ps done) ≡ Some g → IsStack ps → IsNext f ps g.places
line_next m ProgramLine ps done g e h = absurd cc
line_next m (DeclLine ds) ps done g e h = absurd cc
line_next m (SimpleLine xs) ps done g e h = next_at (SimpleLine xs) ps (with_done ps (done ++ xs)) g e (record { stack = h; levels = refl })
line_next m (LogicalIf c xs) ps done g e h = next_at (LogicalIf c xs) ps (with_done ps (done ++ IfStmt m c (all_stmts xs) NoStmts ∷ [])) g e (record { stack = h; levels = refl })
line_next m (IfThen c) ps done g e h = next_at (IfThen c) ps (with_done (InFirst m c done false ∷ ps) []) g e (record { stack = (tt, h); levels = refl })
line_next m (ElseIf c) [] done g e h = absurd cc
line_next m (ElseIf c) (InLoop head front ∷ ps) done g e h = absurd cc
line_next m (ElseIf c) (InFirst l c0 front ch ∷ ps) done g e h = next_at (ElseIf c) (InFirst l c0 front ch ∷ ps) (with_done (InFirst m c [] true ∷ (InSecond l c0 (all_stmts done) front ch ∷ ps)) []) g e (record { stack = (tt, h); levels = one_deeper-raised ch (levels_of ps) })
line_next m (ElseIf c) (InSecond l c0 a front ch ∷ ps) done g e h = absurd cc
line_next m Else [] done g e h = absurd cc
line_next m Else (InLoop head front ∷ ps) done g e h = absurd cc
line_next m Else (InFirst l c0 front ch ∷ ps) done g e h = next_at Else (InFirst l c0 front ch ∷ ps) (with_done (InSecond l c0 (all_stmts done) front ch ∷ ps) []) g e (record { stack = h; levels = refl })
line_next m Else (InSecond l c0 a front ch ∷ ps) done g e h = absurd cc
line_next m EndIf ps done g e h = choice_next ps done g e h
line_next m (DoLine s x y z) ps done g e h = next_at (DoLine s x y z) ps (with_done (InLoop (Counted m s x y z) done ∷ ps) []) g e (record { stack = h; levels = refl })
line_next m (WhileLine c) ps done g e h = next_at (WhileLine c) ps (with_done (InLoop (While m c) done ∷ ps) []) g e (record { stack = h; levels = refl })
line_next m EndDo [] done g e h = absurd cc
line_next m EndDo (InLoop head front ∷ ps) done g e h = next_at EndDo (InLoop head front ∷ ps) (with_done ps (front ++ loop_stmt head (all_stmts done) ∷ [])) g e (record { stack = h; levels = refl })
line_next m EndDo (InFirst l c0 front ch ∷ ps) done g e h = absurd cc
line_next m EndDo (InSecond l c0 a front ch ∷ ps) done g e h = absurd cc

abbrev some_here : Here → Option Here
some_here h = Some h

here_at : (f : LineForm) (ps : List Place) (h g : Here) → some_here h ≡ some_here g → IsNext f ps h.inside.places → IsNext f ps g.inside.places
here_at f ps h g e n = let k : h ≡ g = cc in subst (λ (x : Here). IsNext f ps x.inside.places) k n

inside_next : (m : Line) (f : LineForm) (h g : Here) (o : Option Inside) → step m f h.inside ≡ o → with_inside h o ≡ Some g → IsStack h.inside.places → IsNext f h.inside.places g.inside.places
inside_next m f h g None s e k = absurd cc
inside_next m f h g (Some i) s e k = here_at f h.inside.places (record { section = Statements; decls = h.decls; inside = i }) g e (line_next m f h.inside.places h.inside.done i s k)

titled_next : (s : Section) (h g : Here) → titled s h ≡ Some g → IsStack h.inside.places → IsNext ProgramLine h.inside.places g.inside.places
titled_next Start h g e k = here_at ProgramLine h.inside.places (record { section = Declarations; decls = h.decls; inside = h.inside }) g e (record { stack = k; levels = refl })
titled_next Declarations h g e k = absurd cc
titled_next Statements h g e k = absurd cc

declared_next : (s : Section) (es : List DeclTree) (h g : Here) → declared_at s es h ≡ Some g → IsStack h.inside.places → IsNext (DeclLine es) h.inside.places g.inside.places
declared_next Start es h g e k = here_at (DeclLine es) h.inside.places (with_decls es h) g e (record { stack = k; levels = refl })
declared_next Declarations es h g e k = here_at (DeclLine es) h.inside.places (with_decls es h) g e (record { stack = k; levels = refl })
declared_next Statements es h g e k = absurd cc

pub taken_next : (m : Line) (f : LineForm) (h g : Here) → taken m f h ≡ Some g → IsStack h.inside.places → IsNext f h.inside.places g.inside.places
taken_next m ProgramLine h g e k = titled_next h.section h g e k
taken_next m (DeclLine es) h g e k = declared_next h.section es h g e k
taken_next m (SimpleLine xs) h g e k = inside_next m (SimpleLine xs) h g (step m (SimpleLine xs) h.inside) refl e k
taken_next m (LogicalIf c xs) h g e k = inside_next m (LogicalIf c xs) h g (step m (LogicalIf c xs) h.inside) refl e k
taken_next m (IfThen c) h g e k = inside_next m (IfThen c) h g (step m (IfThen c) h.inside) refl e k
taken_next m (ElseIf c) h g e k = inside_next m (ElseIf c) h g (step m (ElseIf c) h.inside) refl e k
taken_next m Else h g e k = inside_next m Else h g (step m Else h.inside) refl e k
taken_next m EndIf h g e k = inside_next m EndIf h g (step m EndIf h.inside) refl e k
taken_next m (DoLine s x y z) h g e k = inside_next m (DoLine s x y z) h g (step m (DoLine s x y z) h.inside) refl e k
taken_next m (WhileLine c) h g e k = inside_next m (WhileLine c) h g (step m (WhileLine c) h.inside) refl e k
taken_next m EndDo h g e k = inside_next m EndDo h g (step m EndDo h.inside) refl e k

-- the level of a line is that of the blocks that are open behind it, and its own
pub level_is : (f : LineForm) (h : Here) → level_here f h ≡ with_own f (length h.inside.places)
level_is ProgramLine h = refl
level_is (DeclLine ds) h = refl
level_is (SimpleLine xs) h = refl
level_is (LogicalIf c xs) h = refl
level_is (IfThen c) h = refl
level_is (ElseIf c) h = refl
level_is Else h = refl
level_is EndIf h = refl
level_is (DoLine s x y z) h = refl
level_is (WhileLine c) h = refl
level_is EndDo h = refl
