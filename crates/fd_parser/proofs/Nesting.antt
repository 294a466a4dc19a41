-- The statements of fine lines stand in one another at most 32 deep.
use Rattle.std.proofs.Common.{◌≡◌, ℕ, ◌+◌, ◌≤◌, ◌<◌, List, [], ◌∷◌, ◌++◌, sum, map, refl, sym, ap, subst, inl, inr, arith}
use Rattle.std.proofs.lemmas.Bool.{cases_lt}
use Rattle.std.proofs.lemmas.List.Sums.{sum_by-cons}
use Rattle.std.specs.Prelude.{fold}
use Rattle.fd_base.specs.declared.numbering.Line.{Line}
use Rattle.fd_lexer.specs.View.{Tok, TokenLine}
use Rattle.fd_ast.specs.Tree.{ExprTree, DeclTree, StmtTree, ReadStmt, StmtTrees, ProgramTree, nesting_among}
use Rattle.fd_parser.specs.Simple.{IsAssignment, assigned, IsReadRest, targets, IsPrintRest, nothing, items, IsContinueRest, no_more}
use Rattle.fd_parser.specs.Forms.{LineForm, ProgramLine, DeclLine, SimpleLine, LogicalIf, IfThen, ElseIf, Else, EndIf, DoLine, WhileLine, EndDo, IsWorded, read, print, continue, IsSimple, assignment, worded, IsIfRest, then_block, one_statement, IsElseRest, alone, with_if, IsChoice, if_line, elseif, else_line, endif, IsDoRest, counted, while, IsEnd, enddo, end_if, end_do, IsDistribution, without_map, with_map, IsOther, do_line, distribute, program, end_line, IsForm, declared, choice, other, simple}
use Rattle.fd_parser.specs.Program as grammar
use Rattle.fd_parser.specs.Program.{FormLine, At, joined_stmts, all_stmts, IsBlock, IsStmts, IsChoices, IsHead, AreDecls, IsProgram}
use Rattle.fd_parser.specs.Text.{HaveForms, no_lines, one_more, IsText, levels_behind, form_in, with_own, level_of, AreFine, none_fine, one_fine}

-- ---- the statement of a line has no block in it

-- what a line holds is simple
abbrev pub IsFlat : LineForm → Type 0
IsFlat ProgramLine = Unit {0}
IsFlat (DeclLine ds) = Unit {0}
IsFlat (SimpleLine xs) = nesting_among (all_stmts xs) ≡ 0
IsFlat (LogicalIf c xs) = nesting_among (all_stmts xs) ≡ 0
IsFlat (IfThen c) = Unit {0}
IsFlat (ElseIf c) = Unit {0}
IsFlat Else = Unit {0}
IsFlat EndIf = Unit {0}
IsFlat (DoLine s x y z) = Unit {0}
IsFlat (WhileLine c) = Unit {0}
IsFlat EndDo = Unit {0}

flat_reads : (l : Line) (xs : List ExprTree) → nesting_among (all_stmts (map (λ x. ReadStmt l x) xs)) ≡ 0
flat_reads l [] = refl
flat_reads l (x ∷ xs) = rw (flat_reads l xs) refl

flat_read : {l : Line} {ts : List Tok} {xs : List StmtTree} → IsReadRest l ts xs → nesting_among (all_stmts xs) ≡ 0
flat_read (targets {l = l} {xs = xs} a) = flat_reads l xs

flat_print : {l : Line} {ts : List Tok} {xs : List StmtTree} → IsPrintRest l ts xs → nesting_among (all_stmts xs) ≡ 0
flat_print nothing = refl
flat_print (items a) = refl

flat_continue : {l : Line} {ts : List Tok} {xs : List StmtTree} → IsContinueRest l ts xs → nesting_among (all_stmts xs) ≡ 0
flat_continue no_more = refl

flat_worded : {l : Line} {ts : List Tok} {xs : List StmtTree} → IsWorded l ts xs → nesting_among (all_stmts xs) ≡ 0
flat_worded (read d) = flat_read d
flat_worded (print d) = flat_print d
flat_worded (continue d) = flat_continue d

flat_assignment : {l : Line} {ts : List Tok} {x : StmtTree} → IsAssignment l ts x → nesting_among (all_stmts (x ∷ [])) ≡ 0
flat_assignment (assigned a b) = refl

flat_simple : {l : Line} {ts : List Tok} {xs : List StmtTree} → IsSimple l ts xs → nesting_among (all_stmts xs) ≡ 0
flat_simple (assignment d) = flat_assignment d
flat_simple (worded d) = flat_worded d

flat_if : {l : Line} {ts : List Tok} {f : LineForm} → IsIfRest l ts f → IsFlat f
flat_if (then_block c) = tt
flat_if (one_statement c d) = flat_simple d

flat_else : {ts : List Tok} {f : LineForm} → IsElseRest ts f → IsFlat f
flat_else alone = tt
flat_else (with_if d) = tt

flat_choice : {l : Line} {ts : List Tok} {f : LineForm} → IsChoice l ts f → IsFlat f
flat_choice (if_line d) = flat_if d
flat_choice (elseif d) = tt
flat_choice (else_line d) = flat_else d
flat_choice endif = tt

flat_do : {ts : List Tok} {f : LineForm} → IsDoRest ts f → IsFlat f
flat_do (counted r) = tt
flat_do (while c) = tt

flat_end : {ts : List Tok} {f : LineForm} → IsEnd ts f → IsFlat f
flat_end enddo = tt
flat_end end_if = tt
flat_end end_do = tt

flat_distribution : {l : Line} {ts : List Tok} {f : LineForm} → IsDistribution l ts f → IsFlat f
flat_distribution (without_map d e) = tt
flat_distribution (with_map d e) = refl

flat_other : {l : Line} {ts : List Tok} {f : LineForm} → IsOther l ts f → IsFlat f
flat_other (do_line d) = flat_do d
flat_other (distribute d) = flat_distribution d
flat_other (program d) = tt
flat_other (end_line d) = flat_end d

flat_form : {l : Line} {ts : List Tok} {f : LineForm} → IsForm l ts f → IsFlat f
flat_form (declared d) = tt
flat_form (choice d) = flat_choice d
flat_form (other d) = flat_other d
flat_form (simple d) = flat_simple d

-- ---- lines none of which is nested too deep, behind lines that leave these levels open

abbrev pub AreShallow : List ℕ → List FormLine → Type 0
AreShallow ns [] = Unit {0}
AreShallow ns (At l f ∷ fs) = IsFlat f × (with_own f (sum (levels_behind ns f)) ≤ 32) × AreShallow (levels_behind ns f) fs

shallow_push : (ns : List ℕ) (fs : List FormLine) (l : Line) (f : LineForm) → AreShallow ns fs → IsFlat f → with_own f (sum (levels_behind (fold (λ ns f. levels_behind ns (form_in f)) ns fs) f)) ≤ 32 → AreShallow ns (fs ++ At l f ∷ [])
shallow_push ns [] l f h a b = (a, b, tt)
shallow_push ns (At m g ∷ fs) l f h a b = (h.0, h.1, shallow_push (levels_behind ns g) fs l f h.2 a b)

record LastForm (ls : List TokenLine) (t : TokenLine) (fs : List FormLine) : Type 0 where
  forms : List FormLine
  form : LineForm
  have : HaveForms ls forms
  is : IsForm t.number t.toks form
  all : fs ≡ forms ++ At t.number form ∷ []

last_form : (ls : List TokenLine) (t : TokenLine) (fs : List FormLine) → HaveForms (ls ++ t ∷ []) fs → LastForm ls t fs
last_form [] t fs (one_more {f = f} d no_lines) = record { forms = []; form = f; have = no_lines; is = d; all = refl }
last_form (k ∷ ls) t fs (one_more {f = f} {fs = gs} d h) = let r = last_form ls t gs h in record { forms = At k.number f ∷ r.forms; form = r.form; have = one_more d r.have; is = r.is; all = ap (λ (hs : List FormLine). At k.number f ∷ hs) r.all }

not_more : (a b : ℕ) → (b < a → ⊥) → a ≤ b
not_more a b n = elim (cases_lt b a) [ inl lt ↦ absurd (n lt) | inr le ↦ le ]

pub fine_shallow : {ls : List TokenLine} → AreFine ls → (fs : List FormLine) → HaveForms ls fs → AreShallow [] fs
fine_shallow none_fine fs no_lines = tt
fine_shallow (one_fine {ls = ls} {t = t} a f) fs h =
    let r = last_form ls t fs h in
    let le : level_of r.forms r.form ≤ 32 = not_more (level_of r.forms r.form) 32 (λ lt. f.flat (record { forms = r.forms; form = r.form; have = r.have; is = r.is; deep = lt })) in
    subst (λ (gs : List FormLine). AreShallow [] gs) (sym r.all) (shallow_push [] r.forms t.number r.form (fine_shallow a r.forms r.have) (flat_form r.is) le)

-- ---- what they form is nested no deeper

record IsBelow (ns : List ℕ) (n : ℕ) (us : List FormLine) : Type 0 where
  depth : n + sum ns ≤ 32
  rest : AreShallow ns us

record IsSecond (n : ℕ) (ns : List ℕ) (k : ℕ) (us : List FormLine) : Type 0 where
  depth : k + sum (n ∷ ns) ≤ 32
  rest : AreShallow ns us

sum-cons : (n : ℕ) (ns : List ℕ) → sum (n ∷ ns) ≡ n + sum ns
sum-cons n ns = sum_by-cons (λ x. x) n ns

joined_below : (xs : List StmtTree) (ys : StmtTrees) (k : ℕ) → nesting_among (all_stmts xs) + k ≤ 32 → nesting_among ys + k ≤ 32 → nesting_among (joined_stmts xs ys) + k ≤ 32
joined_below [] ys k a b = b
joined_below (x ∷ xs) ys k a b =
    let r = joined_below xs ys k (omega (arith, a)) b in
    omega (arith, a, r)

mutual
  block_below : {ts us : List FormLine} {xs : StmtTrees} → IsBlock ts xs us → (ns : List ℕ) → AreShallow ns ts → sum ns ≤ 32 → IsBelow ns (nesting_among xs) us
  block_below grammar.none ns h le = record { depth = omega (arith, le); rest = h }
  block_below (grammar.more {xs = xs} {ys = ys} s b) ns h le =
      let p = stmts_below s ns h le in
      let q = block_below b ns p.rest le in
      record { depth = joined_below xs ys (sum ns) p.depth q.depth; rest = q.rest }

  stmts_below : {ts us : List FormLine} {xs : List StmtTree} → IsStmts ts xs us → (ns : List ℕ) → AreShallow ns ts → sum ns ≤ 32 → IsBelow ns (nesting_among (all_stmts xs)) us
  stmts_below grammar.simple ns h le = record { depth = omega (arith, h.0, le); rest = h.2 }
  stmts_below grammar.logical ns h le = record { depth = omega (arith, h.0, h.1); rest = h.2 }
  stmts_below (grammar.choice a c) ns h le =
      let p = block_below a (1 ∷ ns) h.2 h.1 in
      let q = choices_below c 1 ns p.rest h.1 in
      record { depth = omega (arith, p.depth, q.depth, sum-cons 1 ns); rest = q.rest }
  stmts_below (grammar.counted a) ns h le =
      let p = block_below a (1 ∷ ns) h.2 h.1 in
      record { depth = omega (arith, p.depth, sum-cons 1 ns); rest = p.rest.2 }
  stmts_below (grammar.while a) ns h le =
      let p = block_below a (1 ∷ ns) h.2 h.1 in
      record { depth = omega (arith, p.depth, sum-cons 1 ns); rest = p.rest.2 }

  -- behind the first side of an IF whose block has n levels: the other side lies within them
  choices_below : {ts us : List FormLine} {xs : StmtTrees} → IsChoices ts xs us → (n : ℕ) (ns : List ℕ) → AreShallow (n ∷ ns) ts → sum (n ∷ ns) ≤ 32 → IsSecond n ns (nesting_among xs) us
  choices_below grammar.over n ns h le = record { depth = omega (arith, le); rest = h.2 }
  choices_below (grammar.otherwise a) n ns h le =
      let p = block_below a (n ∷ ns) h.2 le in
      record { depth = p.depth; rest = p.rest.2 }
  choices_below (grammar.chained a c) n ns h le =
      let p = block_below a ((n + 1) ∷ ns) h.2 h.1 in
      let q = choices_below c (n + 1) ns p.rest h.1 in
      record { depth = omega (arith, p.depth, q.depth, sum-cons (n + 1) ns, sum-cons n ns); rest = q.rest }

-- ---- the body of a source

shallow_head : {ts us : List FormLine} → IsHead ts us → AreShallow [] ts → AreShallow [] us
shallow_head grammar.no_head h = h
shallow_head grammar.head h = h.2

shallow_decls : {ts us : List FormLine} {ds : List DeclTree} → AreDecls ts ds us → AreShallow [] ts → AreShallow [] us
shallow_decls grammar.no_decls h = h
shallow_decls (grammar.decls d) h = shallow_decls d h.2

pub nesting_bound : (ls : List TokenLine) (x : ProgramTree) → IsText ls x → AreFine ls → nesting_among x.body ≤ 32
nesting_bound ls x t f =
    let h = shallow_decls t.program.declarations (shallow_head t.program.head (fine_shallow f t.forms t.have)) in
    let b = block_below t.program.statements [] h (omega arith) in
    omega (arith, b.depth)
