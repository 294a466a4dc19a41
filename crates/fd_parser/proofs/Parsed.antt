-- What the loop over the lines keeps.
use Rattle.std.proofs.Common.{◌≡◌, ℕ, ◌≤◌, ◌<◌, List, [], ◌∷◌, ◌++◌, length, sum, refl, sym, ap, subst, ◌∙◌, append_assoc, arith}
use Rattle.std.proofs.lemmas.List.Sums.{fold_push}
use Rattle.std.specs.Prelude.{Bool, false, Option, Some, None}
use Rattle.fd_base.specs.declared.numbering.Line.{Line}
use Rattle.fd_lexer.specs.View.{Tok, TokenLine}
use Rattle.fd_ast.specs.Tree.{StmtTree, ProgramTree}
use Rattle.fd_parser.specs.declared.refusal.ParseRefusal.{ParseRefusal}
use Rattle.fd_parser.specs.declared.refusal.ParseRefusal.TheVariants as refusals
use Rattle.fd_parser.specs.Forms.{LineForm, ProgramLine, DeclLine, SimpleLine, LogicalIf, IfThen, ElseIf, Else, EndIf, DoLine, WhileLine, EndDo, IsForm}
use Rattle.fd_parser.specs.Program.{FormLine, At, all_stmts, none, IsProgram}
use Rattle.fd_parser.specs.Open.{Place}
use Rattle.fd_parser.specs.Scans.{is_too_deep, is_left_out}
use Rattle.fd_parser.specs.Sections.{Here, start, taken, level_here, HasRoom, Overflows}
use Rattle.fd_parser.specs.TakenLine as lines
use Rattle.fd_parser.specs.TakenLine.{IsStopped}
use Rattle.fd_parser.specs.Text.{HaveForms, no_lines, one_more, IsText, BeginsText, IsNested, AreFine, none_fine, one_fine, parentheses, nested, left_out, syntax, IsRefusal, at_line, no_memory, levels_after, levels_behind, with_own, level_of, form_in}
use Rattle.fd_parser.proofs.OneForm.{one_form}
use Rattle.fd_parser.proofs.Completes as completion
use Rattle.fd_parser.proofs.Sources.{Remains, body, source_out, source_in, program_in, program_out, remains_at, remains_nothing, one_program}
use Rattle.fd_parser.proofs.Stacks.{IsStack, levels_of, sum-levels_of, can_complete, taken_next, level_is}

-- the lines go on here, to this tree
pub record Continues (h : Here) (ms : List TokenLine) (x : ProgramTree) : Type 0 where
  pub forms : List FormLine
  pub have : HaveForms ms forms
  pub rest : Remains h forms x

-- the part of the source behind these lines
pub record IsParsed (h : Here) (bs : List TokenLine) : Type 0 where
  pub begun : (ms : List TokenLine) (x : ProgramTree) → Continues h ms x → IsText (bs ++ ms) x
  pub ended : (ms : List TokenLine) (x : ProgramTree) → IsText (bs ++ ms) x → Continues h ms x
  pub stack : IsStack h.inside.places
  pub forms : List FormLine
  pub have : HaveForms bs forms
  pub levels : levels_after forms ≡ levels_of h.inside.places
  pub room : HasRoom h
  pub fine : AreFine bs

pub parsed_none : IsParsed start []
parsed_none = record {
  begun = λ ms x c. record { forms = c.forms; have = c.have; program = program_in c.forms x c.rest };
  ended = λ ms x t. record { forms = t.forms; have = t.have; rest = program_out t.forms x t.program };
  stack = tt;
  forms = [];
  have = no_lines;
  levels = refl;
  room = omega arith;
  fine = none_fine;
}

-- lines have their forms in one way
same_forms : {ls : List TokenLine} {fs gs : List FormLine} → HaveForms ls fs → HaveForms ls gs → fs ≡ gs
same_forms no_lines no_lines = refl
same_forms (one_more {t = t} {f = f} d i) (one_more {f = g} e j) = let p = one_form d e in let q = same_forms i j in rw (p, q) refl

forms_push : {ls : List TokenLine} {fs : List FormLine} (t : TokenLine) (f : LineForm) → HaveForms ls fs → IsForm t.number t.toks f → HaveForms (ls ++ t ∷ []) (fs ++ At t.number f ∷ [])
forms_push t f no_lines d = one_more d no_lines
forms_push t f (one_more e i) d = one_more e (forms_push t f i d)

abbrev line : Line → List Tok → TokenLine
line l ts = record { number = l; toks = ts }

record FirstForm (h : Here) (t : TokenLine) (ms : List TokenLine) (x : ProgramTree) : Type 0 where
  form : LineForm
  is : IsForm t.number t.toks form
  next : Here
  made : taken t.number form h ≡ Some next
  rest : Continues next ms x

first_of : (h : Here) (t : TokenLine) (ms : List TokenLine) (x : ProgramTree) (fs : List FormLine) → HaveForms (t ∷ ms) fs → Remains h fs x → FirstForm h t ms x
first_of h t ms x fs (one_more {f = f} {fs = gs} d i) r = let m = source_out t.number f r in record { form = f; is = d; next = m.next; made = m.made; rest = record { forms = gs; have = i; rest = m.rest } }

first_form : {h : Here} {t : TokenLine} {ms : List TokenLine} {x : ProgramTree} → Continues h (t ∷ ms) x → FirstForm h t ms x
first_form {h = h} {t = t} {ms = ms} {x = x} c = first_of h t ms x c.forms c.have c.rest

continues_at : (h g : Here) (ms : List TokenLine) (x : ProgramTree) → Some h ≡ Some g → Continues h ms x → Continues g ms x
continues_at h g ms x e c = record { forms = c.forms; have = c.have; rest = remains_at g h c.forms x (sym e) c.rest }

made_as : (l : Line) {f k : LineForm} (h : Here) {o : Option Here} → f ≡ k → taken l f h ≡ o → taken l k h ≡ o
made_as l h {o = o} e m = subst (λ (f : LineForm). taken l f h ≡ o) e m

-- a logical IF's own level is one more
own_more : (f : LineForm) (n : ℕ) → n ≤ with_own f n
own_more ProgramLine n = omega arith
own_more (DeclLine ds) n = omega arith
own_more (SimpleLine xs) n = omega arith
own_more (LogicalIf c xs) n = omega arith
own_more (IfThen c) n = omega arith
own_more (ElseIf c) n = omega arith
own_more Else n = omega arith
own_more EndIf n = omega arith
own_more (DoLine s x y z) n = omega arith
own_more (WhileLine c) n = omega arith
own_more EndDo n = omega arith

-- ---- one more line

module _ (h g : Here) (bs : List TokenLine) (l : Line) (ts : List Tok) (f : LineForm) (is : IsForm l ts f) (made : taken l f h ≡ Some g) (p : IsParsed h bs) where
  begun_more : (ms : List TokenLine) (x : ProgramTree) → Continues g ms x → IsText ((bs ++ line l ts ∷ []) ++ ms) x
  begun_more ms x c = subst (λ (ls : List TokenLine). IsText ls x) (sym (append_assoc bs (line l ts ∷ []) ms)) (p.begun (line l ts ∷ ms) x (record { forms = At l f ∷ c.forms; have = one_more {t = line l ts} is c.have; rest = source_in l f h.section h.decls h.inside.places h.inside.done g c.forms x made c.rest }))

  ended_more : (ms : List TokenLine) (x : ProgramTree) → IsText ((bs ++ line l ts ∷ []) ++ ms) x → Continues g ms x
  ended_more ms x t =
      let q = first_form (p.ended (line l ts ∷ ms) x (subst (λ (ls : List TokenLine). IsText ls x) (append_assoc bs (line l ts ∷ []) ms) t)) in
      continues_at q.next g ms x (sym q.made ∙ made_as l h (one_form is q.is) made) q.rest

  stack_more : IsStack g.inside.places
  stack_more = (taken_next l f h g made p.stack).stack

  pub begins_more : BeginsText (bs ++ line l ts ∷ [])
  begins_more =
      let r = can_complete l g.inside.places g.inside.done stack_more in
      let x : ProgramTree = record { decls = g.decls; body = r.tree } in
      (r.tokens, x, begun_more r.tokens x (record { forms = r.lines; have = r.have; rest = body r.completes }))

  level_more : level_of p.forms f ≡ level_here f g
  level_more =
      let n = taken_next l f h g made p.stack in
      let ls : levels_behind (levels_after p.forms) f ≡ levels_of g.inside.places = rw p.levels n.levels in
      let s : sum (levels_behind (levels_after p.forms) f) ≡ length g.inside.places = ap sum ls ∙ sum-levels_of g.inside.places in
      ap (λ (n : ℕ). with_own f n) s ∙ sym (level_is f g)

  pub nested_more : 32 < level_here f g → IsNested bs (line l ts)
  nested_more lt = record { forms = p.forms; form = f; have = p.have; is = is; deep = subst (λ (n : ℕ). 32 < n) (sym level_more) lt }

  flat_more : level_here f g ≤ 32 → IsNested bs (line l ts) → ⊥
  flat_more le n =
      let e = same_forms n.have p.have in
      let k = one_form n.is is in
      let d : 32 < level_of p.forms f = subst (λ (k : LineForm). 32 < level_of p.forms k) k (subst (λ (fs : List FormLine). 32 < level_of fs n.form) e n.deep) in
      absurd (omega (arith, le, subst (λ (n : ℕ). 32 < n) level_more d))

  levels_more : levels_after (p.forms ++ At l f ∷ []) ≡ levels_of g.inside.places
  levels_more = fold_push (λ ns k. levels_behind ns (form_in k)) [] p.forms (At l f) ∙ (ap (λ (ns : List ℕ). levels_behind ns f) p.levels ∙ (taken_next l f h g made p.stack).levels)

  room_of : (f : LineForm) → level_here f g ≤ 32 → HasRoom g
  room_of f le = omega (arith, le, own_more f (length g.inside.places), level_is f g)

  pub parsed_line : is_too_deep ts ≡ false → is_left_out ts ≡ false → level_here f g ≤ 32 → IsParsed g (bs ++ line l ts ∷ [])
  parsed_line a b le = record {
    begun = begun_more;
    ended = ended_more;
    stack = stack_more;
    forms = p.forms ++ At l f ∷ [];
    have = forms_push (line l ts) f p.have is;
    levels = levels_more;
    room = room_of f le;
    fine = one_fine p.fine (record { shallow = a; in_language = b; begins = begins_more; flat = flat_more le });
  }

-- ---- at most one tree

pub one_text : (ls : List TokenLine) (x y : ProgramTree) → IsText ls x → IsText ls y → x ≡ y
one_text ls x y a b = one_program b.forms x y (subst (λ (fs : List FormLine). IsProgram fs x) (same_forms a.have b.have) a.program) b.program

-- ---- refusals

-- what a source that begins with the lines up to this one goes on with
continues_behind : (h : Here) (bs : List TokenLine) (l : Line) (ts : List Tok) (p : IsParsed h bs) (v : BeginsText (bs ++ line l ts ∷ [])) → Continues h (line l ts ∷ v.0) v.1
continues_behind h bs l ts p v = p.ended (line l ts ∷ v.0) v.1 (subst (λ (ls : List TokenLine). IsText ls v.1) (append_assoc bs (line l ts ∷ []) v.0) v.2)

no_next : {o : Option Here} (g : Here) → o ≡ Some g → o ≡ None → ⊥
no_next g e f = let k : Some g ≡ None = sym e ∙ f in absurd cc

-- the line is refused where the source stands so
pub stopped : (h : Here) (bs as_ ls : List TokenLine) (l : Line) (ts : List Tok) (ended : Bool) (end_line : Line) (r : ParseRefusal) → ls ≡ bs ++ line l ts ∷ as_ → IsParsed h bs → IsStopped h l ts r → IsRefusal ls ended end_line r
stopped h bs as_ ls l ts ended end_line r split p (lines.parentheses d) = at_line bs as_ (line l ts) split p.fine (parentheses d)
stopped h bs as_ ls l ts ended end_line r split p (lines.nested {f = f} a b i o) = too_deep (taken l f h) refl o where
  too_deep : (g : Option Here) → taken l f h ≡ g → Overflows f g → IsRefusal ls ended end_line (refusals.At l 15)
  too_deep None e o = absurd o
  too_deep (Some g) e o = at_line bs as_ (line l ts) split p.fine (nested a b (begins_more h g bs l ts f i e p) (nested_more h g bs l ts f i e p o))
stopped h bs as_ ls l ts ended end_line r split p (lines.left_out a b) = at_line bs as_ (line l ts) split p.fine (left_out a b)
stopped h bs as_ ls l ts ended end_line r split p (lines.no_form a b n) = at_line bs as_ (line l ts) split p.fine (syntax a b (λ v. let q = first_form (continues_behind h bs l ts p v) in n q.form q.is))
stopped h bs as_ ls l ts ended end_line r split p (lines.no_place {f = f} a b i e) = at_line bs as_ (line l ts) split p.fine (syntax a b (λ v. let q = first_form (continues_behind h bs l ts p v) in no_next q.next (made_as l h (one_form q.is i) q.made) e))
stopped h bs as_ ls l ts ended end_line r split p lines.no_memory = no_memory

-- ---- where no line is left

over : (ps : List Place) (done : List StmtTree) → ps ≡ [] → completion.Completes ps done [] (all_stmts done)
over ps done e = rw e (completion.completes none completion.at_end)

pub nothing_more : (h : Here) → h.inside.places ≡ [] → Continues h [] (record { decls = h.decls; body = all_stmts h.inside.done })
nothing_more h e = record { forms = []; have = no_lines; rest = body (over h.inside.places h.inside.done e) }

closed_of : (h : Here) (x : ProgramTree) (fs : List FormLine) → HaveForms [] fs → Remains h fs x → h.inside.places ≡ []
closed_of h x fs no_lines r = (remains_nothing h x r).0

pub closed_at : (h : Here) (x : ProgramTree) → Continues h [] x → h.inside.places ≡ []
closed_at h x c = closed_of h x c.forms c.have c.rest
