-- A statement without refusals stands for what is meant.
use Rattle.std.proofs.Common.{◌≡◌, ℕ, ◌+◌, ◌≤◌, Bool, List, [], ◌∷◌, ◌++◌, refl, length, arith}
use Rattle.fd_base.specs.declared.numbering.Line.{Line}
use Rattle.fd_ast.specs.Tree.{ExprTree, ExprTrees, ItemTree, Quoted, Valued, StmtTree, AssignStmt, IfStmt, DoStmt, WhileStmt, ReadStmt, PrintStmt, SkipStmt, RemapStmt, StmtTrees, NoStmts, Stmt, ProgramTree}
use Rattle.fd_ast.specs.Tree as tree
use Rattle.fd_prog.specs.Expressions.{Expressions}
use Rattle.fd_names.specs.declared.book.Seen.{Seen}
use Rattle.fd_names.specs.declared.names.Use.{Use}
use Rattle.fd_names.specs.declared.names.Use.TheVariants as as_name
use Rattle.fd_names.specs.Checked.{nothing_seen, base_of, seen_in_decls, seen_in, refusals_of, meaning_of}
use Rattle.fd_names.specs.Declarations.{nothing_declared}
use Rattle.fd_names.specs.Expressions.{count, causes, all_causes, see_name, see, all_meant}
use Rattle.fd_names.specs.First.{at_line}
use Rattle.fd_names.specs.Names.{Declared, has_name, use_of}
use Rattle.fd_names.specs.Standing.{Scope, scope_of, IsScalarAt, AllStand, TargetStands, to_scalar, to_element, ItemsStand, no_items, a_text, a_value, StatementStands, an_assignment, an_if, a_do, a_while, a_read, a_print, a_continue, StatementsStand, no_statements, and_statements}
use Rattle.fd_names.specs.Statements.{set_causes, element_causes, target_causes, see_element, see_target, scalar_meant, element_meant, target_meant, see_item, items_causes, see_items, items_meant, begun, see_head, see_stmt, see_stmts, own_causes, refusals, all_refusals, stmt_meant, stmts_meant}
use Rattle.fd_names.proofs.Known.{KnownUse, IsKnown, used, all_declared}
use Rattle.fd_names.proofs.Parts.{parted}
use Rattle.fd_names.proofs.Sound.{no_left, no_right}
use Rattle.fd_names.proofs.Standing.{GoesOn, stays, on, see_name-on, see-on, see_all-on, see_condition-on, placed, array_at, stands, all_stand, condition_stands}
use Rattle.fd_names.proofs.StatementsSound.{own_clean}
use Rattle.fd_names.proofs.Within.{stmts_within, decls_within}

see_element-on : (u : Use) (s : Seen) → GoesOn s.scalars (see_element u s).scalars
see_element-on as_name.Scalar s = stays s.scalars
see_element-on (as_name.Constant z) s = stays s.scalars
see_element-on (as_name.Array k d) s = stays s.scalars
see_element-on (as_name.Decomp k d) s = stays s.scalars
see_element-on as_name.Unknown s = stays s.scalars

see_target-on : (d : Declared) (l : Line) (t : ExprTree) (s : Seen) → GoesOn s.scalars (see_target d l t s).scalars
see_target-on d l (tree.Number z) s = stays s.scalars
see_target-on d l (tree.Named n) s = see_name-on (use_of d l n) n s
see_target-on d l (tree.Applied n es) s = on _ _ _ (see_element-on (use_of d l n) s) (see_all-on d l es (see_element (use_of d l n) s))
see_target-on d l (tree.Negated e) s = stays s.scalars
see_target-on d l (tree.Joined o a b) s = stays s.scalars

see_item-on : (d : Declared) (l : Line) (x : ItemTree) (s : Seen) → GoesOn s.scalars (see_item d l x s).scalars
see_item-on d l (Quoted text) s = stays s.scalars
see_item-on d l (Valued e) s = see-on d l e s

see_items-on : (d : Declared) (l : Line) (xs : List ItemTree) (s : Seen) → GoesOn s.scalars (see_items d l xs s).scalars
see_items-on d l [] s = stays s.scalars
see_items-on d l (x ∷ xs) s = on _ _ _ (see_item-on d l x s) (see_items-on d l xs (see_item d l x s))

see_head-on : (d : Declared) (x : StmtTree) (s : Seen) → GoesOn s.scalars (see_head d x s).scalars
see_head-on d (AssignStmt l t e) s = on _ _ _ (see_target-on d l t (begun s)) (see-on d l e (see_target d l t (begun s)))
see_head-on d (IfStmt l c so otherwise) s = see_condition-on d l c (begun s)
see_head-on d (DoStmt l n a b by body) s =
    let r = see_name (use_of d l n) n (begun s) in
    on _ _ _ (see_name-on (use_of d l n) n (begun s)) (on _ _ _ (see-on d l a r) (on _ _ _ (see-on d l b (see d l a r)) (see-on d l by (see d l b (see d l a r)))))
see_head-on d (WhileStmt l c body) s = see_condition-on d l c (begun s)
see_head-on d (ReadStmt l t) s = see_target-on d l t (begun s)
see_head-on d (PrintStmt l xs) s = see_items-on d l xs (begun s)
see_head-on d (SkipStmt l) s = stays s.scalars
see_head-on d (RemapStmt l n xs) s = stays s.scalars

mutual
  see_stmt-on : (d : Declared) (x : StmtTree) (s : Seen) → GoesOn s.scalars (see_stmt d x s).scalars
  see_stmt-on d (AssignStmt l t e) s = see_head-on d (AssignStmt l t e) s
  see_stmt-on d (IfStmt l c so otherwise) s =
      let r = see_head d (IfStmt l c so otherwise) s in
      on _ _ _ (see_head-on d (IfStmt l c so otherwise) s) (on _ _ _ (see_stmts-on d so r) (see_stmts-on d otherwise (see_stmts d so r)))
  see_stmt-on d (DoStmt l n a b by body) s = on _ _ _ (see_head-on d (DoStmt l n a b by body) s) (see_stmts-on d body (see_head d (DoStmt l n a b by body) s))
  see_stmt-on d (WhileStmt l c body) s = on _ _ _ (see_head-on d (WhileStmt l c body) s) (see_stmts-on d body (see_head d (WhileStmt l c body) s))
  see_stmt-on d (ReadStmt l t) s = see_head-on d (ReadStmt l t) s
  see_stmt-on d (PrintStmt l xs) s = see_head-on d (PrintStmt l xs) s
  see_stmt-on d (SkipStmt l) s = see_head-on d (SkipStmt l) s
  see_stmt-on d (RemapStmt l n xs) s = see_head-on d (RemapStmt l n xs) s

  pub see_stmts-on : (d : Declared) (xs : StmtTrees) (s : Seen) → GoesOn s.scalars (see_stmts d xs s).scalars
  see_stmts-on d NoStmts s = stays s.scalars
  see_stmts-on d (Stmt x rest) s = on _ _ _ (see_stmt-on d x s) (see_stmts-on d rest (see_stmt d x s))

set_stands : (c : Scope) (l : Line) (n : List ℕ) (s : Seen) (u : Use) (b : Bool) → use_of c.declared l n ≡ u → set_causes u b ≡ [] → GoesOn (see_name u n s).scalars c.scalars → length c.scalars ≤ 65535 → IsScalarAt c l n (scalar_meant u n s)
set_stands c l n s as_name.Scalar b e ok g fits = record { scalar = e; place = placed s.scalars n c.scalars g fits }
set_stands c l n s (as_name.Constant z) b e ok g fits = absurd cc
set_stands c l n s (as_name.Array k d) b e ok g fits = absurd cc
set_stands c l n s (as_name.Decomp k d) b e ok g fits = absurd cc
set_stands c l n s as_name.Unknown b e ok g fits = absurd cc

element_stands : (c : Scope) (l : Line) (n : List ℕ) (es : ExprTrees) (xs : Expressions) (s : Seen) (u : Use) → KnownUse c.arrays n u → element_causes u es ≡ [] → AllStand c l es xs → TargetStands c l (tree.Applied n es) (element_meant u xs s)
element_stands c l n es xs s (as_name.Array k d) i ok all = to_element (array_at c.arrays k n d (count es) _ i ok) all
element_stands c l n es xs s (as_name.Decomp k d) i ok all = absurd cc
element_stands c l n es xs s as_name.Scalar i ok all = absurd cc
element_stands c l n es xs s (as_name.Constant z) i ok all = absurd cc
element_stands c l n es xs s as_name.Unknown i ok all = absurd cc

target_stands : (c : Scope) (around : List (List ℕ)) (l : Line) (t : ExprTree) (s : Seen) → IsKnown c.arrays c.declared → target_causes c.declared around l t ≡ [] → GoesOn (see_target c.declared l t s).scalars c.scalars → length c.scalars ≤ 65535 → TargetStands c l t (target_meant c.declared l t s)
target_stands c around l (tree.Number z) s i ok g fits = absurd cc
target_stands c around l (tree.Named n) s i ok g fits = to_scalar (set_stands c l n s (use_of c.declared l n) (has_name around n) refl ok g fits)
target_stands c around l (tree.Applied n es) s i ok g fits =
    let u = use_of c.declared l n in
    element_stands c l n es (all_meant c.declared l es (see_element u s)) s u (used c.arrays c.declared l n i) (no_left (element_causes u es) (all_causes c.declared l es) ok)
    (all_stand c l es (see_element u s) i (no_right (element_causes u es) (all_causes c.declared l es) ok) g fits)
target_stands c around l (tree.Negated e) s i ok g fits = absurd cc
target_stands c around l (tree.Joined o a b) s i ok g fits = absurd cc

items_stand : (c : Scope) (l : Line) (xs : List ItemTree) (s : Seen) → IsKnown c.arrays c.declared → items_causes c.declared l xs ≡ [] → GoesOn (see_items c.declared l xs s).scalars c.scalars → length c.scalars ≤ 65535 → ItemsStand c l xs (items_meant c.declared l xs s)
items_stand c l [] s i ok g fits = no_items
items_stand c l (Quoted text ∷ xs) s i ok g fits = a_text (items_stand c l xs s i ok g fits)
items_stand c l (Valued e ∷ xs) s i ok g fits =
    a_value (stands c l e s i (no_left (causes c.declared l e) (items_causes c.declared l xs) ok) (on _ _ _ (see_items-on c.declared l xs (see c.declared l e s)) g) fits)
    (items_stand c l xs (see c.declared l e s) i (no_right (causes c.declared l e) (items_causes c.declared l xs) ok) g fits)

mutual
  stmt_stands : (c : Scope) (around : List (List ℕ)) (x : StmtTree) (s : Seen) → IsKnown c.arrays c.declared → refusals c.declared around x s ≡ [] → GoesOn (see_stmt c.declared x s).scalars c.scalars → length c.scalars ≤ 65535 → StatementStands c x (stmt_meant c.declared x s)
  stmt_stands c around (AssignStmt l t e) s i ok g fits =
      let d = c.declared in
      let h = own_clean d around (AssignStmt l t e) s l ok in
      let r = see_target d l t (begun s) in
      an_assignment (target_stands c around l t (begun s) i (no_left (target_causes d around l t) (causes d l e) h) (on _ _ _ (see-on d l e r) g) fits)
      (stands c l e r i (no_right (target_causes d around l t) (causes d l e) h) g fits)
  stmt_stands c around (IfStmt l e so otherwise) s i ok g fits =
      let d = c.declared in
      let own = at_line l (own_causes d around (IfStmt l e so otherwise) s) in
      let r = see_head d (IfStmt l e so otherwise) s in
      let q = see_stmts d so r in
      let rest = no_right own (all_refusals d around so r ++ all_refusals d around otherwise q) ok in
      let h = own_clean d around (IfStmt l e so otherwise) s l (no_left own (all_refusals d around so r ++ all_refusals d around otherwise q) ok) in
      let g1 = on q.scalars (see_stmts d otherwise q).scalars c.scalars (see_stmts-on d otherwise q) g in
      an_if (condition_stands c l e (begun s) i h (on _ _ _ (see_stmts-on d so r) g1) fits)
      (stmts_stand c around so r i (no_left (all_refusals d around so r) (all_refusals d around otherwise q) rest) g1 fits)
      (stmts_stand c around otherwise q i (no_right (all_refusals d around so r) (all_refusals d around otherwise q) rest) g fits)
  stmt_stands c around (DoStmt l n a b by body) s i ok g fits =
      let d = c.declared in
      let own = at_line l (own_causes d around (DoStmt l n a b by body) s) in
      let v = see_name (use_of d l n) n (begun s) in
      let va = see d l a v in
      let vb = see d l b va in
      let r = see d l by vb in
      let set = set_causes (use_of d l n) (has_name around n) in
      let h = own_clean d around (DoStmt l n a b by body) s l (no_left own (all_refusals d (around ++ n ∷ []) body r) ok) in
      let h2 = no_right set (causes d l a ++ (causes d l b ++ causes d l by)) h in
      let h3 = no_right (causes d l a) (causes d l b ++ causes d l by) h2 in
      let g3 = on r.scalars (see_stmts d body r).scalars c.scalars (see_stmts-on d body r) g in
      let g2 = on vb.scalars r.scalars c.scalars (see-on d l by vb) g3 in
      let g1 = on va.scalars vb.scalars c.scalars (see-on d l b va) g2 in
      let g0 = on v.scalars va.scalars c.scalars (see-on d l a v) g1 in
      a_do (set_stands c l n (begun s) (use_of d l n) (has_name around n) refl (no_left set (causes d l a ++ (causes d l b ++ causes d l by)) h) g0 fits)
      (stands c l a v i (no_left (causes d l a) (causes d l b ++ causes d l by) h2) g1 fits)
      (stands c l b va i (no_left (causes d l b) (causes d l by) h3) g2 fits)
      (stands c l by vb i (no_right (causes d l b) (causes d l by) h3) g3 fits)
      (stmts_stand c (around ++ n ∷ []) body r i (no_right own (all_refusals d (around ++ n ∷ []) body r) ok) g fits)
  stmt_stands c around (WhileStmt l e body) s i ok g fits =
      let d = c.declared in
      let own = at_line l (own_causes d around (WhileStmt l e body) s) in
      let r = see_head d (WhileStmt l e body) s in
      a_while (condition_stands c l e (begun s) i (own_clean d around (WhileStmt l e body) s l (no_left own (all_refusals d around body r) ok)) (on _ _ _ (see_stmts-on d body r) g) fits)
      (stmts_stand c around body r i (no_right own (all_refusals d around body r) ok) g fits)
  stmt_stands c around (ReadStmt l t) s i ok g fits = a_read (target_stands c around l t (begun s) i (own_clean c.declared around (ReadStmt l t) s l ok) g fits)
  stmt_stands c around (PrintStmt l xs) s i ok g fits = a_print (items_stand c l xs (begun s) i (own_clean c.declared around (PrintStmt l xs) s l ok) g fits)
  stmt_stands c around (SkipStmt l) s i ok g fits = a_continue
  stmt_stands c around (RemapStmt l n xs) s i ok g fits = absurd cc

  stmts_stand : (c : Scope) (around : List (List ℕ)) (xs : StmtTrees) (s : Seen) → IsKnown c.arrays c.declared → all_refusals c.declared around xs s ≡ [] → GoesOn (see_stmts c.declared xs s).scalars c.scalars → length c.scalars ≤ 65535 → StatementsStand c xs (stmts_meant c.declared xs s)
  stmts_stand c around NoStmts s i ok g fits = no_statements
  stmts_stand c around (Stmt x rest) s i ok g fits =
      let t = see_stmt c.declared x s in
      and_statements (stmt_stands c around x s i (no_left (refusals c.declared around x s) (all_refusals c.declared around rest t) ok) (on _ _ _ (see_stmts-on c.declared rest t) g) fits)
      (stmts_stand c around rest t i (no_right (refusals c.declared around x s) (all_refusals c.declared around rest t) ok) g fits)

pub none_named : 0 + 0 ≤ 16384
none_named = omega arith

pub enough : (n m : ℕ) → n + m ≤ 16384 → n ≤ 65535
enough n m h = omega arith

pub program_stands : (p : ProgramTree) (end_line : Line) (at : ℕ) → refusals_of p ≡ [] → StatementsStand (scope_of p) p.body (meaning_of p end_line at).body
program_stands p end_line at ok =
    let clean = parted p ok in
    let few = stmts_within (base_of p).table [] p.body (seen_in_decls p) clean.body (decls_within p.decls nothing_seen (nothing_declared p.decls) clean.decls none_named) in
    stmts_stand (scope_of p) [] p.body (seen_in_decls p) (all_declared p.decls nothing_seen (nothing_declared p.decls) tt clean.decls) clean.body (stays (seen_in p).scalars) (enough (length (seen_in p).scalars) (seen_in p).decomps few)
