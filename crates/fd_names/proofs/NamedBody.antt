-- The names in the statements of a tree keep what each of them keeps: a walk over what is seen.
use Rattle.std.proofs.Common.{◌≡◌, ℕ, List, [], ◌∷◌, refl}
use Rattle.std.specs.List.{AllByRecursion}
use Rattle.fd_base.specs.declared.numbering.Line.{Line}
use Rattle.fd_ast.specs.Tree.{ExprTree, ExprTrees, NoExprs, CondTree, ItemTree, Quoted, Valued, StmtTree, AssignStmt, IfStmt, DoStmt, WhileStmt, ReadStmt, PrintStmt, SkipStmt, RemapStmt, StmtTrees, NoStmts, Stmt}
use Rattle.fd_ast.specs.Tree as tree
use Rattle.program_laws.specs.Named.{IsPlain}
use Rattle.fd_names.specs.declared.book.Seen.{Seen}
use Rattle.fd_names.specs.declared.names.Use.{Use}
use Rattle.fd_names.specs.declared.names.Use.TheVariants as as_name
use Rattle.fd_names.specs.declared.names.Callee.{Callee}
use Rattle.fd_names.specs.declared.names.Callee.TheVariants as callee
use Rattle.fd_names.specs.Conditions.{see_condition}
use Rattle.fd_names.specs.Expressions.{see_name, see_callee, see, see_all}
use Rattle.fd_names.specs.Names.{Declared, use_of, callee_of, with_name}
use Rattle.fd_names.specs.Statements.{see_element, see_target, see_item, see_items, begun, see_head, see_stmt, see_stmts}
use Rattle.fd_names.specs.Written.{HasPlain, HavePlain, HasPlainCondition, HasPlainItem, HasPlainHead, line_of_stmt, EachIn, EachAmong}

-- a list of names that is so stays so with a plain name that is a scalar on this line
abbrev pub Takes : Declared → Line → (List (List ℕ) → Type 0) → Type 0
Takes d l P = (n : List ℕ) (ns : List (List ℕ)) → use_of d l n ≡ as_name.Scalar → IsPlain n → P ns → P (with_name ns n)

name_by : (d : Declared) (l : Line) (P : List (List ℕ) → Type 0) → Takes d l P → (n : List ℕ) (s : Seen) (u : Use) → use_of d l n ≡ u → IsPlain n → P s.scalars → P (see_name u n s).scalars
name_by d l P takes n s as_name.Scalar e plain h = takes n s.scalars e plain h
name_by d l P takes n s (as_name.Constant z) e plain h = h
name_by d l P takes n s (as_name.Array k a) e plain h = h
name_by d l P takes n s (as_name.Decomp k a) e plain h = h
name_by d l P takes n s as_name.Unknown e plain h = h

callee_kept : (P : List (List ℕ) → Type 0) (u : Callee) (s : Seen) → P s.scalars → P (see_callee u s).scalars
callee_kept P (callee.Array k a) s h = h
callee_kept P (callee.Function f) s h = h
callee_kept P callee.Unknown s h = h

element_kept : (P : List (List ℕ) → Type 0) (u : Use) (s : Seen) → P s.scalars → P (see_element u s).scalars
element_kept P as_name.Scalar s h = h
element_kept P (as_name.Constant z) s h = h
element_kept P (as_name.Array k a) s h = h
element_kept P (as_name.Decomp k a) s h = h
element_kept P as_name.Unknown s h = h

mutual
  see_kept : (d : Declared) (l : Line) (P : List (List ℕ) → Type 0) → Takes d l P → (e : ExprTree) (s : Seen) → HasPlain e → P s.scalars → P (see d l e s).scalars
  see_kept d l P takes (tree.Number z) s plain h = h
  see_kept d l P takes (tree.Named n) s plain h = name_by d l P takes n s (use_of d l n) refl plain h
  see_kept d l P takes (tree.Applied n es) s plain h = see_all_kept d l P takes es (see_callee (callee_of d l n) s) plain.1 (callee_kept P (callee_of d l n) s h)
  see_kept d l P takes (tree.Negated e) s plain h = see_kept d l P takes e s plain h
  see_kept d l P takes (tree.Joined o a b) s plain h = see_kept d l P takes b (see d l a s) plain.1 (see_kept d l P takes a s plain.0 h)

  see_all_kept : (d : Declared) (l : Line) (P : List (List ℕ) → Type 0) → Takes d l P → (es : ExprTrees) (s : Seen) → HavePlain es → P s.scalars → P (see_all d l es s).scalars
  see_all_kept d l P takes NoExprs s plain h = h
  see_all_kept d l P takes (tree.Expr e es) s plain h = see_all_kept d l P takes es (see d l e s) plain.1 (see_kept d l P takes e s plain.0 h)

see_condition_kept : (d : Declared) (l : Line) (P : List (List ℕ) → Type 0) → Takes d l P → (c : CondTree) (s : Seen) → HasPlainCondition c → P s.scalars → P (see_condition d l c s).scalars
see_condition_kept d l P takes (tree.Fixed b) s plain h = h
see_condition_kept d l P takes (tree.Compared r a b) s plain h = see_kept d l P takes b (see d l a s) plain.1 (see_kept d l P takes a s plain.0 h)
see_condition_kept d l P takes (tree.Inverted c) s plain h = see_condition_kept d l P takes c s plain h
see_condition_kept d l P takes (tree.Both a b) s plain h = see_condition_kept d l P takes b (see_condition d l a s) plain.1 (see_condition_kept d l P takes a s plain.0 h)
see_condition_kept d l P takes (tree.Either a b) s plain h = see_condition_kept d l P takes b (see_condition d l a s) plain.1 (see_condition_kept d l P takes a s plain.0 h)

see_target_kept : (d : Declared) (l : Line) (P : List (List ℕ) → Type 0) → Takes d l P → (t : ExprTree) (s : Seen) → HasPlain t → P s.scalars → P (see_target d l t s).scalars
see_target_kept d l P takes (tree.Number z) s plain h = h
see_target_kept d l P takes (tree.Named n) s plain h = name_by d l P takes n s (use_of d l n) refl plain h
see_target_kept d l P takes (tree.Applied n es) s plain h = see_all_kept d l P takes es (see_element (use_of d l n) s) plain.1 (element_kept P (use_of d l n) s h)
see_target_kept d l P takes (tree.Negated e) s plain h = h
see_target_kept d l P takes (tree.Joined o a b) s plain h = h

see_item_kept : (d : Declared) (l : Line) (P : List (List ℕ) → Type 0) → Takes d l P → (x : ItemTree) (s : Seen) → HasPlainItem x → P s.scalars → P (see_item d l x s).scalars
see_item_kept d l P takes (Quoted text) s plain h = h
see_item_kept d l P takes (Valued e) s plain h = see_kept d l P takes e s plain h

see_items_kept : (d : Declared) (l : Line) (P : List (List ℕ) → Type 0) → Takes d l P → (xs : List ItemTree) (s : Seen) → AllByRecursion HasPlainItem xs → P s.scalars → P (see_items d l xs s).scalars
see_items_kept d l P takes [] s plain h = h
see_items_kept d l P takes (x ∷ xs) s plain h = see_items_kept d l P takes xs (see_item d l x s) plain.1 (see_item_kept d l P takes x s plain.0 h)

see_head_kept : (d : Declared) (P : List (List ℕ) → Type 0) (x : StmtTree) → Takes d (line_of_stmt x) P → (s : Seen) → HasPlainHead x → P s.scalars → P (see_head d x s).scalars
see_head_kept d P (AssignStmt l t e) takes s plain h = see_kept d l P takes e (see_target d l t (begun s)) plain.1 (see_target_kept d l P takes t (begun s) plain.0 h)
see_head_kept d P (IfStmt l c so otherwise) takes s plain h = see_condition_kept d l P takes c (begun s) plain h
see_head_kept d P (DoStmt l n a b by body) takes s plain h =
    let r = see_name (use_of d l n) n (begun s) in
    let ra = see d l a r in
    let rb = see d l b ra in
    see_kept d l P takes by rb plain.3 (see_kept d l P takes b ra plain.2 (see_kept d l P takes a r plain.1 (name_by d l P takes n (begun s) (use_of d l n) refl plain.0 h)))
see_head_kept d P (WhileStmt l c body) takes s plain h = see_condition_kept d l P takes c (begun s) plain h
see_head_kept d P (ReadStmt l t) takes s plain h = see_target_kept d l P takes t (begun s) plain h
see_head_kept d P (PrintStmt l xs) takes s plain h = see_items_kept d l P takes xs (begun s) plain h
see_head_kept d P (SkipStmt l) takes s plain h = h
see_head_kept d P (RemapStmt l n xs) takes s plain h = h

-- on each line that is so, such names are taken
abbrev TakesOn : Declared → (List (List ℕ) → Type 0) → (Line → Type 0) → Type 0
TakesOn d P Q = (l : Line) → Q l → Takes d l P

mutual
  see_stmt_kept : (d : Declared) (P : List (List ℕ) → Type 0) (Q : Line → Type 0) → TakesOn d P Q → (x : StmtTree) (s : Seen) → EachIn HasPlainHead x → EachIn (λ y. Q (line_of_stmt y)) x → P s.scalars → P (see_stmt d x s).scalars
  see_stmt_kept d P Q takes (AssignStmt l t e) s plain lines h = see_head_kept d P (AssignStmt l t e) (takes l lines) s plain h
  see_stmt_kept d P Q takes (IfStmt l c so otherwise) s plain lines h =
      let r = see_head d (IfStmt l c so otherwise) s in
      see_stmts_kept d P Q takes otherwise (see_stmts d so r) plain.2 lines.2 (see_stmts_kept d P Q takes so r plain.1 lines.1 (see_head_kept d P (IfStmt l c so otherwise) (takes l lines.0) s plain.0 h))
  see_stmt_kept d P Q takes (DoStmt l n a b by body) s plain lines h =
      see_stmts_kept d P Q takes body (see_head d (DoStmt l n a b by body) s) plain.1 lines.1 (see_head_kept d P (DoStmt l n a b by body) (takes l lines.0) s plain.0 h)
  see_stmt_kept d P Q takes (WhileStmt l c body) s plain lines h =
      see_stmts_kept d P Q takes body (see_head d (WhileStmt l c body) s) plain.1 lines.1 (see_head_kept d P (WhileStmt l c body) (takes l lines.0) s plain.0 h)
  see_stmt_kept d P Q takes (ReadStmt l t) s plain lines h = see_head_kept d P (ReadStmt l t) (takes l lines) s plain h
  see_stmt_kept d P Q takes (PrintStmt l xs) s plain lines h = see_head_kept d P (PrintStmt l xs) (takes l lines) s plain h
  see_stmt_kept d P Q takes (SkipStmt l) s plain lines h = h
  see_stmt_kept d P Q takes (RemapStmt l n xs) s plain lines h = h

  pub see_stmts_kept : (d : Declared) (P : List (List ℕ) → Type 0) (Q : Line → Type 0) → ((l : Line) → Q l → Takes d l P) → (xs : StmtTrees) (s : Seen) → EachAmong HasPlainHead xs → EachAmong (λ y. Q (line_of_stmt y)) xs → P s.scalars → P (see_stmts d xs s).scalars
  see_stmts_kept d P Q takes NoStmts s plain lines h = h
  see_stmts_kept d P Q takes (Stmt x rest) s plain lines h = see_stmts_kept d P Q takes rest (see_stmt d x s) plain.1 lines.1 (see_stmt_kept d P Q takes x s plain.0 lines.0 h)
