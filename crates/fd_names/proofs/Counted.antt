-- A program without refusals keeps the limits on statements, arrays and elements.
use Rattle.std.proofs.Common.{◌≡◌, ℕ, ◌+◌, ◌<◌, ◌≤◌, Bool, true, false, List, [], ◌∷◌, ◌++◌, refl, ◌∙◌, length, arith, nat_le, nat_lt}
use Rattle.std.proofs.lemmas.Bool.Decides.{nat_tests}
use Rattle.fd_base.specs.declared.numbering.Line.{Line}
use Rattle.fd_ast.specs.Tree.{ExprTree, ExprTrees, NoExprs, CondTree, ItemTree, Quoted, Valued, DimTree, StmtTree, AssignStmt, IfStmt, DoStmt, WhileStmt, ReadStmt, PrintStmt, SkipStmt, RemapStmt, StmtTrees, NoStmts, Stmt, DeclTree, ConstantDecl, IntegerDecl, DecompDecl, AlignDecl, DistributeDecl, AttrTree, WholeAttr, BlockAttr, CyclicAttr, BlockCyclicAttr, MapAttr}
use Rattle.fd_ast.specs.Tree as tree
use Rattle.fd_prog.specs.Checked.{size_in, size_among}
use Rattle.fd_names.specs.declared.book.Seen.{Seen}
use Rattle.fd_names.specs.declared.declarations.Base.{Base}
use Rattle.fd_names.specs.declared.declarations.Subscripts.{Subscripts}
use Rattle.fd_names.specs.declared.names.Use.{Use}
use Rattle.fd_names.specs.declared.names.Use.TheVariants as as_name
use Rattle.fd_names.specs.declared.names.Callee.{Callee}
use Rattle.fd_names.specs.declared.names.Callee.TheVariants as callee
use Rattle.fd_names.specs.declared.refusal.Cause.{Cause}
use Rattle.fd_names.specs.Alignments.{looked_up, target_tree, see_aim, see_aims}
use Rattle.fd_names.specs.Conditions.{see_condition}
use Rattle.fd_names.specs.Declarations.{is_aligned, see_own_decomp, see_integer, see_dim, see_dims, dims_meant, see_decl, see_decls, declare, declare_all, array_limit, decl_causes, limit_causes, decl_refusals, decls_refusals, line_of}
use Rattle.fd_names.specs.Distributions.{see_attr, see_attrs}
use Rattle.fd_names.specs.Expressions.{see_name, see_callee, see, see_all}
use Rattle.fd_names.specs.First.{at_line, given}
use Rattle.fd_names.specs.Names.{Declared, use_of, callee_of}
use Rattle.fd_names.specs.Statements.{see_element, see_target, see_items, begun, see_head, see_stmt, see_stmts, statement_limit, name_limit, head_causes, own_causes, refusals, all_refusals, stmt_meant, stmts_meant}
use Rattle.fd_names.proofs.Kept.{align_keeps, distribute_keeps}
use Rattle.fd_names.proofs.Known.{few_by}
use Rattle.fd_names.proofs.Sound.{no_left, no_right}
use Rattle.fd_names.proofs.StatementsSound.{clean}

-- ---- expressions count no statements

name_same : (u : Use) (n : List ℕ) (s : Seen) → (see_name u n s).statements ≡ s.statements
name_same as_name.Scalar n s = refl
name_same (as_name.Constant z) n s = refl
name_same (as_name.Array k d) n s = refl
name_same (as_name.Decomp k d) n s = refl
name_same as_name.Unknown n s = refl

callee_same : (c : Callee) (s : Seen) → (see_callee c s).statements ≡ s.statements
callee_same (callee.Array k d) s = refl
callee_same (callee.Function f) s = refl
callee_same callee.Unknown s = refl

element_same : (u : Use) (s : Seen) → (see_element u s).statements ≡ s.statements
element_same as_name.Scalar s = refl
element_same (as_name.Constant z) s = refl
element_same (as_name.Array k d) s = refl
element_same (as_name.Decomp k d) s = refl
element_same as_name.Unknown s = refl

mutual
  same : (d : Declared) (l : Line) (e : ExprTree) (s : Seen) → (see d l e s).statements ≡ s.statements
  same d l (tree.Number z) s = refl
  same d l (tree.Named n) s = name_same (use_of d l n) n s
  same d l (tree.Applied n es) s = all_same d l es (see_callee (callee_of d l n) s) ∙ callee_same (callee_of d l n) s
  same d l (tree.Negated e) s = same d l e s
  same d l (tree.Joined o a b) s = same d l b (see d l a s) ∙ same d l a s

  all_same : (d : Declared) (l : Line) (es : ExprTrees) (s : Seen) → (see_all d l es s).statements ≡ s.statements
  all_same d l NoExprs s = refl
  all_same d l (tree.Expr e es) s = all_same d l es (see d l e s) ∙ same d l e s

condition_same : (d : Declared) (l : Line) (c : CondTree) (s : Seen) → (see_condition d l c s).statements ≡ s.statements
condition_same d l (tree.Fixed b) s = refl
condition_same d l (tree.Compared r x y) s = same d l y (see d l x s) ∙ same d l x s
condition_same d l (tree.Inverted c) s = condition_same d l c s
condition_same d l (tree.Both c e) s = condition_same d l e (see_condition d l c s) ∙ condition_same d l c s
condition_same d l (tree.Either c e) s = condition_same d l e (see_condition d l c s) ∙ condition_same d l c s

target_same : (d : Declared) (l : Line) (t : ExprTree) (s : Seen) → (see_target d l t s).statements ≡ s.statements
target_same d l (tree.Number z) s = refl
target_same d l (tree.Named n) s = name_same (use_of d l n) n s
target_same d l (tree.Applied n es) s = all_same d l es (see_element (use_of d l n) s) ∙ element_same (use_of d l n) s
target_same d l (tree.Negated e) s = refl
target_same d l (tree.Joined o a b) s = refl

items_same : (d : Declared) (l : Line) (xs : List ItemTree) (s : Seen) → (see_items d l xs s).statements ≡ s.statements
items_same d l [] s = refl
items_same d l (Quoted text ∷ xs) s = items_same d l xs s
items_same d l (Valued e ∷ xs) s = items_same d l xs (see d l e s) ∙ same d l e s

-- ---- statements

not_past : (n : ℕ) → nat_le 4096 n ≡ false → n < 4096
not_past n h = grind (arith, nat_tests)

room_by : (n : ℕ) (b : Bool) (c : Cause) → nat_le 4096 n ≡ b → given b c ≡ [] → n < 4096
room_by n true c e h = absurd cc
room_by n false c e h = not_past n e

-- a statement that isn't refused has room
room : (d : Declared) (around : List (List ℕ)) (x : StmtTree) (s : Seen) (l : Line) → at_line l (own_causes d around x s) ≡ [] → s.statements < 4096
room d around x s l h = room_by s.statements (nat_le 4096 s.statements) _ refl (no_left (statement_limit s) (head_causes d around x ++ name_limit (see_head d x s)) (clean l (own_causes d around x s) h))

-- what was counted before, what is counted behind, and what is meant between
record Counts (before after size : ℕ) : Type 0 where
  is : after ≡ before + size
  few : after ≤ 4096

one : (a b : ℕ) → a < 4096 → b ≡ a + 1 → Counts a b 1
one a b h e = record { is = e; few = omega arith }

two : (a b c m n : ℕ) → Counts a b m → Counts b c n → Counts a c (m + n)
two a b c m n h k = let e = h.is in let f = k.is in record { is = omega arith; few = k.few }

none : (a : ℕ) → a ≤ 4096 → Counts a a 0
none a h = record { is = omega arith; few = h }

behind : (a b c m n : ℕ) → n ≡ m + 1 → Counts a b 1 → Counts b c m → Counts a c n
behind a b c m n e h k = let f = h.is in let g = k.is in record { is = omega arith; few = k.few }

both : (x y : ℕ) → x + y + 1 ≡ (x + y) + 1
both x y = refl

mutual
  stmt_counts : (d : Declared) (around : List (List ℕ)) (x : StmtTree) (s : Seen) → refusals d around x s ≡ [] → Counts s.statements (see_stmt d x s).statements (size_in (stmt_meant d x s))
  stmt_counts d around (AssignStmt l t e) s ok = one s.statements (see_head d (AssignStmt l t e) s).statements (room d around (AssignStmt l t e) s l ok) (same d l e (see_target d l t (begun s)) ∙ target_same d l t (begun s))
  stmt_counts d around (IfStmt l c so otherwise) s ok =
      let own = at_line l (own_causes d around (IfStmt l c so otherwise) s) in
      let r = see_head d (IfStmt l c so otherwise) s in
      let q = see_stmts d so r in
      let rest = no_right own (all_refusals d around so r ++ all_refusals d around otherwise q) ok in
      let h = one s.statements r.statements (room d around (IfStmt l c so otherwise) s l (no_left own (all_refusals d around so r ++ all_refusals d around otherwise q) ok)) (condition_same d l c (begun s)) in
      let k = stmts_counts d around so r (no_left (all_refusals d around so r) (all_refusals d around otherwise q) rest) h.few in
      let m = stmts_counts d around otherwise q (no_right (all_refusals d around so r) (all_refusals d around otherwise q) rest) k.few in
      behind s.statements r.statements (see_stmts d otherwise q).statements (size_among (stmts_meant d so r) + size_among (stmts_meant d otherwise q)) _ refl h (two r.statements q.statements (see_stmts d otherwise q).statements (size_among (stmts_meant d so r)) (size_among (stmts_meant d otherwise q)) k m)
  stmt_counts d around (DoStmt l n a b by body) s ok =
      let own = at_line l (own_causes d around (DoStmt l n a b by body) s) in
      let r = see_head d (DoStmt l n a b by body) s in
      let v = see_name (use_of d l n) n (begun s) in
      let h = one s.statements r.statements (room d around (DoStmt l n a b by body) s l (no_left own (all_refusals d (around ++ n ∷ []) body r) ok)) (same d l by (see d l b (see d l a v)) ∙ (same d l b (see d l a v) ∙ (same d l a v ∙ name_same (use_of d l n) n (begun s)))) in
      behind s.statements r.statements (see_stmts d body r).statements (size_among (stmts_meant d body r)) _ refl h (stmts_counts d (around ++ n ∷ []) body r (no_right own (all_refusals d (around ++ n ∷ []) body r) ok) h.few)
  stmt_counts d around (WhileStmt l c body) s ok =
      let own = at_line l (own_causes d around (WhileStmt l c body) s) in
      let r = see_head d (WhileStmt l c body) s in
      let h = one s.statements r.statements (room d around (WhileStmt l c body) s l (no_left own (all_refusals d around body r) ok)) (condition_same d l c (begun s)) in
      behind s.statements r.statements (see_stmts d body r).statements (size_among (stmts_meant d body r)) _ refl h (stmts_counts d around body r (no_right own (all_refusals d around body r) ok) h.few)
  stmt_counts d around (ReadStmt l t) s ok = one s.statements (see_head d (ReadStmt l t) s).statements (room d around (ReadStmt l t) s l ok) (target_same d l t (begun s))
  stmt_counts d around (PrintStmt l xs) s ok = one s.statements (see_head d (PrintStmt l xs) s).statements (room d around (PrintStmt l xs) s l ok) (items_same d l xs (begun s))
  stmt_counts d around (SkipStmt l) s ok = one s.statements (see_head d (SkipStmt l) s).statements (room d around (SkipStmt l) s l ok) refl
  stmt_counts d around (RemapStmt l n xs) s ok = absurd cc

  stmts_counts : (d : Declared) (around : List (List ℕ)) (xs : StmtTrees) (s : Seen) → all_refusals d around xs s ≡ [] → s.statements ≤ 4096 → Counts s.statements (see_stmts d xs s).statements (size_among (stmts_meant d xs s))
  stmts_counts d around NoStmts s ok few = none s.statements few
  stmts_counts d around (Stmt x rest) s ok few =
      let t = see_stmt d x s in
      let h = stmt_counts d around x s (no_left (refusals d around x s) (all_refusals d around rest t) ok) in
      two s.statements t.statements (see_stmts d rest t).statements (size_in (stmt_meant d x s)) (size_among (stmts_meant d rest t)) h (stmts_counts d around rest t (no_right (refusals d around x s) (all_refusals d around rest t) ok) h.few)

within : (a b n : ℕ) → Counts a b n → n ≤ 4096
within a b n h = let e = h.is in let f = h.few in omega arith

pub few_statements : (d : Declared) (around : List (List ℕ)) (xs : StmtTrees) (s : Seen) → all_refusals d around xs s ≡ [] → s.statements ≤ 4096 → size_among (stmts_meant d xs s) ≤ 4096
few_statements d around xs s ok few = within s.statements (see_stmts d xs s).statements (size_among (stmts_meant d xs s)) (stmts_counts d around xs s ok few)

-- ---- declarations count no statements

dims_same : (d : Declared) (l : Line) (xs : List DimTree) (s : Seen) → (see_dims d l xs s).statements ≡ s.statements
dims_same d l [] s = refl
dims_same d l (x ∷ xs) s = dims_same d l xs (see_dim d l x s) ∙ (same d l x.high (see d l x.low s) ∙ same d l x.low s)

integer_same : (n : List ℕ) (rs : List Subscripts) (s : Seen) → (see_integer n rs s).statements ≡ s.statements
integer_same n [] s = refl
integer_same n (r ∷ rs) s = refl

aims_same : (d : Declared) (l : Line) (ds : List (List ℕ)) (es : ExprTrees) (s : Seen) → (see_aims d l ds es s).statements ≡ s.statements
aims_same d l ds NoExprs s = refl
aims_same d l ds (tree.Expr e es) s = aims_same d l ds es (see_aim d l ds e s) ∙ same d l (looked_up ds (target_tree ds e)) s

attr_same : (d : Declared) (l : Line) (x : AttrTree) (s : Seen) → (see_attr d l x s).statements ≡ s.statements
attr_same d l WholeAttr s = refl
attr_same d l BlockAttr s = refl
attr_same d l CyclicAttr s = refl
attr_same d l (BlockCyclicAttr e) s = same d l e s
attr_same d l (MapAttr n) s = refl

attrs_same : (d : Declared) (l : Line) (xs : List AttrTree) (s : Seen) → (see_attrs d l xs s).statements ≡ s.statements
attrs_same d l [] s = refl
attrs_same d l (x ∷ xs) s = attrs_same d l xs (see_attr d l x s) ∙ attr_same d l x s

own_same : (u : Use) (aligned : Bool) (s : Seen) → (see_own_decomp u aligned s).statements ≡ s.statements
own_same (as_name.Array k d) true s = refl
own_same (as_name.Array k d) false s = refl
own_same as_name.Scalar aligned s = refl
own_same (as_name.Constant z) aligned s = refl
own_same (as_name.Decomp k d) aligned s = refl
own_same as_name.Unknown aligned s = refl

decl_same : (b : Base) (x : DeclTree) (s : Seen) → (see_decl b x s).statements ≡ s.statements
decl_same b (ConstantDecl l n e) s = same b.table l e s
decl_same b (IntegerDecl l n xs) s = integer_same n (dims_meant b.table l xs s) (see_dims b.table l xs s) ∙ dims_same b.table l xs s
decl_same b (DecompDecl l n xs) s = dims_same b.table l xs s
decl_same b (AlignDecl l n dummies target es) s = aims_same b.table l dummies es s
decl_same b (DistributeDecl l n xs) s = own_same (use_of b.table l n) (is_aligned b (use_of b.table l n)) (see_attrs b.table l xs s) ∙ attrs_same b.table l xs s

pub decls_same : (xs : List DeclTree) (s : Seen) (b : Base) → (see_decls xs s b).statements ≡ s.statements
decls_same [] s b = refl
decls_same (x ∷ xs) s b = decls_same xs (see_decl b x s) (declare x s b) ∙ decl_same b x s

-- ---- arrays

array_few : (x : DeclTree) (s : Seen) (b : Base) → limit_causes x s b ≡ [] → length b.arrays ≤ 128 → length (declare x s b).arrays ≤ 128
array_few (ConstantDecl l n e) s b h few = few
array_few (IntegerDecl l n xs) s b h few = few_by (length (declare (IntegerDecl l n xs) s b).arrays) (nat_lt 128 (length (declare (IntegerDecl l n xs) s b).arrays)) _ refl (no_left (array_limit (declare (IntegerDecl l n xs) s b)) (name_limit (see_decl b (IntegerDecl l n xs) s)) h)
array_few (DecompDecl l n xs) s b h few = few
array_few (AlignDecl l n dummies target es) s b h few = rw ((align_keeps l n dummies target es s b).arrays) few
array_few (DistributeDecl l n xs) s b h few = rw ((distribute_keeps l n xs s b).arrays) few

pub few_arrays : (xs : List DeclTree) (s : Seen) (b : Base) → decls_refusals xs s b ≡ [] → length b.arrays ≤ 128 → length (declare_all xs s b).arrays ≤ 128
few_arrays [] s b ok few = few
few_arrays (x ∷ xs) s b ok few =
    let rest = decls_refusals xs (see_decl b x s) (declare x s b) in
    let own = clean (line_of x) (decl_causes b x s ++ limit_causes x s b) (no_left (decl_refusals x s b) rest ok) in
    few_arrays xs (see_decl b x s) (declare x s b) (no_right (decl_refusals x s b) rest ok) (array_few x s b (no_right (decl_causes b x s) (limit_causes x s b) own) few)
