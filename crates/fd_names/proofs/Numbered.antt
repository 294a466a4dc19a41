-- The references of a program without refusals are numbered in the order of the text.
use Rattle.std.proofs.Common.{◌≡◌, ℕ, ◌+◌, ℤ, Bool, true, false, not, List, [], ◌∷◌, ◌++◌, refl, sym, ◌∙◌, subst, Option, None, Some, is_some, nat_lt, length, flat_map}
use Rattle.std.proofs.lemmas.Option.{option_and_then_some}
use Rattle.fd_base.specs.declared.numbering.Line.{Line}
use Rattle.fd_ast.specs.Tree.{ExprTree, ExprTrees, NoExprs, CondTree, ItemTree, Quoted, Valued, DimTree, StmtTree, AssignStmt, IfStmt, DoStmt, WhileStmt, ReadStmt, PrintStmt, SkipStmt, RemapStmt, StmtTrees, NoStmts, Stmt, DeclTree, ConstantDecl, IntegerDecl, DecompDecl, AlignDecl, DistributeDecl, AttrTree, WholeAttr, BlockAttr, CyclicAttr, BlockCyclicAttr, MapAttr, ProgramTree}
use Rattle.fd_ast.specs.Tree as tree
use Rattle.fd_prog.specs.Expressions.{Expression, Number, Scalar, Element, Negated, Joined, Applied, Expressions, End, More}
use Rattle.fd_names.specs.declared.book.Seen.{Seen}
use Rattle.fd_names.specs.declared.declarations.Base.{Base}
use Rattle.fd_names.specs.declared.declarations.Subscripts.{Subscripts}
use Rattle.fd_names.specs.declared.names.Use.{Use}
use Rattle.fd_names.specs.declared.names.Use.TheVariants as as_name
use Rattle.fd_names.specs.declared.names.Callee.{Callee}
use Rattle.fd_names.specs.declared.names.Callee.TheVariants as callee
use Rattle.fd_names.specs.declared.refusal.Cause.TheVariants.{DeclaredTwice, WrongShape}
use Rattle.fd_names.specs.Checked.{nothing_seen, base_of, seen_in_decls, refusals_of, meaning_of}
use Rattle.fd_names.specs.Alignments.{TargetTree, Alone, Plus, Minus, Other, looked_up, target_tree, aim_causes, value_at, see_aim, see_aims, aims_causes, aims_of, aligned_causes, onto_causes, is_short}
use Rattle.fd_names.specs.Alignments as aim_target
use Rattle.fd_names.specs.Conditions.{condition_causes, see_condition, condition_meant}
use Rattle.fd_names.specs.Constants.{constant_of, constants_of}
use Rattle.fd_names.specs.Declarations.{is_aligned, is_spread, decomp_dims, see_own_decomp, place_causes, nothing_declared, range_causes, value_causes, dim_causes, dims_causes, see_dim, see_dims, dims_meant, see_integer, constant_causes, decl_causes, limit_causes, see_decl, declare, decl_refusals, decls_refusals, see_decls, line_of}
use Rattle.fd_names.specs.Distributions.{attr_causes, attrs_causes, attrs_meant, block_causes, see_attr, see_attrs, spread_causes}
use Rattle.fd_names.specs.Expressions.{count, name_causes, call_causes, causes, all_causes, see_name, see_callee, see, see_all, name_meant, call_meant, meant, all_meant}
use Rattle.fd_names.specs.First.{at_line, given}
use Rattle.fd_names.specs.Names.{Declared, find_name, has_name, use_of, callee_of}
use Rattle.fd_prog.specs.Checked.{Reference, references_in, references_among, condition_references, target_references, item_references, statement_references, statements_references}
use Rattle.fd_names.specs.Sites.{CountUp}
use Rattle.fd_names.specs.Statements.{set_causes, element_causes, target_causes, see_element, see_target, element_meant, target_meant, item_causes, see_item, items_causes, see_items, items_meant, item_meant, begun, see_head, see_stmt, see_stmts, own_causes, refusals, all_refusals, stmt_meant, stmts_meant}
use Rattle.fd_names.proofs.Parts.{parted}
use Rattle.fd_names.proofs.Sound.{no_left, no_right}
use Rattle.fd_names.proofs.StatementsSound.{clean, own_clean}
use Rattle.fd_names.proofs.Valued.{map_some}

join : (a b c : ℕ) (xs ys : List Reference) → CountUp a xs b → CountUp b ys c → CountUp a (xs ++ ys) c
join a b c [] ys h k = let P : ℕ → Type 0 = λ x. CountUp x ys c in subst P (sym h) k
join a b c (x ∷ xs) ys h k = (h.0, join (a + 1) b c xs ys h.1 k)

none : (a b : ℕ) (xs : List Reference) → xs ≡ [] → CountUp a xs b → b ≡ a
none a b [] e h = sym h
none a b (x ∷ xs) e h = absurd cc

-- ---- expressions and conditions

named : (n : List ℕ) (s : Seen) (u : Use) → name_causes u ≡ [] → CountUp s.sites (references_in (name_meant u n s)) (see_name u n s).sites
named n s as_name.Scalar ok = refl
named n s (as_name.Constant z) ok = refl
named n s (as_name.Array k d) ok = absurd cc
named n s (as_name.Decomp k d) ok = absurd cc
named n s as_name.Unknown ok = absurd cc

called : (m : ℕ) (xs : Expressions) (s : Seen) (b : ℕ) (c : Callee) → call_causes c m ≡ [] → CountUp (see_callee c s).sites (references_among xs) b → CountUp s.sites (references_in (call_meant c xs s)) b
called m xs s b (callee.Array k d) ok h = (refl, h)
called m xs s b (callee.Function f) ok h = h
called m xs s b callee.Unknown ok h = absurd cc

mutual
  numbered : (d : Declared) (l : Line) (e : ExprTree) (s : Seen) → causes d l e ≡ [] → CountUp s.sites (references_in (meant d l e s)) (see d l e s).sites
  numbered d l (tree.Number z) s ok = refl
  numbered d l (tree.Named n) s ok = named n s (use_of d l n) ok
  numbered d l (tree.Applied n es) s ok =
      let r = see_callee (callee_of d l n) s in
      called (count es) (all_meant d l es r) s (see_all d l es r).sites (callee_of d l n) (no_left (call_causes (callee_of d l n) (count es)) (all_causes d l es) ok)
      (all_numbered d l es r (no_right (call_causes (callee_of d l n) (count es)) (all_causes d l es) ok))
  numbered d l (tree.Negated e) s ok = numbered d l e s ok
  numbered d l (tree.Joined o a b) s ok =
      join s.sites (see d l a s).sites (see d l b (see d l a s)).sites (references_in (meant d l a s)) (references_in (meant d l b (see d l a s)))
      (numbered d l a s (no_left (causes d l a) (causes d l b) ok)) (numbered d l b (see d l a s) (no_right (causes d l a) (causes d l b) ok))

  all_numbered : (d : Declared) (l : Line) (es : ExprTrees) (s : Seen) → all_causes d l es ≡ [] → CountUp s.sites (references_among (all_meant d l es s)) (see_all d l es s).sites
  all_numbered d l NoExprs s ok = refl
  all_numbered d l (tree.Expr e es) s ok =
      join s.sites (see d l e s).sites (see_all d l es (see d l e s)).sites (references_in (meant d l e s)) (references_among (all_meant d l es (see d l e s)))
      (numbered d l e s (no_left (causes d l e) (all_causes d l es) ok)) (all_numbered d l es (see d l e s) (no_right (causes d l e) (all_causes d l es) ok))

condition_numbered : (d : Declared) (l : Line) (c : CondTree) (s : Seen) → condition_causes d l c ≡ [] → CountUp s.sites (condition_references (condition_meant d l c s)) (see_condition d l c s).sites
condition_numbered d l (tree.Fixed b) s ok = refl
condition_numbered d l (tree.Compared r x y) s ok =
    join s.sites (see d l x s).sites (see d l y (see d l x s)).sites (references_in (meant d l x s)) (references_in (meant d l y (see d l x s)))
    (numbered d l x s (no_left (causes d l x) (causes d l y) ok)) (numbered d l y (see d l x s) (no_right (causes d l x) (causes d l y) ok))
condition_numbered d l (tree.Inverted c) s ok = condition_numbered d l c s ok
condition_numbered d l (tree.Both c e) s ok =
    join s.sites (see_condition d l c s).sites (see_condition d l e (see_condition d l c s)).sites (condition_references (condition_meant d l c s)) (condition_references (condition_meant d l e (see_condition d l c s)))
    (condition_numbered d l c s (no_left (condition_causes d l c) (condition_causes d l e) ok)) (condition_numbered d l e (see_condition d l c s) (no_right (condition_causes d l c) (condition_causes d l e) ok))
condition_numbered d l (tree.Either c e) s ok =
    join s.sites (see_condition d l c s).sites (see_condition d l e (see_condition d l c s)).sites (condition_references (condition_meant d l c s)) (condition_references (condition_meant d l e (see_condition d l c s)))
    (condition_numbered d l c s (no_left (condition_causes d l c) (condition_causes d l e) ok)) (condition_numbered d l e (see_condition d l c s) (no_right (condition_causes d l c) (condition_causes d l e) ok))

-- ---- statements

set_sites : (n : List ℕ) (s : Seen) (u : Use) → s.sites ≡ (see_name u n s).sites
set_sites n s as_name.Scalar = refl
set_sites n s (as_name.Constant z) = refl
set_sites n s (as_name.Array k d) = refl
set_sites n s (as_name.Decomp k d) = refl
set_sites n s as_name.Unknown = refl

element_numbered : (es : ExprTrees) (xs : Expressions) (s : Seen) (b : ℕ) (u : Use) → element_causes u es ≡ [] → CountUp (see_element u s).sites (references_among xs) b → CountUp s.sites (target_references (element_meant u xs s)) b
element_numbered es xs s b (as_name.Array k d) ok h = (refl, h)
element_numbered es xs s b (as_name.Decomp k d) ok h = absurd cc
element_numbered es xs s b as_name.Scalar ok h = absurd cc
element_numbered es xs s b (as_name.Constant z) ok h = absurd cc
element_numbered es xs s b as_name.Unknown ok h = absurd cc

target_numbered : (d : Declared) (around : List (List ℕ)) (l : Line) (t : ExprTree) (s : Seen) → target_causes d around l t ≡ [] → CountUp s.sites (target_references (target_meant d l t s)) (see_target d l t s).sites
target_numbered d around l (tree.Number z) s ok = absurd cc
target_numbered d around l (tree.Named n) s ok = set_sites n s (use_of d l n)
target_numbered d around l (tree.Applied n es) s ok =
    let r = see_element (use_of d l n) s in
    element_numbered es (all_meant d l es r) s (see_all d l es r).sites (use_of d l n) (no_left (element_causes (use_of d l n) es) (all_causes d l es) ok)
    (all_numbered d l es r (no_right (element_causes (use_of d l n) es) (all_causes d l es) ok))
target_numbered d around l (tree.Negated e) s ok = absurd cc
target_numbered d around l (tree.Joined o a b) s ok = absurd cc

item_numbered : (d : Declared) (l : Line) (x : ItemTree) (s : Seen) → item_causes d l x ≡ [] → CountUp s.sites (item_references (item_meant d l x s)) (see_item d l x s).sites
item_numbered d l (Quoted text) s ok = refl
item_numbered d l (Valued e) s ok = numbered d l e s ok

items_numbered : (d : Declared) (l : Line) (xs : List ItemTree) (s : Seen) → items_causes d l xs ≡ [] → CountUp s.sites (flat_map item_references (items_meant d l xs s)) (see_items d l xs s).sites
items_numbered d l [] s ok = refl
items_numbered d l (x ∷ xs) s ok =
    join s.sites (see_item d l x s).sites (see_items d l xs (see_item d l x s)).sites (item_references (item_meant d l x s)) (flat_map item_references (items_meant d l xs (see_item d l x s)))
    (item_numbered d l x s (no_left (item_causes d l x) (items_causes d l xs) ok)) (items_numbered d l xs (see_item d l x s) (no_right (item_causes d l x) (items_causes d l xs) ok))

mutual
  stmt_numbered : (d : Declared) (around : List (List ℕ)) (x : StmtTree) (s : Seen) → refusals d around x s ≡ [] → CountUp s.sites (statement_references (stmt_meant d x s)) (see_stmt d x s).sites
  stmt_numbered d around (AssignStmt l t e) s ok =
      let h = own_clean d around (AssignStmt l t e) s l ok in
      let r = see_target d l t (begun s) in
      join s.sites r.sites (see d l e r).sites (target_references (target_meant d l t (begun s))) (references_in (meant d l e r))
      (target_numbered d around l t (begun s) (no_left (target_causes d around l t) (causes d l e) h)) (numbered d l e r (no_right (target_causes d around l t) (causes d l e) h))
  stmt_numbered d around (IfStmt l c so otherwise) s ok =
      let own = at_line l (own_causes d around (IfStmt l c so otherwise) s) in
      let r = see_head d (IfStmt l c so otherwise) s in
      let q = see_stmts d so r in
      let rest = no_right own (all_refusals d around so r ++ all_refusals d around otherwise q) ok in
      let h = own_clean d around (IfStmt l c so otherwise) s l (no_left own (all_refusals d around so r ++ all_refusals d around otherwise q) ok) in
      join s.sites r.sites (see_stmts d otherwise q).sites (condition_references (condition_meant d l c (begun s))) (statements_references (stmts_meant d so r) ++ statements_references (stmts_meant d otherwise q))
      (condition_numbered d l c (begun s) h)
      (join r.sites q.sites (see_stmts d otherwise q).sites (statements_references (stmts_meant d so r)) (statements_references (stmts_meant d otherwise q))
      (stmts_numbered d around so r (no_left (all_refusals d around so r) (all_refusals d around otherwise q) rest))
      (stmts_numbered d around otherwise q (no_right (all_refusals d around so r) (all_refusals d around otherwise q) rest)))
  stmt_numbered d around (DoStmt l n a b by body) s ok =
      let own = at_line l (own_causes d around (DoStmt l n a b by body) s) in
      let v = see_name (use_of d l n) n (begun s) in
      let va = see d l a v in
      let vb = see d l b va in
      let r = see d l by vb in
      let set = set_causes (use_of d l n) (has_name around n) in
      let h = own_clean d around (DoStmt l n a b by body) s l (no_left own (all_refusals d (around ++ n ∷ []) body r) ok) in
      let h2 = no_right set (causes d l a ++ (causes d l b ++ causes d l by)) h in
      let h3 = no_right (causes d l a) (causes d l b ++ causes d l by) h2 in
      let all = references_in (meant d l a v) ++ (references_in (meant d l b va) ++ (references_in (meant d l by vb) ++ statements_references (stmts_meant d body r))) in
      join s.sites v.sites (see_stmts d body r).sites [] all (set_sites n (begun s) (use_of d l n))
      (join v.sites va.sites (see_stmts d body r).sites (references_in (meant d l a v)) (references_in (meant d l b va) ++ (references_in (meant d l by vb) ++ statements_references (stmts_meant d body r)))
      (numbered d l a v (no_left (causes d l a) (causes d l b ++ causes d l by) h2))
      (join va.sites vb.sites (see_stmts d body r).sites (references_in (meant d l b va)) (references_in (meant d l by vb) ++ statements_references (stmts_meant d body r))
      (numbered d l b va (no_left (causes d l b) (causes d l by) h3))
      (join vb.sites r.sites (see_stmts d body r).sites (references_in (meant d l by vb)) (statements_references (stmts_meant d body r))
      (numbered d l by vb (no_right (causes d l b) (causes d l by) h3))
      (stmts_numbered d (around ++ n ∷ []) body r (no_right own (all_refusals d (around ++ n ∷ []) body r) ok)))))
  stmt_numbered d around (WhileStmt l c body) s ok =
      let own = at_line l (own_causes d around (WhileStmt l c body) s) in
      let r = see_head d (WhileStmt l c body) s in
      join s.sites r.sites (see_stmts d body r).sites (condition_references (condition_meant d l c (begun s))) (statements_references (stmts_meant d body r))
      (condition_numbered d l c (begun s) (own_clean d around (WhileStmt l c body) s l (no_left own (all_refusals d around body r) ok)))
      (stmts_numbered d around body r (no_right own (all_refusals d around body r) ok))
  stmt_numbered d around (ReadStmt l t) s ok = target_numbered d around l t (begun s) (own_clean d around (ReadStmt l t) s l ok)
  stmt_numbered d around (PrintStmt l xs) s ok = items_numbered d l xs (begun s) (own_clean d around (PrintStmt l xs) s l ok)
  stmt_numbered d around (SkipStmt l) s ok = refl
  stmt_numbered d around (RemapStmt l n xs) s ok = absurd cc

  stmts_numbered : (d : Declared) (around : List (List ℕ)) (xs : StmtTrees) (s : Seen) → all_refusals d around xs s ≡ [] → CountUp s.sites (statements_references (stmts_meant d xs s)) (see_stmts d xs s).sites
  stmts_numbered d around NoStmts s ok = refl
  stmts_numbered d around (Stmt x rest) s ok =
      join s.sites (see_stmt d x s).sites (see_stmts d rest (see_stmt d x s)).sites (statement_references (stmt_meant d x s)) (statements_references (stmts_meant d rest (see_stmt d x s)))
      (stmt_numbered d around x s (no_left (refusals d around x s) (all_refusals d around rest (see_stmt d x s)) ok))
      (stmts_numbered d around rest (see_stmt d x s) (no_right (refusals d around x s) (all_refusals d around rest (see_stmt d x s)) ok))

-- ---- constants have no references

both_empty : {X : Type 0} (xs ys : List X) → xs ≡ [] → ys ≡ [] → xs ++ ys ≡ []
both_empty [] ys e f = f
both_empty (x ∷ xs) ys e f = absurd cc

mutual
  still : (e : Expression) (x : ℤ) → constant_of e ≡ Some x → references_in e ≡ []
  still (Number n) x h = refl
  still (Scalar k) x h = refl
  still (Element k es site) x h = absurd cc
  still (Negated e) x h = option_and_then_some _ (constant_of e) x h (λ y p q. still e y p)
  still (Joined op a b) x h = option_and_then_some _ (constant_of a) x h (λ y p q. option_and_then_some _ (constant_of b) x q (λ z r w. both_empty (references_in a) (references_in b) (still a y p) (still b z r)))
  still (Applied f es) x h = option_and_then_some _ (constants_of es) x h (λ xs p q. all_still es xs p)

  all_still : (es : Expressions) (xs : List ℤ) → constants_of es ≡ Some xs → references_among es ≡ []
  all_still End xs h = refl
  all_still (More e es) xs h = option_and_then_some _ (constant_of e) xs h (λ y p q. map_some _ (constants_of es) xs q (λ ys r w. both_empty (references_in e) (references_among es) (still e y p) (all_still es ys r)))

constant_still : (d : Declared) (l : Line) (e : ExprTree) (s : Seen) (x : ℤ) → causes d l e ≡ [] → constant_of (meant d l e s) ≡ Some x → (see d l e s).sites ≡ s.sites
constant_still d l e s x ok h = none s.sites (see d l e s).sites (references_in (meant d l e s)) (still (meant d l e s) x h) (numbered d l e s ok)

-- ---- declarations

record AreSome (a b : Option ℤ) : Type 0 where
  first : ℤ
  second : ℤ
  first_is : a ≡ Some first
  second_is : b ≡ Some second

ranged : (a b : Option ℤ) → range_causes a b ≡ [] → AreSome a b
ranged None b h = absurd cc
ranged (Some x) None h = absurd cc
ranged (Some x) (Some y) h = record { first = x; second = y; first_is = refl; second_is = refl }

dim_still : (d : Declared) (l : Line) (x : DimTree) (s : Seen) → dim_causes d l x s ≡ [] → (see_dim d l x s).sites ≡ s.sites
dim_still d l x s ok =
    let low = constant_of (meant d l x.low s) in
    let high = constant_of (meant d l x.high (see d l x.low s)) in
    let rest = no_right (causes d l x.low) (causes d l x.high ++ range_causes low high) ok in
    let some = ranged low high (no_right (causes d l x.high) (range_causes low high) rest) in
    constant_still d l x.high (see d l x.low s) some.second (no_left (causes d l x.high) (range_causes low high) rest) some.second_is
    ∙ constant_still d l x.low s some.first (no_left (causes d l x.low) (causes d l x.high ++ range_causes low high) ok) some.first_is

dims_still : (d : Declared) (l : Line) (xs : List DimTree) (s : Seen) → dims_causes d l xs s ≡ [] → (see_dims d l xs s).sites ≡ s.sites
dims_still d l [] s ok = refl
dims_still d l (x ∷ xs) s ok =
    dims_still d l xs (see_dim d l x s) (no_right (dim_causes d l x s) (dims_causes d l xs (see_dim d l x s)) ok)
    ∙ dim_still d l x s (no_left (dim_causes d l x s) (dims_causes d l xs (see_dim d l x s)) ok)

integer_still : (n : List ℕ) (rs : List Subscripts) (s : Seen) → (see_integer n rs s).sites ≡ s.sites
integer_still n [] s = refl
integer_still n (r ∷ rs) s = refl

value_still : (d : Declared) (l : Line) (e : ExprTree) (s : Seen) (v : Option ℤ) → causes d l e ≡ [] → constant_of (meant d l e s) ≡ v → value_causes v ≡ [] → (see d l e s).sites ≡ s.sites
value_still d l e s None ok h f = absurd cc
value_still d l e s (Some z) ok h f = constant_still d l e s z ok h

aim_still : (d : Declared) (l : Line) (e : ExprTree) (t : TargetTree) (s : Seen) (v : Option ℤ) → causes d l e ≡ [] → constant_of (meant d l e s) ≡ v → aim_causes t v ≡ [] → ((k : ℕ) → t ≡ Alone k → (see d l e s).sites ≡ s.sites) → (see d l e s).sites ≡ s.sites
aim_still d l e (Alone k) s v ok h f alone = alone k refl
aim_still d l e (Plus k x) s None ok h f alone = absurd cc
aim_still d l e (Plus k x) s (Some z) ok h f alone = constant_still d l e s z ok h
aim_still d l e (Minus k x) s None ok h f alone = absurd cc
aim_still d l e (Minus k x) s (Some z) ok h f alone = constant_still d l e s z ok h
aim_still d l e (Other x) s None ok h f alone = absurd cc
aim_still d l e (Other x) s (Some z) ok h f alone = constant_still d l e s z ok h

-- a dummy alone looks up nothing
alone_still : (d : Declared) (l : Line) (ds : List (List ℕ)) (t : TargetTree) (s : Seen) (k : ℕ) → t ≡ Alone k → (see d l (looked_up ds t) s).sites ≡ s.sites
alone_still d l ds (Alone j) s k e = refl
alone_still d l ds (Plus j x) s k e = absurd cc
alone_still d l ds (Minus j x) s k e = absurd cc
alone_still d l ds (Other x) s k e = absurd cc

aims_still : (d : Declared) (l : Line) (ds : List (List ℕ)) (es : ExprTrees) (s : Seen) → aims_causes d l ds es s ≡ [] → (see_aims d l ds es s).sites ≡ s.sites
aims_still d l ds NoExprs s ok = refl
aims_still d l ds (tree.Expr e es) s ok =
    let t = target_tree ds e in
    let own = no_left (aim_target.target_causes d l ds e s) (aims_causes d l ds es (see_aim d l ds e s)) ok in
    aims_still d l ds es (see_aim d l ds e s) (no_right (aim_target.target_causes d l ds e s) (aims_causes d l ds es (see_aim d l ds e s)) ok)
    ∙ aim_still d l (looked_up ds t) t s (value_at d l ds e s) (no_left (causes d l (looked_up ds t)) (aim_causes t (value_at d l ds e s)) own) refl (no_right (causes d l (looked_up ds t)) (aim_causes t (value_at d l ds e s)) own) (alone_still d l ds t s)

block_still : (d : Declared) (l : Line) (e : ExprTree) (s : Seen) (v : Option ℤ) → causes d l e ≡ [] → constant_of (meant d l e s) ≡ v → block_causes v ≡ [] → (see d l e s).sites ≡ s.sites
block_still d l e s None ok h f = absurd cc
block_still d l e s (Some z) ok h f = constant_still d l e s z ok h

attr_still : (d : Declared) (l : Line) (x : AttrTree) (s : Seen) → attr_causes d l x s ≡ [] → (see_attr d l x s).sites ≡ s.sites
attr_still d l WholeAttr s ok = refl
attr_still d l BlockAttr s ok = refl
attr_still d l CyclicAttr s ok = refl
attr_still d l (BlockCyclicAttr e) s ok =
    let v = constant_of (meant d l e s) in
    block_still d l e s v (no_left (causes d l e) (block_causes v) ok) refl (no_right (causes d l e) (block_causes v) ok)
attr_still d l (MapAttr n) s ok = absurd cc

attrs_still : (d : Declared) (l : Line) (xs : List AttrTree) (s : Seen) → attrs_causes d l xs s ≡ [] → (see_attrs d l xs s).sites ≡ s.sites
attrs_still d l [] s ok = refl
attrs_still d l (x ∷ xs) s ok =
    attrs_still d l xs (see_attr d l x s) (no_right (attr_causes d l x s) (attrs_causes d l xs (see_attr d l x s)) ok)
    ∙ attr_still d l x s (no_left (attr_causes d l x s) (attrs_causes d l xs (see_attr d l x s)) ok)

own_still : (u : Use) (aligned : Bool) (s : Seen) → (see_own_decomp u aligned s).sites ≡ s.sites
own_still (as_name.Array k d) true s = refl
own_still (as_name.Array k d) false s = refl
own_still as_name.Scalar aligned s = refl
own_still (as_name.Constant z) aligned s = refl
own_still (as_name.Decomp k d) aligned s = refl
own_still as_name.Unknown aligned s = refl

decl_still : (x : DeclTree) (s : Seen) (b : Base) → decl_causes b x s ≡ [] → (see_decl b x s).sites ≡ s.sites
decl_still (ConstantDecl l n e) s b ok =
    let d = b.table in
    let v = constant_of (meant d l e s) in
    let rest = no_right (constant_causes (find_name d n) n) (causes d l e ++ value_causes v) ok in
    value_still d l e s v (no_left (causes d l e) (value_causes v) rest) refl (no_right (causes d l e) (value_causes v) rest)
decl_still (IntegerDecl l n xs) s b ok =
    let d = b.table in
    integer_still n (dims_meant d l xs s) (see_dims d l xs s) ∙ dims_still d l xs s (no_right (given (nat_lt 2 (length xs)) WrongShape) (dims_causes d l xs s) (no_right (given (is_some (find_name d n)) DeclaredTwice) (given (nat_lt 2 (length xs)) WrongShape ++ dims_causes d l xs s) ok))
decl_still (DecompDecl l n xs) s b ok =
    let d = b.table in
    dims_still d l xs s (no_right (given (not (decomp_dims (length xs))) WrongShape) (dims_causes d l xs s) (no_right (given (is_some (find_name d n)) DeclaredTwice) (given (not (decomp_dims (length xs))) WrongShape ++ dims_causes d l xs s) ok))
decl_still (AlignDecl l n dummies target es) s b ok =
    let u = use_of b.table l n in
    let v = use_of b.table l target in
    let place = place_causes u v b (is_short dummies es) dummies (aims_of b.table l dummies es s) in
    let aims = aims_causes b.table l dummies es s in
    aims_still b.table l dummies es s (no_left aims place (no_right (onto_causes v) (aims ++ place) (no_right (aligned_causes u (is_aligned b u)) (onto_causes v ++ (aims ++ place)) ok)))
decl_still (DistributeDecl l n xs) s b ok =
    let u = use_of b.table l n in
    let attrs = attrs_causes b.table l xs s in
    own_still u (is_aligned b u) (see_attrs b.table l xs s) ∙ attrs_still b.table l xs s (no_left attrs (spread_causes u (is_aligned b u) (is_spread b u) (attrs_meant b.table l xs s)) ok)

decls_still : (xs : List DeclTree) (s : Seen) (b : Base) → decls_refusals xs s b ≡ [] → (see_decls xs s b).sites ≡ s.sites
decls_still [] s b ok = refl
decls_still (x ∷ xs) s b ok =
    let rest = decls_refusals xs (see_decl b x s) (declare x s b) in
    let own = clean (line_of x) (decl_causes b x s ++ limit_causes x s b) (no_left (decl_refusals x s b) rest ok) in
    decls_still xs (see_decl b x s) (declare x s b) (no_right (decl_refusals x s b) rest ok)
    ∙ decl_still x s b (no_left (decl_causes b x s) (limit_causes x s b) own)

-- ---- the whole

pub program_numbered : (t : ProgramTree) (end_line : Line) (at : ℕ) → refusals_of t ≡ [] → CountUp 0 (statements_references (meaning_of t end_line at).body) (meaning_of t end_line at).sites
program_numbered t end_line at ok =
    let clean = parted t ok in
    let P : ℕ → Type 0 = λ a. CountUp a (statements_references (meaning_of t end_line at).body) (meaning_of t end_line at).sites in
    subst P (decls_still t.decls nothing_seen (nothing_declared t.decls) clean.decls) (stmts_numbered (base_of t).table [] t.body (seen_in_decls t) clean.body)
