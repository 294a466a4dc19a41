-- What statements without refusals stand for is sound.
use Rattle.std.proofs.Common.{◌≡◌, ℕ, ◌<◌, ◌≤◌, Bool, List, [], ◌∷◌, ◌++◌, refl, length, arith}
use Rattle.std.specs.List.{All}
use Rattle.std.proofs.lemmas.List.Elements.{All-nil, All-cons}
use Rattle.fd_base.specs.declared.numbering.Line.{Line}
use Rattle.fd_ast.specs.Tree.{ExprTree, ExprTrees, ItemTree, Quoted, Valued, StmtTree, AssignStmt, IfStmt, DoStmt, WhileStmt, ReadStmt, PrintStmt, SkipStmt, RemapStmt, StmtTrees, NoStmts, Stmt}
use Rattle.fd_ast.specs.Tree as tree
use Rattle.fd_prog.specs.Expressions.{Expressions}
use Rattle.fd_prog.specs.WellFormed.{Names, count_of, AreSound, IsSoundTarget, IsSoundItem, IsSoundStatement, AreSoundStatements}
use Rattle.fd_names.specs.declared.book.Seen.{Seen}
use Rattle.fd_names.specs.declared.names.Use.{Use}
use Rattle.fd_names.specs.declared.names.Use.TheVariants as as_name
use Rattle.fd_names.specs.declared.refusal.Cause.{Cause}
use Rattle.fd_names.specs.Expressions.{count, causes, all_causes, see_name, see, see_all, all_meant}
use Rattle.fd_names.specs.First.{at_line}
use Rattle.fd_names.specs.Names.{Declared, has_name, use_of}
use Rattle.fd_names.specs.Statements.{set_causes, element_causes, target_causes, see_element, see_target, scalar_meant, element_meant, target_meant, item_causes, see_item, items_causes, see_items, items_meant, item_meant, begun, statement_limit, name_limit, see_head, see_stmt, see_stmts, head_causes, own_causes, refusals, all_refusals, stmt_meant, stmts_meant}
use Rattle.fd_names.proofs.Sound.{no_left, no_right, scalar-below, see_name-grows, grows, see-grows, see_all-grows, see_condition-grows, counted, few_subs, sound, all_sound, condition_sound}
use Rattle.fd_names.proofs.Tables.{IsUse, IsTable, used}

see_element-grows : (u : Use) (s : Seen) → length s.scalars ≤ length (see_element u s).scalars
see_element-grows as_name.Scalar s = omega arith
see_element-grows (as_name.Constant z) s = omega arith
see_element-grows (as_name.Array k d) s = omega arith
see_element-grows (as_name.Decomp k d) s = omega arith
see_element-grows as_name.Unknown s = omega arith

see_target-grows : (d : Declared) (l : Line) (t : ExprTree) (s : Seen) → length s.scalars ≤ length (see_target d l t s).scalars
see_target-grows d l (tree.Number z) s = omega arith
see_target-grows d l (tree.Named n) s = see_name-grows (use_of d l n) n s
see_target-grows d l (tree.Applied n es) s = grows s (see_element (use_of d l n) s) (see_all d l es (see_element (use_of d l n) s)) (see_element-grows (use_of d l n) s) (see_all-grows d l es (see_element (use_of d l n) s))
see_target-grows d l (tree.Negated e) s = omega arith
see_target-grows d l (tree.Joined o a b) s = omega arith

see_item-grows : (d : Declared) (l : Line) (x : ItemTree) (s : Seen) → length s.scalars ≤ length (see_item d l x s).scalars
see_item-grows d l (Quoted text) s = omega arith
see_item-grows d l (Valued e) s = see-grows d l e s

see_items-grows : (d : Declared) (l : Line) (xs : List ItemTree) (s : Seen) → length s.scalars ≤ length (see_items d l xs s).scalars
see_items-grows d l [] s = omega arith
see_items-grows d l (x ∷ xs) s = grows s (see_item d l x s) (see_items d l xs (see_item d l x s)) (see_item-grows d l x s) (see_items-grows d l xs (see_item d l x s))

see_head-grows : (d : Declared) (x : StmtTree) (s : Seen) → length s.scalars ≤ length (see_head d x s).scalars
see_head-grows d (AssignStmt l t e) s = grows s (see_target d l t (begun s)) (see d l e (see_target d l t (begun s))) (see_target-grows d l t (begun s)) (see-grows d l e (see_target d l t (begun s)))
see_head-grows d (IfStmt l c so otherwise) s = see_condition-grows d l c (begun s)
see_head-grows d (DoStmt l n a b by body) s =
    let r = see_name (use_of d l n) n (begun s) in
    grows s r (see d l by (see d l b (see d l a r))) (see_name-grows (use_of d l n) n (begun s))
    (grows r (see d l a r) (see d l by (see d l b (see d l a r))) (see-grows d l a r)
    (grows (see d l a r) (see d l b (see d l a r)) (see d l by (see d l b (see d l a r))) (see-grows d l b (see d l a r)) (see-grows d l by (see d l b (see d l a r)))))
see_head-grows d (WhileStmt l c body) s = see_condition-grows d l c (begun s)
see_head-grows d (ReadStmt l t) s = see_target-grows d l t (begun s)
see_head-grows d (PrintStmt l xs) s = see_items-grows d l xs (begun s)
see_head-grows d (SkipStmt l) s = omega arith
see_head-grows d (RemapStmt l n xs) s = omega arith

mutual
  see_stmt-grows : (d : Declared) (x : StmtTree) (s : Seen) → length s.scalars ≤ length (see_stmt d x s).scalars
  see_stmt-grows d (AssignStmt l t e) s = see_head-grows d (AssignStmt l t e) s
  see_stmt-grows d (IfStmt l c so otherwise) s =
      let r = see_head d (IfStmt l c so otherwise) s in
      grows s r (see_stmts d otherwise (see_stmts d so r)) (see_head-grows d (IfStmt l c so otherwise) s)
      (grows r (see_stmts d so r) (see_stmts d otherwise (see_stmts d so r)) (see_stmts-grows d so r) (see_stmts-grows d otherwise (see_stmts d so r)))
  see_stmt-grows d (DoStmt l n a b by body) s =
      let r = see_head d (DoStmt l n a b by body) s in
      grows s r (see_stmts d body r) (see_head-grows d (DoStmt l n a b by body) s) (see_stmts-grows d body r)
  see_stmt-grows d (WhileStmt l c body) s =
      let r = see_head d (WhileStmt l c body) s in
      grows s r (see_stmts d body r) (see_head-grows d (WhileStmt l c body) s) (see_stmts-grows d body r)
  see_stmt-grows d (ReadStmt l t) s = see_head-grows d (ReadStmt l t) s
  see_stmt-grows d (PrintStmt l xs) s = see_head-grows d (PrintStmt l xs) s
  see_stmt-grows d (SkipStmt l) s = see_head-grows d (SkipStmt l) s
  see_stmt-grows d (RemapStmt l n xs) s = see_head-grows d (RemapStmt l n xs) s

  see_stmts-grows : (d : Declared) (xs : StmtTrees) (s : Seen) → length s.scalars ≤ length (see_stmts d xs s).scalars
  see_stmts-grows d NoStmts s = omega arith
  see_stmts-grows d (Stmt x rest) s = grows s (see_stmt d x s) (see_stmts d rest (see_stmt d x s)) (see_stmt-grows d x s) (see_stmts-grows d rest (see_stmt d x s))

-- ---- heads

pub clean : (l : Line) (cs : List Cause) → at_line l cs ≡ [] → cs ≡ []
clean l [] h = refl
clean l (c ∷ cs) h = absurd cc

pub own_clean : (d : Declared) (around : List (List ℕ)) (x : StmtTree) (s : Seen) (l : Line) → at_line l (own_causes d around x s) ≡ [] → head_causes d around x ≡ []
own_clean d around x s l h = no_left (head_causes d around x) (name_limit (see_head d x s)) (no_right (statement_limit s) (head_causes d around x ++ name_limit (see_head d x s)) (clean l (own_causes d around x s) h))

below : (a b c : ℕ) → a ≤ b → b ≤ c → a ≤ c
below a b c h k = omega arith

set_sound : (n : List ℕ) (s : Seen) (m : ℕ) (u : Use) (b : Bool) → set_causes u b ≡ [] → length (see_name u n s).scalars ≤ m → scalar_meant u n s < m
set_sound n s m as_name.Scalar b ok fits = scalar-below s.scalars n m fits
set_sound n s m (as_name.Constant z) b ok fits = absurd cc
set_sound n s m (as_name.Array k d) b ok fits = absurd cc
set_sound n s m (as_name.Decomp k d) b ok fits = absurd cc
set_sound n s m as_name.Unknown b ok fits = absurd cc

element_sound : (m : Names) (es : ExprTrees) (xs : Expressions) (s : Seen) (u : Use) → element_causes u es ≡ [] → IsUse m.arrays u → count_of xs ≡ count es → AreSound m xs → IsSoundTarget m (element_meant u xs s)
element_sound m es xs s (as_name.Array k d) ok i same all = let few = few_subs es xs d _ same ok i.1 i.2 in (i.0, few.0, few.1, all)
element_sound m es xs s (as_name.Decomp k d) ok i same all = absurd cc
element_sound m es xs s as_name.Scalar ok i same all = absurd cc
element_sound m es xs s (as_name.Constant z) ok i same all = absurd cc
element_sound m es xs s as_name.Unknown ok i same all = absurd cc

target_sound : (m : Names) (d : Declared) (around : List (List ℕ)) (l : Line) (t : ExprTree) (s : Seen) → IsTable m.arrays d → target_causes d around l t ≡ [] → length (see_target d l t s).scalars ≤ m.scalars → IsSoundTarget m (target_meant d l t s)
target_sound m d around l (tree.Number z) s i ok fits = absurd cc
target_sound m d around l (tree.Named n) s i ok fits = set_sound n s m.scalars (use_of d l n) (has_name around n) ok fits
target_sound m d around l (tree.Applied n es) s i ok fits =
    let r = see_element (use_of d l n) s in
    element_sound m es (all_meant d l es r) s (use_of d l n) (no_left (element_causes (use_of d l n) es) (all_causes d l es) ok) (used m.arrays d l n i) (counted d l es r)
    (all_sound m d l es r i (no_right (element_causes (use_of d l n) es) (all_causes d l es) ok) fits)
target_sound m d around l (tree.Negated e) s i ok fits = absurd cc
target_sound m d around l (tree.Joined o a b) s i ok fits = absurd cc

item_sound : (m : Names) (d : Declared) (l : Line) (x : ItemTree) (s : Seen) → IsTable m.arrays d → item_causes d l x ≡ [] → length (see_item d l x s).scalars ≤ m.scalars → IsSoundItem m (item_meant d l x s)
item_sound m d l (Quoted text) s i ok fits = tt
item_sound m d l (Valued e) s i ok fits = sound m d l e s i ok fits

items_sound : (m : Names) (d : Declared) (l : Line) (xs : List ItemTree) (s : Seen) → IsTable m.arrays d → items_causes d l xs ≡ [] → length (see_items d l xs s).scalars ≤ m.scalars → All (IsSoundItem m) (items_meant d l xs s)
items_sound m d l [] s i ok fits = All-nil (IsSoundItem m)
items_sound m d l (x ∷ xs) s i ok fits =
    All-cons (IsSoundItem m) (item_meant d l x s) (items_meant d l xs (see_item d l x s))
    (item_sound m d l x s i (no_left (item_causes d l x) (items_causes d l xs) ok) (below _ _ _ (see_items-grows d l xs (see_item d l x s)) fits))
    (items_sound m d l xs (see_item d l x s) i (no_right (item_causes d l x) (items_causes d l xs) ok) fits)

-- ---- statements

mutual
  stmt_sound : (m : Names) (d : Declared) (around : List (List ℕ)) (x : StmtTree) (s : Seen) → IsTable m.arrays d → refusals d around x s ≡ [] → length (see_stmt d x s).scalars ≤ m.scalars → IsSoundStatement m (stmt_meant d x s)
  stmt_sound m d around (AssignStmt l t e) s i ok fits =
      let h = own_clean d around (AssignStmt l t e) s l ok in
      let r = see_target d l t (begun s) in (
        target_sound m d around l t (begun s) i (no_left (target_causes d around l t) (causes d l e) h) (below _ _ _ (see-grows d l e r) fits),
        sound m d l e r i (no_right (target_causes d around l t) (causes d l e) h) fits,
      )
  stmt_sound m d around (IfStmt l c so otherwise) s i ok fits =
      let own = at_line l (own_causes d around (IfStmt l c so otherwise) s) in
      let r = see_head d (IfStmt l c so otherwise) s in
      let rest = no_right own (all_refusals d around so r ++ all_refusals d around otherwise (see_stmts d so r)) ok in
      let h = own_clean d around (IfStmt l c so otherwise) s l (no_left own (all_refusals d around so r ++ all_refusals d around otherwise (see_stmts d so r)) ok) in
      let f : length (see_stmts d so r).scalars ≤ m.scalars = below _ _ _ (see_stmts-grows d otherwise (see_stmts d so r)) fits in (
        condition_sound m d l c (begun s) i h (below _ _ _ (see_stmts-grows d so r) f),
        stmts_sound m d around so r i (no_left (all_refusals d around so r) (all_refusals d around otherwise (see_stmts d so r)) rest) f,
        stmts_sound m d around otherwise (see_stmts d so r) i (no_right (all_refusals d around so r) (all_refusals d around otherwise (see_stmts d so r)) rest) fits,
      )
  stmt_sound m d around (DoStmt l n a b by body) s i ok fits =
      let own = at_line l (own_causes d around (DoStmt l n a b by body) s) in
      let r = see_head d (DoStmt l n a b by body) s in
      let v = see_name (use_of d l n) n (begun s) in
      let set = set_causes (use_of d l n) (has_name around n) in
      let h = own_clean d around (DoStmt l n a b by body) s l (no_left own (all_refusals d (around ++ n ∷ []) body r) ok) in
      let h2 = no_right set (causes d l a ++ (causes d l b ++ causes d l by)) h in
      let h3 = no_right (causes d l a) (causes d l b ++ causes d l by) h2 in
      let f3 : length r.scalars ≤ m.scalars = below _ _ _ (see_stmts-grows d body r) fits in
      let f2 : length (see d l b (see d l a v)).scalars ≤ m.scalars = below _ _ _ (see-grows d l by (see d l b (see d l a v))) f3 in
      let f1 : length (see d l a v).scalars ≤ m.scalars = below _ _ _ (see-grows d l b (see d l a v)) f2 in
      let f0 : length v.scalars ≤ m.scalars = below _ _ _ (see-grows d l a v) f1 in (
        set_sound n (begun s) m.scalars (use_of d l n) (has_name around n) (no_left set (causes d l a ++ (causes d l b ++ causes d l by)) h) f0,
        sound m d l a v i (no_left (causes d l a) (causes d l b ++ causes d l by) h2) f1,
        sound m d l b (see d l a v) i (no_left (causes d l b) (causes d l by) h3) f2,
        sound m d l by (see d l b (see d l a v)) i (no_right (causes d l b) (causes d l by) h3) f3,
        stmts_sound m d (around ++ n ∷ []) body r i (no_right own (all_refusals d (around ++ n ∷ []) body r) ok) fits,
      )
  stmt_sound m d around (WhileStmt l c body) s i ok fits =
      let own = at_line l (own_causes d around (WhileStmt l c body) s) in
      let r = see_head d (WhileStmt l c body) s in (
        condition_sound m d l c (begun s) i (own_clean d around (WhileStmt l c body) s l (no_left own (all_refusals d around body r) ok)) (below _ _ _ (see_stmts-grows d body r) fits),
        stmts_sound m d around body r i (no_right own (all_refusals d around body r) ok) fits,
      )
  stmt_sound m d around (ReadStmt l t) s i ok fits = target_sound m d around l t (begun s) i (own_clean d around (ReadStmt l t) s l ok) fits
  stmt_sound m d around (PrintStmt l xs) s i ok fits = items_sound m d l xs (begun s) i (own_clean d around (PrintStmt l xs) s l ok) fits
  stmt_sound m d around (SkipStmt l) s i ok fits = tt
  stmt_sound m d around (RemapStmt l n xs) s i ok fits = absurd cc

  pub stmts_sound : (m : Names) (d : Declared) (around : List (List ℕ)) (xs : StmtTrees) (s : Seen) → IsTable m.arrays d → all_refusals d around xs s ≡ [] → length (see_stmts d xs s).scalars ≤ m.scalars → AreSoundStatements m (stmts_meant d xs s)
  stmts_sound m d around NoStmts s i ok fits = tt
  stmts_sound m d around (Stmt x rest) s i ok fits = (
    stmt_sound m d around x s i (no_left (refusals d around x s) (all_refusals d around rest (see_stmt d x s)) ok) (below _ _ _ (see_stmts-grows d rest (see_stmt d x s)) fits),
    stmts_sound m d around rest (see_stmt d x s) i (no_right (refusals d around x s) (all_refusals d around rest (see_stmt d x s)) ok) fits,
  )
