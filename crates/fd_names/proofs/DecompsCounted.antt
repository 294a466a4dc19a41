-- Decompositions are counted as they are declared, and nothing else counts as one.
use Rattle.std.proofs.Common.{◌≡◌, ℕ, ◌+◌, Bool, true, false, cond, List, [], ◌∷◌, ◌++◌, refl, sym, ap, ◌∙◌, Option, None, Some, is_some, slice_get, slice_set, length}
use Rattle.std.proofs.lemmas.List.{length-append}
use Rattle.std.proofs.lemmas.List.{length-set}
use Rattle.fd_base.specs.declared.numbering.Line.{Line}
use Rattle.fd_ast.specs.Tree.{ExprTree, ExprTrees, NoExprs, CondTree, ItemTree, Quoted, Valued, DimTree, StmtTree, AssignStmt, IfStmt, DoStmt, WhileStmt, ReadStmt, PrintStmt, SkipStmt, RemapStmt, StmtTrees, NoStmts, Stmt, DeclTree, ConstantDecl, IntegerDecl, DecompDecl, AlignDecl, DistributeDecl, AttrTree, WholeAttr, BlockAttr, CyclicAttr, BlockCyclicAttr, MapAttr}
use Rattle.fd_ast.specs.Tree as tree
use Rattle.fd_names.specs.declared.alignments.Aim.{Aim}
use Rattle.fd_names.specs.declared.book.Seen.{Seen}
use Rattle.fd_names.specs.declared.declarations.Alignment.{Alignment}
use Rattle.fd_names.specs.declared.declarations.Base.{Base}
use Rattle.fd_names.specs.declared.declarations.Spread.{Spread}
use Rattle.fd_names.specs.declared.declarations.Subscripts.{Subscripts}
use Rattle.fd_names.specs.declared.names.Use.{Use}
use Rattle.fd_names.specs.declared.names.Use.TheVariants as as_name
use Rattle.fd_names.specs.declared.names.Callee.{Callee}
use Rattle.fd_names.specs.declared.names.Callee.TheVariants as callee
use Rattle.fd_names.specs.Alignments.{aims_of, identity_aims, is_short, looked_up, target_tree, see_aim, see_aims}
use Rattle.fd_names.specs.Conditions.{see_condition}
use Rattle.fd_names.specs.Declarations.{is_aligned, is_aligned_at, see_own_decomp, see_integer, see_dim, see_dims, dims_meant, see_decl, see_decls, declare, declare_all, array_shape, alignment_over, aligned_onto, with_alignment, alignment_onto, spread_over, own_decomp, with_integer, with_spread}
use Rattle.fd_names.specs.Distributions.{attrs_meant, see_attr, see_attrs, spread_from}
use Rattle.fd_names.specs.Expressions.{see_name, see_callee, see, see_all}
use Rattle.fd_names.specs.Names.{Declared, use_of, callee_of}
use Rattle.fd_names.specs.Statements.{see_element, see_target, see_items, begun, see_head, see_stmt, see_stmts}
use Rattle.fd_names.proofs.Kept.{with_own}

-- ---- expressions and statements declare none

name_same : (u : Use) (n : List ℕ) (s : Seen) → (see_name u n s).decomps ≡ s.decomps
name_same as_name.Scalar n s = refl
name_same (as_name.Constant z) n s = refl
name_same (as_name.Array k d) n s = refl
name_same (as_name.Decomp k d) n s = refl
name_same as_name.Unknown n s = refl

callee_same : (c : Callee) (s : Seen) → (see_callee c s).decomps ≡ s.decomps
callee_same (callee.Array k d) s = refl
callee_same (callee.Function f) s = refl
callee_same callee.Unknown s = refl

element_same : (u : Use) (s : Seen) → (see_element u s).decomps ≡ s.decomps
element_same as_name.Scalar s = refl
element_same (as_name.Constant z) s = refl
element_same (as_name.Array k d) s = refl
element_same (as_name.Decomp k d) s = refl
element_same as_name.Unknown s = refl

mutual
  same : (d : Declared) (l : Line) (e : ExprTree) (s : Seen) → (see d l e s).decomps ≡ s.decomps
  same d l (tree.Number z) s = refl
  same d l (tree.Named n) s = name_same (use_of d l n) n s
  same d l (tree.Applied n es) s = all_same d l es (see_callee (callee_of d l n) s) ∙ callee_same (callee_of d l n) s
  same d l (tree.Negated e) s = same d l e s
  same d l (tree.Joined o a b) s = same d l b (see d l a s) ∙ same d l a s

  all_same : (d : Declared) (l : Line) (es : ExprTrees) (s : Seen) → (see_all d l es s).decomps ≡ s.decomps
  all_same d l NoExprs s = refl
  all_same d l (tree.Expr e es) s = all_same d l es (see d l e s) ∙ same d l e s

condition_same : (d : Declared) (l : Line) (c : CondTree) (s : Seen) → (see_condition d l c s).decomps ≡ s.decomps
condition_same d l (tree.Fixed b) s = refl
condition_same d l (tree.Compared r x y) s = same d l y (see d l x s) ∙ same d l x s
condition_same d l (tree.Inverted c) s = condition_same d l c s
condition_same d l (tree.Both c e) s = condition_same d l e (see_condition d l c s) ∙ condition_same d l c s
condition_same d l (tree.Either c e) s = condition_same d l e (see_condition d l c s) ∙ condition_same d l c s

target_same : (d : Declared) (l : Line) (t : ExprTree) (s : Seen) → (see_target d l t s).decomps ≡ s.decomps
target_same d l (tree.Number z) s = refl
target_same d l (tree.Named n) s = name_same (use_of d l n) n s
target_same d l (tree.Applied n es) s = all_same d l es (see_element (use_of d l n) s) ∙ element_same (use_of d l n) s
target_same d l (tree.Negated e) s = refl
target_same d l (tree.Joined o a b) s = refl

items_same : (d : Declared) (l : Line) (xs : List ItemTree) (s : Seen) → (see_items d l xs s).decomps ≡ s.decomps
items_same d l [] s = refl
items_same d l (Quoted text ∷ xs) s = items_same d l xs s
items_same d l (Valued e ∷ xs) s = items_same d l xs (see d l e s) ∙ same d l e s

head_same : (d : Declared) (x : StmtTree) (s : Seen) → (see_head d x s).decomps ≡ s.decomps
head_same d (AssignStmt l t e) s = same d l e (see_target d l t (begun s)) ∙ target_same d l t (begun s)
head_same d (IfStmt l c so otherwise) s = condition_same d l c (begun s)
head_same d (DoStmt l n a b by body) s =
    let v = see_name (use_of d l n) n (begun s) in
    same d l by (see d l b (see d l a v)) ∙ (same d l b (see d l a v) ∙ (same d l a v ∙ name_same (use_of d l n) n (begun s)))
head_same d (WhileStmt l c body) s = condition_same d l c (begun s)
head_same d (ReadStmt l t) s = target_same d l t (begun s)
head_same d (PrintStmt l xs) s = items_same d l xs (begun s)
head_same d (SkipStmt l) s = refl
head_same d (RemapStmt l n xs) s = refl

mutual
  stmt_same : (d : Declared) (x : StmtTree) (s : Seen) → (see_stmt d x s).decomps ≡ s.decomps
  stmt_same d (AssignStmt l t e) s = head_same d (AssignStmt l t e) s
  stmt_same d (IfStmt l c so otherwise) s =
      let r = see_head d (IfStmt l c so otherwise) s in
      stmts_same d otherwise (see_stmts d so r) ∙ (stmts_same d so r ∙ head_same d (IfStmt l c so otherwise) s)
  stmt_same d (DoStmt l n a b by body) s = stmts_same d body (see_head d (DoStmt l n a b by body) s) ∙ head_same d (DoStmt l n a b by body) s
  stmt_same d (WhileStmt l c body) s = stmts_same d body (see_head d (WhileStmt l c body) s) ∙ head_same d (WhileStmt l c body) s
  stmt_same d (ReadStmt l t) s = head_same d (ReadStmt l t) s
  stmt_same d (PrintStmt l xs) s = head_same d (PrintStmt l xs) s
  stmt_same d (SkipStmt l) s = refl
  stmt_same d (RemapStmt l n xs) s = refl

  pub stmts_same : (d : Declared) (xs : StmtTrees) (s : Seen) → (see_stmts d xs s).decomps ≡ s.decomps
  stmts_same d NoStmts s = refl
  stmts_same d (Stmt x rest) s = stmts_same d rest (see_stmt d x s) ∙ stmt_same d x s

-- ---- declarations

pub dims_same : (d : Declared) (l : Line) (xs : List DimTree) (s : Seen) → (see_dims d l xs s).decomps ≡ s.decomps
dims_same d l [] s = refl
dims_same d l (x ∷ xs) s = dims_same d l xs (see_dim d l x s) ∙ (same d l x.high (see d l x.low s) ∙ same d l x.low s)

integer_same : (n : List ℕ) (rs : List Subscripts) (s : Seen) → (see_integer n rs s).decomps ≡ s.decomps
integer_same n [] s = refl
integer_same n (r ∷ rs) s = refl

aims_same : (d : Declared) (l : Line) (ds : List (List ℕ)) (es : ExprTrees) (s : Seen) → (see_aims d l ds es s).decomps ≡ s.decomps
aims_same d l ds NoExprs s = refl
aims_same d l ds (tree.Expr e es) s = aims_same d l ds es (see_aim d l ds e s) ∙ same d l (looked_up ds (target_tree ds e)) s

attr_same : (d : Declared) (l : Line) (x : AttrTree) (s : Seen) → (see_attr d l x s).decomps ≡ s.decomps
attr_same d l WholeAttr s = refl
attr_same d l BlockAttr s = refl
attr_same d l CyclicAttr s = refl
attr_same d l (BlockCyclicAttr e) s = same d l e s
attr_same d l (MapAttr n) s = refl

pub attrs_same : (d : Declared) (l : Line) (xs : List AttrTree) (s : Seen) → (see_attrs d l xs s).decomps ≡ s.decomps
attrs_same d l [] s = refl
attrs_same d l (x ∷ xs) s = attrs_same d l xs (see_attr d l x s) ∙ attr_same d l x s

-- as many decompositions as are counted, each with its distributed dimension; and each array with its alignment
pub record AreCounted (s : Seen) (b : Base) : Type 0 where
  pub decomps : s.decomps ≡ length b.decomps
  pub spreads : length b.spreads ≡ length b.decomps
  pub alignments : length b.alignments ≡ length b.arrays

-- nothing is declared
kept : (s t : Seen) (b : Base) → t.decomps ≡ s.decomps → AreCounted s b → AreCounted t b
kept s t b e h = record { decomps = e ∙ h.decomps; spreads = h.spreads; alignments = h.alignments }

one_more : {X Y : Type 0} (xs : List X) (ys : List Y) (x : X) (y : Y) → length xs ≡ length ys → length (xs ++ x ∷ []) ≡ length (ys ++ y ∷ [])
one_more xs ys x y e = length-append xs (x ∷ []) ∙ (ap (λ n. n + 1) e ∙ sym (length-append ys (y ∷ [])))

one_counted : {X : Type 0} (xs : List X) (x : X) (n : ℕ) → n ≡ length xs → n + 1 ≡ length (xs ++ x ∷ [])
one_counted xs x n e = ap (λ m. m + 1) e ∙ sym (length-append xs (x ∷ []))

integer_counted : (l : Line) (n : List ℕ) (rs : List Subscripts) (s : Seen) (b : Base) → AreCounted s b → AreCounted s (with_integer l n rs b)
integer_counted l n [] s b h = record { decomps = h.decomps; spreads = h.spreads; alignments = h.alignments }
integer_counted l n (r ∷ rs) s b h = record { decomps = h.decomps; spreads = h.spreads; alignments = one_more b.alignments b.arrays _ _ h.alignments }

over_counted : (o : Option (Option Alignment)) (k : ℕ) (g : Alignment) (s : Seen) (b : Base) → AreCounted s b → AreCounted s (alignment_over o k g b)
over_counted None k g s b h = h
over_counted (Some None) k g s b h = record { decomps = h.decomps; spreads = h.spreads; alignments = length-set b.alignments k (Some g) ∙ h.alignments }
over_counted (Some (Some old)) k g s b h = h

onto_counted : (k : ℕ) (v : Use) (short : Bool) (as_ : List Aim) (s : Seen) (b : Base) → AreCounted s b → AreCounted s (aligned_onto k v short as_ b)
onto_counted k (as_name.Decomp j d) short as_ s b h = over_counted (slice_get b.alignments k) k _ s b h
onto_counted k as_name.Scalar short as_ s b h = h
onto_counted k (as_name.Constant z) short as_ s b h = h
onto_counted k (as_name.Array j d) short as_ s b h = h
onto_counted k as_name.Unknown short as_ s b h = h

aligned_counted : (u v : Use) (short : Bool) (as_ : List Aim) (s : Seen) (b : Base) → AreCounted s b → AreCounted s (with_alignment u v short as_ b)
aligned_counted (as_name.Array k d) v short as_ s b h = onto_counted k v short as_ s b h
aligned_counted as_name.Scalar v short as_ s b h = h
aligned_counted (as_name.Constant z) v short as_ s b h = h
aligned_counted (as_name.Decomp j d) v short as_ s b h = h
aligned_counted as_name.Unknown v short as_ s b h = h

spread_over_counted : (o : Option Spread) (j : ℕ) (x : Spread) (s : Seen) (b : Base) → AreCounted s b → AreCounted s (spread_over o j x b)
spread_over_counted None j x s b h = h
spread_over_counted (Some old) j x s b h = elim (is_some old.dist) as (λ q. AreCounted s (cond q b (record b { spreads = slice_set b.spreads j x }))) [ true ↦ h | false ↦ record { decomps = h.decomps; spreads = length-set b.spreads j x ∙ h.spreads; alignments = h.alignments } ]

own_counted : (n : List ℕ) (k : ℕ) (x : Spread) (s : Seen) (b : Base) → AreCounted s b → AreCounted (record s { decomps = s.decomps + 1 }) (own_decomp n k x b)
own_counted n k x s b h =
    over_counted (slice_get b.alignments k) k (alignment_onto (length b.decomps) (array_shape (slice_get b.arrays k)) (array_shape (slice_get b.arrays k)) (identity_aims (array_shape (slice_get b.arrays k)).dims)) (record s { decomps = s.decomps + 1 }) (with_own n k x b)
    (record { decomps = one_counted b.decomps _ s.decomps h.decomps; spreads = one_more b.spreads b.decomps _ _ h.spreads; alignments = h.alignments })

own_by : (n : List ℕ) (k d : ℕ) (x : Spread) (s : Seen) (b : Base) (q : Bool) → AreCounted s b → AreCounted (see_own_decomp (as_name.Array k d) q s) (cond q b (own_decomp n k x b))
own_by n k d x s b true h = h
own_by n k d x s b false h = own_counted n k x s b h

spread_counted : (u : Use) (n : List ℕ) (x : Spread) (s : Seen) (b : Base) → AreCounted s b → AreCounted (see_own_decomp u (is_aligned b u) s) (with_spread u n x b)
spread_counted (as_name.Decomp j d) n x s b h = spread_over_counted (slice_get b.spreads j) j x s b h
spread_counted (as_name.Array k d) n x s b h = own_by n k d x s b (is_aligned_at (slice_get b.alignments k)) h
spread_counted as_name.Scalar n x s b h = h
spread_counted (as_name.Constant z) n x s b h = h
spread_counted as_name.Unknown n x s b h = h

pub decl_counted : (x : DeclTree) (s : Seen) (b : Base) → AreCounted s b → AreCounted (see_decl b x s) (declare x s b)
decl_counted (ConstantDecl l n e) s b h = record { decomps = same b.table l e s ∙ h.decomps; spreads = h.spreads; alignments = h.alignments }
decl_counted (IntegerDecl l n xs) s b h = kept s (see_decl b (IntegerDecl l n xs) s) (declare (IntegerDecl l n xs) s b) (integer_same n (dims_meant b.table l xs s) (see_dims b.table l xs s) ∙ dims_same b.table l xs s) (integer_counted l n (dims_meant b.table l xs s) s b h)
decl_counted (DecompDecl l n xs) s b h = record { decomps = one_counted b.decomps _ (see_dims b.table l xs s).decomps (dims_same b.table l xs s ∙ h.decomps); spreads = one_more b.spreads b.decomps _ _ h.spreads; alignments = h.alignments }
decl_counted (AlignDecl l n dummies target es) s b h = kept s (see_decl b (AlignDecl l n dummies target es) s) (declare (AlignDecl l n dummies target es) s b) (aims_same b.table l dummies es s) (aligned_counted (use_of b.table l n) (use_of b.table l target) (is_short dummies es) (aims_of b.table l dummies es s) s b h)
decl_counted (DistributeDecl l n xs) s b h = spread_counted (use_of b.table l n) n (spread_from (attrs_meant b.table l xs s)) (see_attrs b.table l xs s) b (kept s (see_attrs b.table l xs s) b (attrs_same b.table l xs s) h)

pub decls_counted : (xs : List DeclTree) (s : Seen) (b : Base) → AreCounted s b → AreCounted (see_decls xs s b) (declare_all xs s b)
decls_counted [] s b h = h
decls_counted (x ∷ xs) s b h = decls_counted xs (see_decl b x s) (declare x s b) (decl_counted x s b h)
