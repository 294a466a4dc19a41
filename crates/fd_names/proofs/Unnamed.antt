-- Constant expressions name no scalars, so declarations name those alone that they declare.
use Rattle.std.proofs.Common.{◌≡◌, ℕ, ℤ, neg_ℤ, true, List, [], ◌∷◌, ◌++◌, refl, ◌∙◌, Option, None, Some, is_some}
use Rattle.std.specs.Option.{option_and_then, option_map}
use Rattle.std.specs.Result.{result_ok}
use Rattle.fd_base.specs.Numbers.{exact}
use Rattle.fd_base.specs.declared.numbering.Line.{Line}
use Rattle.fd_ast.specs.Tree.{ExprTree, ExprTrees, NoExprs, DimTree, AttrTree, WholeAttr, BlockAttr, CyclicAttr, BlockCyclicAttr, MapAttr}
use Rattle.fd_ast.specs.Tree as tree
use Rattle.fd_prog.specs.Values.{joined, applied}
use Rattle.fd_names.specs.declared.book.Seen.{Seen}
use Rattle.fd_names.specs.declared.names.Use.{Use}
use Rattle.fd_names.specs.declared.names.Use.TheVariants as as_name
use Rattle.fd_names.specs.declared.names.Callee.{Callee}
use Rattle.fd_names.specs.declared.names.Callee.TheVariants as callee
use Rattle.fd_names.specs.declared.refusal.Cause.TheVariants.{NotConstant, AlignBad}
use Rattle.fd_names.specs.Alignments.{TargetTree, Alone, Plus, Minus, Other, cleared, looked_up, target_tree, aim_causes, value_at, target_causes, see_aim, aims_causes, see_aims}
use Rattle.fd_names.specs.Constants.{constant_of, constants_of}
use Rattle.fd_names.specs.Declarations.{range_causes, see_dim, see_dims, dim_causes, dims_causes, value_causes}
use Rattle.fd_names.specs.Distributions.{block_causes, see_attr, see_attrs, attr_causes, attrs_causes}
use Rattle.fd_names.specs.Expressions.{causes, see_name, see_callee, see, see_all, name_meant, call_meant, meant, all_meant, op_meant}
use Rattle.fd_names.specs.Names.{Declared, use_of, callee_of}
use Rattle.fd_names.proofs.Sound.{no_left, no_right, is_fine}

first_some : {A B : Type 0} (f : A → Option B) (o : Option A) → is_some (option_and_then f o) ≡ true → is_some o ≡ true
first_some f None h = h
first_some f (Some x) h = refl

map_some : {A B : Type 0} (f : A → B) (o : Option A) → is_some (option_map f o) ≡ true → is_some o ≡ true
map_some f None h = h
map_some f (Some x) h = refl

both_some : {A B C : Type 0} (g : A → B → Option C) (o : Option A) (q : Option B) → is_some (option_and_then (λ x. option_and_then (g x) q) o) ≡ true → (is_some o ≡ true) × (is_some q ≡ true)
both_some g None q h = absurd cc
both_some g (Some x) q h = (refl, first_some (g x) q h)

each_some : {A B C : Type 0} (g : A → B → C) (o : Option A) (q : Option B) → is_some (option_and_then (λ x. option_map (g x) q) o) ≡ true → (is_some o ≡ true) × (is_some q ≡ true)
each_some g None q h = absurd cc
each_some g (Some x) q h = (refl, map_some (g x) q h)

constant_name : (u : Use) (n : List ℕ) (s : Seen) → is_some (constant_of (name_meant u n s)) ≡ true → (see_name u n s).scalars ≡ s.scalars
constant_name as_name.Scalar n s h = absurd cc
constant_name (as_name.Constant z) n s h = refl
constant_name (as_name.Array k d) n s h = refl
constant_name (as_name.Decomp k d) n s h = refl
constant_name as_name.Unknown n s h = refl

constant_call : (d : Declared) (l : Line) (es : ExprTrees) (u : Callee) (s : Seen) → ((r : Seen) → is_some (constants_of (all_meant d l es r)) ≡ true → (see_all d l es r).scalars ≡ r.scalars) → is_some (constant_of (call_meant u (all_meant d l es (see_callee u s)) s)) ≡ true → (see_all d l es (see_callee u s)).scalars ≡ s.scalars
constant_call d l es (callee.Array k n) s rest h = absurd cc
constant_call d l es (callee.Function f) s rest h = rest s (first_some (λ xs. result_ok (applied f xs)) (constants_of (all_meant d l es s)) h)
constant_call d l es callee.Unknown s rest h = absurd cc

mutual
  constant_names : (d : Declared) (l : Line) (e : ExprTree) (s : Seen) → is_some (constant_of (meant d l e s)) ≡ true → (see d l e s).scalars ≡ s.scalars
  constant_names d l (tree.Number z) s h = refl
  constant_names d l (tree.Named n) s h = constant_name (use_of d l n) n s h
  constant_names d l (tree.Applied n es) s h = constant_call d l es (callee_of d l n) s (λ r k. constants_name d l es r k) h
  constant_names d l (tree.Negated e) s h = constant_names d l e s (first_some (λ x. result_ok (exact (neg_ℤ x))) (constant_of (meant d l e s)) h)
  constant_names d l (tree.Joined o a b) s h =
      let r = see d l a s in
      let both = both_some (λ x y. result_ok (joined (op_meant o) x y)) (constant_of (meant d l a s)) (constant_of (meant d l b r)) h in
      constant_names d l b r both.1 ∙ constant_names d l a s both.0

  constants_name : (d : Declared) (l : Line) (es : ExprTrees) (s : Seen) → is_some (constants_of (all_meant d l es s)) ≡ true → (see_all d l es s).scalars ≡ s.scalars
  constants_name d l NoExprs s h = refl
  constants_name d l (tree.Expr e es) s h =
      let r = see d l e s in
      let both = each_some (λ x xs. x ∷ xs) (constant_of (meant d l e s)) (constants_of (all_meant d l es r)) h in
      constants_name d l es r both.1 ∙ constant_names d l e s both.0

-- ---- PARAMETER

value_some : (o : Option ℤ) → value_causes o ≡ [] → is_some o ≡ true
value_some None h = absurd cc
value_some (Some z) h = refl

pub constant_unnamed : (d : Declared) (l : Line) (e : ExprTree) (s : Seen) → value_causes (constant_of (meant d l e s)) ≡ [] → (see d l e s).scalars ≡ s.scalars
constant_unnamed d l e s h = constant_names d l e s (value_some (constant_of (meant d l e s)) h)

-- ---- dimensions

range_some : (o q : Option ℤ) → range_causes o q ≡ [] → (is_some o ≡ true) × (is_some q ≡ true)
range_some None q h = absurd cc
range_some (Some x) None h = absurd cc
range_some (Some x) (Some y) h = (refl, refl)

dim_unnamed : (d : Declared) (l : Line) (x : DimTree) (s : Seen) → dim_causes d l x s ≡ [] → (see_dim d l x s).scalars ≡ s.scalars
dim_unnamed d l x s h =
    let r = see d l x.low s in
    let range = range_causes (constant_of (meant d l x.low s)) (constant_of (meant d l x.high r)) in
    let both = range_some (constant_of (meant d l x.low s)) (constant_of (meant d l x.high r)) (no_right (causes d l x.high) range (no_right (causes d l x.low) (causes d l x.high ++ range) h)) in
    constant_names d l x.high r both.1 ∙ constant_names d l x.low s both.0

pub dims_unnamed : (d : Declared) (l : Line) (xs : List DimTree) (s : Seen) → dims_causes d l xs s ≡ [] → (see_dims d l xs s).scalars ≡ s.scalars
dims_unnamed d l [] s h = refl
dims_unnamed d l (x ∷ xs) s h =
    let r = see_dim d l x s in
    dims_unnamed d l xs r (no_right (dim_causes d l x s) (dims_causes d l xs r) h) ∙ dim_unnamed d l x s (no_left (dim_causes d l x s) (dims_causes d l xs r) h)

-- ---- attributes

block_some : (o : Option ℤ) → block_causes o ≡ [] → is_some o ≡ true
block_some None h = absurd cc
block_some (Some z) h = refl

attr_unnamed : (d : Declared) (l : Line) (x : AttrTree) (s : Seen) → attr_causes d l x s ≡ [] → (see_attr d l x s).scalars ≡ s.scalars
attr_unnamed d l WholeAttr s h = refl
attr_unnamed d l BlockAttr s h = refl
attr_unnamed d l CyclicAttr s h = refl
attr_unnamed d l (BlockCyclicAttr e) s h = constant_names d l e s (block_some (constant_of (meant d l e s)) (no_right (causes d l e) (block_causes (constant_of (meant d l e s))) h))
attr_unnamed d l (MapAttr n) s h = refl

pub attrs_unnamed : (d : Declared) (l : Line) (xs : List AttrTree) (s : Seen) → attrs_causes d l xs s ≡ [] → (see_attrs d l xs s).scalars ≡ s.scalars
attrs_unnamed d l [] s h = refl
attrs_unnamed d l (x ∷ xs) s h =
    let r = see_attr d l x s in
    attrs_unnamed d l xs r (no_right (attr_causes d l x s) (attrs_causes d l xs r) h) ∙ attr_unnamed d l x s (no_left (attr_causes d l x s) (attrs_causes d l xs r) h)

-- ---- targets of ALIGN

aim_unnamed : (d : Declared) (l : Line) (ds : List (List ℕ)) (w : TargetTree) (s : Seen) → aim_causes w (constant_of (meant d l (looked_up ds w) s)) ≡ [] → (see d l (looked_up ds w) s).scalars ≡ s.scalars
aim_unnamed d l ds (Alone k) s h = refl
aim_unnamed d l ds (Plus k e) s h = constant_names d l (cleared ds e) s (is_fine (is_some (constant_of (meant d l (cleared ds e) s))) NotConstant h)
aim_unnamed d l ds (Minus k e) s h = constant_names d l (cleared ds e) s (is_fine (is_some (constant_of (meant d l (cleared ds e) s))) NotConstant h)
aim_unnamed d l ds (Other e) s h = constant_names d l (cleared ds e) s (is_fine (is_some (constant_of (meant d l (cleared ds e) s))) AlignBad h)

pub aims_unnamed : (d : Declared) (l : Line) (ds : List (List ℕ)) (es : ExprTrees) (s : Seen) → aims_causes d l ds es s ≡ [] → (see_aims d l ds es s).scalars ≡ s.scalars
aims_unnamed d l ds NoExprs s h = refl
aims_unnamed d l ds (tree.Expr e es) s h =
    let r = see_aim d l ds e s in
    let w = target_tree ds e in
    let own = target_causes d l ds e s in
    aims_unnamed d l ds es r (no_right own (aims_causes d l ds es r) h)
    ∙ aim_unnamed d l ds w s (no_right (causes d l (looked_up ds w)) (aim_causes w (value_at d l ds e s)) (no_left own (aims_causes d l ds es r) h))
