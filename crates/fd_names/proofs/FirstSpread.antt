-- A decomposition is distributed as the first DISTRIBUTE that names it says.
use Rattle.std.proofs.Common.{◌≡◌, ℕ, zero, suc, Bool, true, false, cond, List, [], ◌∷◌, ◌++◌, refl, sym, ap, ◌∙◌, subst, Option, None, Some, is_some, nat_eq, slice_get, slice_set, unwrap_or, arith}
use Rattle.std.proofs.lemmas.Bool.{eqb-true}
use Rattle.std.proofs.lemmas.Bool.Decides.{nat_tests}
use Rattle.fd_base.specs.declared.numbering.Line.{Line}
use Rattle.fd_base.specs.declared.shapes.Dist.{Dist}
use Rattle.fd_ast.specs.Tree.{DeclTree, ConstantDecl, IntegerDecl, DecompDecl, AlignDecl, DistributeDecl}
use Rattle.fd_names.specs.declared.alignments.Aim.{Aim}
use Rattle.fd_names.specs.declared.book.Seen.{Seen}
use Rattle.fd_names.specs.declared.declarations.Alignment.{Alignment}
use Rattle.fd_names.specs.declared.declarations.Base.{Base}
use Rattle.fd_names.specs.declared.declarations.Spread.{Spread}
use Rattle.fd_names.specs.declared.declarations.Subscripts.{Subscripts}
use Rattle.fd_names.specs.declared.names.Use.{Use}
use Rattle.fd_names.specs.declared.names.Use.TheVariants as as_name
use Rattle.fd_names.specs.Alignments.{aims_of, is_short}
use Rattle.fd_names.specs.Declarations.{aligned_onto, alignment_over, declare, declare_all, dims_meant, is_aligned_at, own_decomp, see_decl, spread_over, unspread, with_alignment, with_integer, with_spread}
use Rattle.fd_names.specs.Distributions.{attrs_meant, spread_from}
use Rattle.fd_names.specs.Mappings.{names_decomp, spread_on, spreads_on}
use Rattle.fd_names.specs.Names.{use_of}
use Rattle.fd_names.proofs.Known.{still}

-- ---- lists

pub set_here : {X : Type 0} (xs : List X) (k : ℕ) (v y : X) → slice_get xs k ≡ Some y → slice_get (slice_set xs k v) k ≡ Some v
set_here [] k v y h = absurd cc
set_here (x ∷ xs) zero v y h = refl
set_here (x ∷ xs) (suc k) v y h = set_here xs k v y h

apart_below : (k j : ℕ) → nat_eq (suc k) (suc j) ≡ false → nat_eq k j ≡ false
apart_below k j h = grind (arith, nat_tests)

pub set_apart : {X : Type 0} (xs : List X) (k j : ℕ) (v : X) → nat_eq k j ≡ false → slice_get (slice_set xs k v) j ≡ slice_get xs j
set_apart [] k j v h = refl
set_apart (x ∷ xs) zero zero v h = absurd cc
set_apart (x ∷ xs) zero (suc j) v h = refl
set_apart (x ∷ xs) (suc k) zero v h = refl
set_apart (x ∷ xs) (suc k) (suc j) v h = set_apart xs k j v (apart_below k j h)

-- ---- what leaves distributions as they are

integer_spreads : (l : Line) (n : List ℕ) (rs : List Subscripts) (b : Base) → (with_integer l n rs b).spreads ≡ b.spreads
integer_spreads l n [] b = refl
integer_spreads l n (r ∷ rs) b = refl

over_spreads : (o : Option (Option Alignment)) (k : ℕ) (g : Alignment) (b : Base) → (alignment_over o k g b).spreads ≡ b.spreads
over_spreads None k g b = refl
over_spreads (Some None) k g b = refl
over_spreads (Some (Some old)) k g b = refl

onto_spreads : (k : ℕ) (v : Use) (short : Bool) (as_ : List Aim) (b : Base) → (aligned_onto k v short as_ b).spreads ≡ b.spreads
onto_spreads k (as_name.Decomp j d) short as_ b = over_spreads (slice_get b.alignments k) k _ b
onto_spreads k as_name.Scalar short as_ b = refl
onto_spreads k (as_name.Constant z) short as_ b = refl
onto_spreads k (as_name.Array j d) short as_ b = refl
onto_spreads k as_name.Unknown short as_ b = refl

align_spreads : (u v : Use) (short : Bool) (as_ : List Aim) (b : Base) → (with_alignment u v short as_ b).spreads ≡ b.spreads
align_spreads (as_name.Array k d) v short as_ b = onto_spreads k v short as_ b
align_spreads as_name.Scalar v short as_ b = refl
align_spreads (as_name.Constant z) v short as_ b = refl
align_spreads (as_name.Decomp j d) v short as_ b = refl
align_spreads as_name.Unknown v short as_ b = refl

-- ---- one DISTRIBUTE

over_apart : (o : Option Spread) (i : ℕ) (x : Spread) (b : Base) (j : ℕ) (y : Spread) → nat_eq i j ≡ false → slice_get b.spreads j ≡ Some y → slice_get (spread_over o i x b).spreads j ≡ Some y
over_apart None i x b j y p h = h
over_apart (Some old) i x b j y p h = elim (is_some old.dist) as (λ q. slice_get (cond q b (record b { spreads = slice_set b.spreads i x })).spreads j ≡ Some y) [ true ↦ h | false ↦ set_apart b.spreads i j x p ∙ h ]

over_stays : (o : Option Spread) (i : ℕ) (x : Spread) (b : Base) (y : Spread) → o ≡ Some y → is_some y.dist ≡ true → slice_get b.spreads i ≡ Some y → slice_get (spread_over o i x b).spreads i ≡ Some y
over_stays None i x b y e d h = absurd cc
over_stays (Some old) i x b y e d h =
    let same : old ≡ y = cc in
    subst (λ q. slice_get (cond q b (record b { spreads = slice_set b.spreads i x })).spreads i ≡ Some y) (sym (ap (λ (z : Spread). is_some z.dist) same ∙ d)) h

over_here : (o : Option Spread) (i : ℕ) (x : Spread) (b : Base) (y : Spread) → o ≡ Some y → is_some y.dist ≡ false → slice_get b.spreads i ≡ Some y → slice_get (spread_over o i x b).spreads i ≡ Some x
over_here None i x b y e d h = absurd cc
over_here (Some old) i x b y e d h =
    let same : old ≡ y = cc in
    subst (λ q. slice_get (cond q b (record b { spreads = slice_set b.spreads i x })).spreads i ≡ Some x) (sym (ap (λ (z : Spread). is_some z.dist) same ∙ d)) (set_here b.spreads i x y h)

-- a name of another decomposition, or of an array, leaves the distribution
spread_apart : (u : Use) (n : List ℕ) (x : Spread) (b : Base) (j : ℕ) (y : Spread) → names_decomp j u ≡ false → slice_get b.spreads j ≡ Some y → slice_get (with_spread u n x b).spreads j ≡ Some y
spread_apart (as_name.Decomp i d) n x b j y p h = over_apart (slice_get b.spreads i) i x b j y p h
spread_apart (as_name.Array k d) n x b j y p h =
    elim (is_aligned_at (slice_get b.alignments k)) as (λ q. slice_get (cond q b (own_decomp n k x b)).spreads j ≡ Some y)
    [ true ↦ h | false ↦ ap (λ (zs : List Spread). slice_get zs j) (over_spreads (slice_get b.alignments k) k _ _) ∙ still b.spreads (x ∷ []) j y h ]
spread_apart as_name.Scalar n x b j y p h = h
spread_apart (as_name.Constant z) n x b j y p h = h
spread_apart as_name.Unknown n x b j y p h = h

-- what is distributed stays so
spread_stays : (u : Use) (n : List ℕ) (x : Spread) (b : Base) (j : ℕ) (y : Spread) → is_some y.dist ≡ true → slice_get b.spreads j ≡ Some y → slice_get (with_spread u n x b).spreads j ≡ Some y
spread_stays (as_name.Decomp i d) n x b j y q h = by (nat_eq i j) refl
  where
    by : (c : Bool) → nat_eq i j ≡ c → slice_get (spread_over (slice_get b.spreads i) i x b).spreads j ≡ Some y
    by true p = subst (λ (m : ℕ). slice_get b.spreads m ≡ Some y → slice_get (spread_over (slice_get b.spreads i) i x b).spreads m ≡ Some y) (eqb-true i j p) (λ k. over_stays (slice_get b.spreads i) i x b y k q k) h
    by false p = over_apart (slice_get b.spreads i) i x b j y p h
spread_stays (as_name.Array k d) n x b j y q h = spread_apart (as_name.Array k d) n x b j y refl h
spread_stays as_name.Scalar n x b j y q h = h
spread_stays (as_name.Constant z) n x b j y q h = h
spread_stays as_name.Unknown n x b j y q h = h

spread_here : (u : Use) (n : List ℕ) (x : Spread) (b : Base) (j : ℕ) (y : Spread) → names_decomp j u ≡ true → is_some y.dist ≡ false → slice_get b.spreads j ≡ Some y → slice_get (with_spread u n x b).spreads j ≡ Some x
spread_here (as_name.Decomp i d) n x b j y p q h = subst (λ (m : ℕ). slice_get b.spreads m ≡ Some y → slice_get (spread_over (slice_get b.spreads i) i x b).spreads m ≡ Some x) (eqb-true i j p) (λ k. over_here (slice_get b.spreads i) i x b y k q k) h
spread_here (as_name.Array k d) n x b j y p q h = absurd cc
spread_here as_name.Scalar n x b j y p q h = absurd cc
spread_here (as_name.Constant z) n x b j y p q h = absurd cc
spread_here as_name.Unknown n x b j y p q h = absurd cc

-- ---- one declaration

decl_stays : (x : DeclTree) (s : Seen) (b : Base) (j : ℕ) (y : Spread) → is_some y.dist ≡ true → slice_get b.spreads j ≡ Some y → slice_get (declare x s b).spreads j ≡ Some y
decl_stays (ConstantDecl l n e) s b j y q h = h
decl_stays (IntegerDecl l n xs) s b j y q h = ap (λ (zs : List Spread). slice_get zs j) (integer_spreads l n (dims_meant b.table l xs s) b) ∙ h
decl_stays (DecompDecl l n xs) s b j y q h = still b.spreads (unspread ∷ []) j y h
decl_stays (AlignDecl l n dummies target es) s b j y q h = ap (λ (zs : List Spread). slice_get zs j) (align_spreads (use_of b.table l n) (use_of b.table l target) (is_short dummies es) (aims_of b.table l dummies es s) b) ∙ h
decl_stays (DistributeDecl l n xs) s b j y q h = spread_stays (use_of b.table l n) n (spread_from (attrs_meant b.table l xs s)) b j y q h

decl_step : (x : DeclTree) (s : Seen) (b : Base) (j : ℕ) (y : Spread) → is_some y.dist ≡ false → slice_get b.spreads j ≡ Some y → slice_get (declare x s b).spreads j ≡ Some (unwrap_or (slice_get (spread_on j x s b) 0) y)
decl_step (ConstantDecl l n e) s b j y q h = h
decl_step (IntegerDecl l n xs) s b j y q h = ap (λ (zs : List Spread). slice_get zs j) (integer_spreads l n (dims_meant b.table l xs s) b) ∙ h
decl_step (DecompDecl l n xs) s b j y q h = still b.spreads (unspread ∷ []) j y h
decl_step (AlignDecl l n dummies target es) s b j y q h = ap (λ (zs : List Spread). slice_get zs j) (align_spreads (use_of b.table l n) (use_of b.table l target) (is_short dummies es) (aims_of b.table l dummies es s) b) ∙ h
decl_step (DistributeDecl l n xs) s b j y q h = by (names_decomp j (use_of b.table l n)) refl
  where
    by : (c : Bool) → names_decomp j (use_of b.table l n) ≡ c → slice_get (with_spread (use_of b.table l n) n (spread_from (attrs_meant b.table l xs s)) b).spreads j ≡ Some (unwrap_or (slice_get (cond c (spread_from (attrs_meant b.table l xs s) ∷ []) []) 0) y)
    by true p = spread_here (use_of b.table l n) n (spread_from (attrs_meant b.table l xs s)) b j y p q h
    by false p = spread_apart (use_of b.table l n) n (spread_from (attrs_meant b.table l xs s)) b j y p h

-- what a line says is a distribution
given_spread : (xs : List (Option Dist)) → is_some (spread_from xs).dist ≡ true
given_spread [] = refl
given_spread (Some x ∷ xs) = refl
given_spread (None ∷ []) = refl
given_spread (None ∷ (Some x ∷ xs)) = refl
given_spread (None ∷ (None ∷ xs)) = refl

one_given : (c : Bool) (w z : Spread) (zs : List Spread) → cond c (w ∷ []) [] ≡ z ∷ zs → is_some w.dist ≡ true → is_some z.dist ≡ true
one_given true w z zs e h = let same : w ≡ z = cc in subst (λ (v : Spread). is_some v.dist ≡ true) same h
one_given false w z zs e h = absurd cc

on_given : (x : DeclTree) (s : Seen) (b : Base) (j : ℕ) (z : Spread) (zs : List Spread) → spread_on j x s b ≡ z ∷ zs → is_some z.dist ≡ true
on_given (ConstantDecl l n e) s b j z zs h = absurd cc
on_given (IntegerDecl l n xs) s b j z zs h = absurd cc
on_given (DecompDecl l n xs) s b j z zs h = absurd cc
on_given (AlignDecl l n dummies target es) s b j z zs h = absurd cc
on_given (DistributeDecl l n xs) s b j z zs h = one_given (names_decomp j (use_of b.table l n)) (spread_from (attrs_meant b.table l xs s)) z zs h (given_spread (attrs_meant b.table l xs s))

-- ---- declarations, one after the other

all_stay : (xs : List DeclTree) (s : Seen) (b : Base) (j : ℕ) (y : Spread) → is_some y.dist ≡ true → slice_get b.spreads j ≡ Some y → slice_get (declare_all xs s b).spreads j ≡ Some y
all_stay [] s b j y q h = h
all_stay (x ∷ xs) s b j y q h = all_stay xs (see_decl b x s) (declare x s b) j y q (decl_stays x s b j y q h)

pub first_distribution : (xs : List DeclTree) (s : Seen) (b : Base) (j : ℕ) (y : Spread) → slice_get b.spreads j ≡ Some y → is_some y.dist ≡ false → slice_get (declare_all xs s b).spreads j ≡ Some (unwrap_or (slice_get (spreads_on j xs s b) 0) y)
first_distribution [] s b j y h q = h
first_distribution (x ∷ xs) s b j y h q = by (spread_on j x s b) refl (decl_step x s b j y q h) (λ at. first_distribution xs (see_decl b x s) (declare x s b) j y at q)
  where
    by : (zs : List Spread) → spread_on j x s b ≡ zs → slice_get (declare x s b).spreads j ≡ Some (unwrap_or (slice_get zs 0) y)
        → (slice_get (declare x s b).spreads j ≡ Some y → slice_get (declare_all xs (see_decl b x s) (declare x s b)).spreads j ≡ Some (unwrap_or (slice_get (spreads_on j xs (see_decl b x s) (declare x s b)) 0) y))
        → slice_get (declare_all xs (see_decl b x s) (declare x s b)).spreads j ≡ Some (unwrap_or (slice_get (zs ++ spreads_on j xs (see_decl b x s) (declare x s b)) 0) y)
    by [] e at more = more at
    by (z ∷ zs) e at more = all_stay xs (see_decl b x s) (declare x s b) j z (on_given x s b j z zs e) at
