-- An array is aligned as the first ALIGN or DISTRIBUTE that names it says.
use Rattle.std.proofs.Common.{◌≡◌, ℕ, Bool, true, false, cond, List, [], ◌∷◌, ◌++◌, refl, sym, ap, ◌∙◌, subst, Option, None, Some, is_some, nat_eq, slice_get, slice_set}
use Rattle.std.proofs.lemmas.Bool.{eqb-true}
use Rattle.fd_base.specs.declared.numbering.Line.{Line}
use Rattle.fd_ast.specs.Tree.{DeclTree, ConstantDecl, IntegerDecl, DecompDecl, AlignDecl, DistributeDecl}
use Rattle.fd_names.specs.declared.alignments.Aim.{Aim}
use Rattle.fd_names.specs.declared.book.Seen.{Seen}
use Rattle.fd_names.specs.declared.declarations.Alignment.{Alignment}
use Rattle.fd_names.specs.declared.declarations.Base.{Base}
use Rattle.fd_names.specs.declared.declarations.Spread.{Spread}
use Rattle.fd_names.specs.declared.declarations.Subscripts.{Subscripts}
use Rattle.fd_names.specs.declared.names.Use.{Use}
use Rattle.fd_names.specs.declared.names.Use.TheVariants as as_name
use Rattle.fd_names.specs.Alignments.{aims_of, is_short}
use Rattle.fd_names.specs.Declarations.{aligned_onto, alignment_over, declare, declare_all, dims_meant, is_aligned_at, own_decomp, see_decl, spread_over, with_alignment, with_integer, with_spread}
use Rattle.fd_names.specs.Distributions.{attrs_meant, spread_from}
use Rattle.fd_names.specs.Mappings.{alignment_on, alignments_by, alignments_on, alignments_with, own_alignment, own_alignments}
use Rattle.fd_names.specs.Names.{use_of}
use Rattle.fd_names.proofs.FirstSpread.{set_apart, set_here}
use Rattle.fd_names.proofs.Known.{still}

-- the array of this number has this alignment, or none
abbrev IsAt : Base → ℕ → Option Alignment → Type 0
IsAt b k v = slice_get b.alignments k ≡ Some v

-- the first of some alignments, if there is one
abbrev first : List Alignment → Option Alignment
first gs = slice_get gs 0

integer_at : (l : Line) (n : List ℕ) (rs : List Subscripts) (b : Base) (k : ℕ) (v : Option Alignment) → IsAt b k v → IsAt (with_integer l n rs b) k v
integer_at l n [] b k v h = h
integer_at l n (r ∷ rs) b k v h = still b.alignments (None ∷ []) k v h

over_spread : (o : Option Spread) (j : ℕ) (x : Spread) (b : Base) → (spread_over o j x b).alignments ≡ b.alignments
over_spread None j x b = refl
over_spread (Some old) j x b = elim (is_some old.dist) as (λ q. (cond q b (record b { spreads = slice_set b.spreads j x })).alignments ≡ b.alignments) [ true ↦ refl | false ↦ refl ]

-- ---- one alignment

over_apart : (o : Option (Option Alignment)) (i : ℕ) (g : Alignment) (b : Base) (k : ℕ) (v : Option Alignment) → nat_eq i k ≡ false → IsAt b k v → IsAt (alignment_over o i g b) k v
over_apart None i g b k v p h = h
over_apart (Some None) i g b k v p h = set_apart b.alignments i k (Some g) p ∙ h
over_apart (Some (Some old)) i g b k v p h = h

over_stays : (o : Option (Option Alignment)) (i : ℕ) (g : Alignment) (b : Base) (a : Alignment) → o ≡ Some (Some a) → IsAt b i (Some a) → IsAt (alignment_over o i g b) i (Some a)
over_stays None i g b a e h = absurd cc
over_stays (Some None) i g b a e h = absurd cc
over_stays (Some (Some old)) i g b a e h = h

over_new : (o : Option (Option Alignment)) (i : ℕ) (g : Alignment) (b : Base) → o ≡ Some None → IsAt b i None → IsAt (alignment_over o i g b) i (Some g)
over_new None i g b e h = absurd cc
over_new (Some None) i g b e h = set_here b.alignments i (Some g) None h
over_new (Some (Some old)) i g b e h = absurd cc

-- ---- one ALIGN

onto_apart : (i : ℕ) (v : Use) (short : Bool) (as_ : List Aim) (b : Base) (k : ℕ) (w : Option Alignment) → nat_eq i k ≡ false → IsAt b k w → IsAt (aligned_onto i v short as_ b) k w
onto_apart i (as_name.Decomp j d) short as_ b k w p h = over_apart (slice_get b.alignments i) i _ b k w p h
onto_apart i as_name.Scalar short as_ b k w p h = h
onto_apart i (as_name.Constant z) short as_ b k w p h = h
onto_apart i (as_name.Array j d) short as_ b k w p h = h
onto_apart i as_name.Unknown short as_ b k w p h = h

onto_stays : (i : ℕ) (v : Use) (short : Bool) (as_ : List Aim) (b : Base) (a : Alignment) → IsAt b i (Some a) → IsAt (aligned_onto i v short as_ b) i (Some a)
onto_stays i (as_name.Decomp j d) short as_ b a h = over_stays (slice_get b.alignments i) i _ b a h h
onto_stays i as_name.Scalar short as_ b a h = h
onto_stays i (as_name.Constant z) short as_ b a h = h
onto_stays i (as_name.Array j d) short as_ b a h = h
onto_stays i as_name.Unknown short as_ b a h = h

onto_new : (i : ℕ) (v : Use) (short : Bool) (as_ : List Aim) (b : Base) → IsAt b i None → IsAt (aligned_onto i v short as_ b) i (first (alignments_with v i short as_ b))
onto_new i (as_name.Decomp j d) short as_ b h = over_new (slice_get b.alignments i) i _ b h h
onto_new i as_name.Scalar short as_ b h = h
onto_new i (as_name.Constant z) short as_ b h = h
onto_new i (as_name.Array j d) short as_ b h = h
onto_new i as_name.Unknown short as_ b h = h

align_stays : (u v : Use) (short : Bool) (as_ : List Aim) (b : Base) (k : ℕ) (a : Alignment) → IsAt b k (Some a) → IsAt (with_alignment u v short as_ b) k (Some a)
align_stays (as_name.Array i d) v short as_ b k a h = by (nat_eq i k) refl
  where
    by : (c : Bool) → nat_eq i k ≡ c → IsAt (aligned_onto i v short as_ b) k (Some a)
    by true p = subst (λ (m : ℕ). IsAt b m (Some a) → IsAt (aligned_onto i v short as_ b) m (Some a)) (eqb-true i k p) (onto_stays i v short as_ b a) h
    by false p = onto_apart i v short as_ b k (Some a) p h
align_stays as_name.Scalar v short as_ b k a h = h
align_stays (as_name.Constant z) v short as_ b k a h = h
align_stays (as_name.Decomp j d) v short as_ b k a h = h
align_stays as_name.Unknown v short as_ b k a h = h

align_step : (u v : Use) (short : Bool) (as_ : List Aim) (b : Base) (k : ℕ) → IsAt b k None → IsAt (with_alignment u v short as_ b) k (first (alignments_by k u v short as_ b))
align_step (as_name.Array i d) v short as_ b k h = by (nat_eq i k) refl
  where
    by : (c : Bool) → nat_eq i k ≡ c → IsAt (aligned_onto i v short as_ b) k (first (cond c (alignments_with v i short as_ b) []))
    by true p = subst (λ (m : ℕ). IsAt b m None → IsAt (aligned_onto i v short as_ b) m (first (alignments_with v i short as_ b))) (eqb-true i k p) (onto_new i v short as_ b) h
    by false p = onto_apart i v short as_ b k None p h
align_step as_name.Scalar v short as_ b k h = h
align_step (as_name.Constant z) v short as_ b k h = h
align_step (as_name.Decomp j d) v short as_ b k h = h
align_step as_name.Unknown v short as_ b k h = h

-- ---- one DISTRIBUTE

own_apart : (n : List ℕ) (i : ℕ) (x : Spread) (b : Base) (k : ℕ) (v : Option Alignment) → nat_eq i k ≡ false → IsAt b k v → IsAt (own_decomp n i x b) k v
own_apart n i x b k v p h = over_apart (slice_get b.alignments i) i _ _ k v p h

own_new : (n : List ℕ) (i : ℕ) (x : Spread) (b : Base) → IsAt b i None → IsAt (own_decomp n i x b) i (Some (own_alignment i b))
own_new n i x b h = over_new (slice_get b.alignments i) i _ _ h h

spread_stays : (u : Use) (n : List ℕ) (x : Spread) (b : Base) (k : ℕ) (a : Alignment) → IsAt b k (Some a) → IsAt (with_spread u n x b) k (Some a)
spread_stays (as_name.Decomp j d) n x b k a h = ap (λ (gs : List (Option Alignment)). slice_get gs k) (over_spread (slice_get b.spreads j) j x b) ∙ h
spread_stays (as_name.Array i d) n x b k a h = by (nat_eq i k) refl
  where
    by : (c : Bool) → nat_eq i k ≡ c → IsAt (cond (is_aligned_at (slice_get b.alignments i)) b (own_decomp n i x b)) k (Some a)
    by true p = subst (λ (m : ℕ). IsAt b m (Some a) → IsAt (cond (is_aligned_at (slice_get b.alignments i)) b (own_decomp n i x b)) m (Some a)) (eqb-true i k p) (λ e. subst (λ q. IsAt (cond q b (own_decomp n i x b)) i (Some a)) (sym (ap is_aligned_at e)) e) h
    by false p = elim (is_aligned_at (slice_get b.alignments i)) as (λ q. IsAt (cond q b (own_decomp n i x b)) k (Some a)) [ true ↦ h | false ↦ own_apart n i x b k (Some a) p h ]
spread_stays as_name.Scalar n x b k a h = h
spread_stays (as_name.Constant z) n x b k a h = h
spread_stays as_name.Unknown n x b k a h = h

spread_step : (u : Use) (n : List ℕ) (x : Spread) (b : Base) (k : ℕ) → IsAt b k None → IsAt (with_spread u n x b) k (first (own_alignments k u b))
spread_step (as_name.Decomp j d) n x b k h = ap (λ (gs : List (Option Alignment)). slice_get gs k) (over_spread (slice_get b.spreads j) j x b) ∙ h
spread_step (as_name.Array i d) n x b k h = by (nat_eq i k) refl
  where
    by : (c : Bool) → nat_eq i k ≡ c → IsAt (cond (is_aligned_at (slice_get b.alignments i)) b (own_decomp n i x b)) k (first (cond c (own_alignment i b ∷ []) []))
    by true p = subst (λ (m : ℕ). IsAt b m None → IsAt (cond (is_aligned_at (slice_get b.alignments i)) b (own_decomp n i x b)) m (Some (own_alignment i b))) (eqb-true i k p) (λ e. subst (λ q. IsAt (cond q b (own_decomp n i x b)) i (Some (own_alignment i b))) (sym (ap is_aligned_at e)) (own_new n i x b e)) h
    by false p = elim (is_aligned_at (slice_get b.alignments i)) as (λ q. IsAt (cond q b (own_decomp n i x b)) k None) [ true ↦ h | false ↦ own_apart n i x b k None p h ]
spread_step as_name.Scalar n x b k h = h
spread_step (as_name.Constant z) n x b k h = h
spread_step as_name.Unknown n x b k h = h

-- ---- one declaration

decl_stays : (x : DeclTree) (s : Seen) (b : Base) (k : ℕ) (a : Alignment) → IsAt b k (Some a) → IsAt (declare x s b) k (Some a)
decl_stays (ConstantDecl l n e) s b k a h = h
decl_stays (IntegerDecl l n xs) s b k a h = integer_at l n (dims_meant b.table l xs s) b k (Some a) h
decl_stays (DecompDecl l n xs) s b k a h = h
decl_stays (AlignDecl l n dummies target es) s b k a h = align_stays (use_of b.table l n) (use_of b.table l target) (is_short dummies es) (aims_of b.table l dummies es s) b k a h
decl_stays (DistributeDecl l n xs) s b k a h = spread_stays (use_of b.table l n) n (spread_from (attrs_meant b.table l xs s)) b k a h

decl_step : (x : DeclTree) (s : Seen) (b : Base) (k : ℕ) → IsAt b k None → IsAt (declare x s b) k (first (alignment_on k x s b))
decl_step (ConstantDecl l n e) s b k h = h
decl_step (IntegerDecl l n xs) s b k h = integer_at l n (dims_meant b.table l xs s) b k None h
decl_step (DecompDecl l n xs) s b k h = h
decl_step (AlignDecl l n dummies target es) s b k h = align_step (use_of b.table l n) (use_of b.table l target) (is_short dummies es) (aims_of b.table l dummies es s) b k h
decl_step (DistributeDecl l n xs) s b k h = spread_step (use_of b.table l n) n (spread_from (attrs_meant b.table l xs s)) b k h

-- ---- declarations, one after the other

all_stay : (xs : List DeclTree) (s : Seen) (b : Base) (k : ℕ) (a : Alignment) → IsAt b k (Some a) → IsAt (declare_all xs s b) k (Some a)
all_stay [] s b k a h = h
all_stay (x ∷ xs) s b k a h = all_stay xs (see_decl b x s) (declare x s b) k a (decl_stays x s b k a h)

pub first_alignment : (xs : List DeclTree) (s : Seen) (b : Base) (k : ℕ) → slice_get b.alignments k ≡ Some None → slice_get (declare_all xs s b).alignments k ≡ Some (slice_get (alignments_on k xs s b) 0)
first_alignment [] s b k h = h
first_alignment (x ∷ xs) s b k h = by (alignment_on k x s b) (decl_step x s b k h) (first_alignment xs (see_decl b x s) (declare x s b) k)
  where
    by : (gs : List Alignment) → IsAt (declare x s b) k (first gs)
        → (IsAt (declare x s b) k None → IsAt (declare_all xs (see_decl b x s) (declare x s b)) k (first (alignments_on k xs (see_decl b x s) (declare x s b))))
        → IsAt (declare_all xs (see_decl b x s) (declare x s b)) k (first (gs ++ alignments_on k xs (see_decl b x s) (declare x s b)))
    by [] at more = more at
    by (g ∷ gs) at more = all_stay xs (see_decl b x s) (declare x s b) k g at
