-- ALIGN and DISTRIBUTE leave the names, the arrays and their sizes as they are.
use Rattle.std.proofs.Common.{◌≡◌, ℕ, Bool, true, false, cond, List, [], ◌∷◌, ◌++◌, refl, Option, None, Some, is_some, slice_get, length, slice_set}
use Rattle.fd_base.specs.declared.numbering.Line.{Line}
use Rattle.fd_ast.specs.Tree.{ExprTrees, AttrTree, AlignDecl, DistributeDecl}
use Rattle.fd_names.specs.declared.alignments.Aim.{Aim}
use Rattle.fd_names.specs.declared.book.Seen.{Seen}
use Rattle.fd_names.specs.declared.declarations.Alignment.{Alignment}
use Rattle.fd_names.specs.declared.declarations.Base.{Base}
use Rattle.fd_names.specs.declared.declarations.Spread.{Spread}
use Rattle.fd_names.specs.declared.names.Use.{Use}
use Rattle.fd_names.specs.declared.names.Use.TheVariants as as_name
use Rattle.fd_names.specs.Alignments.{aims_of, identity_aims, is_short}
use Rattle.fd_names.specs.Declarations.{declare, array_shape, decomp_from, is_aligned_at, alignment_over, spread_over, alignment_onto, aligned_onto, with_alignment, own_decomp, with_spread}
use Rattle.fd_names.specs.Distributions.{attrs_meant, spread_from}
use Rattle.fd_names.specs.Names.{use_of}

pub record Keeps (b c : Base) : Type 0 where
  pub table : c.table ≡ b.table
  pub arrays : c.arrays ≡ b.arrays
  pub sizes : c.sizes ≡ b.sizes

itself : (b : Base) → Keeps b b
itself b = record { table = refl; arrays = refl; sizes = refl }

over_keeps : (o : Option (Option Alignment)) (k : ℕ) (g : Alignment) (b : Base) → Keeps b (alignment_over o k g b)
over_keeps None k g b = itself b
over_keeps (Some None) k g b = record { table = refl; arrays = refl; sizes = refl }
over_keeps (Some (Some old)) k g b = itself b

onto_keeps : (k : ℕ) (v : Use) (short : Bool) (as_ : List Aim) (b : Base) → Keeps b (aligned_onto k v short as_ b)
onto_keeps k (as_name.Decomp j d) short as_ b = over_keeps (slice_get b.alignments k) k _ b
onto_keeps k as_name.Scalar short as_ b = itself b
onto_keeps k (as_name.Constant z) short as_ b = itself b
onto_keeps k (as_name.Array j d) short as_ b = itself b
onto_keeps k as_name.Unknown short as_ b = itself b

aligned_keeps : (u v : Use) (short : Bool) (as_ : List Aim) (b : Base) → Keeps b (with_alignment u v short as_ b)
aligned_keeps (as_name.Array k d) v short as_ b = onto_keeps k v short as_ b
aligned_keeps as_name.Scalar v short as_ b = itself b
aligned_keeps (as_name.Constant z) v short as_ b = itself b
aligned_keeps (as_name.Decomp j d) v short as_ b = itself b
aligned_keeps as_name.Unknown v short as_ b = itself b

pub align_keeps : (l : Line) (n : List ℕ) (dummies : List (List ℕ)) (target : List ℕ) (es : ExprTrees) (s : Seen) (b : Base) → Keeps b (declare (AlignDecl l n dummies target es) s b)
align_keeps l n dummies target es s b = aligned_keeps (use_of b.table l n) (use_of b.table l target) (is_short dummies es) (aims_of b.table l dummies es s) b

spread_over_keeps : (o : Option Spread) (j : ℕ) (x : Spread) (b : Base) → Keeps b (spread_over o j x b)
spread_over_keeps None j x b = itself b
spread_over_keeps (Some old) j x b = elim (is_some old.dist) as (λ q. Keeps b (cond q b (record b { spreads = slice_set b.spreads j x }))) [ true ↦ itself b | false ↦ record { table = refl; arrays = refl; sizes = refl } ]

-- one more decomposition
abbrev pub with_own : List ℕ → ℕ → Spread → Base → Base
with_own n k x b = record b { decomps = b.decomps ++ decomp_from n (array_shape (slice_get b.arrays k)) ∷ []; spreads = b.spreads ++ x ∷ [] }

own_keeps : (n : List ℕ) (k : ℕ) (x : Spread) (b : Base) → Keeps b (own_decomp n k x b)
own_keeps n k x b =
    let h = over_keeps (slice_get b.alignments k) k (alignment_onto (length b.decomps) (array_shape (slice_get b.arrays k)) (array_shape (slice_get b.arrays k)) (identity_aims (array_shape (slice_get b.arrays k)).dims)) (with_own n k x b) in
    record { table = h.table; arrays = h.arrays; sizes = h.sizes }

spread_keeps : (u : Use) (n : List ℕ) (x : Spread) (b : Base) → Keeps b (with_spread u n x b)
spread_keeps (as_name.Decomp j d) n x b = spread_over_keeps (slice_get b.spreads j) j x b
spread_keeps (as_name.Array k d) n x b = elim (is_aligned_at (slice_get b.alignments k)) as (λ q. Keeps b (cond q b (own_decomp n k x b))) [ true ↦ itself b | false ↦ own_keeps n k x b ]
spread_keeps as_name.Scalar n x b = itself b
spread_keeps (as_name.Constant z) n x b = itself b
spread_keeps as_name.Unknown n x b = itself b

pub distribute_keeps : (l : Line) (n : List ℕ) (xs : List AttrTree) (s : Seen) (b : Base) → Keeps b (declare (DistributeDecl l n xs) s b)
distribute_keeps l n xs s b = spread_keeps (use_of b.table l n) n (spread_from (attrs_meant b.table l xs s)) b
