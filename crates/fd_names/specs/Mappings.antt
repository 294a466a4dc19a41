-- Which line says how a decomposition is distributed and how an array is aligned: the first that does.
use Rattle.std.specs.Prelude.{ℕ, ◌++◌, Bool, false, nat_eq, length, if◌then◌else◌, List, [], ◌∷◌, slice_get}
use Rattle.fd_ast.specs.Tree.{DeclTree, ConstantDecl, IntegerDecl, DecompDecl, AlignDecl, DistributeDecl}
use Rattle.fd_names.specs.declared.alignments.Aim.{Aim}
use Rattle.fd_names.specs.declared.book.Seen.{Seen}
use Rattle.fd_names.specs.declared.declarations.Alignment.{Alignment}
use Rattle.fd_names.specs.declared.declarations.Base.{Base}
use Rattle.fd_names.specs.declared.declarations.Spread.{Spread}
use Rattle.fd_names.specs.declared.names.Use.{Use}
use Rattle.fd_names.specs.declared.names.Use.TheVariants as as_name
use Rattle.fd_names.specs.Alignments.{aims_of, identity_aims, is_short}
use Rattle.fd_names.specs.Declarations.{alignment_onto, all_aims, array_shape, declare, decomp_shape, see_decl}
use Rattle.fd_names.specs.Distributions.{attrs_meant, spread_from}
use Rattle.fd_names.specs.Names.{use_of}

-- ---- distributions

-- a name stands for the decomposition of this number
abbrev pub names_decomp : ℕ → Use → Bool
names_decomp j (as_name.Decomp i d) = nat_eq i j
names_decomp j as_name.Scalar = false
names_decomp j (as_name.Constant z) = false
names_decomp j (as_name.Array i d) = false
names_decomp j as_name.Unknown = false

-- how a declaration distributes a decomposition, if it does
abbrev pub spread_on : ℕ → DeclTree → Seen → Base → List Spread
spread_on j (ConstantDecl l n e) s b = []
spread_on j (IntegerDecl l n xs) s b = []
spread_on j (DecompDecl l n xs) s b = []
spread_on j (AlignDecl l n dummies target es) s b = []
spread_on j (DistributeDecl l n xs) s b = if names_decomp j (use_of b.table l n) then spread_from (attrs_meant b.table l xs s) ∷ [] else []

-- the distributions of a decomposition by these declarations, in order
abbrev pub spreads_on : ℕ → List DeclTree → Seen → Base → List Spread
spreads_on j [] s b = []
spreads_on j (x ∷ xs) s b = spread_on j x s b ++ spreads_on j xs (see_decl b x s) (declare x s b)

-- ---- alignments

-- an ALIGN with what the second name stands for, where the first is the array of this number
abbrev pub alignments_with : Use → ℕ → Bool → List Aim → Base → List Alignment
alignments_with (as_name.Decomp j d) i short as_ b =
    let shape = array_shape (slice_get b.arrays i) in
    alignment_onto j shape (decomp_shape (slice_get b.decomps j)) (all_aims short shape as_) ∷ []
alignments_with as_name.Scalar i short as_ b = []
alignments_with (as_name.Constant z) i short as_ b = []
alignments_with (as_name.Array j d) i short as_ b = []
alignments_with as_name.Unknown i short as_ b = []

-- how an ALIGN aligns an array, if it does
abbrev pub alignments_by : ℕ → Use → Use → Bool → List Aim → Base → List Alignment
alignments_by k (as_name.Array i d) v short as_ b = if nat_eq i k then alignments_with v i short as_ b else []
alignments_by k as_name.Scalar v short as_ b = []
alignments_by k (as_name.Constant z) v short as_ b = []
alignments_by k (as_name.Decomp i d) v short as_ b = []
alignments_by k as_name.Unknown v short as_ b = []

-- each dimension of the array of this number onto the same one of a decomposition of its own, the next
abbrev pub own_alignment : ℕ → Base → Alignment
own_alignment i b = let shape = array_shape (slice_get b.arrays i) in alignment_onto (length b.decomps) shape shape (identity_aims shape.dims)

-- how a DISTRIBUTE aligns an array, if it does
abbrev pub own_alignments : ℕ → Use → Base → List Alignment
own_alignments k (as_name.Array i d) b = if nat_eq i k then own_alignment i b ∷ [] else []
own_alignments k as_name.Scalar b = []
own_alignments k (as_name.Constant z) b = []
own_alignments k (as_name.Decomp i d) b = []
own_alignments k as_name.Unknown b = []

-- how a declaration aligns an array, if it does
abbrev pub alignment_on : ℕ → DeclTree → Seen → Base → List Alignment
alignment_on k (ConstantDecl l n e) s b = []
alignment_on k (IntegerDecl l n xs) s b = []
alignment_on k (DecompDecl l n xs) s b = []
alignment_on k (AlignDecl l n dummies target es) s b = alignments_by k (use_of b.table l n) (use_of b.table l target) (is_short dummies es) (aims_of b.table l dummies es s) b
alignment_on k (DistributeDecl l n xs) s b = own_alignments k (use_of b.table l n) b

-- the alignments of an array by these declarations, in order
abbrev pub alignments_on : ℕ → List DeclTree → Seen → Base → List Alignment
alignments_on k [] s b = []
alignments_on k (x ∷ xs) s b = alignment_on k x s b ++ alignments_on k xs (see_decl b x s) (declare x s b)
