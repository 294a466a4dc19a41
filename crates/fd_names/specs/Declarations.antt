-- Declarations: what is wrong in them, and what they declare.
use Rattle.std.specs.Prelude.{ℕ, map, get_or, ◌+◌, ◌^◌, ℤ, pos, negsuc, ◌+ℤ◌, ◌-ℤ◌, ◌++◌, Bool, true, false, not, ◌&&◌, nat_le, nat_lt, length, if◌then◌else◌, List, [], ◌∷◌, Option, None, Some, is_some, option_map, unwrap_or, slice_get, slice_set}
use Rattle.fd_base.specs.declared.numbering.Line.{Line}
use Rattle.fd_base.specs.declared.limit.Limit.TheVariants as limits
use Rattle.fd_base.specs.declared.shapes.Shape.{Shape}
use Rattle.fd_base.specs.declared.shapes.Along.TheVariants.{Fixed}
use Rattle.fd_base.specs.Shapes.{size_of}
use Rattle.fd_ast.specs.Tree.{ExprTrees, DimTree, DeclTree, ConstantDecl, IntegerDecl, DecompDecl, AlignDecl, DistributeDecl}
use Rattle.fd_prog.specs.declared.program.Array.{Array}
use Rattle.fd_prog.specs.declared.program.Decomp.{Decomp}
use Rattle.fd_names.specs.declared.book.Seen.{Seen}
use Rattle.fd_names.specs.declared.declarations.Alignment.{Alignment}
use Rattle.fd_names.specs.declared.declarations.Base.{Base}
use Rattle.fd_names.specs.declared.declarations.Spread.{Spread}
use Rattle.fd_names.specs.declared.declarations.Subscripts.{Subscripts}
use Rattle.fd_names.specs.declared.names.Entry.{Entry}
use Rattle.fd_names.specs.declared.names.Kind.{Kind}
use Rattle.fd_names.specs.declared.names.Kind.TheVariants as kind
use Rattle.fd_names.specs.declared.refusal.Cause.{Cause}
use Rattle.fd_names.specs.declared.refusal.Cause.TheVariants.{NotDeclared, DeclaredTwice, WrongShape, NotConstant, BadBounds, TooMany}
use Rattle.fd_names.specs.declared.refusal.Refusal.{Refusal}
use Rattle.fd_names.specs.declared.alignments.Aim.{Aim}
use Rattle.fd_names.specs.Alignments.{aims_causes, see_aims, aims_of, aligned_causes, onto_causes, long_causes, short_causes, is_short, identity_aims, two_alongs}
use Rattle.fd_names.specs.Constants.{constant_of}
use Rattle.fd_names.specs.Distributions.{attrs_causes, see_attrs, attrs_meant, spread_from, spread_causes}
use Rattle.fd_names.specs.Expressions.{causes, see, meant}
use Rattle.fd_names.specs.First.{at_line, given}
use Rattle.fd_names.specs.declared.names.Use.{Use}
use Rattle.fd_names.specs.declared.names.Use.TheVariants as as_name
use Rattle.fd_names.specs.Names.{Declared, Lines, use_of, find_name, with_entry, with_made, with_name, is_implicit, capped}
use Rattle.fd_names.specs.Statements.{name_limit}

-- ---- bounds

-- a bound is from -2^31 to 2^31
abbrev pub is_bound : ℤ → Bool
is_bound (pos n) = nat_le n (2 ^ 31)
is_bound (negsuc n) = nat_lt n (2 ^ 31)

abbrev pub most_subscripts : ℕ
most_subscripts = 262144

-- a dimension has from 1 to 262,144 subscripts
abbrev pub extent_from : ℤ → Option ℕ
extent_from (pos n) = if nat_le 1 n && nat_le n most_subscripts then Some n else None
extent_from (negsuc n) = None

-- the subscripts of a dimension, where both bounds are constant and make one
abbrev pub range_between : ℤ → ℤ → Option Subscripts
range_between low high =
    if is_bound low && is_bound high then option_map (λ n. record { low = low; extent = n }) (extent_from (high -ℤ low +ℤ pos 1)) else None

abbrev pub range_of : Option ℤ → Option ℤ → Option Subscripts
range_of None high = None
range_of (Some low) None = None
range_of (Some low) (Some high) = range_between low high

abbrev pub range_causes : Option ℤ → Option ℤ → List Cause
range_causes None high = NotConstant ∷ []
range_causes (Some low) None = NotConstant ∷ []
range_causes (Some low) (Some high) = given (not (is_some (range_between low high))) BadBounds

-- stands where something is wrong; it is in no program
abbrev pub no_range : Subscripts
no_range = record { low = pos 0; extent = 0 }

-- ---- dimensions

abbrev pub see_dim : Declared → Line → DimTree → Seen → Seen
see_dim d l x s = see d l x.high (see d l x.low s)

abbrev pub dim_meant : Declared → Line → DimTree → Seen → Subscripts
dim_meant d l x s = unwrap_or (range_of (constant_of (meant d l x.low s)) (constant_of (meant d l x.high (see d l x.low s)))) no_range

abbrev pub dim_causes : Declared → Line → DimTree → Seen → List Cause
dim_causes d l x s = causes d l x.low ++ (causes d l x.high ++ range_causes (constant_of (meant d l x.low s)) (constant_of (meant d l x.high (see d l x.low s))))

abbrev pub see_dims : Declared → Line → List DimTree → Seen → Seen
see_dims d l [] s = s
see_dims d l (x ∷ xs) s = see_dims d l xs (see_dim d l x s)

abbrev pub dims_meant : Declared → Line → List DimTree → Seen → List Subscripts
dims_meant d l [] s = []
dims_meant d l (x ∷ xs) s = dim_meant d l x s ∷ dims_meant d l xs (see_dim d l x s)

abbrev pub dims_causes : Declared → Line → List DimTree → Seen → List Cause
dims_causes d l [] s = []
dims_causes d l (x ∷ xs) s = dim_causes d l x s ++ dims_causes d l xs (see_dim d l x s)

-- the shape of an array of one or two dimensions
abbrev pub shape_from : List Subscripts → Shape
shape_from [] = record { dims = 1; low = pos 0 ∷ (pos 0 ∷ []); extent = 0 ∷ (1 ∷ []) }
shape_from (r ∷ []) = record { dims = 1; low = r.low ∷ (pos 0 ∷ []); extent = r.extent ∷ (1 ∷ []) }
shape_from (r ∷ (q ∷ rs)) = record { dims = 2; low = r.low ∷ (q.low ∷ []); extent = r.extent ∷ (q.extent ∷ []) }

-- ---- what is declared

-- a name of an INTEGER; one that is declared already stays what it is
abbrev pub with_new : Declared → List ℕ → Entry → Declared
with_new d n e = if is_some (find_name d n) then d else with_entry d n e

-- a name of a PARAMETER: one that is a constant, an array or a decomposition already stays what it is
abbrev pub constant_over : Kind → Declared → List ℕ → Entry → Declared
constant_over kind.Scalar d n e = with_entry d n e
constant_over (kind.Constant z) d n e = d
constant_over (kind.Array k a) d n e = d
constant_over (kind.Decomp k a) d n e = d

abbrev pub with_value : Option Entry → Declared → List ℕ → Entry → Declared
with_value None d n e = with_entry d n e
with_value (Some old) d n e = constant_over old.kind d n e

-- a scalar is named where INTEGER declares it
abbrev pub see_integer : List ℕ → List Subscripts → Seen → Seen
see_integer n [] s = record s { scalars = with_name s.scalars n }
see_integer n (r ∷ rs) s = s

abbrev pub integer_kind : List Subscripts → ℕ → Kind
integer_kind [] k = kind.Scalar
integer_kind (r ∷ rs) k = kind.Array (capped k) (shape_from (r ∷ rs)).dims

-- an array in no decomposition
abbrev pub array_of : List ℕ → List Subscripts → Array
array_of n rs = record { name = n; shape = shape_from rs; decomp = None; along = Fixed 0 }

-- a name of an INTEGER with these dimensions
abbrev pub with_integer : Line → List ℕ → List Subscripts → Base → Base
with_integer l n [] b = record b { table = with_new b.table n (record { line = l; kind = kind.Scalar }) }
with_integer l n (r ∷ rs) b = record {
  table = with_new b.table n (record { line = l; kind = integer_kind (r ∷ rs) (length b.arrays) });
  arrays = b.arrays ++ array_of n (r ∷ rs) ∷ [];
  sizes = b.sizes ++ record { line = l; elements = size_of (shape_from (r ∷ rs)) } ∷ [];
  alignments = b.alignments ++ None ∷ [];
  decomps = b.decomps;
  spreads = b.spreads;
}

-- a PARAMETER; one whose value is refused is as good as any
abbrev pub with_constant : Line → List ℕ → Option ℤ → Base → Base
with_constant l n v b = record b { table = with_value (find_name b.table n) b.table n (record { line = l; kind = kind.Constant (unwrap_or v (pos 0)) }) }

-- ---- decompositions

-- a decomposition that isn't distributed
abbrev pub decomp_from : List ℕ → Shape → Decomp
decomp_from n shape = record { name = n; shape = shape; dim = 0; dist = None }

abbrev pub unspread : Spread
unspread = record { dim = 0; dist = None }

-- one more decomposition
abbrev pub see_decomp : Seen → Seen
see_decomp s = record s { decomps = s.decomps + 1 }

-- a name of a DECOMPOSITION with these dimensions
abbrev pub with_decomp : Line → List ℕ → List Subscripts → Base → Base
with_decomp l n rs b = record b {
  table = with_new b.table n (record { line = l; kind = kind.Decomp (length b.decomps) (shape_from rs).dims });
  decomps = b.decomps ++ decomp_from n (shape_from rs) ∷ [];
  spreads = b.spreads ++ unspread ∷ [];
}

abbrev pub array_shape : Option Array → Shape
array_shape None = shape_from []
array_shape (Some a) = a.shape

abbrev pub decomp_shape : Option Decomp → Shape
decomp_shape None = shape_from []
decomp_shape (Some x) = x.shape

abbrev pub is_aligned_at : Option (Option Alignment) → Bool
is_aligned_at None = false
is_aligned_at (Some None) = false
is_aligned_at (Some (Some g)) = true

abbrev pub is_spread_at : Option Spread → Bool
is_spread_at None = false
is_spread_at (Some x) = is_some x.dist

-- a name is an array that is aligned already
abbrev pub is_aligned : Base → Use → Bool
is_aligned b (as_name.Array k d) = is_aligned_at (slice_get b.alignments k)
is_aligned b _ = false

-- a name is a decomposition that is distributed already
abbrev pub is_spread : Base → Use → Bool
is_spread b (as_name.Decomp j d) = is_spread_at (slice_get b.spreads j)
is_spread b _ = false

abbrev pub alignment_over : Option (Option Alignment) → ℕ → Alignment → Base → Base
alignment_over None k g b = b
alignment_over (Some None) k g b = record b { alignments = slice_set b.alignments k (Some g) }
alignment_over (Some (Some old)) k g b = b

-- an alignment of the array of this number; the first stands
abbrev pub put_alignment : ℕ → Alignment → Base → Base
put_alignment k g b = alignment_over (slice_get b.alignments k) k g b

abbrev pub spread_over : Option Spread → ℕ → Spread → Base → Base
spread_over None j x b = b
spread_over (Some old) j x b = if is_some old.dist then b else record b { spreads = slice_set b.spreads j x }

-- a distribution of the decomposition of this number; the first stands
abbrev pub put_spread : ℕ → Spread → Base → Base
put_spread j x b = spread_over (slice_get b.spreads j) j x b

abbrev pub all_aims : Bool → Shape → List Aim → List Aim
all_aims short shape as_ = if short then identity_aims shape.dims else as_

abbrev pub alignment_onto : ℕ → Shape → Shape → List Aim → Alignment
alignment_onto j shape onto as_ = record { decomp = j; along = two_alongs shape onto as_ }

-- an ALIGN of an array with what the second name stands for
abbrev pub aligned_onto : ℕ → Use → Bool → List Aim → Base → Base
aligned_onto k (as_name.Decomp j d) short as_ b =
    let shape = array_shape (slice_get b.arrays k) in
    put_alignment k (alignment_onto j shape (decomp_shape (slice_get b.decomps j)) (all_aims short shape as_)) b
aligned_onto k as_name.Scalar short as_ b = b
aligned_onto k (as_name.Constant z) short as_ b = b
aligned_onto k (as_name.Array j d) short as_ b = b
aligned_onto k as_name.Unknown short as_ b = b

-- an ALIGN aligns wherever it names an array and a decomposition, even where its line is refused
abbrev pub with_alignment : Use → Use → Bool → List Aim → Base → Base
with_alignment (as_name.Array k d) v short as_ b = aligned_onto k v short as_ b
with_alignment as_name.Scalar v short as_ b = b
with_alignment (as_name.Constant z) v short as_ b = b
with_alignment (as_name.Decomp j d) v short as_ b = b
with_alignment as_name.Unknown v short as_ b = b

-- an array without alignment has a decomposition of its own, with its name and bounds
abbrev pub own_decomp : List ℕ → ℕ → Spread → Base → Base
own_decomp n k x b =
    let shape = array_shape (slice_get b.arrays k) in
    put_alignment k (alignment_onto (length b.decomps) shape shape (identity_aims shape.dims))
    (record b { decomps = b.decomps ++ decomp_from n shape ∷ []; spreads = b.spreads ++ x ∷ [] })

-- a DISTRIBUTE distributes wherever it names a decomposition or an array that isn't aligned, even where its line is refused
abbrev pub with_spread : Use → List ℕ → Spread → Base → Base
with_spread (as_name.Decomp j d) n x b = put_spread j x b
with_spread (as_name.Array k d) n x b = if is_aligned_at (slice_get b.alignments k) then b else own_decomp n k x b
with_spread as_name.Scalar n x b = b
with_spread (as_name.Constant z) n x b = b
with_spread as_name.Unknown n x b = b

abbrev pub see_own_decomp : Use → Bool → Seen → Seen
see_own_decomp (as_name.Array k d) aligned s = if aligned then s else see_decomp s
see_own_decomp _ aligned s = s

-- ---- declarations

abbrev pub see_decl : Base → DeclTree → Seen → Seen
see_decl b (ConstantDecl l n e) s = see b.table l e s
see_decl b (IntegerDecl l n xs) s = see_integer n (dims_meant b.table l xs s) (see_dims b.table l xs s)
see_decl b (DecompDecl l n xs) s = see_decomp (see_dims b.table l xs s)
see_decl b (AlignDecl l n dummies target es) s = see_aims b.table l dummies es s
see_decl b (DistributeDecl l n xs) s = see_own_decomp (use_of b.table l n) (is_aligned b (use_of b.table l n)) (see_attrs b.table l xs s)

abbrev pub declare : DeclTree → Seen → Base → Base
declare (ConstantDecl l n e) s b = with_constant l n (constant_of (meant b.table l e s)) b
declare (IntegerDecl l n xs) s b = with_integer l n (dims_meant b.table l xs s) b
declare (DecompDecl l n xs) s b = with_decomp l n (dims_meant b.table l xs s) b
declare (AlignDecl l n dummies target es) s b = with_alignment (use_of b.table l n) (use_of b.table l target) (is_short dummies es) (aims_of b.table l dummies es s) b
declare (DistributeDecl l n xs) s b = with_spread (use_of b.table l n) n (spread_from (attrs_meant b.table l xs s)) b

-- ---- what is wrong

abbrev pub value_causes : Option ℤ → List Cause
value_causes None = NotConstant ∷ []
value_causes (Some z) = []

-- of the declared names a scalar alone may become a constant
abbrev pub again_causes : Kind → List Cause
again_causes kind.Scalar = []
again_causes (kind.Constant z) = DeclaredTwice ∷ []
again_causes (kind.Array k d) = DeclaredTwice ∷ []
again_causes (kind.Decomp k d) = DeclaredTwice ∷ []

-- the name of a constant: a scalar so far, or one that needs no declaration
abbrev pub constant_causes : Option Entry → List ℕ → List Cause
constant_causes None n = given (not (is_implicit n)) NotDeclared
constant_causes (Some e) n = again_causes e.kind

abbrev pub most_arrays : ℕ
most_arrays = 128

-- a declaration behind which there are too many arrays
abbrev pub array_limit : Base → List Cause
array_limit b = given (nat_lt most_arrays (length b.arrays)) (TooMany limits.Arrays)

-- a decomposition has one or two dimensions
abbrev pub decomp_dims : ℕ → Bool
decomp_dims n = nat_le 1 n && nat_le n 2

-- the rules between an array and what the second name stands for
abbrev pub onto_place_causes : ℕ → Use → Base → Bool → List (List ℕ) → List Aim → List Cause
onto_place_causes k (as_name.Decomp j d) b short ds as_ =
    let shape = array_shape (slice_get b.arrays k) in
    let onto = decomp_shape (slice_get b.decomps j) in
    if short then short_causes shape onto else long_causes shape onto ds as_
onto_place_causes k as_name.Scalar b short ds as_ = []
onto_place_causes k (as_name.Constant z) b short ds as_ = []
onto_place_causes k (as_name.Array j d) b short ds as_ = []
onto_place_causes k as_name.Unknown b short ds as_ = []

abbrev pub place_causes : Use → Use → Base → Bool → List (List ℕ) → List Aim → List Cause
place_causes (as_name.Array k d) v b short ds as_ = onto_place_causes k v b short ds as_
place_causes as_name.Scalar v b short ds as_ = []
place_causes (as_name.Constant z) v b short ds as_ = []
place_causes (as_name.Decomp j d) v b short ds as_ = []
place_causes as_name.Unknown v b short ds as_ = []

abbrev pub align_causes : Use → Use → Line → List (List ℕ) → ExprTrees → Seen → Base → List Cause
align_causes u v l ds es s b = aligned_causes u (is_aligned b u) ++ (onto_causes v ++ (aims_causes b.table l ds es s ++ place_causes u v b (is_short ds es) ds (aims_of b.table l ds es s)))

-- all that is wrong in a declaration, but for the limits
abbrev pub decl_causes : Base → DeclTree → Seen → List Cause
decl_causes b (ConstantDecl l n e) s = constant_causes (find_name b.table n) n ++ (causes b.table l e ++ value_causes (constant_of (meant b.table l e s)))
decl_causes b (IntegerDecl l n xs) s = given (is_some (find_name b.table n)) DeclaredTwice ++ (given (nat_lt 2 (length xs)) WrongShape ++ dims_causes b.table l xs s)
decl_causes b (DecompDecl l n xs) s = given (is_some (find_name b.table n)) DeclaredTwice ++ (given (not (decomp_dims (length xs))) WrongShape ++ dims_causes b.table l xs s)
decl_causes b (AlignDecl l n dummies target es) s = align_causes (use_of b.table l n) (use_of b.table l target) l dummies es s b
decl_causes b (DistributeDecl l n xs) s = attrs_causes b.table l xs s ++ spread_causes (use_of b.table l n) (is_aligned b (use_of b.table l n)) (is_spread b (use_of b.table l n)) (attrs_meant b.table l xs s)

-- the limits, between what was declared and seen before a declaration and behind it
abbrev pub limit_causes : DeclTree → Seen → Base → List Cause
limit_causes (ConstantDecl l n e) s b = name_limit (see_decl b (ConstantDecl l n e) s)
limit_causes (IntegerDecl l n xs) s b = array_limit (declare (IntegerDecl l n xs) s b) ++ name_limit (see_decl b (IntegerDecl l n xs) s)
limit_causes (DecompDecl l n xs) s b = name_limit (see_decl b (DecompDecl l n xs) s)
limit_causes (AlignDecl l n dummies target es) s b = name_limit (see_decl b (AlignDecl l n dummies target es) s)
limit_causes (DistributeDecl l n xs) s b = name_limit (see_decl b (DistributeDecl l n xs) s)

abbrev pub line_of : DeclTree → Line
line_of (ConstantDecl l n e) = l
line_of (IntegerDecl l n xs) = l
line_of (DecompDecl l n xs) = l
line_of (AlignDecl l n dummies target es) = l
line_of (DistributeDecl l n xs) = l

abbrev pub decl_refusals : DeclTree → Seen → Base → List Refusal
decl_refusals x s b = at_line (line_of x) (decl_causes b x s ++ limit_causes x s b)

-- ---- declarations, one after the other

-- the name that a declaration makes an array, a decomposition or a constant, with its line
abbrev pub make : DeclTree → Lines → Lines
make (ConstantDecl l n e) ms = with_made ms n l
make (IntegerDecl l n []) ms = ms
make (IntegerDecl l n (x ∷ xs)) ms = with_made ms n l
make (DecompDecl l n xs) ms = with_made ms n l
make (AlignDecl l n dummies target es) ms = ms
make (DistributeDecl l n xs) ms = ms

abbrev pub make_all : List DeclTree → Lines → Lines
make_all [] ms = ms
make_all (x ∷ xs) ms = make_all xs (make x ms)

-- the name that a declaration makes an array, with its line
abbrev pub make_array : DeclTree → Lines → Lines
make_array (ConstantDecl l n e) ms = ms
make_array (IntegerDecl l n []) ms = ms
make_array (IntegerDecl l n (x ∷ xs)) ms = with_made ms n l
make_array (DecompDecl l n xs) ms = ms
make_array (AlignDecl l n dummies target es) ms = ms
make_array (DistributeDecl l n xs) ms = ms

abbrev pub make_arrays : List DeclTree → Lines → Lines
make_arrays [] ms = ms
make_arrays (x ∷ xs) ms = make_arrays xs (make_array x ms)

-- ---- the arrays and decompositions of the program

-- a decomposition with its distributed dimension
abbrev pub finished_decomp : Decomp → Option Spread → Decomp
finished_decomp x None = x
finished_decomp x (Some sp) = record x { dim = sp.dim; dist = sp.dist }

abbrev pub finished_decomps : List Decomp → List Spread → List Decomp
finished_decomps [] sps = []
finished_decomps (x ∷ xs) [] = x ∷ finished_decomps xs []
finished_decomps (x ∷ xs) (sp ∷ sps) = finished_decomp x (Some sp) ∷ finished_decomps xs sps

abbrev pub spread_dim : Option Spread → ℕ
spread_dim None = 0
spread_dim (Some x) = x.dim

-- an array with its decomposition, and where it lies along the distributed dimension of that one
abbrev pub finished_array : List Spread → Array → Option Alignment → Array
finished_array sps a None = a
finished_array sps a (Some g) = record a { decomp = Some g.decomp; along = get_or g.along (spread_dim (slice_get sps g.decomp)) (Fixed 0) }

abbrev pub finished_arrays : List Spread → List Array → List (Option Alignment) → List Array
finished_arrays sps [] gs = []
finished_arrays sps (a ∷ xs) [] = a ∷ finished_arrays sps xs []
finished_arrays sps (a ∷ xs) (g ∷ gs) = finished_array sps a g ∷ finished_arrays sps xs gs

-- an array is distributed where its decomposition is
abbrev pub is_dealt_by : List Spread → Option Alignment → Bool
is_dealt_by sps None = false
is_dealt_by sps (Some g) = is_spread_at (slice_get sps g.decomp)

abbrev pub dealt_arrays : Base → List Bool
dealt_arrays b = map (is_dealt_by b.spreads) b.alignments

-- before any of these declarations
abbrev pub nothing_declared : List DeclTree → Base
nothing_declared xs = record { table = record { entries = []; made = make_all xs []; made_arrays = make_arrays xs [] }; arrays = []; sizes = []; alignments = []; decomps = []; spreads = [] }

abbrev pub declare_all : List DeclTree → Seen → Base → Base
declare_all [] s b = b
declare_all (x ∷ xs) s b = declare_all xs (see_decl b x s) (declare x s b)

abbrev pub see_decls : List DeclTree → Seen → Base → Seen
see_decls [] s b = s
see_decls (x ∷ xs) s b = see_decls xs (see_decl b x s) (declare x s b)

abbrev pub decls_refusals : List DeclTree → Seen → Base → List Refusal
decls_refusals [] s b = []
decls_refusals (x ∷ xs) s b = decl_refusals x s b ++ decls_refusals xs (see_decl b x s) (declare x s b)
