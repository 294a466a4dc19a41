-- DISTRIBUTE: what is wrong in one, and how it deals the positions of a dimension.
use Rattle.std.specs.Prelude.{ℕ, ◌+◌, ℤ, pos, negsuc, ◌++◌, Bool, not, ◌&&◌, nat_eq, nat_le, length, if◌then◌else◌, List, [], ◌∷◌, Option, None, Some, is_some}
use Rattle.fd_base.specs.declared.numbering.Line.{Line}
use Rattle.fd_base.specs.declared.shapes.Dist.{Dist}
use Rattle.fd_base.specs.declared.shapes.Dist.TheVariants.{Block, Cyclic, BlockCyclic}
use Rattle.fd_ast.specs.Tree.{AttrTree, WholeAttr, BlockAttr, CyclicAttr, BlockCyclicAttr, MapAttr}
use Rattle.fd_names.specs.declared.book.Seen.{Seen}
use Rattle.fd_names.specs.declared.declarations.Spread.{Spread}
use Rattle.fd_names.specs.declared.names.Use.{Use}
use Rattle.fd_names.specs.declared.names.Use.TheVariants as as_name
use Rattle.fd_names.specs.declared.refusal.Cause.{Cause}
use Rattle.fd_names.specs.declared.refusal.Cause.TheVariants.{NotDeclared, NotConstant, DistributeBad, LeftOut}
use Rattle.fd_names.specs.Constants.{constant_of}
use Rattle.fd_names.specs.Expressions.{causes, see, meant}
use Rattle.fd_names.specs.First.{given}
use Rattle.fd_names.specs.Names.{Declared}

abbrev pub most_positions : ℕ
most_positions = 262144

-- a size of blocks is from 1 to 262,144
abbrev pub block_from : ℤ → Option Dist
block_from (pos n) = if nat_le 1 n && nat_le n most_positions then Some (BlockCyclic n) else None
block_from (negsuc n) = None

abbrev pub block_causes : Option ℤ → List Cause
block_causes None = NotConstant ∷ []
block_causes (Some z) = given (not (is_some (block_from z))) DistributeBad

-- how a block size that is wrong deals is as good as any
abbrev pub or_block : Option Dist → Dist
or_block None = Block
or_block (Some x) = x

abbrev pub block_meant : Option ℤ → Dist
block_meant None = Block
block_meant (Some z) = or_block (block_from z)

-- ---- attributes

abbrev pub see_attr : Declared → Line → AttrTree → Seen → Seen
see_attr d l WholeAttr s = s
see_attr d l BlockAttr s = s
see_attr d l CyclicAttr s = s
see_attr d l (BlockCyclicAttr e) s = see d l e s
see_attr d l (MapAttr n) s = s

abbrev pub attr_causes : Declared → Line → AttrTree → Seen → List Cause
attr_causes d l WholeAttr s = []
attr_causes d l BlockAttr s = []
attr_causes d l CyclicAttr s = []
attr_causes d l (BlockCyclicAttr e) s = causes d l e ++ block_causes (constant_of (meant d l e s))
attr_causes d l (MapAttr n) s = LeftOut ∷ []

-- how an attribute deals the positions of its dimension; `:` doesn't
abbrev pub attr_meant : Declared → Line → AttrTree → Seen → Option Dist
attr_meant d l WholeAttr s = None
attr_meant d l BlockAttr s = Some Block
attr_meant d l CyclicAttr s = Some Cyclic
attr_meant d l (BlockCyclicAttr e) s = Some (block_meant (constant_of (meant d l e s)))
attr_meant d l (MapAttr n) s = Some Block

abbrev pub see_attrs : Declared → Line → List AttrTree → Seen → Seen
see_attrs d l [] s = s
see_attrs d l (x ∷ xs) s = see_attrs d l xs (see_attr d l x s)

abbrev pub attrs_causes : Declared → Line → List AttrTree → Seen → List Cause
attrs_causes d l [] s = []
attrs_causes d l (x ∷ xs) s = attr_causes d l x s ++ attrs_causes d l xs (see_attr d l x s)

abbrev pub attrs_meant : Declared → Line → List AttrTree → Seen → List (Option Dist)
attrs_meant d l [] s = []
attrs_meant d l (x ∷ xs) s = attr_meant d l x s ∷ attrs_meant d l xs (see_attr d l x s)

-- ---- the distributed dimension

-- how many attributes are other than `:`
abbrev pub dealt : List (Option Dist) → ℕ
dealt [] = 0
dealt (None ∷ xs) = dealt xs
dealt (Some x ∷ xs) = 1 + dealt xs

abbrev pub on_dim : ℕ → Dist → Spread
on_dim k x = record { dim = k; dist = Some x }

-- the one attribute other than `:` and its dimension; where something is wrong one is as good as any
abbrev pub spread_from : List (Option Dist) → Spread
spread_from [] = on_dim 0 Block
spread_from (Some x ∷ xs) = on_dim 0 x
spread_from (None ∷ []) = on_dim 0 Block
spread_from (None ∷ (Some x ∷ xs)) = on_dim 1 x
spread_from (None ∷ (None ∷ xs)) = on_dim 0 Block

-- ---- what is wrong

-- the name is a decomposition, or an array that isn't aligned
abbrev pub subject_causes : Use → Bool → List Cause
subject_causes (as_name.Decomp k d) aligned = []
subject_causes (as_name.Array k d) aligned = given aligned DistributeBad
subject_causes as_name.Unknown aligned = NotDeclared ∷ []
subject_causes as_name.Scalar aligned = DistributeBad ∷ []
subject_causes (as_name.Constant z) aligned = DistributeBad ∷ []

-- how many dimensions there are to distribute
abbrev pub dims_of_use : Use → Option ℕ
dims_of_use (as_name.Decomp k d) = Some d
dims_of_use (as_name.Array k d) = Some d
dims_of_use as_name.Unknown = None
dims_of_use as_name.Scalar = None
dims_of_use (as_name.Constant z) = None

-- one attribute for each dimension
abbrev pub count_causes : Option ℕ → ℕ → List Cause
count_causes None n = []
count_causes (Some d) n = given (not (nat_eq n d)) DistributeBad

-- all that is wrong with attributes for a name; `before`: it is distributed already
abbrev pub spread_causes : Use → Bool → Bool → List (Option Dist) → List Cause
spread_causes u aligned before xs =
    subject_causes u aligned ++ (count_causes (dims_of_use u) (length xs) ++ (given (not (nat_eq (dealt xs) 1)) DistributeBad ++ given before DistributeBad))
