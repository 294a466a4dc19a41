-- ALIGN: what is wrong in one, and where it puts the elements of its array.
use Rattle.std.specs.Prelude.{ℕ, ◌+◌, ℤ, pos, neg_ℤ, ◌+ℤ◌, ◌-ℤ◌, int_le, int_lt, ◌++◌, Bool, true, false, not, ◌&&◌, ◌||◌, nat_eq, nat_lt, length, if◌then◌else◌, List, [], ◌∷◌, Option, None, Some, is_some, unwrap_or}
use Rattle.std.specs.List.{list_any, position}
use Rattle.std.specs.Str.{bytes_eq}
use Rattle.fd_base.specs.declared.numbering.Line.{Line}
use Rattle.fd_base.specs.declared.shapes.Shape.{Shape}
use Rattle.fd_base.specs.declared.shapes.Along.{Along}
use Rattle.fd_base.specs.declared.shapes.Along.TheVariants.{Fixed, Dim}
use Rattle.fd_base.specs.Numbers.{at_least_zero, fits_i64}
use Rattle.fd_base.specs.Shapes.{low_of, extent_of}
use Rattle.fd_ast.specs.declared.expression.Op.{Op}
use Rattle.fd_ast.specs.declared.expression.Op.TheVariants as op
use Rattle.fd_ast.specs.Tree.{ExprTree, ExprTrees, NoExprs}
use Rattle.fd_ast.specs.Tree as tree
use Rattle.fd_names.specs.declared.alignments.Aim.{Aim}
use Rattle.fd_names.specs.declared.book.Seen.{Seen}
use Rattle.fd_names.specs.declared.names.Use.{Use}
use Rattle.fd_names.specs.declared.names.Use.TheVariants as as_name
use Rattle.fd_names.specs.declared.refusal.Cause.{Cause}
use Rattle.fd_names.specs.declared.refusal.Cause.TheVariants.{NotDeclared, NotConstant, AlignBad}
use Rattle.fd_names.specs.Constants.{constant_of}
use Rattle.fd_names.specs.Expressions.{causes, see, meant}
use Rattle.fd_names.specs.First.{given}
use Rattle.fd_names.specs.Names.{Declared, has_name}

-- ---- dummies

-- the dimension of the array that a dummy stands for
unfoldable pub dummy_in : List (List ℕ) → List ℕ → Option ℕ
dummy_in ds n = position (bytes_eq n) ds

-- a name stands twice
abbrev pub has_twice : List (List ℕ) → Bool
has_twice [] = false
has_twice (n ∷ ns) = has_name ns n || has_twice ns

-- stands for a dummy where no dummy may stand: it has no value, and names nothing
abbrev pub no_value : ExprTree
no_value = tree.Joined op.Div (tree.Number (pos 1)) (tree.Number (pos 0))

abbrev pub cleared_name : Option ℕ → List ℕ → ExprTree
cleared_name None n = tree.Named n
cleared_name (Some k) n = no_value

abbrev mutual
  -- an expression in which no dummy has a value; dummies aren't looked up among the declared names
  pub cleared : List (List ℕ) → ExprTree → ExprTree
  cleared ds (tree.Number z) = tree.Number z
  cleared ds (tree.Named n) = cleared_name (dummy_in ds n) n
  cleared ds (tree.Applied n es) = tree.Applied n (all_cleared ds es)
  cleared ds (tree.Negated e) = tree.Negated (cleared ds e)
  cleared ds (tree.Joined o a b) = tree.Joined o (cleared ds a) (cleared ds b)

  pub all_cleared : List (List ℕ) → ExprTrees → ExprTrees
  all_cleared ds NoExprs = NoExprs
  all_cleared ds (tree.Expr e es) = tree.Expr (cleared ds e) (all_cleared ds es)

-- ---- targets

-- a target as it is written: a dummy's dimension alone, with an offset added or taken off, or what is no dummy in front
pub data TargetTree : Type 0 where
  Alone : ℕ → TargetTree
  Plus : ℕ → ExprTree → TargetTree
  Minus : ℕ → ExprTree → TargetTree
  Other : ExprTree → TargetTree

abbrev pub dummy_of : List (List ℕ) → ExprTree → Option ℕ
dummy_of ds (tree.Named n) = dummy_in ds n
dummy_of ds (tree.Number z) = None
dummy_of ds (tree.Applied n es) = None
dummy_of ds (tree.Negated e) = None
dummy_of ds (tree.Joined o a b) = None

abbrev pub offset_tree : Op → Option ℕ → ExprTree → ExprTree → TargetTree
offset_tree op.Add (Some k) a b = Plus k b
offset_tree op.Sub (Some k) a b = Minus k b
offset_tree op.Add None a b = Other (tree.Joined op.Add a b)
offset_tree op.Sub None a b = Other (tree.Joined op.Sub a b)
offset_tree op.Mul o a b = Other (tree.Joined op.Mul a b)
offset_tree op.Div o a b = Other (tree.Joined op.Div a b)

abbrev pub alone_tree : Option ℕ → List ℕ → TargetTree
alone_tree (Some k) n = Alone k
alone_tree None n = Other (tree.Named n)

-- a dummy stands in front or not at all: `1+I` and `I+1+1` are none of a dummy
abbrev pub target_tree : List (List ℕ) → ExprTree → TargetTree
target_tree ds (tree.Named n) = alone_tree (dummy_in ds n) n
target_tree ds (tree.Joined o a b) = offset_tree o (dummy_of ds a) a b
target_tree ds (tree.Number z) = Other (tree.Number z)
target_tree ds (tree.Applied n es) = Other (tree.Applied n es)
target_tree ds (tree.Negated e) = Other (tree.Negated e)

-- what is looked up in a target
abbrev pub looked_up : List (List ℕ) → TargetTree → ExprTree
looked_up ds (Alone k) = tree.Number (pos 0)
looked_up ds (Plus k e) = cleared ds e
looked_up ds (Minus k e) = cleared ds e
looked_up ds (Other e) = cleared ds e

abbrev pub aim_from : TargetTree → Option ℤ → Aim
aim_from (Alone k) v = record { dim = Some k; minus = false; value = pos 0 }
aim_from (Plus k e) v = record { dim = Some k; minus = false; value = unwrap_or v (pos 0) }
aim_from (Minus k e) v = record { dim = Some k; minus = true; value = unwrap_or v (pos 0) }
aim_from (Other e) v = record { dim = None; minus = false; value = unwrap_or v (pos 0) }

-- an offset at a dummy is constant; a target without a dummy in front is a constant
abbrev pub aim_causes : TargetTree → Option ℤ → List Cause
aim_causes (Alone k) v = []
aim_causes (Plus k e) v = given (not (is_some v)) NotConstant
aim_causes (Minus k e) v = given (not (is_some v)) NotConstant
aim_causes (Other e) v = given (not (is_some v)) AlignBad

abbrev pub value_at : Declared → Line → List (List ℕ) → ExprTree → Seen → Option ℤ
value_at d l ds e s = constant_of (meant d l (looked_up ds (target_tree ds e)) s)

abbrev pub target_causes : Declared → Line → List (List ℕ) → ExprTree → Seen → List Cause
target_causes d l ds e s = causes d l (looked_up ds (target_tree ds e)) ++ aim_causes (target_tree ds e) (value_at d l ds e s)

abbrev pub see_aim : Declared → Line → List (List ℕ) → ExprTree → Seen → Seen
see_aim d l ds e s = see d l (looked_up ds (target_tree ds e)) s

abbrev pub aim_of : Declared → Line → List (List ℕ) → ExprTree → Seen → Aim
aim_of d l ds e s = aim_from (target_tree ds e) (value_at d l ds e s)

abbrev pub aims_causes : Declared → Line → List (List ℕ) → ExprTrees → Seen → List Cause
aims_causes d l ds NoExprs s = []
aims_causes d l ds (tree.Expr e es) s = target_causes d l ds e s ++ aims_causes d l ds es (see_aim d l ds e s)

abbrev pub see_aims : Declared → Line → List (List ℕ) → ExprTrees → Seen → Seen
see_aims d l ds NoExprs s = s
see_aims d l ds (tree.Expr e es) s = see_aims d l ds es (see_aim d l ds e s)

abbrev pub aims_of : Declared → Line → List (List ℕ) → ExprTrees → Seen → List Aim
aims_of d l ds NoExprs s = []
aims_of d l ds (tree.Expr e es) s = aim_of d l ds e s ∷ aims_of d l ds es (see_aim d l ds e s)

-- ---- positions

-- what is added to the array's subscript
abbrev pub offset_of : Aim → ℤ
offset_of a = if a.minus then neg_ℤ a.value else a.value

-- what is added to the array's subscript for a zero-based position: the decomposition's lower bound is taken off
abbrev pub shift_at : Shape → ℕ → Aim → ℤ
shift_at onto t a = offset_of a -ℤ low_of onto t

-- the array's elements have positions from 0 to below the extent
abbrev pub inside_by : Option ℕ → Shape → ℕ → ℤ → Bool
inside_by None shape extent shift = int_le (pos 0) shift && int_lt shift (pos extent)
inside_by (Some k) shape extent shift = nat_lt k shape.dims && nat_lt k 2 && fits_i64 shift && int_le (pos 0) (low_of shape k +ℤ shift) && int_le (low_of shape k +ℤ shift +ℤ pos (extent_of shape k)) (pos extent)

-- every element of the array has a position inside the decomposition's dimension
abbrev pub is_inside : Shape → Shape → ℕ → Aim → Bool
is_inside shape onto t a = inside_by a.dim shape (extent_of onto t) (shift_at onto t a)

abbrev pub are_inside : Shape → Shape → ℕ → List Aim → Bool
are_inside shape onto t [] = true
are_inside shape onto t (a ∷ as_) = is_inside shape onto t a && are_inside shape onto (t + 1) as_

-- where the array lies along one dimension of the decomposition; a place where something is wrong is as good as any
abbrev pub along_by : Option ℕ → ℤ → Along
along_by None shift = Fixed (at_least_zero shift)
along_by (Some k) shift = Dim k shift

abbrev pub along_at : Shape → Shape → ℕ → Aim → Along
along_at shape onto t a = if is_inside shape onto t a then along_by a.dim (shift_at onto t a) else Fixed 0

abbrev pub two_alongs : Shape → Shape → List Aim → List Along
two_alongs shape onto [] = Fixed 0 ∷ (Fixed 0 ∷ [])
two_alongs shape onto (a ∷ []) = along_at shape onto 0 a ∷ (Fixed 0 ∷ [])
two_alongs shape onto (a ∷ (b ∷ as_)) = along_at shape onto 0 a ∷ (along_at shape onto 1 b ∷ [])

-- each dimension of the array onto the same one of the decomposition
abbrev pub identity_aims : ℕ → List Aim
identity_aims dims = if nat_eq dims 1 then record { dim = Some 0; minus = false; value = pos 0 } ∷ [] else record { dim = Some 0; minus = false; value = pos 0 } ∷ (record { dim = Some 1; minus = false; value = pos 0 } ∷ [])

-- ---- what is wrong

-- a dimension of the array stands in two targets
abbrev pub aims_at : Option ℕ → Option ℕ → Bool
aims_at None o = false
aims_at (Some k) None = false
aims_at (Some k) (Some j) = nat_eq k j

abbrev pub is_used_twice : List Aim → Bool
is_used_twice [] = false
is_used_twice (a ∷ as_) = list_any (λ (b : Aim). aims_at a.dim b.dim) as_ || is_used_twice as_

-- the array's name, and whether it is aligned already
abbrev pub aligned_causes : Use → Bool → List Cause
aligned_causes (as_name.Array k d) before = given before AlignBad
aligned_causes as_name.Unknown before = NotDeclared ∷ []
aligned_causes as_name.Scalar before = AlignBad ∷ []
aligned_causes (as_name.Constant z) before = AlignBad ∷ []
aligned_causes (as_name.Decomp k d) before = AlignBad ∷ []

-- the decomposition's name
abbrev pub onto_causes : Use → List Cause
onto_causes (as_name.Decomp k d) = []
onto_causes as_name.Unknown = NotDeclared ∷ []
onto_causes as_name.Scalar = AlignBad ∷ []
onto_causes (as_name.Constant z) = AlignBad ∷ []
onto_causes (as_name.Array k d) = AlignBad ∷ []

-- dummies, one for each dimension of the array and each once, and targets, one for each dimension of the decomposition
abbrev pub long_causes : Shape → Shape → List (List ℕ) → List Aim → List Cause
long_causes shape onto ds as_ =
    given (not (nat_eq (length ds) shape.dims)) AlignBad ++ (given (has_twice ds) AlignBad ++ (given (not (nat_eq (length as_) onto.dims)) AlignBad
    ++ (given (is_used_twice as_) AlignBad ++ given (not (are_inside shape onto 0 as_)) AlignBad)))

-- without dummies and targets: as many dimensions, and all elements inside
abbrev pub short_causes : Shape → Shape → List Cause
short_causes shape onto = given (not (nat_eq shape.dims onto.dims)) AlignBad ++ given (not (are_inside shape onto 0 (identity_aims shape.dims))) AlignBad

-- ALIGN A WITH D
abbrev pub is_short : List (List ℕ) → ExprTrees → Bool
is_short [] NoExprs = true
is_short [] (tree.Expr e es) = false
is_short (n ∷ ns) es = false
