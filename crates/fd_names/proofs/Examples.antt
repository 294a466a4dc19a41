-- Small trees, checked by computing with the definitions.
use Rattle.std.proofs.Common.{◌≡◌, refl, ℕ, ◌+◌, pos, List, [], ◌∷◌, codes, Option, None, Some, map}
use Rattle.std.specs.List.{range_with_len}
use Rattle.fd_base.specs.declared.numbering.Line.{Line}
use Rattle.fd_base.specs.declared.limit.Limit.TheVariants as limits
use Rattle.fd_ast.specs.declared.expression.Op.TheVariants.{Add, Div}
use Rattle.fd_ast.specs.Tree.{ExprTree, ExprTrees, Number, Named, Applied, Negated, Joined, NoExprs, Expr, DimTree, DeclTree, ConstantDecl, IntegerDecl, DecompDecl, AssignStmt, DoStmt, ReadStmt, StmtTrees, NoStmts, Stmt}
use Rattle.fd_names.specs.declared.refusal.Cause.{Cause}
use Rattle.fd_names.specs.declared.refusal.Cause.TheVariants.{NotDeclared, DeclaredTwice, WrongShape, NotConstant, BadBounds, DoVarAssigned, TooMany}
use Rattle.fd_names.specs.declared.refusal.Refusal.{Refusal}
use Rattle.fd_names.specs.Checked.{refusals_of}
use Rattle.fd_names.specs.First.{met}
use Rattle.fd_names.specs.Names.{find_name, with_entry, is_made, with_made, with_name, number_in, has_name, is_implicit, use_of, func_of, callee_of}

abbrev line : ℕ → Line
line n = record { 0 = n }

-- the first refusal of declarations and a body
abbrev first : List DeclTree → StmtTrees → Option Refusal
first decls body = met (refusals_of (record { decls = decls; body = body })) None

abbrev refused : ℕ → Cause → Option Refusal
refused n cause = Some (record { line = line n; cause = cause })

abbrev number : ℕ → ExprTree
number n = Number (pos n)

abbrev A : ExprTree
A = Named (codes "A")

abbrev I : ExprTree
I = Named (codes "I")

abbrev K : ExprTree
K = Named (codes "K")

abbrev N : ExprTree
N = Named (codes "N")

abbrev X : ExprTree
X = Named (codes "X")

abbrev one : ExprTree → ExprTrees
one e = Expr e NoExprs

abbrev two : ExprTree → ExprTree → ExprTrees
two e f = Expr e (Expr f NoExprs)

abbrev up_to : ExprTree → DimTree
up_to e = record { low = number 1; high = e }

abbrev range : ExprTree → ExprTree → DimTree
range e f = record { low = e; high = f }

abbrev integer : ℕ → List ℕ → List DimTree → DeclTree
integer n name dims = IntegerDecl (line n) name dims

abbrev parameter : ℕ → List ℕ → ExprTree → DeclTree
parameter n name e = ConstantDecl (line n) name e

abbrev set : ℕ → ExprTree → ExprTree → StmtTrees
set n t e = Stmt (AssignStmt (line n) t e) NoStmts

abbrev loop : ℕ → List ℕ → StmtTrees → StmtTrees
loop n name body = Stmt (DoStmt (line n) name (number 1) (number 2) (number 1) body) NoStmts

abbrev largest : ExprTree
largest = number 9223372036854775807

-- X = 1
undeclared : first ([]) (set 1 X (number 1)) ≡ refused 1 NotDeclared
unfolding find_name with_entry is_made with_made with_name number_in has_name is_implicit use_of func_of callee_of
undeclared = refl

-- K = 1
implicit : first ([]) (set 1 K (number 1)) ≡ None
unfolding find_name with_entry is_made with_made with_name number_in has_name is_implicit use_of func_of callee_of
implicit = refl

-- INTEGER A(2), A(3)
twice : first (integer 1 (codes "A") (up_to (number 2) ∷ []) ∷ (integer 1 (codes "A") (up_to (number 3) ∷ []) ∷ [])) (NoStmts) ≡ refused 1 DeclaredTwice
unfolding find_name with_entry is_made with_made with_name number_in has_name is_implicit use_of func_of callee_of
twice = refl

-- PARAMETER (N = 3, N = 4)
constant_twice : first (parameter 1 (codes "N") (number 3) ∷ (parameter 1 (codes "N") (number 4) ∷ [])) (NoStmts) ≡ refused 1 DeclaredTwice
unfolding find_name with_entry is_made with_made with_name number_in has_name is_implicit use_of func_of callee_of
constant_twice = refl

-- INTEGER X / PARAMETER (X = 3) / K = X
scalar_to_constant : first (integer 1 (codes "X") [] ∷ (parameter 2 (codes "X") (number 3) ∷ [])) (set 3 K X) ≡ None
unfolding find_name with_entry is_made with_made with_name number_in has_name is_implicit use_of func_of callee_of
scalar_to_constant = refl

-- PARAMETER (X = 3)
undeclared_constant : first (parameter 1 (codes "X") (number 3) ∷ []) (NoStmts) ≡ refused 1 NotDeclared
unfolding find_name with_entry is_made with_made with_name number_in has_name is_implicit use_of func_of callee_of
undeclared_constant = refl

-- PARAMETER (N = 3, M = N)
constant_of_its_line : first (parameter 1 (codes "N") (number 3) ∷ (parameter 1 (codes "M") N ∷ [])) (NoStmts) ≡ refused 1 NotDeclared
unfolding find_name with_entry is_made with_made with_name number_in has_name is_implicit use_of func_of callee_of
constant_of_its_line = refl

-- INTEGER K, A(K)
scalar_of_its_line : first (integer 1 (codes "K") [] ∷ (integer 1 (codes "A") (up_to K ∷ []) ∷ [])) (NoStmts) ≡ refused 1 NotConstant
unfolding find_name with_entry is_made with_made with_name number_in has_name is_implicit use_of func_of callee_of
scalar_of_its_line = refl

-- INTEGER A(2), B(A(1))
array_of_its_line : first (integer 1 (codes "A") (up_to (number 2) ∷ []) ∷ (integer 1 (codes "B") (up_to (Applied (codes "A") (one (number 1))) ∷ []) ∷ [])) (NoStmts) ≡ refused 1 NotDeclared
unfolding find_name with_entry is_made with_made with_name number_in has_name is_implicit use_of func_of callee_of
array_of_its_line = refl

-- INTEGER K(K)
array_in_its_bound : first (integer 1 (codes "K") (up_to K ∷ []) ∷ []) NoStmts ≡ refused 1 NotDeclared
unfolding find_name with_entry is_made with_made with_name number_in has_name is_implicit use_of func_of callee_of
array_in_its_bound = refl

-- PARAMETER (N = N)
constant_in_its_value : first (parameter 1 (codes "N") N ∷ []) NoStmts ≡ refused 1 NotDeclared
unfolding find_name with_entry is_made with_made with_name number_in has_name is_implicit use_of func_of callee_of
constant_in_its_value = refl

-- PARAMETER (M = N, N = 3)
constant_before_its_value : first (parameter 1 (codes "M") N ∷ (parameter 1 (codes "N") (number 3) ∷ [])) NoStmts ≡ refused 1 NotDeclared
unfolding find_name with_entry is_made with_made with_name number_in has_name is_implicit use_of func_of callee_of
constant_before_its_value = refl

-- INTEGER A(N), N(2)
array_before_its_bounds : first (integer 1 (codes "A") (up_to N ∷ []) ∷ (integer 1 (codes "N") (up_to (number 2) ∷ []) ∷ [])) NoStmts ≡ refused 1 NotDeclared
unfolding find_name with_entry is_made with_made with_name number_in has_name is_implicit use_of func_of callee_of
array_before_its_bounds = refl

-- INTEGER A(K), K
scalar_behind_its_use : first (integer 1 (codes "A") (up_to K ∷ []) ∷ (integer 1 (codes "K") [] ∷ [])) NoStmts ≡ refused 1 NotConstant
unfolding find_name with_entry is_made with_made with_name number_in has_name is_implicit use_of func_of callee_of
scalar_behind_its_use = refl

-- INTEGER N / PARAMETER (M = N, N = 3)
scalar_that_becomes_constant : first (integer 1 (codes "N") [] ∷ (parameter 2 (codes "M") N ∷ (parameter 2 (codes "N") (number 3) ∷ []))) NoStmts ≡ refused 2 NotDeclared
unfolding find_name with_entry is_made with_made with_name number_in has_name is_implicit use_of func_of callee_of
scalar_that_becomes_constant = refl

-- PARAMETER (N = 3) / INTEGER A(N), N(2) and INTEGER N(2), A(N)
constant_declared_again : first (parameter 1 (codes "N") (number 3) ∷ (integer 2 (codes "A") (up_to N ∷ []) ∷ (integer 2 (codes "N") (up_to (number 2) ∷ []) ∷ []))) NoStmts ≡ refused 2 NotDeclared
unfolding find_name with_entry is_made with_made with_name number_in has_name is_implicit use_of func_of callee_of
constant_declared_again = refl

declared_again_before : first (parameter 1 (codes "N") (number 3) ∷ (integer 2 (codes "N") (up_to (number 2) ∷ []) ∷ (integer 2 (codes "A") (up_to N ∷ []) ∷ []))) NoStmts ≡ refused 2 NotDeclared
unfolding find_name with_entry is_made with_made with_name number_in has_name is_implicit use_of func_of callee_of
declared_again_before = refl

-- INTEGER X / INTEGER X, A(X) and INTEGER A(X), X
scalar_declared_again : first (integer 1 (codes "X") [] ∷ (integer 2 (codes "X") [] ∷ (integer 2 (codes "A") (up_to X ∷ []) ∷ []))) NoStmts ≡ refused 2 DeclaredTwice
unfolding find_name with_entry is_made with_made with_name number_in has_name is_implicit use_of func_of callee_of
scalar_declared_again = refl

scalar_again_behind : first (integer 1 (codes "X") [] ∷ (integer 2 (codes "A") (up_to X ∷ []) ∷ (integer 2 (codes "X") [] ∷ []))) NoStmts ≡ refused 2 DeclaredTwice
unfolding find_name with_entry is_made with_made with_name number_in has_name is_implicit use_of func_of callee_of
scalar_again_behind = refl

-- PARAMETER (N = 3) / INTEGER A(N)
constant_of_an_earlier_line : first (parameter 1 (codes "N") (number 3) ∷ (integer 2 (codes "A") (up_to N ∷ []) ∷ [])) (set 3 (Applied (codes "A") (one (number 3))) N) ≡ None
unfolding find_name with_entry is_made with_made with_name number_in has_name is_implicit use_of func_of callee_of
constant_of_an_earlier_line = refl

-- INTEGER A(2) / A = 1
no_subscripts : first (integer 1 (codes "A") (up_to (number 2) ∷ []) ∷ []) (set 2 A (number 1)) ≡ refused 2 WrongShape
unfolding find_name with_entry is_made with_made with_name number_in has_name is_implicit use_of func_of callee_of
no_subscripts = refl

-- INTEGER A(2) / K = A(1,1)
many_subscripts : first (integer 1 (codes "A") (up_to (number 2) ∷ []) ∷ []) (set 2 K (Applied (codes "A") (two (number 1) (number 1)))) ≡ refused 2 WrongShape
unfolding find_name with_entry is_made with_made with_name number_in has_name is_implicit use_of func_of callee_of
many_subscripts = refl

-- K(3) = 1
scalar_with_subscripts : first ([]) (set 1 (Applied (codes "K") (one (number 3))) (number 1)) ≡ refused 1 WrongShape
unfolding find_name with_entry is_made with_made with_name number_in has_name is_implicit use_of func_of callee_of
scalar_with_subscripts = refl

-- N = K(3)
scalar_as_function : first ([]) (set 1 N (Applied (codes "K") (one (number 3)))) ≡ refused 1 NotDeclared
unfolding find_name with_entry is_made with_made with_name number_in has_name is_implicit use_of func_of callee_of
scalar_as_function = refl

-- MOD = MOD(3,2)
function_beside_scalar : first ([]) (set 1 (Named (codes "MOD")) (Applied (codes "MOD") (two (number 3) (number 2)))) ≡ None
unfolding find_name with_entry is_made with_made with_name number_in has_name is_implicit use_of func_of callee_of
function_beside_scalar = refl

-- INTEGER ABS(2,2) / K = ABS(1,2)
array_named_as_function : first (integer 1 (codes "ABS") (up_to (number 2) ∷ (up_to (number 2) ∷ [])) ∷ []) (set 2 K (Applied (codes "ABS") (two (number 1) (number 2)))) ≡ None
unfolding find_name with_entry is_made with_made with_name number_in has_name is_implicit use_of func_of callee_of
array_named_as_function = refl

-- MOD(5,3)
abbrev five_mod_three : ExprTree
five_mod_three = Applied (codes "MOD") (two (number 5) (number 3))

-- INTEGER MOD(3), B(MOD(5,3))
function_where_made_array : first (integer 1 (codes "MOD") (up_to (number 3) ∷ []) ∷ (integer 1 (codes "B") (up_to five_mod_three ∷ []) ∷ [])) (NoStmts) ≡ refused 1 NotDeclared
unfolding find_name with_entry is_made with_made with_name number_in has_name is_implicit use_of func_of callee_of
function_where_made_array = refl

-- INTEGER B(MOD(5,3)), MOD(0)
function_before_its_array : first (integer 1 (codes "B") (up_to five_mod_three ∷ []) ∷ (integer 1 (codes "MOD") (up_to (number 0) ∷ []) ∷ [])) (NoStmts) ≡ refused 1 NotDeclared
unfolding find_name with_entry is_made with_made with_name number_in has_name is_implicit use_of func_of callee_of
function_before_its_array = refl

-- INTEGER MOD, B(MOD(5,3))
function_where_made_scalar : first (integer 1 (codes "MOD") [] ∷ (integer 1 (codes "B") (up_to five_mod_three ∷ []) ∷ [])) (NoStmts) ≡ None
unfolding find_name with_entry is_made with_made with_name number_in has_name is_implicit use_of func_of callee_of
function_where_made_scalar = refl

-- PARAMETER (MOD = 3, N = MOD(5,3))
function_where_made_constant : first (parameter 1 (codes "MOD") (number 3) ∷ (parameter 1 (codes "N") five_mod_three ∷ [])) (NoStmts) ≡ None
unfolding find_name with_entry is_made with_made with_name number_in has_name is_implicit use_of func_of callee_of
function_where_made_constant = refl

-- K = MIN(1)
few_arguments : first ([]) (set 1 K (Applied (codes "MIN") (one (number 1)))) ≡ refused 1 WrongShape
unfolding find_name with_entry is_made with_made with_name number_in has_name is_implicit use_of func_of callee_of
few_arguments = refl

-- PARAMETER (N = 3) / N = 1
constant_set : first (parameter 1 (codes "N") (number 3) ∷ []) (set 2 N (number 1)) ≡ refused 2 WrongShape
unfolding find_name with_entry is_made with_made with_name number_in has_name is_implicit use_of func_of callee_of
constant_set = refl

-- INTEGER A(1,1,1)
three_dimensions : first (integer 1 (codes "A") (up_to (number 1) ∷ (up_to (number 1) ∷ (up_to (number 1) ∷ []))) ∷ []) (NoStmts) ≡ refused 1 WrongShape
unfolding find_name with_entry is_made with_made with_name number_in has_name is_implicit use_of func_of callee_of
three_dimensions = refl

-- INTEGER A(K)
not_constant : first (integer 1 (codes "A") (up_to K ∷ []) ∷ []) (NoStmts) ≡ refused 1 NotConstant
unfolding find_name with_entry is_made with_made with_name number_in has_name is_implicit use_of func_of callee_of
not_constant = refl

-- PARAMETER (N = 9223372036854775807 + 1)
constant_that_faults : first (parameter 1 (codes "N") (Joined Add largest (number 1)) ∷ []) (NoStmts) ≡ refused 1 NotConstant
unfolding find_name with_entry is_made with_made with_name number_in has_name is_implicit use_of func_of callee_of
constant_that_faults = refl

-- INTEGER A(1/0)
divided_by_zero : first (integer 1 (codes "A") (up_to (Joined Div (number 1) (number 0)) ∷ []) ∷ []) (NoStmts) ≡ refused 1 NotConstant
unfolding find_name with_entry is_made with_made with_name number_in has_name is_implicit use_of func_of callee_of
divided_by_zero = refl

-- INTEGER A(MAX(MOD(7,4),ABS(-2),MIN(9,1)))
functions_of_constants : first (integer 1 (codes "A") (up_to (Applied (codes "MAX") (Expr (Applied (codes "MOD") (two (number 7) (number 4))) (two (Applied (codes "ABS") (one (Negated (number 2)))) (Applied (codes "MIN") (two (number 9) (number 1)))))) ∷ []) ∷ []) (set 2 (Applied (codes "A") (one (number 3))) (number 0)) ≡ None
unfolding find_name with_entry is_made with_made with_name number_in has_name is_implicit use_of func_of callee_of
functions_of_constants = refl

-- INTEGER A(3:2)
low_above_high : first (integer 1 (codes "A") (range (number 3) (number 2) ∷ []) ∷ []) (NoStmts) ≡ refused 1 BadBounds
unfolding find_name with_entry is_made with_made with_name number_in has_name is_implicit use_of func_of callee_of
low_above_high = refl

-- INTEGER A(0)
no_extent : first (integer 1 (codes "A") (up_to (number 0) ∷ []) ∷ []) (NoStmts) ≡ refused 1 BadBounds
unfolding find_name with_entry is_made with_made with_name number_in has_name is_implicit use_of func_of callee_of
no_extent = refl

-- INTEGER A(262145)
largest_extent : first (integer 1 (codes "A") (up_to (number 262145) ∷ []) ∷ []) (NoStmts) ≡ refused 1 BadBounds
unfolding find_name with_entry is_made with_made with_name number_in has_name is_implicit use_of func_of callee_of
largest_extent = refl

-- INTEGER A(2147483648:2147483648), B(-2147483648:-2147483648)
largest_bound : first (integer 1 (codes "A") (range (number 2147483648) (number 2147483648) ∷ []) ∷ (integer 1 (codes "B") (range (Negated (number 2147483648)) (Negated (number 2147483648)) ∷ []) ∷ [])) (NoStmts) ≡ None
unfolding find_name with_entry is_made with_made with_name number_in has_name is_implicit use_of func_of callee_of
largest_bound = refl

-- INTEGER A(2147483649:2147483649)
past_the_bounds : first (integer 1 (codes "A") (range (number 2147483649) (number 2147483649) ∷ []) ∷ []) (NoStmts) ≡ refused 1 BadBounds
unfolding find_name with_entry is_made with_made with_name number_in has_name is_implicit use_of func_of callee_of
past_the_bounds = refl

-- DO I = 1, 2 / I = 3 / ENDDO
variable_set : first ([]) (loop 1 (codes "I") (set 2 I (number 3))) ≡ refused 2 DoVarAssigned
unfolding find_name with_entry is_made with_made with_name number_in has_name is_implicit use_of func_of callee_of
variable_set = refl

-- DO I = 1, 2 / READ *, I / ENDDO
variable_read : first ([]) (loop 1 (codes "I") (Stmt (ReadStmt (line 2) I) NoStmts)) ≡ refused 2 DoVarAssigned
unfolding find_name with_entry is_made with_made with_name number_in has_name is_implicit use_of func_of callee_of
variable_read = refl

-- DO I = 1, 2 / DO I = 1, 2 / ENDDO / ENDDO
variable_twice : first ([]) (loop 1 (codes "I") (loop 2 (codes "I") NoStmts)) ≡ refused 2 DoVarAssigned
unfolding find_name with_entry is_made with_made with_name number_in has_name is_implicit use_of func_of callee_of
variable_twice = refl

-- DO I = 1, 2 / ENDDO / I = 3
variable_afterwards : first ([]) (Stmt (DoStmt (line 1) (codes "I") (number 1) (number 2) (number 1) NoStmts) (set 3 I (number 3))) ≡ None
unfolding find_name with_entry is_made with_made with_name number_in has_name is_implicit use_of func_of callee_of
variable_afterwards = refl

-- INTEGER A(65536)
most_elements : first (integer 1 (codes "A") (up_to (number 65536) ∷ []) ∷ []) (NoStmts) ≡ None
unfolding find_name with_entry is_made with_made with_name number_in has_name is_implicit use_of func_of callee_of
most_elements = refl

-- INTEGER A(256,256) / INTEGER B(1)
too_many_elements : first (integer 1 (codes "A") (up_to (number 256) ∷ (up_to (number 256) ∷ [])) ∷ (integer 2 (codes "B") (up_to (number 1) ∷ []) ∷ [])) (NoStmts) ≡ refused 2 (TooMany limits.Replicated)
unfolding find_name with_entry is_made with_made with_name number_in has_name is_implicit use_of func_of callee_of
too_many_elements = refl

-- DECOMPOSITION D(4)
decomposition : first (DecompDecl (line 1) (codes "D") (up_to (number 4) ∷ []) ∷ []) (NoStmts) ≡ None
unfolding find_name with_entry is_made with_made with_name number_in has_name is_implicit use_of func_of callee_of
decomposition = refl

-- K = X + A, with an array A: 6 before 8
least_number : first (integer 1 (codes "A") (up_to (number 2) ∷ []) ∷ []) (set 2 K (Joined Add A X)) ≡ refused 2 NotDeclared
unfolding find_name with_entry is_made with_made with_name number_in has_name is_implicit use_of func_of callee_of
least_number = refl

-- 8 on line 2 before 6 on line 3
least_line : first (integer 1 (codes "A") (up_to (number 2) ∷ []) ∷ []) (Stmt (AssignStmt (line 2) K A) (set 3 K X)) ≡ refused 2 WrongShape
unfolding find_name with_entry is_made with_made with_name number_in has_name is_implicit use_of func_of callee_of
least_line = refl

-- 129 arrays of one element, each on a line of its own
abbrev arrays : ℕ → List DeclTree
arrays n = map (λ k. integer (k + 1) (65 ∷ (k ∷ [])) (up_to (number 1) ∷ [])) (range_with_len 0 n)

most_arrays : first (arrays 128) NoStmts ≡ None
unfolding find_name with_entry is_made with_made with_name number_in has_name is_implicit use_of func_of callee_of
most_arrays = refl

too_many_arrays : first (arrays 129) NoStmts ≡ refused 129 (TooMany limits.Arrays)
unfolding find_name with_entry is_made with_made with_name number_in has_name is_implicit use_of func_of callee_of
too_many_arrays = refl
