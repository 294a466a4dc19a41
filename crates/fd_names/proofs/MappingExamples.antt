-- Small trees with mapping statements, checked by computing with the definitions.
use Rattle.std.proofs.Common.{◌≡◌, refl, ℕ, pos, negsuc, List, [], ◌∷◌, codes, Option, None, Some, map}
use Rattle.fd_base.specs.declared.numbering.Line.{Line}
use Rattle.fd_base.specs.declared.limit.Limit.TheVariants as limits
use Rattle.fd_ast.specs.declared.expression.Op.TheVariants.{Add, Sub, Mul}
use Rattle.fd_ast.specs.Tree.{ExprTree, ExprTrees, Number, Named, Applied, Negated, Joined, NoExprs, Expr, DimTree, DeclTree, ConstantDecl, IntegerDecl, DecompDecl, AlignDecl, DistributeDecl, AssignStmt, DoStmt, StmtTrees, NoStmts, Stmt, AttrTree, WholeAttr, BlockAttr, CyclicAttr, BlockCyclicAttr}
use Rattle.fd_names.specs.declared.refusal.Cause.{Cause}
use Rattle.fd_names.specs.declared.refusal.Cause.TheVariants.{NotDeclared, NotConstant, AlignBad, DistributeBad, IndexNotLocal, TooMany}
use Rattle.fd_names.specs.declared.refusal.Refusal.{Refusal}
use Rattle.fd_base.specs.declared.shapes.Along.{Along}
use Rattle.fd_base.specs.declared.shapes.Along.TheVariants.{Dim}
use Rattle.fd_base.specs.declared.shapes.Dist.{Dist}
use Rattle.fd_base.specs.declared.shapes.Dist.TheVariants.{Block, Cyclic, BlockCyclic}
use Rattle.fd_prog.specs.declared.program.Array.{Array}
use Rattle.fd_prog.specs.declared.program.Decomp.{Decomp}
use Rattle.fd_names.specs.Alignments.{dummy_in}
use Rattle.fd_names.specs.Checked.{refusals_of, meaning_of}
use Rattle.fd_names.specs.First.{met}
use Rattle.fd_names.specs.Names.{find_name, with_entry, is_made, with_made, with_name, number_in, has_name, is_implicit, use_of, func_of, callee_of}

abbrev line : ℕ → Line
line n = record { 0 = n }

-- the first refusal of declarations and a body
abbrev first : List DeclTree → StmtTrees → Option Refusal
first decls body = met (refusals_of (record { decls = decls; body = body })) None

abbrev refused : ℕ → Cause → Option Refusal
refused n cause = Some (record { line = line n; cause = cause })

abbrev number : ℕ → ExprTree
number n = Number (pos n)

abbrev A : ExprTree
A = Named (codes "A")

abbrev I : ExprTree
I = Named (codes "I")

abbrev K : ExprTree
K = Named (codes "K")

abbrev N : ExprTree
N = Named (codes "N")

abbrev X : ExprTree
X = Named (codes "X")

abbrev one : ExprTree → ExprTrees
one e = Expr e NoExprs

abbrev two : ExprTree → ExprTree → ExprTrees
two e f = Expr e (Expr f NoExprs)

abbrev up_to : ExprTree → DimTree
up_to e = record { low = number 1; high = e }

abbrev range : ExprTree → ExprTree → DimTree
range e f = record { low = e; high = f }

abbrev integer : ℕ → List ℕ → List DimTree → DeclTree
integer n name dims = IntegerDecl (line n) name dims

abbrev parameter : ℕ → List ℕ → ExprTree → DeclTree
parameter n name e = ConstantDecl (line n) name e

abbrev set : ℕ → ExprTree → ExprTree → StmtTrees
set n t e = Stmt (AssignStmt (line n) t e) NoStmts

abbrev loop : ℕ → List ℕ → StmtTrees → StmtTrees
loop n name body = Stmt (DoStmt (line n) name (number 1) (number 2) (number 1) body) NoStmts

abbrev largest : ExprTree
largest = number 9223372036854775807

abbrev D : List ℕ
D = codes "D"

abbrev E : List ℕ
E = codes "E"

abbrev B : List ℕ
B = codes "B"

abbrev decomposition : ℕ → List ℕ → List DimTree → DeclTree
decomposition n name dims = DecompDecl (line n) name dims

-- ALIGN name (I) WITH onto (target)
abbrev align : ℕ → List ℕ → List ℕ → ExprTree → DeclTree
align n name onto target = AlignDecl (line n) name (codes "I" ∷ []) onto (one target)

abbrev distribute : ℕ → List ℕ → List AttrTree → DeclTree
distribute n name attrs = DistributeDecl (line n) name attrs

abbrev plus_one : ExprTree
plus_one = Joined Add I (number 1)

abbrev vector : ℕ → List ℕ → ℕ → DeclTree
vector n name m = integer n name (up_to (number m) ∷ [])

-- INTEGER A(4), B(7) / DECOMPOSITION D(5), E(8) / ALIGN A(I) WITH D(I+1) / ALIGN B(I) WITH E(I+1) / DISTRIBUTE D(CYCLIC) / DISTRIBUTE E(BLOCK_CYCLIC(3))
abbrev two_arrays : List DeclTree
two_arrays =
    vector 1 (codes "A") 4 ∷ (vector 1 B 7 ∷ (decomposition 2 D (up_to (number 5) ∷ []) ∷ (decomposition 2 E (up_to (number 8) ∷ []) ∷ (align 3 (codes "A") D plus_one ∷ (align 4 B E plus_one
    ∷ (distribute 5 D (CyclicAttr ∷ []) ∷ (distribute 6 E (BlockCyclicAttr (number 3) ∷ []) ∷ [])))))))

pub two_arrays_accepted : first two_arrays NoStmts ≡ None
unfolding find_name with_entry is_made with_made with_name number_in has_name is_implicit use_of func_of callee_of dummy_in
two_arrays_accepted = refl

abbrev mapped : List DeclTree → List (Option ℕ × Along)
mapped decls = map (λ (a : Array). (a.decomp, a.along)) (meaning_of (record { decls = decls; body = NoStmts }) (line 9) 0).arrays

abbrev spreads : List DeclTree → List (ℕ × Option Dist)
spreads decls = map (λ (x : Decomp). (x.dim, x.dist)) (meaning_of (record { decls = decls; body = NoStmts }) (line 9) 0).decomps

two_arrays_mapped : mapped two_arrays ≡ (Some 0, Dim 0 (pos 0)) ∷ ((Some 1, Dim 0 (pos 0)) ∷ [])
unfolding find_name with_entry is_made with_made with_name number_in has_name is_implicit use_of func_of callee_of dummy_in
two_arrays_mapped = refl

two_arrays_spread : spreads two_arrays ≡ (0, Some Cyclic) ∷ ((0, Some (BlockCyclic 3)) ∷ [])
unfolding find_name with_entry is_made with_made with_name number_in has_name is_implicit use_of func_of callee_of dummy_in
two_arrays_spread = refl

-- INTEGER A(2,4) / DISTRIBUTE A(:,BLOCK)
abbrev columns : List DeclTree
columns = integer 1 (codes "A") (up_to (number 2) ∷ (up_to (number 4) ∷ [])) ∷ (distribute 2 (codes "A") (WholeAttr ∷ (BlockAttr ∷ [])) ∷ [])

columns_accepted : first columns NoStmts ≡ None
unfolding find_name with_entry is_made with_made with_name number_in has_name is_implicit use_of func_of callee_of dummy_in
columns_accepted = refl

columns_mapped : mapped columns ≡ (Some 0, Dim 1 (negsuc 0)) ∷ []
unfolding find_name with_entry is_made with_made with_name number_in has_name is_implicit use_of func_of callee_of dummy_in
columns_mapped = refl

columns_spread : spreads columns ≡ (1, Some Block) ∷ []
unfolding find_name with_entry is_made with_made with_name number_in has_name is_implicit use_of func_of callee_of dummy_in
columns_spread = refl

-- INTEGER A(4) / DECOMPOSITION D(4) / ALIGN A(I) WITH D(I+1)
element_outside : first (vector 1 (codes "A") 4 ∷ (decomposition 2 D (up_to (number 4) ∷ []) ∷ (align 3 (codes "A") D plus_one ∷ []))) NoStmts ≡ refused 3 AlignBad
unfolding find_name with_entry is_made with_made with_name number_in has_name is_implicit use_of func_of callee_of dummy_in
element_outside = refl

-- INTEGER A(4) / DISTRIBUTE A(BLOCK) / DISTRIBUTE A(CYCLIC)
distributed_twice : first (vector 1 (codes "A") 4 ∷ (distribute 2 (codes "A") (BlockAttr ∷ []) ∷ (distribute 3 (codes "A") (CyclicAttr ∷ []) ∷ []))) NoStmts ≡ refused 3 DistributeBad
unfolding find_name with_entry is_made with_made with_name number_in has_name is_implicit use_of func_of callee_of dummy_in
distributed_twice = refl

-- INTEGER X(4), Y(4), IB(4) / DISTRIBUTE each / DO I = 1, 4 / Y(I) = X(IB(I))
index_array_elsewhere : first (vector 1 (codes "X") 4 ∷ (vector 1 (codes "Y") 4 ∷ (vector 1 (codes "IB") 4 ∷ (distribute 2 (codes "X") (BlockAttr ∷ []) ∷ (distribute 3 (codes "Y") (BlockAttr ∷ []) ∷ (distribute 4 (codes "IB") (CyclicAttr ∷ []) ∷ []))))))
    (loop 5 (codes "I") (set 6 (Applied (codes "Y") (one I)) (Applied (codes "X") (one (Applied (codes "IB") (one I)))))) ≡ refused 6 IndexNotLocal
unfolding find_name with_entry is_made with_made with_name number_in has_name is_implicit use_of func_of callee_of dummy_in
index_array_elsewhere = refl

-- INTEGER A(262144), B(1) / DISTRIBUTE A(BLOCK) / DISTRIBUTE B(BLOCK)
many_distributed : first (vector 1 (codes "A") 262144 ∷ (vector 1 B 1 ∷ (distribute 2 (codes "A") (BlockAttr ∷ []) ∷ (distribute 3 B (BlockAttr ∷ []) ∷ [])))) NoStmts ≡ refused 1 (TooMany limits.Distributed)
unfolding find_name with_entry is_made with_made with_name number_in has_name is_implicit use_of func_of callee_of dummy_in
many_distributed = refl

-- INTEGER A(4) / DISTRIBUTE A(BLOCK) / K = A(3000000000*I)
large_coefficient : first (vector 1 (codes "A") 4 ∷ (distribute 2 (codes "A") (BlockAttr ∷ []) ∷ [])) (set 3 K (Applied (codes "A") (one (Joined Mul (number 3000000000) I)))) ≡ refused 3 (TooMany limits.Coefficient)
unfolding find_name with_entry is_made with_made with_name number_in has_name is_implicit use_of func_of callee_of dummy_in
large_coefficient = refl

-- INTEGER A(4) / DECOMPOSITION D(9) / ALIGN A(I) WITH D(target): 1+I, I+1+1, K, I+K, X, I+X, 2*I, -I
abbrev aligned_by : ExprTree → Option Refusal
aligned_by target = first (vector 1 (codes "A") 4 ∷ (decomposition 2 D (up_to (number 9) ∷ []) ∷ (align 3 (codes "A") D target ∷ []))) NoStmts

target_rows : map aligned_by (Joined Add (number 1) I ∷ (Joined Add plus_one (number 1) ∷ (K ∷ (Joined Add I K ∷ (X ∷ (Joined Add I X ∷ (Joined Mul (number 2) I ∷ (Negated I ∷ (Joined Add I I ∷ (Joined Sub I (number 0) ∷ (number 9 ∷ (number 10 ∷ []))))))))))))
    ≡ refused 3 AlignBad ∷ (refused 3 AlignBad ∷ (refused 3 AlignBad ∷ (refused 3 NotConstant ∷ (refused 3 NotDeclared ∷ (refused 3 NotDeclared ∷ (refused 3 AlignBad ∷ (refused 3 AlignBad ∷ (refused 3 NotConstant ∷ (None ∷ (None ∷ (refused 3 AlignBad ∷ [])))))))))))
unfolding find_name with_entry is_made with_made with_name number_in has_name is_implicit use_of func_of callee_of dummy_in
target_rows = refl
