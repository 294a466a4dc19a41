-- What the tree of a text keeps to, whatever its names are declared as: their bytes, and the order of its lines.
use Rattle.std.specs.Prelude.{ℕ, ◌≤◌, List, All}
use Rattle.std.specs.List.{AllByRecursion}
use Rattle.fd_base.specs.declared.numbering.Line.{Line}
use Rattle.fd_ast.specs.Tree.{ExprTree, Number, Named, Applied, Negated, Joined, ExprTrees, NoExprs, Expr, CondTree, Fixed, Compared, Inverted, Both, Either, ItemTree, Quoted, Valued, DeclTree, ConstantDecl, IntegerDecl, DecompDecl, AlignDecl, DistributeDecl, StmtTree, AssignStmt, IfStmt, DoStmt, WhileStmt, ReadStmt, PrintStmt, SkipStmt, RemapStmt, StmtTrees, NoStmts, Stmt, ProgramTree}
use Rattle.program_laws.specs.Named.{IsPlain}
use Rattle.fd_names.specs.Declarations.{line_of}

-- ---- names

-- the name that a declaration is of
abbrev pub name_of : DeclTree → List ℕ
name_of (ConstantDecl l n e) = n
name_of (IntegerDecl l n xs) = n
name_of (DecompDecl l n xs) = n
name_of (AlignDecl l n dummies target es) = n
name_of (DistributeDecl l n xs) = n

abbrev mutual
  -- all names in an expression are plain
  pub HasPlain : ExprTree → Type 0
  HasPlain (Number z) = Unit {0}
  HasPlain (Named n) = IsPlain n
  HasPlain (Applied n es) = IsPlain n × HavePlain es
  HasPlain (Negated e) = HasPlain e
  HasPlain (Joined o a b) = HasPlain a × HasPlain b

  pub HavePlain : ExprTrees → Type 0
  HavePlain NoExprs = Unit {0}
  HavePlain (Expr e es) = HasPlain e × HavePlain es

abbrev pub HasPlainCondition : CondTree → Type 0
HasPlainCondition (Fixed b) = Unit {0}
HasPlainCondition (Compared r a b) = HasPlain a × HasPlain b
HasPlainCondition (Inverted c) = HasPlainCondition c
HasPlainCondition (Both c d) = HasPlainCondition c × HasPlainCondition d
HasPlainCondition (Either c d) = HasPlainCondition c × HasPlainCondition d

abbrev pub HasPlainItem : ItemTree → Type 0
HasPlainItem (Quoted text) = Unit {0}
HasPlainItem (Valued e) = HasPlain e

-- the names of a statement itself are plain, whatever stands in it
abbrev pub HasPlainHead : StmtTree → Type 0
HasPlainHead (AssignStmt l t e) = HasPlain t × HasPlain e
HasPlainHead (IfStmt l c so otherwise) = HasPlainCondition c
HasPlainHead (DoStmt l n a b by body) = IsPlain n × HasPlain a × HasPlain b × HasPlain by
HasPlainHead (WhileStmt l c body) = HasPlainCondition c
HasPlainHead (ReadStmt l t) = HasPlain t
HasPlainHead (PrintStmt l xs) = AllByRecursion HasPlainItem xs
HasPlainHead (SkipStmt l) = Unit {0}
HasPlainHead (RemapStmt l n xs) = IsPlain n

-- ---- lines

abbrev pub line_of_stmt : StmtTree → Line
line_of_stmt (AssignStmt l t e) = l
line_of_stmt (IfStmt l c so otherwise) = l
line_of_stmt (DoStmt l n a b by body) = l
line_of_stmt (WhileStmt l c body) = l
line_of_stmt (ReadStmt l t) = l
line_of_stmt (PrintStmt l xs) = l
line_of_stmt (SkipStmt l) = l
line_of_stmt (RemapStmt l n xs) = l

-- none of these declarations stands on a line behind this one
abbrev pub AreNoLater : List DeclTree → Line → Type 0
AreNoLater xs l = All (λ (x : DeclTree). (line_of x).0 ≤ l.0) xs

-- ---- trees

abbrev mutual
  -- a statement is so, and each that stands in it
  pub EachIn : (StmtTree → Type 0) → StmtTree → Type 0
  EachIn P (AssignStmt l t e) = P (AssignStmt l t e)
  EachIn P (IfStmt l c so otherwise) = P (IfStmt l c so otherwise) × EachAmong P so × EachAmong P otherwise
  EachIn P (DoStmt l n a b by body) = P (DoStmt l n a b by body) × EachAmong P body
  EachIn P (WhileStmt l c body) = P (WhileStmt l c body) × EachAmong P body
  EachIn P (ReadStmt l t) = P (ReadStmt l t)
  EachIn P (PrintStmt l xs) = P (PrintStmt l xs)
  EachIn P (SkipStmt l) = P (SkipStmt l)
  EachIn P (RemapStmt l n xs) = P (RemapStmt l n xs)

  pub EachAmong : (StmtTree → Type 0) → StmtTrees → Type 0
  EachAmong P NoStmts = Unit {0}
  EachAmong P (Stmt x xs) = EachIn P x × EachAmong P xs

-- The names that may become names of the program are plain: those that declarations are of, and all in the statements. No statement stands on a line before a declaration's.
-- The other names in declarations are constants, dummies and functions, and get into no program.
pub record IsWritten (t : ProgramTree) : Type 0 where
  pub declared : All (λ (x : DeclTree). IsPlain (name_of x)) t.decls
  pub named : EachAmong HasPlainHead t.body
  pub ordered : EachAmong (λ (x : StmtTree). AreNoLater t.decls (line_of_stmt x)) t.body
