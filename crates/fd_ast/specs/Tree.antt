-- Syntax trees without where they lie in memory. Two trees of the code that differ in that alone are one tree here.
use Rattle.std.specs.Prelude.{ℕ, ℤ, ◌+◌, Bool, List, map, max}
use Rattle.fd_base.specs.declared.numbering.Line.{Line}
use Rattle.fd_base.specs.declared.relation.Rel.{Rel}
use Rattle.fd_ast.specs.declared.expression.Op.{Op}
use Rattle.fd_ast.specs.declared.expression.TExpr.{TExpr}
use Rattle.fd_ast.specs.declared.expression.TExpr.TheVariants.{Num, Name, Call, Neg', Bin'}
use Rattle.fd_ast.specs.declared.expression.TExprList.{TExprList}
use Rattle.fd_ast.specs.declared.expression.TExprList.TheVariants as exprs
use Rattle.fd_ast.specs.declared.condition.TCond.{TCond}
use Rattle.fd_ast.specs.declared.condition.TCond.TheVariants as conds
use Rattle.fd_ast.specs.declared.declaration.TDim.{TDim}
use Rattle.fd_ast.specs.declared.declaration.TAttr.{TAttr}
use Rattle.fd_ast.specs.declared.declaration.TAttr.TheVariants as attrs
use Rattle.fd_ast.specs.declared.declaration.TDecl.{TDecl}
use Rattle.fd_ast.specs.declared.declaration.TDecl.TheVariants as decls
use Rattle.fd_ast.specs.declared.statement.TItem.{TItem}
use Rattle.fd_ast.specs.declared.statement.TItem.TheVariants as items
use Rattle.fd_ast.specs.declared.statement.TStmt.{TStmt}
use Rattle.fd_ast.specs.declared.statement.TStmt.TheVariants as stmts
use Rattle.fd_ast.specs.declared.statement.TStmtList.{TStmtList}
use Rattle.fd_ast.specs.declared.statement.TStmtList.TheVariants as bodies
use Rattle.fd_ast.specs.declared.statement.Tree.{Tree}

-- ---- expressions

mutual
  pub data ExprTree : Type 0 where
    Number : ℤ → ExprTree
    Named : List ℕ → ExprTree
    -- a name with parentheses
    Applied : List ℕ → ExprTrees → ExprTree
    Negated : ExprTree → ExprTree
    Joined : Op → ExprTree → ExprTree → ExprTree

  pub data ExprTrees : Type 0 where
    NoExprs : ExprTrees
    Expr : ExprTree → ExprTrees → ExprTrees

abbrev mutual
  pub expr_tree : TExpr → ExprTree
  expr_tree (Num n) = Number n
  expr_tree (Name s) = Named s
  expr_tree (Call s xs) = Applied s (expr_trees xs)
  expr_tree (Neg' p x) = Negated (expr_tree x)
  expr_tree (Bin' op p x q y) = Joined op (expr_tree x) (expr_tree y)

  pub expr_trees : TExprList → ExprTrees
  expr_trees exprs.End = NoExprs
  expr_trees (exprs.More' p x q xs) = Expr (expr_tree x) (expr_trees xs)

-- ---- conditions

pub data CondTree : Type 0 where
  Fixed : Bool → CondTree
  Compared : Rel → ExprTree → ExprTree → CondTree
  Inverted : CondTree → CondTree
  Both : CondTree → CondTree → CondTree
  Either : CondTree → CondTree → CondTree

abbrev pub cond_tree : TCond → CondTree
cond_tree (conds.Fixed b) = Fixed b
cond_tree (conds.Cmp r x y) = Compared r (expr_tree x) (expr_tree y)
cond_tree (conds.Not' p c) = Inverted (cond_tree c)
cond_tree (conds.Both' p c q d) = Both (cond_tree c) (cond_tree d)
cond_tree (conds.Either' p c q d) = Either (cond_tree c) (cond_tree d)

-- ---- declarations

-- the bounds of a dimension
pub record DimTree : Type 0 where
  pub low : ExprTree
  pub high : ExprTree

abbrev pub dim_tree : TDim → DimTree
dim_tree d = record { low = expr_tree d.low; high = expr_tree d.high }

-- what a DISTRIBUTE says of one dimension
pub data AttrTree : Type 0 where
  WholeAttr : AttrTree
  BlockAttr : AttrTree
  CyclicAttr : AttrTree
  BlockCyclicAttr : ExprTree → AttrTree
  MapAttr : List ℕ → AttrTree

abbrev pub attr_tree : TAttr → AttrTree
attr_tree attrs.Whole = WholeAttr
attr_tree attrs.Block = BlockAttr
attr_tree attrs.Cyclic = CyclicAttr
attr_tree (attrs.BlockCyclic x) = BlockCyclicAttr (expr_tree x)
attr_tree (attrs.Named s) = MapAttr s

pub data DeclTree : Type 0 where
  ConstantDecl : Line → List ℕ → ExprTree → DeclTree
  IntegerDecl : Line → List ℕ → List DimTree → DeclTree
  DecompDecl : Line → List ℕ → List DimTree → DeclTree
  AlignDecl : Line → List ℕ → List (List ℕ) → List ℕ → ExprTrees → DeclTree
  DistributeDecl : Line → List ℕ → List AttrTree → DeclTree

abbrev pub decl_tree : TDecl → DeclTree
decl_tree (decls.Constant l s x) = ConstantDecl l s (expr_tree x)
decl_tree (decls.Integer l s ds) = IntegerDecl l s (map dim_tree ds)
decl_tree (decls.Decomp l s ds) = DecompDecl l s (map dim_tree ds)
decl_tree (decls.Align l s dummies d xs) = AlignDecl l s dummies d (expr_trees xs)
decl_tree (decls.Distribute l s as_) = DistributeDecl l s (map attr_tree as_)

-- ---- statements

pub data ItemTree : Type 0 where
  Quoted : List ℕ → ItemTree
  Valued : ExprTree → ItemTree

abbrev pub item_tree : TItem → ItemTree
item_tree (items.Words s) = Quoted s
item_tree (items.Value x) = Valued (expr_tree x)

mutual
  pub data StmtTree : Type 0 where
    AssignStmt : Line → ExprTree → ExprTree → StmtTree
    IfStmt : Line → CondTree → StmtTrees → StmtTrees → StmtTree
    DoStmt : Line → List ℕ → ExprTree → ExprTree → ExprTree → StmtTrees → StmtTree
    WhileStmt : Line → CondTree → StmtTrees → StmtTree
    ReadStmt : Line → ExprTree → StmtTree
    PrintStmt : Line → List ItemTree → StmtTree
    SkipStmt : Line → StmtTree
    RemapStmt : Line → List ℕ → List AttrTree → StmtTree

  pub data StmtTrees : Type 0 where
    NoStmts : StmtTrees
    Stmt : StmtTree → StmtTrees → StmtTrees

abbrev mutual
  pub stmt_tree : TStmt → StmtTree
  stmt_tree (stmts.Assign l x y) = AssignStmt l (expr_tree x) (expr_tree y)
  stmt_tree (stmts.If l c xs ys) = IfStmt l (cond_tree c) (stmt_trees xs) (stmt_trees ys)
  stmt_tree (stmts.Do l s x y z xs) = DoStmt l s (expr_tree x) (expr_tree y) (expr_tree z) (stmt_trees xs)
  stmt_tree (stmts.While l c xs) = WhileStmt l (cond_tree c) (stmt_trees xs)
  stmt_tree (stmts.Read l x) = ReadStmt l (expr_tree x)
  stmt_tree (stmts.Print l xs) = PrintStmt l (map item_tree xs)
  stmt_tree (stmts.Skip l) = SkipStmt l
  stmt_tree (stmts.Remap l s as_) = RemapStmt l s (map attr_tree as_)

  pub stmt_trees : TStmtList → StmtTrees
  stmt_trees bodies.End = NoStmts
  stmt_trees (bodies.More' p x q xs) = Stmt (stmt_tree x) (stmt_trees xs)

-- ---- sources

-- the tree of a source, but for where its END line stands
pub record ProgramTree : Type 0 where
  pub decls : List DeclTree
  pub body : StmtTrees

abbrev pub program_tree : Tree → ProgramTree
program_tree t = record { decls = map decl_tree t.decls; body = stmt_trees t.body }

-- ---- nesting

abbrev mutual
  -- how many IFs and loops stand in one another. An ELSE IF stands in the other side of the IF before it.
  pub nesting_in : StmtTree → ℕ
  nesting_in (AssignStmt l x y) = 0
  nesting_in (IfStmt l c first second) = max (nesting_among first) (nesting_among second) + 1
  nesting_in (DoStmt l s x y z body) = nesting_among body + 1
  nesting_in (WhileStmt l c body) = nesting_among body + 1
  nesting_in (ReadStmt l x) = 0
  nesting_in (PrintStmt l xs) = 0
  nesting_in (SkipStmt l) = 0
  nesting_in (RemapStmt l s as_) = 0

  pub nesting_among : StmtTrees → ℕ
  nesting_among NoStmts = 0
  nesting_among (Stmt x xs) = max (nesting_in x) (nesting_among xs)
