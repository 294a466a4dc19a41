-- How large statements are: what a walk over them goes down by.
use Rattle.std.proofs.Common.{ℕ, ◌+◌}
use Rattle.fd_ast.specs.Tree.{StmtTree, AssignStmt, IfStmt, DoStmt, WhileStmt, ReadStmt, PrintStmt, SkipStmt, RemapStmt, StmtTrees, NoStmts, Stmt}

abbrev mutual
  pub weight : StmtTree → ℕ
  weight (AssignStmt l t e) = 1
  weight (IfStmt l c so otherwise) = weights so + weights otherwise + 1
  weight (DoStmt l n a b by body) = weights body + 3
  weight (WhileStmt l c body) = weights body + 1
  weight (ReadStmt l t) = 1
  weight (PrintStmt l xs) = 1
  weight (SkipStmt l) = 1
  weight (RemapStmt l n xs) = 1

  pub weights : StmtTrees → ℕ
  weights NoStmts = 1
  weights (Stmt x rest) = weight x + weights rest + 1
