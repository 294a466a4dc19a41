-- DISTRIBUTE by a map array, a statement of the body: which decompositions are distributed so.
use Rattle.fd_base.specs.declared.shapes.Dist.TheVariants.{Block}
use Rattle.fd_ast.specs.Tree.{StmtTree, AssignStmt, IfStmt, DoStmt, WhileStmt, ReadStmt, PrintStmt, SkipStmt, RemapStmt, StmtTrees, NoStmts, Stmt}
use Rattle.fd_names.specs.declared.declarations.Base.{Base}
use Rattle.fd_names.specs.declared.declarations.Spread.{Spread}
use Rattle.fd_names.specs.Declarations.{with_spread}
use Rattle.fd_names.specs.Distributions.{on_dim}
use Rattle.fd_names.specs.Names.{use_of}

-- stands for a distribution by a map array: that there is one is all that is asked, since its line is refused
abbrev pub by_a_map : Spread
by_a_map = on_dim 0 Block

abbrev mutual
  -- what is declared, once a statement and all that stands in it have distributed what they name
  pub remapped : StmtTree → Base → Base
  remapped (AssignStmt l t e) b = b
  remapped (IfStmt l c so otherwise) b = all_remapped otherwise (all_remapped so b)
  remapped (DoStmt l n first last by body) b = all_remapped body b
  remapped (WhileStmt l c body) b = all_remapped body b
  remapped (ReadStmt l t) b = b
  remapped (PrintStmt l xs) b = b
  remapped (SkipStmt l) b = b
  remapped (RemapStmt l n xs) b = with_spread (use_of b.table l n) n by_a_map b

  pub all_remapped : StmtTrees → Base → Base
  all_remapped NoStmts b = b
  all_remapped (Stmt x rest) b = all_remapped rest (remapped x b)
