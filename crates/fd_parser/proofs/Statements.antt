-- Statements at the end of a list.
use Rattle.std.proofs.Common.{◌≡◌, List, [], ◌∷◌, ◌++◌, refl, sym, ap}
use Rattle.std.proofs.lemmas.List.{map_push}
use Rattle.std.specs.Global.{Box}
use Rattle.fd_ast.specs.declared.statement.TStmt.{TStmt}
use Rattle.fd_ast.specs.Tree.{StmtTree, StmtTrees, Stmt, stmt_tree}
use Rattle.fd_parser.specs.Program.{joined_stmts}
use Rattle.fd_parser.specs.Open.{stmts}

pub joined_stmts-append : (ys zs : List StmtTree) (xs : StmtTrees) → joined_stmts (ys ++ zs) xs ≡ joined_stmts ys (joined_stmts zs xs)
joined_stmts-append [] zs xs = refl
joined_stmts-append (y ∷ ys) zs xs = ap (λ (ts : StmtTrees). Stmt y ts) (joined_stmts-append ys zs xs)

-- the last statement goes over to the list behind it
pub joined_last : (v w : List (Box TStmt)) (s : Box TStmt) (xs : StmtTrees) → v ≡ w ++ s ∷ [] → joined_stmts (stmts w) (Stmt (stmt_tree s.value) xs) ≡ joined_stmts (stmts v) xs
joined_last v w s xs e = rw (e, map_push (λ (x : Box TStmt). stmt_tree x.value) w s) (sym (joined_stmts-append (stmts w) (stmt_tree s.value ∷ []) xs))
