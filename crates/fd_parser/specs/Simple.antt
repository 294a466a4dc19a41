-- Simple statements: each is one logical line, and may stand behind a logical IF.
use Rattle.std.specs.Prelude.{ℕ, List, [], ◌∷◌, map}
use Rattle.fd_base.specs.declared.numbering.Line.{Line}
use Rattle.fd_lexer.specs.declared.token.SignKind.TheVariants.{ParLeft, Comma, Equal, Star}
use Rattle.fd_lexer.specs.View.{Tok, Name, Words, Sign}
use Rattle.fd_ast.specs.Tree.{ExprTree, Named, Applied, ExprTrees, ItemTree, Quoted, Valued, StmtTree, AssignStmt, ReadStmt, PrintStmt, SkipStmt}
use Rattle.fd_parser.specs.Expressions.{IsExpr, IsArgs}
use Rattle.fd_parser.specs.Lists.{AreListed}

-- target = NAME [( expr {, expr} )]
pub data IsTarget : List Tok → ExprTree → List Tok → Type 0 where
  whole : {s : List ℕ} {us : List Tok} → IsTarget (Name s ∷ us) (Named s) us
  element : {s : List ℕ} {ts us : List Tok} {xs : ExprTrees} → IsArgs ts xs us → IsTarget (Name s ∷ (Sign ParLeft ∷ ts)) (Applied s xs) us

-- item = text | expr
pub data IsItem : List Tok → ItemTree → List Tok → Type 0 where
  quoted : {s : List ℕ} {us : List Tok} → IsItem (Words s ∷ us) (Quoted s) us
  valued : {ts us : List Tok} {x : ExprTree} → IsExpr ts x us → IsItem ts (Valued x) us

-- target = expr
pub data IsAssignment : Line → List Tok → StmtTree → Type 0 where
  assigned : {l : Line} {ts us : List Tok} {x y : ExprTree} → IsTarget ts x (Sign Equal ∷ us) → IsExpr us y [] → IsAssignment l ts (AssignStmt l x y)

-- behind READ: * , target {, target}
pub data IsReadRest : Line → List Tok → List StmtTree → Type 0 where
  targets : {l : Line} {ts : List Tok} {xs : List ExprTree} → AreListed IsTarget ts xs [] → IsReadRest l (Sign Star ∷ (Sign Comma ∷ ts)) (map (λ x. ReadStmt l x) xs)

-- behind PRINT: * [, item {, item}]
pub data IsPrintRest : Line → List Tok → List StmtTree → Type 0 where
  nothing : {l : Line} → IsPrintRest l (Sign Star ∷ []) (PrintStmt l [] ∷ [])
  items : {l : Line} {ts : List Tok} {xs : List ItemTree} → AreListed IsItem ts xs [] → IsPrintRest l (Sign Star ∷ (Sign Comma ∷ ts)) (PrintStmt l xs ∷ [])

-- behind CONTINUE: nothing
pub data IsContinueRest : Line → List Tok → List StmtTree → Type 0 where
  no_more : {l : Line} → IsContinueRest l [] (SkipStmt l ∷ [])
