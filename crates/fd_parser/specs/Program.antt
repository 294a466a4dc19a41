-- The grammar of sources, over lines by their forms. Each kind relates lines, a tree, and the lines that are left: the
-- lines begin with a thing of that kind, which has this tree, and then the rest stands.
use Rattle.std.specs.Prelude.{ℕ, List, [], ◌∷◌, ◌++◌}
use Rattle.fd_base.specs.declared.numbering.Line.{Line}
use Rattle.fd_ast.specs.Tree.{ExprTree, CondTree, DeclTree, StmtTree, IfStmt, DoStmt, WhileStmt, StmtTrees, NoStmts, Stmt, ProgramTree}
use Rattle.fd_parser.specs.Forms.{LineForm, ProgramLine, DeclLine, SimpleLine, LogicalIf, IfThen, ElseIf, Else, EndIf, DoLine, WhileLine, EndDo}

-- a line with its number
pub data FormLine : Type 0 where
  At : Line → LineForm → FormLine

-- these statements, and then those
abbrev pub joined_stmts : List StmtTree → StmtTrees → StmtTrees
joined_stmts [] xs = xs
joined_stmts (y ∷ ys) xs = Stmt y (joined_stmts ys xs)

abbrev pub all_stmts : List StmtTree → StmtTrees
all_stmts ys = joined_stmts ys NoStmts

mutual
  -- {stmt}
  pub data IsBlock : List FormLine → StmtTrees → List FormLine → Type 0 where
    none : {ts : List FormLine} → IsBlock ts NoStmts ts
    more : {ts us vs : List FormLine} {xs : List StmtTree} {ys : StmtTrees} → IsStmts ts xs us → IsBlock us ys vs → IsBlock ts (joined_stmts xs ys) vs

  -- stmt = simple | IF ( cond ) simple | IF ( cond ) THEN {stmt} choices | DO range {stmt} ENDDO
  --      | DO WHILE ( cond ) {stmt} ENDDO, where a READ is a statement for each of its targets
  pub data IsStmts : List FormLine → List StmtTree → List FormLine → Type 0 where
    simple : {l : Line} {xs : List StmtTree} {ts : List FormLine} → IsStmts (At l (SimpleLine xs) ∷ ts) xs ts
    logical : {l : Line} {c : CondTree} {xs : List StmtTree} {ts : List FormLine} → IsStmts (At l (LogicalIf c xs) ∷ ts) (IfStmt l c (all_stmts xs) NoStmts ∷ []) ts
    choice : {l : Line} {c : CondTree} {ts us vs : List FormLine} {first second : StmtTrees} → IsBlock ts first us → IsChoices us second vs → IsStmts (At l (IfThen c) ∷ ts) (IfStmt l c first second ∷ []) vs
    counted : {l m : Line} {s : List ℕ} {x y z : ExprTree} {ts us : List FormLine} {body : StmtTrees} → IsBlock ts body (At m EndDo ∷ us) → IsStmts (At l (DoLine s x y z) ∷ ts) (DoStmt l s x y z body ∷ []) us
    while : {l m : Line} {c : CondTree} {ts us : List FormLine} {body : StmtTrees} → IsBlock ts body (At m EndDo ∷ us) → IsStmts (At l (WhileLine c) ∷ ts) (WhileStmt l c body ∷ []) us

  -- choices = ENDIF | ELSE {stmt} ENDIF | ELSE IF ( cond ) THEN {stmt} choices
  pub data IsChoices : List FormLine → StmtTrees → List FormLine → Type 0 where
    over : {l : Line} {ts : List FormLine} → IsChoices (At l EndIf ∷ ts) NoStmts ts
    otherwise : {l m : Line} {ts us : List FormLine} {second : StmtTrees} → IsBlock ts second (At m EndIf ∷ us) → IsChoices (At l Else ∷ ts) second us
    chained : {l : Line} {c : CondTree} {ts us vs : List FormLine} {first second : StmtTrees} → IsBlock ts first us → IsChoices us second vs → IsChoices (At l (ElseIf c) ∷ ts) (Stmt (IfStmt l c first second) NoStmts) vs

-- [PROGRAM NAME]
pub data IsHead : List FormLine → List FormLine → Type 0 where
  no_head : {ts : List FormLine} → IsHead ts ts
  head : {l : Line} {ts : List FormLine} → IsHead (At l ProgramLine ∷ ts) ts

-- {decl}
pub data AreDecls : List FormLine → List DeclTree → List FormLine → Type 0 where
  no_decls : {ts : List FormLine} → AreDecls ts [] ts
  decls : {l : Line} {ds es : List DeclTree} {ts us : List FormLine} → AreDecls ts ds us → AreDecls (At l (DeclLine es) ∷ ts) (es ++ ds) us

-- program = [PROGRAM NAME] {decl} {stmt}, and then the END line, which is none of these lines
pub record IsProgram (ts : List FormLine) (t : ProgramTree) : Type 0 where
  pub behind_head : List FormLine
  pub body : List FormLine
  pub head : IsHead ts behind_head
  pub declarations : AreDecls behind_head t.decls body
  pub statements : IsBlock body t.body []
