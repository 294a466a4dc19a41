-- The forms of logical lines.
use Rattle.std.specs.Prelude.{◌≡◌, ℕ, pos, true, false, List, [], ◌∷◌, codes, map}
use Rattle.fd_base.specs.declared.numbering.Line.{Line}
use Rattle.fd_lexer.specs.declared.token.SignKind.TheVariants.{ParLeft, ParRight, Comma, Equal}
use Rattle.fd_lexer.specs.View.{Tok, Name, Sign}
use Rattle.fd_ast.specs.Tree.{ExprTree, Number, CondTree, AttrTree, DeclTree, DistributeDecl, StmtTree, RemapStmt, expr_tree, cond_tree, decl_tree, stmt_tree}
use Rattle.fd_parser.specs.declared.form.Form.{Form}
use Rattle.fd_parser.specs.declared.form.Form.TheVariants as forms
use Rattle.fd_parser.specs.Expressions.{IsExpr}
use Rattle.fd_parser.specs.Conditions.{IsCond}
use Rattle.fd_parser.specs.Lists.{AreListed}
use Rattle.fd_parser.specs.Simple.{IsAssignment, IsReadRest, IsPrintRest, IsContinueRest}
use Rattle.fd_parser.specs.Declarations.{has_map, IsEntity, IsDecomp, IsParameterRest, IsAlignRest, IsDistributeRest}

-- what a logical line says of the text's blocks
pub data LineForm : Type 0 where
  ProgramLine : LineForm
  DeclLine : List DeclTree → LineForm
  SimpleLine : List StmtTree → LineForm
  LogicalIf : CondTree → List StmtTree → LineForm
  IfThen : CondTree → LineForm
  ElseIf : CondTree → LineForm
  Else : LineForm
  EndIf : LineForm
  DoLine : List ℕ → ExprTree → ExprTree → ExprTree → LineForm
  WhileLine : CondTree → LineForm
  EndDo : LineForm

abbrev pub line_form : Form → LineForm
line_form forms.Program = ProgramLine
line_form (forms.Declarations ds) = DeclLine (map decl_tree ds.items)
line_form (forms.Simple xs) = SimpleLine (map stmt_tree xs.items)
line_form (forms.LogicalIf c xs) = LogicalIf (cond_tree c) (map stmt_tree xs.items)
line_form (forms.IfThen c) = IfThen (cond_tree c)
line_form (forms.ElseIf c) = ElseIf (cond_tree c)
line_form forms.Else = Else
line_form forms.EndIf = EndIf
line_form (forms.Do s x y z) = DoLine s (expr_tree x) (expr_tree y) (expr_tree z)
line_form (forms.While c) = WhileLine (cond_tree c)
line_form forms.EndDo = EndDo

-- a simple statement that begins with a word of its own
pub data IsWorded : Line → List Tok → List StmtTree → Type 0 where
  read : {l : Line} {ts : List Tok} {xs : List StmtTree} → IsReadRest l ts xs → IsWorded l (Name (codes "READ") ∷ ts) xs
  print : {l : Line} {ts : List Tok} {xs : List StmtTree} → IsPrintRest l ts xs → IsWorded l (Name (codes "PRINT") ∷ ts) xs
  continue : {l : Line} {ts : List Tok} {xs : List StmtTree} → IsContinueRest l ts xs → IsWorded l (Name (codes "CONTINUE") ∷ ts) xs

-- simple = target = expr | READ .. | PRINT .. | CONTINUE
pub data IsSimple : Line → List Tok → List StmtTree → Type 0 where
  assignment : {l : Line} {ts : List Tok} {x : StmtTree} → IsAssignment l ts x → IsSimple l ts (x ∷ [])
  worded : {l : Line} {ts : List Tok} {xs : List StmtTree} → IsWorded l ts xs → IsSimple l ts xs

-- ( cond ) THEN
pub data IsThenRest : List Tok → CondTree → Type 0 where
  condition_then : {ts : List Tok} {c : CondTree} → IsCond ts c (Sign ParRight ∷ (Name (codes "THEN") ∷ [])) → IsThenRest (Sign ParLeft ∷ ts) c

-- behind IF: ( cond ) THEN, or ( cond ) simple
pub data IsIfRest : Line → List Tok → LineForm → Type 0 where
  then_block : {l : Line} {ts : List Tok} {c : CondTree} → IsCond ts c (Sign ParRight ∷ (Name (codes "THEN") ∷ [])) → IsIfRest l (Sign ParLeft ∷ ts) (IfThen c)
  one_statement : {l : Line} {ts us : List Tok} {c : CondTree} {xs : List StmtTree} → IsCond ts c (Sign ParRight ∷ us) → IsSimple l us xs → IsIfRest l (Sign ParLeft ∷ ts) (LogicalIf c xs)

-- expr , expr [, expr], where an omitted step is 1
pub data IsRange : List Tok → ExprTree → ExprTree → ExprTree → Type 0 where
  without_step : {ts us : List Tok} {x y : ExprTree} → IsExpr ts x (Sign Comma ∷ us) → IsExpr us y [] → IsRange ts x y (Number (pos 1))
  with_step : {ts us vs : List Tok} {x y z : ExprTree} → IsExpr ts x (Sign Comma ∷ us) → IsExpr us y (Sign Comma ∷ vs) → IsExpr vs z [] → IsRange ts x y z

-- behind DO: NAME = expr , expr [, expr], or WHILE ( cond )
pub data IsDoRest : List Tok → LineForm → Type 0 where
  counted : {s : List ℕ} {ts : List Tok} {x y z : ExprTree} → IsRange ts x y z → IsDoRest (Name s ∷ (Sign Equal ∷ ts)) (DoLine s x y z)
  while : {ts : List Tok} {c : CondTree} → IsCond ts c (Sign ParRight ∷ []) → IsDoRest (Name (codes "WHILE") ∷ (Sign ParLeft ∷ ts)) (WhileLine c)

-- a declaration that isn't a DISTRIBUTE; a line may have several
pub data IsDeclared : Line → List Tok → List DeclTree → Type 0 where
  parameter : {l : Line} {ts : List Tok} {ds : List DeclTree} → IsParameterRest l ts ds → IsDeclared l (Name (codes "PARAMETER") ∷ ts) ds
  integer : {l : Line} {ts : List Tok} {ds : List DeclTree} → AreListed (IsEntity l) ts ds [] → IsDeclared l (Name (codes "INTEGER") ∷ ts) ds
  decomposition : {l : Line} {ts : List Tok} {ds : List DeclTree} → AreListed (IsDecomp l) ts ds [] → IsDeclared l (Name (codes "DECOMPOSITION") ∷ ts) ds
  align : {l : Line} {ts : List Tok} {d : DeclTree} → IsAlignRest l ts d → IsDeclared l (Name (codes "ALIGN") ∷ ts) (d ∷ [])

-- behind ELSE: nothing, or IF ( cond ) THEN
pub data IsElseRest : List Tok → LineForm → Type 0 where
  alone : IsElseRest [] Else
  with_if : {ts : List Tok} {c : CondTree} → IsThenRest ts c → IsElseRest (Name (codes "IF") ∷ ts) (ElseIf c)

-- a line of an IF
pub data IsChoice : Line → List Tok → LineForm → Type 0 where
  if_line : {l : Line} {ts : List Tok} {f : LineForm} → IsIfRest l ts f → IsChoice l (Name (codes "IF") ∷ ts) f
  elseif : {l : Line} {ts : List Tok} {c : CondTree} → IsThenRest ts c → IsChoice l (Name (codes "ELSEIF") ∷ ts) (ElseIf c)
  else_line : {l : Line} {ts : List Tok} {f : LineForm} → IsElseRest ts f → IsChoice l (Name (codes "ELSE") ∷ ts) f
  endif : {l : Line} → IsChoice l (Name (codes "ENDIF") ∷ []) EndIf

-- ENDDO, and END with IF or DO behind it
pub data IsEnd : List Tok → LineForm → Type 0 where
  enddo : IsEnd (Name (codes "ENDDO") ∷ []) EndDo
  end_if : IsEnd (Name (codes "END") ∷ (Name (codes "IF") ∷ [])) EndIf
  end_do : IsEnd (Name (codes "END") ∷ (Name (codes "DO") ∷ [])) EndDo

-- behind DISTRIBUTE: a declaration without a map name, and a statement with one
pub data IsDistribution : Line → List Tok → LineForm → Type 0 where
  without_map : {l : Line} {ts : List Tok} {s : List ℕ} {as_ : List AttrTree} → IsDistributeRest ts s as_ → has_map as_ ≡ false → IsDistribution l ts (DeclLine (DistributeDecl l s as_ ∷ []))
  with_map : {l : Line} {ts : List Tok} {s : List ℕ} {as_ : List AttrTree} → IsDistributeRest ts s as_ → has_map as_ ≡ true → IsDistribution l ts (SimpleLine (RemapStmt l s as_ ∷ []))

-- a name alone
pub data IsOneWord : List Tok → Type 0 where
  one_word : {s : List ℕ} → IsOneWord (Name s ∷ [])

-- a line of a loop, a DISTRIBUTE, the PROGRAM line, or an end of two words
pub data IsOther : Line → List Tok → LineForm → Type 0 where
  do_line : {l : Line} {ts : List Tok} {f : LineForm} → IsDoRest ts f → IsOther l (Name (codes "DO") ∷ ts) f
  distribute : {l : Line} {ts : List Tok} {f : LineForm} → IsDistribution l ts f → IsOther l (Name (codes "DISTRIBUTE") ∷ ts) f
  program : {l : Line} {ts : List Tok} → IsOneWord ts → IsOther l (Name (codes "PROGRAM") ∷ ts) ProgramLine
  end_line : {l : Line} {ts : List Tok} {f : LineForm} → IsEnd ts f → IsOther l ts f

-- a line by its form: a simple statement, or by its first word
pub data IsForm : Line → List Tok → LineForm → Type 0 where
  declared : {l : Line} {ts : List Tok} {ds : List DeclTree} → IsDeclared l ts ds → IsForm l ts (DeclLine ds)
  choice : {l : Line} {ts : List Tok} {f : LineForm} → IsChoice l ts f → IsForm l ts f
  other : {l : Line} {ts : List Tok} {f : LineForm} → IsOther l ts f → IsForm l ts f
  simple : {l : Line} {ts : List Tok} {xs : List StmtTree} → IsSimple l ts xs → IsForm l ts (SimpleLine xs)
