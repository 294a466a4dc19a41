-- Statements: what is wrong in them, what they name, and what they stand for.
use Rattle.std.specs.Prelude.{ℕ, ◌+◌, ◌++◌, Bool, not, nat_eq, nat_le, nat_lt, length, List, [], ◌∷◌}
use Rattle.fd_base.specs.declared.numbering.Line.{Line}
use Rattle.fd_base.specs.declared.limit.Limit.TheVariants as limits
use Rattle.fd_ast.specs.Tree.{ExprTree, ExprTrees, ItemTree, Quoted, Valued, StmtTree, AssignStmt, IfStmt, DoStmt, WhileStmt, ReadStmt, PrintStmt, SkipStmt, RemapStmt, StmtTrees, NoStmts, Stmt}
use Rattle.fd_ast.specs.Tree as tree
use Rattle.fd_prog.specs.Expressions.{Expressions}
use Rattle.fd_prog.specs.Statements.{Target, ToScalar, ToElement, PrintItem, Words, Value, Statement, Assign, If, Do, While, Read, Print, Continue, Statements, Empty, Then}
use Rattle.fd_names.specs.declared.book.Seen.{Seen}
use Rattle.fd_names.specs.declared.names.Use.{Use}
use Rattle.fd_names.specs.declared.names.Use.TheVariants as as_name
use Rattle.fd_names.specs.declared.refusal.Cause.{Cause}
use Rattle.fd_names.specs.declared.refusal.Cause.TheVariants.{NotDeclared, WrongShape, DoVarAssigned, TooMany, LeftOut}
use Rattle.fd_names.specs.declared.refusal.Refusal.{Refusal}
use Rattle.fd_names.specs.Conditions.{condition_causes, see_condition, condition_meant}
use Rattle.fd_names.specs.Expressions.{count, causes, all_causes, see, see_all, see_name, referred, meant, all_meant}
use Rattle.fd_names.specs.First.{at_line, given}
use Rattle.fd_names.specs.Names.{Declared, use_of, has_name, number_in, capped}

-- ---- what an assignment, a READ or a DO sets

-- a name that is set is a scalar, and no variable of a loop around
abbrev pub set_causes : Use → Bool → List Cause
set_causes as_name.Scalar in_its_loop = given in_its_loop DoVarAssigned
set_causes (as_name.Constant z) in_its_loop = WrongShape ∷ []
set_causes (as_name.Array k d) in_its_loop = WrongShape ∷ []
set_causes (as_name.Decomp k d) in_its_loop = WrongShape ∷ []
set_causes as_name.Unknown in_its_loop = NotDeclared ∷ []

-- a name with subscripts that is set is an array with as many dimensions
abbrev pub element_causes : Use → ExprTrees → List Cause
element_causes (as_name.Array k d) es = given (not (nat_eq (count es) d)) WrongShape
element_causes as_name.Scalar es = WrongShape ∷ []
element_causes (as_name.Constant z) es = WrongShape ∷ []
element_causes (as_name.Decomp k d) es = WrongShape ∷ []
element_causes as_name.Unknown es = NotDeclared ∷ []

-- a target, with the variables of the loops around
abbrev pub target_causes : Declared → List (List ℕ) → Line → ExprTree → List Cause
target_causes d around l (tree.Named n) = set_causes (use_of d l n) (has_name around n)
target_causes d around l (tree.Applied n es) = element_causes (use_of d l n) es ++ all_causes d l es
target_causes d around l (tree.Number z) = WrongShape ∷ []
target_causes d around l (tree.Negated e) = WrongShape ∷ []
target_causes d around l (tree.Joined o a b) = WrongShape ∷ []

abbrev pub see_element : Use → Seen → Seen
see_element (as_name.Array k d) s = referred s
see_element _ s = s

abbrev pub see_target : Declared → Line → ExprTree → Seen → Seen
see_target d l (tree.Named n) s = see_name (use_of d l n) n s
see_target d l (tree.Applied n es) s = see_all d l es (see_element (use_of d l n) s)
see_target d l (tree.Number z) s = s
see_target d l (tree.Negated e) s = s
see_target d l (tree.Joined o a b) s = s

-- the number of a scalar
abbrev pub scalar_meant : Use → List ℕ → Seen → ℕ
scalar_meant as_name.Scalar n s = capped (number_in s.scalars n)
scalar_meant _ n s = 0

abbrev pub element_meant : Use → Expressions → Seen → Target
element_meant (as_name.Array k d) es s = ToElement k es s.sites
element_meant _ es s = ToScalar 0

abbrev pub target_meant : Declared → Line → ExprTree → Seen → Target
target_meant d l (tree.Named n) s = ToScalar (scalar_meant (use_of d l n) n s)
target_meant d l (tree.Applied n es) s = element_meant (use_of d l n) (all_meant d l es (see_element (use_of d l n) s)) s
target_meant d l (tree.Number z) s = ToScalar 0
target_meant d l (tree.Negated e) s = ToScalar 0
target_meant d l (tree.Joined o a b) s = ToScalar 0

-- ---- what a PRINT prints

abbrev pub item_causes : Declared → Line → ItemTree → List Cause
item_causes d l (Quoted text) = []
item_causes d l (Valued e) = causes d l e

abbrev pub see_item : Declared → Line → ItemTree → Seen → Seen
see_item d l (Quoted text) s = s
see_item d l (Valued e) s = see d l e s

abbrev pub item_meant : Declared → Line → ItemTree → Seen → PrintItem
item_meant d l (Quoted text) s = Words text
item_meant d l (Valued e) s = Value (meant d l e s)

abbrev pub items_causes : Declared → Line → List ItemTree → List Cause
items_causes d l [] = []
items_causes d l (x ∷ xs) = item_causes d l x ++ items_causes d l xs

abbrev pub see_items : Declared → Line → List ItemTree → Seen → Seen
see_items d l [] s = s
see_items d l (x ∷ xs) s = see_items d l xs (see_item d l x s)

abbrev pub items_meant : Declared → Line → List ItemTree → Seen → List PrintItem
items_meant d l [] s = []
items_meant d l (x ∷ xs) s = item_meant d l x s ∷ items_meant d l xs (see_item d l x s)

-- ---- limits

abbrev pub most_statements : ℕ
most_statements = 4096

abbrev pub most_names : ℕ
most_names = 16384

-- a statement with as many before it as there may be in all; of these lines the first is where the count passes its limit
abbrev pub statement_limit : Seen → List Cause
statement_limit s = given (nat_le most_statements s.statements) (TooMany limits.Statements)

-- a line behind which there are too many scalars and decompositions
abbrev pub name_limit : Seen → List Cause
name_limit s = given (nat_lt most_names (length s.scalars + s.decomps)) (TooMany limits.Names)

-- ---- statements

-- one more statement
abbrev pub begun : Seen → Seen
begun s = record s { statements = s.statements + 1 }

-- what a statement itself names, without the statements in it
abbrev pub see_head : Declared → StmtTree → Seen → Seen
see_head d (AssignStmt l t e) s = see d l e (see_target d l t (begun s))
see_head d (IfStmt l c so otherwise) s = see_condition d l c (begun s)
see_head d (DoStmt l n a b by body) s = see d l by (see d l b (see d l a (see_name (use_of d l n) n (begun s))))
see_head d (WhileStmt l c body) s = see_condition d l c (begun s)
see_head d (ReadStmt l t) s = see_target d l t (begun s)
see_head d (PrintStmt l xs) s = see_items d l xs (begun s)
see_head d (SkipStmt l) s = begun s
see_head d (RemapStmt l n xs) s = s

abbrev mutual
  pub see_stmt : Declared → StmtTree → Seen → Seen
  see_stmt d (AssignStmt l t e) s = see_head d (AssignStmt l t e) s
  see_stmt d (IfStmt l c so otherwise) s = see_stmts d otherwise (see_stmts d so (see_head d (IfStmt l c so otherwise) s))
  see_stmt d (DoStmt l n a b by body) s = see_stmts d body (see_head d (DoStmt l n a b by body) s)
  see_stmt d (WhileStmt l c body) s = see_stmts d body (see_head d (WhileStmt l c body) s)
  see_stmt d (ReadStmt l t) s = see_head d (ReadStmt l t) s
  see_stmt d (PrintStmt l xs) s = see_head d (PrintStmt l xs) s
  see_stmt d (SkipStmt l) s = see_head d (SkipStmt l) s
  see_stmt d (RemapStmt l n xs) s = see_head d (RemapStmt l n xs) s

  pub see_stmts : Declared → StmtTrees → Seen → Seen
  see_stmts d NoStmts s = s
  see_stmts d (Stmt x rest) s = see_stmts d rest (see_stmt d x s)

-- all that is wrong in what a statement itself names
abbrev pub head_causes : Declared → List (List ℕ) → StmtTree → List Cause
head_causes d around (AssignStmt l t e) = target_causes d around l t ++ causes d l e
head_causes d around (IfStmt l c so otherwise) = condition_causes d l c
head_causes d around (DoStmt l n a b by body) = set_causes (use_of d l n) (has_name around n) ++ (causes d l a ++ (causes d l b ++ causes d l by))
head_causes d around (WhileStmt l c body) = condition_causes d l c
head_causes d around (ReadStmt l t) = target_causes d around l t
head_causes d around (PrintStmt l xs) = items_causes d l xs
head_causes d around (SkipStmt l) = []
head_causes d around (RemapStmt l n xs) = []

-- all that is wrong on a statement's own line, but for the statements in it
abbrev pub own_causes : Declared → List (List ℕ) → StmtTree → Seen → List Cause
own_causes d around x s = statement_limit s ++ (head_causes d around x ++ name_limit (see_head d x s))

abbrev mutual
  -- all refusals of a statement, with the variables of the loops around, behind what was seen before it
  pub refusals : Declared → List (List ℕ) → StmtTree → Seen → List Refusal
  refusals d around (AssignStmt l t e) s = at_line l (own_causes d around (AssignStmt l t e) s)
  refusals d around (IfStmt l c so otherwise) s =
      at_line l (own_causes d around (IfStmt l c so otherwise) s)
      ++ (all_refusals d around so (see_head d (IfStmt l c so otherwise) s) ++ all_refusals d around otherwise (see_stmts d so (see_head d (IfStmt l c so otherwise) s)))
  refusals d around (DoStmt l n a b by body) s =
      at_line l (own_causes d around (DoStmt l n a b by body) s) ++ all_refusals d (around ++ n ∷ []) body (see_head d (DoStmt l n a b by body) s)
  refusals d around (WhileStmt l c body) s =
      at_line l (own_causes d around (WhileStmt l c body) s) ++ all_refusals d around body (see_head d (WhileStmt l c body) s)
  refusals d around (ReadStmt l t) s = at_line l (own_causes d around (ReadStmt l t) s)
  refusals d around (PrintStmt l xs) s = at_line l (own_causes d around (PrintStmt l xs) s)
  refusals d around (SkipStmt l) s = at_line l (own_causes d around (SkipStmt l) s)
  refusals d around (RemapStmt l n xs) s = at_line l (LeftOut ∷ [])

  pub all_refusals : Declared → List (List ℕ) → StmtTrees → Seen → List Refusal
  all_refusals d around NoStmts s = []
  all_refusals d around (Stmt x rest) s = refusals d around x s ++ all_refusals d around rest (see_stmt d x s)

abbrev mutual
  -- what a statement stands for, behind what was seen before it
  pub stmt_meant : Declared → StmtTree → Seen → Statement
  stmt_meant d (AssignStmt l t e) s = Assign l (target_meant d l t (begun s)) (meant d l e (see_target d l t (begun s)))
  stmt_meant d (IfStmt l c so otherwise) s =
      If l (condition_meant d l c (begun s))
      (stmts_meant d so (see_head d (IfStmt l c so otherwise) s))
      (stmts_meant d otherwise (see_stmts d so (see_head d (IfStmt l c so otherwise) s)))
  stmt_meant d (DoStmt l n a b by body) s =
      Do l (scalar_meant (use_of d l n) n (begun s))
      (meant d l a (see_name (use_of d l n) n (begun s)))
      (meant d l b (see d l a (see_name (use_of d l n) n (begun s))))
      (meant d l by (see d l b (see d l a (see_name (use_of d l n) n (begun s)))))
      (stmts_meant d body (see_head d (DoStmt l n a b by body) s))
  stmt_meant d (WhileStmt l c body) s =
      While l (condition_meant d l c (begun s)) (stmts_meant d body (see_head d (WhileStmt l c body) s))
  stmt_meant d (ReadStmt l t) s = Read l (target_meant d l t (begun s))
  stmt_meant d (PrintStmt l xs) s = Print l (items_meant d l xs (begun s))
  stmt_meant d (SkipStmt l) s = Continue l
  stmt_meant d (RemapStmt l n xs) s = Continue l

  pub stmts_meant : Declared → StmtTrees → Seen → Statements
  stmts_meant d NoStmts s = Empty
  stmts_meant d (Stmt x rest) s = Then (stmt_meant d x s) (stmts_meant d rest (see_stmt d x s))

-- statements in front of others
abbrev pub in_front : List Statement → Statements → Statements
in_front [] rest = rest
in_front (x ∷ xs) rest = Then x (in_front xs rest)
