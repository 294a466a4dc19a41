-- The grammar of expressions, by its rules. Each kind relates tokens, a tree, and the tokens that are left: the tokens
-- begin with a thing of that kind, which has this tree, and then the rest stands.
use Rattle.std.specs.Prelude.{ℕ, ℤ, List, [], ◌∷◌}
use Rattle.fd_lexer.specs.declared.token.SignKind.{SignKind}
use Rattle.fd_lexer.specs.declared.token.SignKind.TheVariants.{ParLeft, ParRight, Comma, Plus, Minus, Star, Slash}
use Rattle.fd_lexer.specs.View.{Tok, Name, Num, Sign}
use Rattle.fd_ast.specs.declared.expression.Op.{Op}
use Rattle.fd_ast.specs.declared.expression.Op.TheVariants.{Add, Sub, Mul, Div}
use Rattle.fd_ast.specs.Tree.{ExprTree, Number, Named, Applied, Negated, Joined, ExprTrees, NoExprs, Expr}

-- + or -
pub data IsSumSign : List Tok → Op → List Tok → Type 0 where
  plus : {ts : List Tok} → IsSumSign (Sign Plus ∷ ts) Add ts
  minus : {ts : List Tok} → IsSumSign (Sign Minus ∷ ts) Sub ts

-- * or /
pub data IsFactorSign : List Tok → Op → List Tok → Type 0 where
  star : {ts : List Tok} → IsFactorSign (Sign Star ∷ ts) Mul ts
  slash : {ts : List Tok} → IsFactorSign (Sign Slash ∷ ts) Div ts

mutual
  -- expr = signed {(+|-) term}, grouped from the left
  pub data IsExpr : List Tok → ExprTree → List Tok → Type 0 where
    first : {ts us : List Tok} {x : ExprTree} → IsSigned ts x us → IsExpr ts x us
    sum : {ts us vs ws : List Tok} {x y : ExprTree} {op : Op} → IsExpr ts x us → IsSumSign us op vs → IsTerm vs y ws → IsExpr ts (Joined op x y) ws

  -- signed = [+|-] term: a minus is applied to the first term as a whole
  pub data IsSigned : List Tok → ExprTree → List Tok → Type 0 where
    bare : {ts us : List Tok} {x : ExprTree} → IsTerm ts x us → IsSigned ts x us
    positive : {ts us : List Tok} {x : ExprTree} → IsTerm ts x us → IsSigned (Sign Plus ∷ ts) x us
    negative : {ts us : List Tok} {x : ExprTree} → IsTerm ts x us → IsSigned (Sign Minus ∷ ts) (Negated x) us

  -- term = primary {(*|/) primary}, grouped from the left
  pub data IsTerm : List Tok → ExprTree → List Tok → Type 0 where
    one : {ts us : List Tok} {x : ExprTree} → IsPrimary ts x us → IsTerm ts x us
    product : {ts us vs ws : List Tok} {x y : ExprTree} {op : Op} → IsTerm ts x us → IsFactorSign us op vs → IsPrimary vs y ws → IsTerm ts (Joined op x y) ws

  -- primary = NUMBER | NAME | NAME ( args | ( expr )
  pub data IsPrimary : List Tok → ExprTree → List Tok → Type 0 where
    number : {z : ℤ} {ts : List Tok} → IsPrimary (Num z ∷ ts) (Number z) ts
    name : {s : List ℕ} {ts : List Tok} → IsPrimary (Name s ∷ ts) (Named s) ts
    call : {s : List ℕ} {ts us : List Tok} {xs : ExprTrees} → IsArgs ts xs us → IsPrimary (Name s ∷ (Sign ParLeft ∷ ts)) (Applied s xs) us
    group : {ts us : List Tok} {x : ExprTree} → IsExpr ts x (Sign ParRight ∷ us) → IsPrimary (Sign ParLeft ∷ ts) x us

  -- args = expr {, expr} )
  pub data IsArgs : List Tok → ExprTrees → List Tok → Type 0 where
    last : {ts us : List Tok} {x : ExprTree} → IsExpr ts x (Sign ParRight ∷ us) → IsArgs ts (Expr x NoExprs) us
    before : {ts us vs : List Tok} {x : ExprTree} {xs : ExprTrees} → IsExpr ts x (Sign Comma ∷ us) → IsArgs us xs vs → IsArgs ts (Expr x xs) vs

-- Tokens with which a thing doesn't go on: a primary, a term, an expression.
abbrev pub EndsPrimaryAt : SignKind → Type 0
EndsPrimaryAt ParLeft = ⊥
EndsPrimaryAt s = Unit {0}

abbrev pub EndsTermAt : SignKind → Type 0
EndsTermAt ParLeft = ⊥
EndsTermAt Star = ⊥
EndsTermAt Slash = ⊥
EndsTermAt s = Unit {0}

abbrev pub EndsExprAt : SignKind → Type 0
EndsExprAt ParLeft = ⊥
EndsExprAt Star = ⊥
EndsExprAt Slash = ⊥
EndsExprAt Plus = ⊥
EndsExprAt Minus = ⊥
EndsExprAt s = Unit {0}

unfoldable pub EndsPrimary : List Tok → Type 0
EndsPrimary [] = Unit {0}
EndsPrimary (Sign s ∷ ts) = EndsPrimaryAt s
EndsPrimary (t ∷ ts) = Unit {0}

unfoldable pub EndsTerm : List Tok → Type 0
EndsTerm [] = Unit {0}
EndsTerm (Sign s ∷ ts) = EndsTermAt s
EndsTerm (t ∷ ts) = Unit {0}

unfoldable pub EndsExpr : List Tok → Type 0
EndsExpr [] = Unit {0}
EndsExpr (Sign s ∷ ts) = EndsExprAt s
EndsExpr (t ∷ ts) = Unit {0}

-- these expressions, and then those
abbrev pub joined_exprs : List ExprTree → ExprTrees → ExprTrees
joined_exprs [] xs = xs
joined_exprs (y ∷ ys) xs = Expr y (joined_exprs ys xs)

abbrev pub all_exprs : List ExprTree → ExprTrees
all_exprs ys = joined_exprs ys NoExprs
