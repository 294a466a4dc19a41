-- The rules of expressions at tokens that are known by an equation, and what a thing's first token says of it.
use Rattle.std.proofs.Common.{◌≡◌, ℕ, ℤ, List, [], ◌∷◌, ◌++◌, length, ◌<◌, refl, ap, subst, arith}
use Rattle.fd_lexer.specs.declared.token.SignKind.TheVariants.{ParLeft, ParRight, Comma, Plus, Minus, Star, Slash}
use Rattle.fd_lexer.specs.View.{Tok, Name, Num, Sign}
use Rattle.fd_ast.specs.declared.expression.Op.{Op}
use Rattle.fd_ast.specs.declared.expression.Op.TheVariants.{Add, Sub, Mul, Div}
use Rattle.fd_ast.specs.Tree.{ExprTree, Number, Named, Applied, Negated, ExprTrees, NoExprs, Expr}
use Rattle.fd_parser.specs.Expressions.{IsExpr, IsSigned, bare, positive, negative, IsTerm, IsPrimary, number, name, call, group, IsArgs, last, before, IsSumSign, plus, minus, IsFactorSign, star, slash, EndsPrimary, EndsExpr, joined_exprs}
use Rattle.fd_parser.proofs.LeftToRight.{term_parts, ends_right, ends_comma, name_goes_on}

pub plus_at : {ts us : List Tok} → ts ≡ Sign Plus ∷ us → IsSumSign ts Add us
plus_at e = rw e plus

pub minus_at : {ts us : List Tok} → ts ≡ Sign Minus ∷ us → IsSumSign ts Sub us
minus_at e = rw e minus

pub star_at : {ts us : List Tok} → ts ≡ Sign Star ∷ us → IsFactorSign ts Mul us
star_at e = rw e star

pub slash_at : {ts us : List Tok} → ts ≡ Sign Slash ∷ us → IsFactorSign ts Div us
slash_at e = rw e slash

pub number_at : {ts us : List Tok} {z : ℤ} → ts ≡ Num z ∷ us → IsPrimary ts (Number z) us
number_at e = rw e number

pub name_at : {ts us : List Tok} {s : List ℕ} → ts ≡ Name s ∷ us → IsPrimary ts (Named s) us
name_at e = rw e name

pub call_at : {ts us vs ws : List Tok} {s : List ℕ} {xs : ExprTrees} → ts ≡ Name s ∷ us → us ≡ Sign ParLeft ∷ vs → IsArgs vs xs ws → IsPrimary ts (Applied s xs) ws
call_at e f a = rw (e, f) (call a)

pub group_at : {ts us vs ws : List Tok} {x : ExprTree} → ts ≡ Sign ParLeft ∷ us → IsExpr us x vs → vs ≡ Sign ParRight ∷ ws → IsPrimary ts x ws
group_at {us = us} {x = x} e d f = rw e (group (subst (λ (vs : List Tok). IsExpr us x vs) f d))

pub negative_at : {ts us vs : List Tok} {x : ExprTree} → ts ≡ Sign Minus ∷ us → IsTerm us x vs → IsSigned ts (Negated x) vs
negative_at e t = rw e (negative t)

pub positive_at : {ts us vs : List Tok} {x : ExprTree} → ts ≡ Sign Plus ∷ us → IsTerm us x vs → IsSigned ts x vs
positive_at e t = rw e (positive t)

-- ---- what the first token says

pub no_plus : {us vs : List Tok} {x : ExprTree} → IsPrimary (Sign Plus ∷ us) x vs → ⊥
no_plus p = elim p [ ]

pub no_minus : {us vs : List Tok} {x : ExprTree} → IsPrimary (Sign Minus ∷ us) x vs → ⊥
no_minus p = elim p [ ]

positive_parts : {us vs : List Tok} {x : ExprTree} → IsSigned (Sign Plus ∷ us) x vs → IsTerm us x vs
positive_parts (bare t) = absurd (no_plus (term_parts t).head)
positive_parts (positive t) = t

pub positive_parts_at : {ts us vs : List Tok} {x : ExprTree} → ts ≡ Sign Plus ∷ us → IsSigned ts x vs → IsTerm us x vs
positive_parts_at {vs = vs} {x = x} e s = positive_parts (subst (λ (ts : List Tok). IsSigned ts x vs) e s)

pub record NegativeParts (us : List Tok) (x : ExprTree) (vs : List Tok) : Type 0 where
  pub tree : ExprTree
  pub negated : Negated tree ≡ x
  pub term : IsTerm us tree vs

negative_parts : {us vs : List Tok} {x : ExprTree} → IsSigned (Sign Minus ∷ us) x vs → NegativeParts us x vs
negative_parts (bare t) = absurd (no_minus (term_parts t).head)
negative_parts (negative {x = x} t) = record { tree = x; negated = refl; term = t }

pub negative_parts_at : {ts us vs : List Tok} {x : ExprTree} → ts ≡ Sign Minus ∷ us → IsSigned ts x vs → NegativeParts us x vs
negative_parts_at {vs = vs} {x = x} e s = negative_parts (subst (λ (ts : List Tok). IsSigned ts x vs) e s)

-- a name that ends, or its arguments
pub record CallParts (s : List ℕ) (vs : List Tok) (x : ExprTree) (ws : List Tok) : Type 0 where
  pub trees : ExprTrees
  pub applied : Applied s trees ≡ x
  pub list : IsArgs vs trees ws

call_parts : {s : List ℕ} {vs ws : List Tok} {x : ExprTree} → IsPrimary (Name s ∷ (Sign ParLeft ∷ vs)) x ws → EndsPrimary ws → CallParts s vs x ws
call_parts name h = absurd (name_goes_on _ h)
call_parts (call {xs = xs} a) h = record { trees = xs; applied = refl; list = a }

pub call_parts_at : {ts us vs ws : List Tok} {s : List ℕ} {x : ExprTree} → ts ≡ Name s ∷ us → us ≡ Sign ParLeft ∷ vs → IsPrimary ts x ws → EndsPrimary ws → CallParts s vs x ws
call_parts_at {ws = ws} {s = s} {x = x} e f p h = call_parts (subst (λ (us : List Tok). IsPrimary (Name s ∷ us) x ws) f (subst (λ (ts : List Tok). IsPrimary ts x ws) e p)) h

pub sum_shorter : {ts us : List Tok} {op : Op} → IsSumSign ts op us → length us < length ts
sum_shorter plus = omega arith
sum_shorter minus = omega arith

pub factor_shorter : {ts us : List Tok} {op : Op} → IsFactorSign ts op us → length us < length ts
factor_shorter star = omega arith
factor_shorter slash = omega arith

group_parts : {us vs : List Tok} {x : ExprTree} → IsPrimary (Sign ParLeft ∷ us) x vs → IsExpr us x (Sign ParRight ∷ vs)
group_parts (group d) = d

pub group_parts_at : {ts us vs : List Tok} {x : ExprTree} → ts ≡ Sign ParLeft ∷ us → IsPrimary ts x vs → IsExpr us x (Sign ParRight ∷ vs)
group_parts_at {vs = vs} {x = x} e p = group_parts (subst (λ (ts : List Tok). IsPrimary ts x vs) e p)

pub same_rest : {ts us vs : List Tok} → ts ≡ Sign ParRight ∷ us → ts ≡ Sign ParRight ∷ vs → us ≡ vs
same_rest e f = cc

pub cons_shorter : {ts us : List Tok} {u : Tok} → ts ≡ u ∷ us → length us < length ts
cons_shorter {us = us} e = rw e (omega arith)

pub no_sum_sign : {ts us : List Tok} {op : Op} → ((vs : List Tok) → ts ≡ Sign Plus ∷ vs → ⊥) → ((vs : List Tok) → ts ≡ Sign Minus ∷ vs → ⊥) → IsSumSign ts op us → ⊥
no_sum_sign p m (plus {ts = us}) = p us refl
no_sum_sign p m (minus {ts = us}) = m us refl

pub no_factor_sign : {ts us : List Tok} {op : Op} → ((vs : List Tok) → ts ≡ Sign Star ∷ vs → ⊥) → ((vs : List Tok) → ts ≡ Sign Slash ∷ vs → ⊥) → IsFactorSign ts op us → ⊥
no_factor_sign p m (star {ts = us}) = p us refl
no_factor_sign p m (slash {ts = us}) = m us refl

pub bare_parts : {ts us : List Tok} {x : ExprTree} → ((vs : List Tok) → ts ≡ Sign Minus ∷ vs → ⊥) → ((vs : List Tok) → ts ≡ Sign Plus ∷ vs → ⊥) → IsSigned ts x us → IsTerm ts x us
bare_parts m p (bare t) = t
bare_parts m p (positive {ts = ts} t) = absurd (p ts refl)
bare_parts m p (negative {ts = ts} t) = absurd (m ts refl)

-- a primary that begins with no number, name or parenthesis
pub no_primary : {ts us : List Tok} {x : ExprTree} → ((z : ℤ) (vs : List Tok) → ts ≡ Num z ∷ vs → ⊥) → ((s : List ℕ) (vs : List Tok) → ts ≡ Name s ∷ vs → ⊥) → ((vs : List Tok) → ts ≡ Sign ParLeft ∷ vs → ⊥) → IsPrimary ts x us → ⊥
no_primary n m p (number {z = z} {ts = us}) = n z us refl
no_primary n m p (name {s = s} {ts = us}) = m s us refl
no_primary n m p (call {s = s} {ts = ts} a) = m s (Sign ParLeft ∷ ts) refl
no_primary n m p (group {ts = ts} d) = p ts refl

number_parts : {z : ℤ} {us vs : List Tok} {x : ExprTree} → IsPrimary (Num z ∷ us) x vs → (Number z ≡ x) × (us ≡ vs)
number_parts number = (refl, refl)

pub number_parts_at : {z : ℤ} {ts us vs : List Tok} {x : ExprTree} → ts ≡ Num z ∷ us → IsPrimary ts x vs → (Number z ≡ x) × (us ≡ vs)
number_parts_at {vs = vs} {x = x} e p = number_parts (subst (λ (ts : List Tok). IsPrimary ts x vs) e p)

name_parts : {s : List ℕ} {us vs : List Tok} {x : ExprTree} → ((ws : List Tok) → us ≡ Sign ParLeft ∷ ws → ⊥) → IsPrimary (Name s ∷ us) x vs → (Named s ≡ x) × (us ≡ vs)
name_parts n name = (refl, refl)
name_parts n (call {ts = ts} a) = absurd (n ts refl)

-- a name without parentheses behind it
pub name_parts_at : {s : List ℕ} {ts us vs : List Tok} {x : ExprTree} → ts ≡ Name s ∷ us → ((ws : List Tok) → us ≡ Sign ParLeft ∷ ws → ⊥) → IsPrimary ts x vs → (Named s ≡ x) × (us ≡ vs)
name_parts_at {vs = vs} {x = x} e n p = name_parts n (subst (λ (ts : List Tok). IsPrimary ts x vs) e p)

-- ---- arguments behind a first one

pub data RestArgs : List Tok → ExprTrees → List Tok → Type 0 where
  no_arg : {us : List Tok} → RestArgs (Sign ParRight ∷ us) NoExprs us
  arg : {us vs ws : List Tok} {y : ExprTree} {ys : ExprTrees} → IsExpr us y vs → RestArgs vs ys ws → RestArgs (Sign Comma ∷ us) (Expr y ys) ws

pub rest_ends : {ts us : List Tok} {xs : ExprTrees} → RestArgs ts xs us → EndsExpr ts
rest_ends (no_arg {us = us}) = ends_right us
rest_ends (arg {us = us} d m) = ends_comma us

pub record ArgsParts (ts : List Tok) (xs : ExprTrees) (us : List Tok) : Type 0 where
  pub tree : ExprTree
  pub rest : List Tok
  pub trees : ExprTrees
  pub is : Expr tree trees ≡ xs
  pub head : IsExpr ts tree rest
  pub more : RestArgs rest trees us

pub args_parts : {ts us : List Tok} {xs : ExprTrees} → IsArgs ts xs us → ArgsParts ts xs us
args_parts (last {us = us} {x = x} d) = record { tree = x; rest = Sign ParRight ∷ us; trees = NoExprs; is = refl; head = d; more = no_arg }
args_parts (before {us = us} {x = x} {xs = xs} d a) = let q = args_parts a in record { tree = x; rest = Sign Comma ∷ us; trees = Expr q.tree q.trees; is = rw q.is refl; head = d; more = arg q.head q.more }

pub args_join : {ts us vs : List Tok} {x : ExprTree} {xs : ExprTrees} → IsExpr ts x us → RestArgs us xs vs → IsArgs ts (Expr x xs) vs
args_join d no_arg = last d
args_join d (arg e m) = before d (args_join e m)

pub record ArgParts (us : List Tok) (xs : ExprTrees) (ws : List Tok) : Type 0 where
  pub tree : ExprTree
  pub rest : List Tok
  pub trees : ExprTrees
  pub is : Expr tree trees ≡ xs
  pub head : IsExpr us tree rest
  pub more : RestArgs rest trees ws

arg_parts : {us ws : List Tok} {xs : ExprTrees} → RestArgs (Sign Comma ∷ us) xs ws → ArgParts us xs ws
arg_parts (arg {vs = vs} {y = y} {ys = ys} d m) = record { tree = y; rest = vs; trees = ys; is = refl; head = d; more = m }

pub arg_parts_at : {ts us ws : List Tok} {xs : ExprTrees} → ts ≡ Sign Comma ∷ us → RestArgs ts xs ws → ArgParts us xs ws
arg_parts_at {ws = ws} {xs = xs} e m = arg_parts (subst (λ (ts : List Tok). RestArgs ts xs ws) e m)

pub arg_at : {ts us vs ws : List Tok} {y : ExprTree} {ys : ExprTrees} → ts ≡ Sign Comma ∷ us → IsExpr us y vs → RestArgs vs ys ws → RestArgs ts (Expr y ys) ws
arg_at e d m = rw e (arg d m)

pub no_arg_at : {ts us : List Tok} → ts ≡ Sign ParRight ∷ us → RestArgs ts NoExprs us
no_arg_at e = rw e no_arg

over_parts : {us ws : List Tok} {xs : ExprTrees} → RestArgs (Sign ParRight ∷ us) xs ws → (NoExprs ≡ xs) × (us ≡ ws)
over_parts no_arg = (refl, refl)

pub over_parts_at : {ts us ws : List Tok} {xs : ExprTrees} → ts ≡ Sign ParRight ∷ us → RestArgs ts xs ws → (NoExprs ≡ xs) × (us ≡ ws)
over_parts_at {ws = ws} {xs = xs} e m = over_parts (subst (λ (ts : List Tok). RestArgs ts xs ws) e m)

pub no_rest : {ts us : List Tok} {xs : ExprTrees} → ((vs : List Tok) → ts ≡ Sign Comma ∷ vs → ⊥) → ((vs : List Tok) → ts ≡ Sign ParRight ∷ vs → ⊥) → RestArgs ts xs us → ⊥
no_rest c p (no_arg {us = us}) = p us refl
no_rest c p (arg {us = us} d m) = c us refl

pub joined_exprs-push : (ys : List ExprTree) (y : ExprTree) (xs : ExprTrees) → joined_exprs (ys ++ y ∷ []) xs ≡ joined_exprs ys (Expr y xs)
joined_exprs-push [] y xs = refl
joined_exprs-push (z ∷ ys) y xs = ap (λ zs. Expr z zs) (joined_exprs-push ys y xs)

-- what the arguments so far and those behind them make
pub record ArgsSeen (ts : List Tok) (done : List ExprTree) (rest : List Tok) : Type 0 where
  pub found : (ys : ExprTrees) (us : List Tok) → RestArgs rest ys us → IsArgs ts (joined_exprs done ys) us
  pub only : (xs : ExprTrees) (us : List Tok) → IsArgs ts xs us → (ys : ExprTrees) × (joined_exprs done ys ≡ xs) × RestArgs rest ys us

abbrev pub IsOnly : List Tok → ExprTree → List Tok → Type 0
IsOnly ts y rest = (x : ExprTree) (r : List Tok) → IsExpr ts x r → EndsExpr r → (y ≡ x) × (rest ≡ r)

pub args_begun : {ts rest : List Tok} {x : ExprTree} → IsExpr ts x rest → IsOnly ts x rest → ArgsSeen ts (x ∷ []) rest
args_begun {rest = rest} {x = x} d only = record {
  found = λ ys us m. args_join d m;
  only = λ xs us a.
      let q = args_parts a in
      let e = only q.tree q.rest q.head (rest_ends q.more) in
      (q.trees, rw e.0 q.is, rw e.1 q.more);
}

pub args_more : {ts rest us vs : List Tok} {done : List ExprTree} {y : ExprTree} → ArgsSeen ts done rest → rest ≡ Sign Comma ∷ us → IsExpr us y vs → IsOnly us y vs → ArgsSeen ts (done ++ y ∷ []) vs
args_more {ts = ts} {done = done} {y = y} s c d only = record {
  found = λ ys us m. rw (joined_exprs-push done y ys) (s.found (Expr y ys) us (arg_at c d m));
  only = λ xs us a.
      let q = s.only xs us a in
      let p = arg_parts_at c q.2 in
      let e = only p.tree p.rest p.head (rest_ends p.more) in
      (p.trees, rw (joined_exprs-push done y p.trees, e.0, p.is) q.1, rw e.1 p.more);
}
