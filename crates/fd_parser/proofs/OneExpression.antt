-- Tokens have at most one expression.
use Rattle.std.proofs.Common.{◌≡◌, List, [], ◌∷◌, refl, ap, subst}
use Rattle.fd_lexer.specs.declared.token.SignKind.TheVariants.{ParRight, Comma}
use Rattle.fd_lexer.specs.View.{Tok, Sign}
use Rattle.fd_ast.specs.declared.expression.Op.{Op}
use Rattle.fd_ast.specs.Tree.{ExprTree, Applied, Negated, Joined, ExprTrees, NoExprs, Expr}
use Rattle.fd_parser.specs.Expressions.{IsExpr, first, sum, IsSigned, bare, positive, negative, IsTerm, one, product, IsPrimary, number, name, call, group, IsArgs, last, before, EndsExpr, EndsTerm, EndsPrimary}
use Rattle.fd_parser.proofs.LeftToRight.{MoreTerms, MoreFactors, term_parts, factors_end, factor_ends, factor_parts, factor_no_end, expr_parts, terms_end, term_ends, term_no_end, sum_parts, no_factors, no_terms, EndsExpr-term, EndsTerm-primary, ends_nothing, ends_right, ends_comma, name_goes_on, term_right, term_comma}
use Rattle.fd_parser.proofs.Rules.{no_plus, no_minus}

-- both are the same
pub record AreSame {X : Type 0} (x : X) (r : List Tok) (y : X) (s : List Tok) : Type 0 where
  pub tree : x ≡ y
  pub rest : r ≡ s

no_more_terms : {r s : List Tok} {x y : ExprTree} → EndsExpr r → MoreTerms x r y s → AreSame x r y s
no_more_terms h m = let e = no_terms (λ op vs s. term_no_end s h) m in record { tree = e.0; rest = e.1 }

no_more_factors : {r s : List Tok} {x y : ExprTree} → EndsTerm r → MoreFactors x r y s → AreSame x r y s
no_more_factors h m = let e = no_factors (λ op vs s. factor_no_end s h) m in record { tree = e.0; rest = e.1 }

terms_from : {r r' s : List Tok} {x x' y : ExprTree} → AreSame x r x' r' → MoreTerms x' r' y s → MoreTerms x r y s
terms_from e m = rw (e.tree, e.rest) m

factors_from : {r r' s : List Tok} {x x' y : ExprTree} → AreSame x r x' r' → MoreFactors x' r' y s → MoreFactors x r y s
factors_from e m = rw (e.tree, e.rest) m

sum_from : {r r' s : List Tok} {w x x' y : ExprTree} {op : Op} → AreSame x r x' r' → MoreTerms (Joined op w x') r' y s → MoreTerms (Joined op w x) r y s
sum_from e m = rw (e.tree, e.rest) m

product_from : {r r' s : List Tok} {w x x' y : ExprTree} {op : Op} → AreSame x r x' r' → MoreFactors (Joined op w x') r' y s → MoreFactors (Joined op w x) r y s
product_from e m = rw (e.tree, e.rest) m

mutual
  -- where the one stops, the other goes on
  through_expr : {ts r s : List Tok} {x y : ExprTree} → IsExpr ts x r → EndsTerm r → IsExpr ts y s → EndsExpr s → MoreTerms x r y s
  through_expr (first a) e d h = let q = expr_parts d in terms_from (same_signed a e q.head (terms_end q.more h)) q.more
  through_expr (sum {ws = r} a g t) e d h = let q = sum_parts g h (through_expr a (term_ends g) d h) in sum_from (no_more_factors e (through_term t (EndsTerm-primary r e) q.head (terms_end q.more h))) q.more

  same_signed : {ts r s : List Tok} {x y : ExprTree} → IsSigned ts x r → EndsTerm r → IsSigned ts y s → EndsTerm s → AreSame x r y s
  same_signed (bare {us = r} t) e (bare t') h = no_more_factors e (through_term t (EndsTerm-primary r e) t' (h))
  same_signed (bare t) e (positive t') h = absurd (no_plus (term_parts t).head)
  same_signed (bare t) e (negative t') h = absurd (no_minus (term_parts t).head)
  same_signed (positive t) e (bare t') h = absurd (no_plus (term_parts t').head)
  same_signed (positive {us = r} t) e (positive t') h = no_more_factors e (through_term t (EndsTerm-primary r e) t' (h))
  same_signed (negative t) e (bare t') h = absurd (no_minus (term_parts t').head)
  same_signed (negative {us = r} t) e (negative t') h = let q = no_more_factors e (through_term t (EndsTerm-primary r e) t' (h)) in record { tree = ap Negated q.tree; rest = q.rest }

  through_term : {ts r s : List Tok} {x y : ExprTree} → IsTerm ts x r → EndsPrimary r → IsTerm ts y s → EndsTerm s → MoreFactors x r y s
  through_term (one a) e d h = let q = term_parts d in factors_from (same_primary a e q.head (factors_end q.more h)) q.more
  through_term (product a g t) e d h = let q = factor_parts g h (through_term a (factor_ends g) d h) in product_from (same_primary t e q.head (factors_end q.more h)) q.more

  same_primary : {ts r s : List Tok} {x y : ExprTree} → IsPrimary ts x r → EndsPrimary r → IsPrimary ts y s → EndsPrimary s → AreSame x r y s
  same_primary number e number h = record { tree = refl; rest = refl }
  same_primary name e name h = record { tree = refl; rest = refl }
  same_primary name e (call a) h = absurd (name_goes_on _ e)
  same_primary (call a) e name h = absurd (name_goes_on _ h)
  same_primary (call {s = n} a) e (call b) h = let q = same_args a b in record { tree = ap (λ (xs : ExprTrees). Applied n xs) q.tree; rest = q.rest }
  same_primary (group {us = us} {x = x} a) e (group {us = vs} {x = y} b) h = let q = no_more_terms (ends_right us) (through_expr a (term_right us) b (ends_right vs)) in let f : Sign ParRight ∷ us ≡ Sign ParRight ∷ vs = q.rest in record { tree = q.tree; rest = cc }

  pub same_args : {ts r s : List Tok} {xs ys : ExprTrees} → IsArgs ts xs r → IsArgs ts ys s → AreSame xs r ys s
  same_args (last {us = us} a) (last {us = vs} b) = let q = no_more_terms (ends_right us) (through_expr a (term_right us) b (ends_right vs)) in let f : Sign ParRight ∷ us ≡ Sign ParRight ∷ vs = q.rest in record { tree = ap (λ (x : ExprTree). Expr x NoExprs) q.tree; rest = cc }
  same_args (last {us = us} a) (before {us = vs} b l) = let f : Sign ParRight ∷ us ≡ Sign Comma ∷ vs = (no_more_terms (ends_right us) (through_expr a (term_right us) b (ends_comma vs))).rest in absurd cc
  same_args (before {us = us} a l) (last {us = vs} b) = let f : Sign Comma ∷ us ≡ Sign ParRight ∷ vs = (no_more_terms (ends_comma us) (through_expr a (term_comma us) b (ends_right vs))).rest in absurd cc
  same_args (before {us = us} a l) (before {us = vs} {vs = s} {xs = ys} b m) =
      let q = no_more_terms (ends_comma us) (through_expr a (term_comma us) b (ends_comma vs)) in
      let f : Sign Comma ∷ us ≡ Sign Comma ∷ vs = q.rest in
      let g : vs ≡ us = cc in
      let p = same_args l (subst (λ (ts : List Tok). IsArgs ts ys s) g m) in
      record { tree = rw (q.tree, p.tree) refl; rest = p.rest }

pub same_expr : {ts r s : List Tok} {x y : ExprTree} → IsExpr ts x r → EndsExpr r → IsExpr ts y s → EndsExpr s → AreSame x r y s
same_expr {r = r} a e d h = no_more_terms e (through_expr a (EndsExpr-term r e) d h)

pub one_tree : (ts : List Tok) (x y : ExprTree) → IsExpr ts x [] → IsExpr ts y [] → x ≡ y
one_tree ts x y a b = (same_expr a ends_nothing b ends_nothing).tree
