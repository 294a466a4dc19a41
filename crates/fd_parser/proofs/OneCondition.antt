-- A condition has at most one tree.
use Rattle.std.proofs.Common.{◌≡◌, List, [], ◌∷◌, refl, sym, ap, subst}
use Rattle.fd_lexer.specs.declared.token.SignKind.TheVariants.{ParRight}
use Rattle.fd_lexer.specs.View.{Tok, Sign}
use Rattle.fd_ast.specs.Tree.{CondTree, Compared, Inverted, Both, Either}
use Rattle.fd_parser.specs.Expressions.{EndsExpr}
use Rattle.fd_parser.specs.Conditions.{IsCond, one_conj, either, IsConj, one_neg, both, IsNeg, plain, inverted, IsAtom, holds, fails, nested, compared, IsComparison, EndsConj, EndsCond}
use Rattle.fd_parser.proofs.OneExpression.{AreSame, same_expr}
use Rattle.fd_parser.proofs.Conditions.{MoreConjs, MoreNegs, conj_parts, cond_parts, negs_end, conjs_end, neg_parts, or_parts, no_negs, no_conjs, EndsConj-expr, EndsCond-conj, cmp_parts, same_sign_at, expr_at, no_not_atom, signed_true, signed_false, no_group, cond_right, cond_nothing, true_parts, false_parts, nested_parts, and_goes_on, or_goes_on, and_ends, or_ends, conj_right}
use Rattle.fd_parser.proofs.LeftToRight.{expr_parts}

no_more_conjs : {r s : List Tok} {x y : CondTree} → EndsCond r → MoreConjs x r y s → AreSame x r y s
no_more_conjs {r = r} h m = let e = no_conjs (λ us e. or_goes_on us (subst EndsCond e h)) m in record { tree = e.0; rest = e.1 }

no_more_negs : {r s : List Tok} {x y : CondTree} → EndsConj r → MoreNegs x r y s → AreSame x r y s
no_more_negs {r = r} h m = let e = no_negs (λ us e. and_goes_on us (subst EndsConj e h)) m in record { tree = e.0; rest = e.1 }

conjs_from : {r r' s : List Tok} {x x' y : CondTree} → AreSame x r x' r' → MoreConjs x' r' y s → MoreConjs x r y s
conjs_from e m = rw (e.tree, e.rest) m

negs_from : {r r' s : List Tok} {x x' y : CondTree} → AreSame x r x' r' → MoreNegs x' r' y s → MoreNegs x r y s
negs_from e m = rw (e.tree, e.rest) m

either_from : {r r' s : List Tok} {w x x' y : CondTree} → AreSame x r x' r' → MoreConjs (Either w x') r' y s → MoreConjs (Either w x) r y s
either_from e m = rw (e.tree, e.rest) m

both_from : {r r' s : List Tok} {w x x' y : CondTree} → AreSame x r x' r' → MoreNegs (Both w x') r' y s → MoreNegs (Both w x) r y s
both_from e m = rw (e.tree, e.rest) m

same_comparison : {ts r s : List Tok} {x y : CondTree} → IsComparison ts x r → EndsExpr r → IsComparison ts y s → EndsExpr s → AreSame x r y s
same_comparison a e b h =
    let p = cmp_parts a in
    let q = cmp_parts b in
    let f = same_expr p.first p.ends q.first q.ends in
    let g = same_sign_at f.rest p.sign q.sign in
    let k = same_expr (expr_at (sym g.rest) p.second) e q.second h in
    let same : Compared p.rel p.left p.right ≡ Compared q.rel q.left q.right = rw (f.tree, g.rel, k.tree) refl in
    record { tree = rw (← p.is, ← q.is) same; rest = k.rest }

cons_same : {us vs : List Tok} → Sign ParRight ∷ us ≡ Sign ParRight ∷ vs → us ≡ vs
cons_same e = cc

mutual
  through_cond : {ts r s : List Tok} {x y : CondTree} → IsCond ts x r → EndsConj r → IsCond ts y s → EndsCond s → MoreConjs x r y s
  through_cond (one_conj {us = r} a) e d h = let q = cond_parts d in conjs_from (no_more_negs e (through_conj a (EndsConj-expr r e) q.head (conjs_end q.more h))) q.more
  through_cond (either {us = us} {vs = r} a t) e d h = let q = or_parts h (through_cond a (or_ends us) d h) in either_from (no_more_negs e (through_conj t (EndsConj-expr r e) q.head (conjs_end q.more h))) q.more

  through_conj : {ts r s : List Tok} {x y : CondTree} → IsConj ts x r → EndsExpr r → IsConj ts y s → EndsConj s → MoreNegs x r y s
  through_conj (one_neg a) e d h = let q = conj_parts d in negs_from (same_neg a e q.head (negs_end q.more h)) q.more
  through_conj (both {us = us} a t) e d h = let q = neg_parts h (through_conj a (and_ends us) d h) in both_from (same_neg t e q.head (negs_end q.more h)) q.more

  same_neg : {ts r s : List Tok} {x y : CondTree} → IsNeg ts x r → EndsExpr r → IsNeg ts y s → EndsExpr s → AreSame x r y s
  same_neg (plain a) e (plain b) h = same_atom a e b h
  same_neg (plain a) e (inverted b) h = absurd (no_not_atom a)
  same_neg (inverted a) e (plain b) h = absurd (no_not_atom b)
  same_neg (inverted a) e (inverted b) h = let q = same_atom a e b h in record { tree = ap Inverted q.tree; rest = q.rest }

  same_atom : {ts r s : List Tok} {x y : CondTree} → IsAtom ts x r → EndsExpr r → IsAtom ts y s → EndsExpr s → AreSame x r y s
  same_atom holds e b h = let q = true_parts b in record { tree = q.0; rest = q.1 }
  same_atom fails e b h = let q = false_parts b in record { tree = q.0; rest = q.1 }
  same_atom (nested {us = us} a) e b h =
      let c = nested_parts a b in
      let q = no_more_conjs (cond_right us) (through_cond a (conj_right us) c (cond_right _)) in
      record { tree = q.tree; rest = cons_same q.rest }
  same_atom (compared a) e (compared b) h = same_comparison a e b h
  same_atom (compared a) e holds h = absurd (signed_true (expr_parts (cmp_parts a).first).head)
  same_atom (compared a) e fails h = absurd (signed_false (expr_parts (cmp_parts a).first).head)
  same_atom (compared a) e (nested b) h = absurd (no_group b (cmp_parts a).first)

pub one_condition : (ts : List Tok) (x y : CondTree) → IsCond ts x [] → IsCond ts y [] → x ≡ y
one_condition ts x y a b = (no_more_conjs cond_nothing (through_cond a (EndsCond-conj [] cond_nothing) b cond_nothing)).tree

-- two conditions before a closing parenthesis are the same
pub same_cond : {ts us vs : List Tok} {x y : CondTree} → IsCond ts x (Sign ParRight ∷ us) → IsCond ts y (Sign ParRight ∷ vs) → AreSame x us y vs
same_cond {us = us} {vs = vs} a b = let q = no_more_conjs (cond_right us) (through_cond a (conj_right us) b (cond_right vs)) in record { tree = q.tree; rest = cons_same q.rest }
