-- Conditions from left to right, and their rules at tokens that are known by an equation.
use Rattle.std.proofs.Common.{◌≡◌, true, false, List, [], ◌∷◌, ◌<◌, length, Some, None, refl, sym, subst, arith}
use Rattle.fd_base.specs.declared.relation.Rel.{Rel}
use Rattle.fd_lexer.specs.declared.token.SignKind.{SignKind}
use Rattle.fd_lexer.specs.declared.token.SignKind.TheVariants.{ParLeft, ParRight, Comma, Star, Slash, Plus, Minus}
use Rattle.fd_lexer.specs.declared.token.DotWord.{DotWord}
use Rattle.fd_lexer.specs.declared.token.DotWord.TheVariants.{And, Or, Not, IsTrue, IsFalse}
use Rattle.fd_lexer.specs.View.{Tok, Dot, Sign}
use Rattle.fd_ast.specs.Tree.{ExprTree, CondTree, Fixed, Compared, Inverted, Both, Either}
use Rattle.fd_parser.specs.Expressions.{IsExpr, IsSigned, bare, IsPrimary, group, EndsExprAt, EndsExpr}
use Rattle.fd_parser.specs.Conditions.{rel_of, rel_of_sign, IsRelSign, relation, IsCond, one_conj, either, IsConj, one_neg, both, IsNeg, plain, inverted, IsAtom, holds, fails, nested, compared, IsComparison, comparison, EndsConjAt, EndsCondAt, EndsConj, EndsCond}
use Rattle.fd_parser.proofs.LeftToRight.{term_parts, expr_parts, ends_right}
use Rattle.fd_parser.proofs.OneExpression.{same_expr}

pub data MoreNegs : CondTree → List Tok → CondTree → List Tok → Type 0 where
  no_neg : {x : CondTree} {ts : List Tok} → MoreNegs x ts x ts
  and_neg : {us vs ws : List Tok} {x y z : CondTree} → IsNeg us y vs → MoreNegs (Both x y) vs z ws → MoreNegs x (Dot And ∷ us) z ws

negs-then : {ts us vs : List Tok} {x y z : CondTree} → MoreNegs x ts y us → MoreNegs y us z vs → MoreNegs x ts z vs
negs-then no_neg q = q
negs-then (and_neg p m) q = and_neg p (negs-then m q)

pub record ConjParts (ts : List Tok) (x : CondTree) (us : List Tok) : Type 0 where
  pub tree : CondTree
  pub rest : List Tok
  pub head : IsNeg ts tree rest
  pub more : MoreNegs tree rest x us

pub conj_parts : {ts us : List Tok} {x : CondTree} → IsConj ts x us → ConjParts ts x us
conj_parts (one_neg {us = us} {x = x} p) = record { tree = x; rest = us; head = p; more = no_neg }
conj_parts (both d p) = let l = conj_parts d in record { tree = l.tree; rest = l.rest; head = l.head; more = negs-then l.more (and_neg p no_neg) }

pub EndsConj-expr : (ts : List Tok) → EndsConj ts → EndsExpr ts
unfolding EndsConj EndsExpr
EndsConj-expr [] h = tt
EndsConj-expr (Sign s ∷ ts) h = h
EndsConj-expr (t ∷ ts) h = tt

pub negs_end : {ts us : List Tok} {x y : CondTree} → MoreNegs x ts y us → EndsConj us → EndsExpr ts
unfolding EndsExpr
negs_end (no_neg {ts = ts}) h = EndsConj-expr ts h
negs_end (and_neg p m) h = tt

pub record NegParts (us : List Tok) (x z : CondTree) (ws : List Tok) : Type 0 where
  pub tree : CondTree
  pub rest : List Tok
  pub head : IsNeg us tree rest
  pub more : MoreNegs (Both x tree) rest z ws

pub neg_parts : {us ws : List Tok} {x z : CondTree} → EndsConj ws → MoreNegs x (Dot And ∷ us) z ws → NegParts us x z ws
unfolding EndsConj
neg_parts h no_neg = absurd h
neg_parts h (and_neg {vs = vs} {y = y} p m) = record { tree = y; rest = vs; head = p; more = m }

pub neg_parts_at : {ts us ws : List Tok} {x z : CondTree} → ts ≡ Dot And ∷ us → EndsConj ws → MoreNegs x ts z ws → NegParts us x z ws
neg_parts_at {ws = ws} {x = x} {z = z} e h m = neg_parts h (subst (λ (ts : List Tok). MoreNegs x ts z ws) e m)

pub no_negs : {ts us : List Tok} {x y : CondTree} → ((vs : List Tok) → ts ≡ Dot And ∷ vs → ⊥) → MoreNegs x ts y us → (x ≡ y) × (ts ≡ us)
no_negs none no_neg = (refl, refl)
no_negs none (and_neg {us = us} p m) = absurd (none us refl)

-- ---- conditions

pub data MoreConjs : CondTree → List Tok → CondTree → List Tok → Type 0 where
  no_conj : {x : CondTree} {ts : List Tok} → MoreConjs x ts x ts
  or_conj : {us vs ws : List Tok} {x y z : CondTree} → IsConj us y vs → MoreConjs (Either x y) vs z ws → MoreConjs x (Dot Or ∷ us) z ws

conjs-then : {ts us vs : List Tok} {x y z : CondTree} → MoreConjs x ts y us → MoreConjs y us z vs → MoreConjs x ts z vs
conjs-then no_conj q = q
conjs-then (or_conj p m) q = or_conj p (conjs-then m q)

pub record CondParts (ts : List Tok) (x : CondTree) (us : List Tok) : Type 0 where
  pub tree : CondTree
  pub rest : List Tok
  pub head : IsConj ts tree rest
  pub more : MoreConjs tree rest x us

pub cond_parts : {ts us : List Tok} {x : CondTree} → IsCond ts x us → CondParts ts x us
cond_parts (one_conj {us = us} {x = x} p) = record { tree = x; rest = us; head = p; more = no_conj }
cond_parts (either d p) = let l = cond_parts d in record { tree = l.tree; rest = l.rest; head = l.head; more = conjs-then l.more (or_conj p no_conj) }

EndsCondAt-conj : (w : DotWord) → EndsCondAt w → EndsConjAt w
EndsCondAt-conj And h = h
EndsCondAt-conj w h = tt

pub EndsCond-conj : (ts : List Tok) → EndsCond ts → EndsConj ts
unfolding EndsCond EndsConj
EndsCond-conj [] h = tt
EndsCond-conj (Sign s ∷ ts) h = h
EndsCond-conj (Dot w ∷ ts) h = EndsCondAt-conj w h
EndsCond-conj (t ∷ ts) h = tt

pub conjs_end : {ts us : List Tok} {x y : CondTree} → MoreConjs x ts y us → EndsCond us → EndsConj ts
unfolding EndsConj
conjs_end (no_conj {ts = ts}) h = EndsCond-conj ts h
conjs_end (or_conj p m) h = tt

pub record OrParts (us : List Tok) (x z : CondTree) (ws : List Tok) : Type 0 where
  pub tree : CondTree
  pub rest : List Tok
  pub head : IsConj us tree rest
  pub more : MoreConjs (Either x tree) rest z ws

pub or_parts : {us ws : List Tok} {x z : CondTree} → EndsCond ws → MoreConjs x (Dot Or ∷ us) z ws → OrParts us x z ws
unfolding EndsCond
or_parts h no_conj = absurd h
or_parts h (or_conj {vs = vs} {y = y} p m) = record { tree = y; rest = vs; head = p; more = m }

pub or_parts_at : {ts us ws : List Tok} {x z : CondTree} → ts ≡ Dot Or ∷ us → EndsCond ws → MoreConjs x ts z ws → OrParts us x z ws
or_parts_at {ws = ws} {x = x} {z = z} e h m = or_parts h (subst (λ (ts : List Tok). MoreConjs x ts z ws) e m)

pub no_conjs : {ts us : List Tok} {x y : CondTree} → ((vs : List Tok) → ts ≡ Dot Or ∷ vs → ⊥) → MoreConjs x ts y us → (x ≡ y) × (ts ≡ us)
no_conjs none no_conj = (refl, refl)
no_conjs none (or_conj {us = us} p m) = absurd (none us refl)

-- ---- no condition in parentheses is an expression in parentheses

-- the expression in the parentheses with which an expression begins
pub record InGroup (ts : List Tok) : Type 0 where
  pub tree : ExprTree
  pub rest : List Tok
  pub inner : IsExpr ts tree (Sign ParRight ∷ rest)

primary_group : {ts us : List Tok} {x : ExprTree} → IsPrimary (Sign ParLeft ∷ ts) x us → InGroup ts
primary_group (group {us = us} {x = x} d) = record { tree = x; rest = us; inner = d }

signed_group : {ts us : List Tok} {x : ExprTree} → IsSigned (Sign ParLeft ∷ ts) x us → InGroup ts
signed_group (bare t) = primary_group (term_parts t).head

pub expr_group : {ts us : List Tok} {x : ExprTree} → IsExpr (Sign ParLeft ∷ ts) x us → InGroup ts
expr_group d = signed_group (expr_parts d).head

rel_sign_ends : (s : SignKind) {r : Rel} → rel_of_sign s ≡ Some r → EndsExprAt s
rel_sign_ends ParLeft e = absurd cc
rel_sign_ends Star e = absurd cc
rel_sign_ends Slash e = absurd cc
rel_sign_ends Plus e = absurd cc
rel_sign_ends Minus e = absurd cc
rel_sign_ends s e = tt

rel_token_ends : (t : Tok) (ts : List Tok) {r : Rel} → rel_of t ≡ Some r → EndsExpr (t ∷ ts)
unfolding EndsExpr
rel_token_ends (Sign s) ts e = rel_sign_ends s e
rel_token_ends t ts e = tt

pub rel_ends : {us vs : List Tok} {r : Rel} → IsRelSign us r vs → EndsExpr us
rel_ends (relation {t = t} {ts = ts} e) = rel_token_ends t ts e

pub rel_no_close : {us vs ws : List Tok} {r : Rel} → IsRelSign us r vs → us ≡ Sign ParRight ∷ ws → ⊥
rel_no_close (relation {t = t} {ts = ts} {r = r} e) f = let g : t ≡ Sign ParRight = cc in let h : rel_of (Sign ParRight) ≡ Some r = subst (λ u. rel_of u ≡ Some r) g e in absurd cc

pub rel_no_comma : {us vs ws : List Tok} {r : Rel} → IsRelSign us r vs → us ≡ Sign Comma ∷ ws → ⊥
rel_no_comma (relation {t = t} {ts = ts} {r = r} e) f = let g : t ≡ Sign Comma = cc in let h : rel_of (Sign Comma) ≡ Some r = subst (λ u. rel_of u ≡ Some r) g e in absurd cc

no_true : {ts us : List Tok} {x : ExprTree} → IsPrimary (Dot IsTrue ∷ ts) x us → ⊥
no_true p = elim p [ ]

no_false : {ts us : List Tok} {x : ExprTree} → IsPrimary (Dot IsFalse ∷ ts) x us → ⊥
no_false p = elim p [ ]

no_not : {ts us : List Tok} {x : ExprTree} → IsPrimary (Dot Not ∷ ts) x us → ⊥
no_not p = elim p [ ]

pub signed_true : {ts us : List Tok} {x : ExprTree} → IsSigned (Dot IsTrue ∷ ts) x us → ⊥
signed_true (bare t) = no_true (term_parts t).head

pub signed_false : {ts us : List Tok} {x : ExprTree} → IsSigned (Dot IsFalse ∷ ts) x us → ⊥
signed_false (bare t) = no_false (term_parts t).head

pub signed_not : {ts us : List Tok} {x : ExprTree} → IsSigned (Dot Not ∷ ts) x us → ⊥
signed_not (bare t) = no_not (term_parts t).head

mutual
  cond_no_group : {ts us : List Tok} {x : CondTree} → IsCond ts x us → InGroup ts → ⊥
  cond_no_group (one_conj d) g = conj_no_group d g
  cond_no_group (either c d) g = cond_no_group c g

  conj_no_group : {ts us : List Tok} {x : CondTree} → IsConj ts x us → InGroup ts → ⊥
  conj_no_group (one_neg d) g = neg_no_group d g
  conj_no_group (both c d) g = conj_no_group c g

  neg_no_group : {ts us : List Tok} {x : CondTree} → IsNeg ts x us → InGroup ts → ⊥
  neg_no_group (plain d) g = atom_no_group d g
  neg_no_group (inverted d) g = signed_not (expr_parts g.inner).head

  atom_no_group : {ts us : List Tok} {x : CondTree} → IsAtom ts x us → InGroup ts → ⊥
  atom_no_group holds g = signed_true (expr_parts g.inner).head
  atom_no_group fails g = signed_false (expr_parts g.inner).head
  atom_no_group (nested d) g = cond_no_group d (expr_group g.inner)
  atom_no_group (compared (comparison a r b)) g = rel_no_close r (same_expr a (rel_ends r) g.inner (ends_right g.rest)).rest

pub no_group : {ts us vs : List Tok} {x : CondTree} {y : ExprTree} → IsCond ts x us → IsExpr (Sign ParLeft ∷ ts) y vs → ⊥
no_group d e = cond_no_group d (expr_group e)

-- ---- the rules at tokens that are known by an equation

pub relation_at : {ts us : List Tok} {t : Tok} {r : Rel} → ts ≡ t ∷ us → Some r ≡ rel_of t → IsRelSign ts r us
relation_at e f = rw e (relation (sym f))

-- the first token stands for no comparison
pub no_relation_at : {ts us vs : List Tok} {t : Tok} {r : Rel} → ts ≡ t ∷ us → None ≡ rel_of t → IsRelSign ts r vs → ⊥
no_relation_at {t = t} e f (relation {t = u} {r = r} g) = let h : u ≡ t = cc in let k : rel_of t ≡ Some r = subst (λ v. rel_of v ≡ Some r) h g in absurd cc

pub no_relation : {us vs : List Tok} {r : Rel} → us ≡ [] → IsRelSign us r vs → ⊥
no_relation e (relation g) = absurd cc

pub either_at : {ts us vs ws : List Tok} {x y : CondTree} → IsCond ts x us → us ≡ Dot Or ∷ vs → IsConj vs y ws → IsCond ts (Either x y) ws
either_at {ts = ts} {x = x} d e c = either (subst (λ (us : List Tok). IsCond ts x us) e d) c

pub both_at : {ts us vs ws : List Tok} {x y : CondTree} → IsConj ts x us → us ≡ Dot And ∷ vs → IsNeg vs y ws → IsConj ts (Both x y) ws
both_at {ts = ts} {x = x} d e c = both (subst (λ (us : List Tok). IsConj ts x us) e d) c

pub inverted_at : {ts us vs : List Tok} {x : CondTree} → ts ≡ Dot Not ∷ us → IsAtom us x vs → IsNeg ts (Inverted x) vs
inverted_at e d = rw e (inverted d)

pub holds_at : {ts us : List Tok} → ts ≡ Dot IsTrue ∷ us → IsAtom ts (Fixed true) us
holds_at e = rw e holds

pub fails_at : {ts us : List Tok} → ts ≡ Dot IsFalse ∷ us → IsAtom ts (Fixed false) us
fails_at e = rw e fails

pub nested_at : {ts us vs : List Tok} {x : CondTree} → ts ≡ Sign ParLeft ∷ us → IsCond us x (Sign ParRight ∷ vs) → IsAtom ts x vs
nested_at e d = rw e (nested d)

-- ---- what the first token says

pub no_not_atom : {us vs : List Tok} {x : CondTree} → IsAtom (Dot Not ∷ us) x vs → ⊥
no_not_atom (compared (comparison a r b)) = signed_not (expr_parts a).head

pub record NotParts (us : List Tok) (x : CondTree) (vs : List Tok) : Type 0 where
  pub tree : CondTree
  pub is : Inverted tree ≡ x
  pub atom : IsAtom us tree vs

not_parts : {us vs : List Tok} {x : CondTree} → IsNeg (Dot Not ∷ us) x vs → NotParts us x vs
not_parts (plain d) = absurd (no_not_atom d)
not_parts (inverted {x = x} d) = record { tree = x; is = refl; atom = d }

pub not_parts_at : {ts us vs : List Tok} {x : CondTree} → ts ≡ Dot Not ∷ us → IsNeg ts x vs → NotParts us x vs
not_parts_at {vs = vs} {x = x} e d = not_parts (subst (λ (ts : List Tok). IsNeg ts x vs) e d)

pub plain_parts : {ts vs : List Tok} {x : CondTree} → ((us : List Tok) → ts ≡ Dot Not ∷ us → ⊥) → IsNeg ts x vs → IsAtom ts x vs
plain_parts none (plain d) = d
plain_parts none (inverted {ts = us} d) = absurd (none us refl)

pub true_parts : {us vs : List Tok} {x : CondTree} → IsAtom (Dot IsTrue ∷ us) x vs → (Fixed true ≡ x) × (us ≡ vs)
true_parts holds = (refl, refl)
true_parts (compared (comparison a r b)) = absurd (signed_true (expr_parts a).head)

pub true_parts_at : {ts us vs : List Tok} {x : CondTree} → ts ≡ Dot IsTrue ∷ us → IsAtom ts x vs → (Fixed true ≡ x) × (us ≡ vs)
true_parts_at {vs = vs} {x = x} e d = true_parts (subst (λ (ts : List Tok). IsAtom ts x vs) e d)

pub false_parts : {us vs : List Tok} {x : CondTree} → IsAtom (Dot IsFalse ∷ us) x vs → (Fixed false ≡ x) × (us ≡ vs)
false_parts fails = (refl, refl)
false_parts (compared (comparison a r b)) = absurd (signed_false (expr_parts a).head)

pub false_parts_at : {ts us vs : List Tok} {x : CondTree} → ts ≡ Dot IsFalse ∷ us → IsAtom ts x vs → (Fixed false ≡ x) × (us ≡ vs)
false_parts_at {vs = vs} {x = x} e d = false_parts (subst (λ (ts : List Tok). IsAtom ts x vs) e d)

-- a parenthesis with which a condition begins: what stands in it is one too
pub nested_parts : {us vs ws : List Tok} {x y : CondTree} → IsCond us y (Sign ParRight ∷ ws) → IsAtom (Sign ParLeft ∷ us) x vs → IsCond us x (Sign ParRight ∷ vs)
nested_parts c (nested d) = d
nested_parts c (compared (comparison a r b)) = absurd (no_group c a)

pub nested_parts_at : {ts us vs ws : List Tok} {x y : CondTree} → ts ≡ Sign ParLeft ∷ us → IsCond us y (Sign ParRight ∷ ws) → IsAtom ts x vs → IsCond us x (Sign ParRight ∷ vs)
nested_parts_at {vs = vs} {x = x} e c d = nested_parts c (subst (λ (ts : List Tok). IsAtom ts x vs) e d)

compared_parts : {ts us vs : List Tok} {x y : CondTree} → IsComparison (Sign ParLeft ∷ ts) y us → IsAtom (Sign ParLeft ∷ ts) x vs → IsComparison (Sign ParLeft ∷ ts) x vs
compared_parts (comparison a r b) (nested c) = absurd (no_group c a)
compared_parts k (compared d) = d

-- where a comparison begins with a parenthesis, no condition stands in it
pub compared_parts_at : {ts us vs ws : List Tok} {x y : CondTree} → ts ≡ Sign ParLeft ∷ us → IsComparison ts y ws → IsAtom ts x vs → IsComparison ts x vs
compared_parts_at {vs = vs} {ws = ws} {x = x} {y = y} e k d = subst (λ (ts : List Tok). IsComparison ts x vs) (sym e) (compared_parts (subst (λ (ts : List Tok). IsComparison ts y ws) e k) (subst (λ (ts : List Tok). IsAtom ts x vs) e d))

-- a comparison
pub record CmpParts (ts : List Tok) (x : CondTree) (vs : List Tok) : Type 0 where
  pub rel : Rel
  pub left : ExprTree
  pub right : ExprTree
  pub before : List Tok
  pub behind : List Tok
  pub is : Compared rel left right ≡ x
  pub first : IsExpr ts left before
  pub sign : IsRelSign before rel behind
  pub second : IsExpr behind right vs
  pub ends : EndsExpr before

pub cmp_parts : {ts vs : List Tok} {x : CondTree} → IsComparison ts x vs → CmpParts ts x vs
cmp_parts (comparison {us = us} {vs = vs} {x = x} {y = y} {r = r} a s b) = record { rel = r; left = x; right = y; before = us; behind = vs; is = refl; first = a; sign = s; second = b; ends = rel_ends s }

-- an atom that is nothing else is a comparison
pub is_comparison : {ts vs : List Tok} {x : CondTree} → ((us : List Tok) → ts ≡ Dot IsTrue ∷ us → ⊥) → ((us : List Tok) → ts ≡ Dot IsFalse ∷ us → ⊥) → ((us ws : List Tok) (y : CondTree) → ts ≡ Sign ParLeft ∷ us → IsCond us y (Sign ParRight ∷ ws) → ⊥) → IsAtom ts x vs → IsComparison ts x vs
is_comparison t f n (holds {ts = us}) = absurd (t us refl)
is_comparison t f n (fails {ts = us}) = absurd (f us refl)
is_comparison t f n (nested {ts = us} {us = ws} {x = y} d) = absurd (n us ws y refl d)
is_comparison t f n (compared d) = d

pub record SameSign (r q : Rel) (us vs : List Tok) : Type 0 where
  pub rel : r ≡ q
  pub rest : us ≡ vs

same_sign : {ts us vs : List Tok} {r q : Rel} → IsRelSign ts r us → IsRelSign ts q vs → SameSign r q us vs
same_sign (relation e) (relation f) = record { rel = cc; rest = refl }

pub same_sign_at : {ts ss us vs : List Tok} {r q : Rel} → ts ≡ ss → IsRelSign ts r us → IsRelSign ss q vs → SameSign r q us vs
same_sign_at {us = us} {r = r} e a b = same_sign (subst (λ (ts : List Tok). IsRelSign ts r us) e a) b

pub rel_shorter : {ts us : List Tok} {r : Rel} → IsRelSign ts r us → length us < length ts
rel_shorter (relation e) = omega arith

pub sign_at : {ts ss us : List Tok} {r : Rel} → ts ≡ ss → IsRelSign ss r us → IsRelSign ts r us
sign_at e d = rw e d

pub expr_at : {ts ss us : List Tok} {x : ExprTree} → ts ≡ ss → IsExpr ss x us → IsExpr ts x us
expr_at e d = rw e d

pub cond_right : (ts : List Tok) → EndsCond (Sign ParRight ∷ ts)
unfolding EndsCond
cond_right ts = tt

pub cond_nothing : EndsCond []
unfolding EndsCond
cond_nothing = tt

pub conj_right : (ts : List Tok) → EndsConj (Sign ParRight ∷ ts)
unfolding EndsConj
conj_right ts = tt

pub or_ends : (ts : List Tok) → EndsConj (Dot Or ∷ ts)
unfolding EndsConj
or_ends ts = tt

pub and_ends : (ts : List Tok) → EndsExpr (Dot And ∷ ts)
unfolding EndsExpr
and_ends ts = tt

pub or_goes_on : (ts : List Tok) → EndsCond (Dot Or ∷ ts) → ⊥
unfolding EndsCond
or_goes_on ts h = h

pub and_goes_on : (ts : List Tok) → EndsConj (Dot And ∷ ts) → ⊥
unfolding EndsConj
and_goes_on ts h = h
