-- Expressions from left to right: what is still to come after a first part.
use Rattle.std.proofs.Common.{◌≡◌, List, [], ◌∷◌, refl}
use Rattle.fd_lexer.specs.declared.token.SignKind.{SignKind}
use Rattle.fd_lexer.specs.declared.token.SignKind.TheVariants.{ParLeft, ParRight, Comma, Star, Slash}
use Rattle.fd_lexer.specs.View.{Tok, Sign}
use Rattle.fd_ast.specs.declared.expression.Op.{Op}
use Rattle.fd_ast.specs.Tree.{ExprTree, Joined}
use Rattle.fd_parser.specs.Expressions.{IsExpr, first, sum, IsSigned, IsTerm, one, product, IsPrimary, IsSumSign, plus, minus, IsFactorSign, star, slash, EndsPrimaryAt, EndsTermAt, EndsExprAt, EndsPrimary, EndsTerm, EndsExpr}

pub data MoreFactors : ExprTree → List Tok → ExprTree → List Tok → Type 0 where
  no_factor : {x : ExprTree} {ts : List Tok} → MoreFactors x ts x ts
  factor : {ts us vs ws : List Tok} {x y z : ExprTree} {op : Op} → IsFactorSign ts op us → IsPrimary us y vs → MoreFactors (Joined op x y) vs z ws → MoreFactors x ts z ws

factors-then : {ts us vs : List Tok} {x y z : ExprTree} → MoreFactors x ts y us → MoreFactors y us z vs → MoreFactors x ts z vs
factors-then no_factor q = q
factors-then (factor s p m) q = factor s p (factors-then m q)

pub record TermParts (ts : List Tok) (x : ExprTree) (us : List Tok) : Type 0 where
  pub tree : ExprTree
  pub rest : List Tok
  pub head : IsPrimary ts tree rest
  pub more : MoreFactors tree rest x us

pub term_parts : {ts us : List Tok} {x : ExprTree} → IsTerm ts x us → TermParts ts x us
term_parts (one {us = us} {x = x} p) = record { tree = x; rest = us; head = p; more = no_factor }
term_parts (product d s p) = let l = term_parts d in record { tree = l.tree; rest = l.rest; head = l.head; more = factors-then l.more (factor s p no_factor) }

EndsTermAt-primary : (s : SignKind) → EndsTermAt s → EndsPrimaryAt s
EndsTermAt-primary ParLeft h = h
EndsTermAt-primary s h = tt

pub EndsTerm-primary : (ts : List Tok) → EndsTerm ts → EndsPrimary ts
unfolding EndsTerm EndsPrimary
EndsTerm-primary [] h = tt
EndsTerm-primary (Sign s ∷ ts) h = EndsTermAt-primary s h
EndsTerm-primary (t ∷ ts) h = tt

pub factor_ends : {ts us : List Tok} {op : Op} → IsFactorSign ts op us → EndsPrimary ts
unfolding EndsPrimary
factor_ends star = tt
factor_ends slash = tt

pub factor_no_end : {ts us : List Tok} {op : Op} → IsFactorSign ts op us → EndsTerm ts → ⊥
unfolding EndsTerm
factor_no_end star h = h
factor_no_end slash h = h

-- a part before more factors has ended
pub factors_end : {ts us : List Tok} {x y : ExprTree} → MoreFactors x ts y us → EndsTerm us → EndsPrimary ts
factors_end (no_factor {ts = ts}) h = EndsTerm-primary ts h
factors_end (factor s p m) h = factor_ends s

pub record FactorParts (op : Op) (us : List Tok) (x z : ExprTree) (ws : List Tok) : Type 0 where
  pub tree : ExprTree
  pub rest : List Tok
  pub head : IsPrimary us tree rest
  pub more : MoreFactors (Joined op x tree) rest z ws

same_sign : {ts us vs : List Tok} {op p : Op} {x z : ExprTree} {ws : List Tok} → IsFactorSign ts op us → IsFactorSign ts p vs → FactorParts op us x z ws → FactorParts p vs x z ws
same_sign star star h = h
same_sign slash slash h = h

pub factor_parts : {ts us ws : List Tok} {op : Op} {x z : ExprTree} → IsFactorSign ts op us → EndsTerm ws → MoreFactors x ts z ws → FactorParts op us x z ws
factor_parts s h no_factor = absurd (factor_no_end s h)
factor_parts s h (factor {vs = vs} {y = y} s' p m) = same_sign s' s (record { tree = y; rest = vs; head = p; more = m })

-- where no factor stands, nothing more comes
pub no_factors : {ts us : List Tok} {x y : ExprTree} → ((op : Op) (vs : List Tok) → IsFactorSign ts op vs → ⊥) → MoreFactors x ts y us → (x ≡ y) × (ts ≡ us)
no_factors none no_factor = (refl, refl)
no_factors none (factor {us = us} {op = op} s p m) = absurd (none op us s)

pub data MoreTerms : ExprTree → List Tok → ExprTree → List Tok → Type 0 where
  no_term : {x : ExprTree} {ts : List Tok} → MoreTerms x ts x ts
  term : {ts us vs ws : List Tok} {x y z : ExprTree} {op : Op} → IsSumSign ts op us → IsTerm us y vs → MoreTerms (Joined op x y) vs z ws → MoreTerms x ts z ws

terms-then : {ts us vs : List Tok} {x y z : ExprTree} → MoreTerms x ts y us → MoreTerms y us z vs → MoreTerms x ts z vs
terms-then no_term q = q
terms-then (term s p m) q = term s p (terms-then m q)

pub record ExprParts (ts : List Tok) (x : ExprTree) (us : List Tok) : Type 0 where
  pub tree : ExprTree
  pub rest : List Tok
  pub head : IsSigned ts tree rest
  pub more : MoreTerms tree rest x us

pub expr_parts : {ts us : List Tok} {x : ExprTree} → IsExpr ts x us → ExprParts ts x us
expr_parts (first {us = us} {x = x} p) = record { tree = x; rest = us; head = p; more = no_term }
expr_parts (sum d s p) = let l = expr_parts d in record { tree = l.tree; rest = l.rest; head = l.head; more = terms-then l.more (term s p no_term) }

EndsExprAt-term : (s : SignKind) → EndsExprAt s → EndsTermAt s
EndsExprAt-term ParLeft h = h
EndsExprAt-term Star h = h
EndsExprAt-term Slash h = h
EndsExprAt-term s h = tt

pub EndsExpr-term : (ts : List Tok) → EndsExpr ts → EndsTerm ts
unfolding EndsExpr EndsTerm
EndsExpr-term [] h = tt
EndsExpr-term (Sign s ∷ ts) h = EndsExprAt-term s h
EndsExpr-term (t ∷ ts) h = tt

pub term_ends : {ts us : List Tok} {op : Op} → IsSumSign ts op us → EndsTerm ts
unfolding EndsTerm
term_ends plus = tt
term_ends minus = tt

pub term_no_end : {ts us : List Tok} {op : Op} → IsSumSign ts op us → EndsExpr ts → ⊥
unfolding EndsExpr
term_no_end plus h = h
term_no_end minus h = h

-- a part before more terms has ended
pub terms_end : {ts us : List Tok} {x y : ExprTree} → MoreTerms x ts y us → EndsExpr us → EndsTerm ts
terms_end (no_term {ts = ts}) h = EndsExpr-term ts h
terms_end (term s p m) h = term_ends s

pub record SumParts (op : Op) (us : List Tok) (x z : ExprTree) (ws : List Tok) : Type 0 where
  pub tree : ExprTree
  pub rest : List Tok
  pub head : IsTerm us tree rest
  pub more : MoreTerms (Joined op x tree) rest z ws

same_sum : {ts us vs : List Tok} {op p : Op} {x z : ExprTree} {ws : List Tok} → IsSumSign ts op us → IsSumSign ts p vs → SumParts op us x z ws → SumParts p vs x z ws
same_sum plus plus h = h
same_sum minus minus h = h

pub sum_parts : {ts us ws : List Tok} {op : Op} {x z : ExprTree} → IsSumSign ts op us → EndsExpr ws → MoreTerms x ts z ws → SumParts op us x z ws
sum_parts s h no_term = absurd (term_no_end s h)
sum_parts s h (term {vs = vs} {y = y} s' p m) = same_sum s' s (record { tree = y; rest = vs; head = p; more = m })

pub no_terms : {ts us : List Tok} {x y : ExprTree} → ((op : Op) (vs : List Tok) → IsSumSign ts op vs → ⊥) → MoreTerms x ts y us → (x ≡ y) × (ts ≡ us)
no_terms none no_term = (refl, refl)
no_terms none (term {us = us} {op = op} s p m) = absurd (none op us s)

-- ---- tokens with which an expression ends

pub ends_nothing : EndsExpr []
unfolding EndsExpr
ends_nothing = tt

pub ends_right : (ts : List Tok) → EndsExpr (Sign ParRight ∷ ts)
unfolding EndsExpr
ends_right ts = tt

pub ends_comma : (ts : List Tok) → EndsExpr (Sign Comma ∷ ts)
unfolding EndsExpr
ends_comma ts = tt

pub name_goes_on : (ts : List Tok) → EndsPrimary (Sign ParLeft ∷ ts) → ⊥
unfolding EndsPrimary
name_goes_on ts h = h

pub term_right : (ts : List Tok) → EndsTerm (Sign ParRight ∷ ts)
unfolding EndsTerm
term_right ts = tt

pub term_comma : (ts : List Tok) → EndsTerm (Sign Comma ∷ ts)
unfolding EndsTerm
term_comma ts = tt
