-- The grammar of conditions, by its rules, as that of expressions.
use Rattle.std.specs.Prelude.{◌≡◌, true, false, List, [], ◌∷◌, Option, Some, None}
use Rattle.fd_base.specs.declared.relation.Rel.{Rel}
use Rattle.fd_base.specs.declared.relation.Rel.TheVariants as rels
use Rattle.fd_lexer.specs.declared.token.SignKind.{SignKind}
use Rattle.fd_lexer.specs.declared.token.SignKind.TheVariants.{ParLeft, ParRight, EqEq, SlashEq, Less, LessEq, Greater, GreaterEq}
use Rattle.fd_lexer.specs.declared.token.DotWord.{DotWord}
use Rattle.fd_lexer.specs.declared.token.DotWord.TheVariants.{Eq, Ne, Lt, Le, Gt, Ge, And, Or, Not, IsTrue, IsFalse}
use Rattle.fd_lexer.specs.View.{Tok, Dot, Sign}
use Rattle.fd_ast.specs.Tree.{ExprTree, CondTree, Fixed, Compared, Inverted, Both, Either}
use Rattle.fd_parser.specs.Expressions.{IsExpr, EndsExprAt}

-- the comparison that a dot word stands for
abbrev pub rel_of_word : DotWord → Option Rel
rel_of_word Eq = Some rels.Eq
rel_of_word Ne = Some rels.Ne
rel_of_word Lt = Some rels.Lt
rel_of_word Le = Some rels.Le
rel_of_word Gt = Some rels.Gt
rel_of_word Ge = Some rels.Ge
rel_of_word w = None

-- the comparison that a sign stands for
abbrev pub rel_of_sign : SignKind → Option Rel
rel_of_sign EqEq = Some rels.Eq
rel_of_sign SlashEq = Some rels.Ne
rel_of_sign Less = Some rels.Lt
rel_of_sign LessEq = Some rels.Le
rel_of_sign Greater = Some rels.Gt
rel_of_sign GreaterEq = Some rels.Ge
rel_of_sign s = None

abbrev pub rel_of : Tok → Option Rel
rel_of (Dot w) = rel_of_word w
rel_of (Sign s) = rel_of_sign s
rel_of t = None

-- a comparison's sign
pub data IsRelSign : List Tok → Rel → List Tok → Type 0 where
  relation : {t : Tok} {ts : List Tok} {r : Rel} → rel_of t ≡ Some r → IsRelSign (t ∷ ts) r ts

-- expr rel expr
pub data IsComparison : List Tok → CondTree → List Tok → Type 0 where
  comparison : {ts us vs ws : List Tok} {x y : ExprTree} {r : Rel} → IsExpr ts x us → IsRelSign us r vs → IsExpr vs y ws → IsComparison ts (Compared r x y) ws

mutual
  -- cond = conj {.OR. conj}, grouped from the left
  pub data IsCond : List Tok → CondTree → List Tok → Type 0 where
    one_conj : {ts us : List Tok} {x : CondTree} → IsConj ts x us → IsCond ts x us
    either : {ts us vs : List Tok} {x y : CondTree} → IsCond ts x (Dot Or ∷ us) → IsConj us y vs → IsCond ts (Either x y) vs

  -- conj = neg {.AND. neg}, grouped from the left
  pub data IsConj : List Tok → CondTree → List Tok → Type 0 where
    one_neg : {ts us : List Tok} {x : CondTree} → IsNeg ts x us → IsConj ts x us
    both : {ts us vs : List Tok} {x y : CondTree} → IsConj ts x (Dot And ∷ us) → IsNeg us y vs → IsConj ts (Both x y) vs

  -- neg = [.NOT.] atom
  pub data IsNeg : List Tok → CondTree → List Tok → Type 0 where
    plain : {ts us : List Tok} {x : CondTree} → IsAtom ts x us → IsNeg ts x us
    inverted : {ts us : List Tok} {x : CondTree} → IsAtom ts x us → IsNeg (Dot Not ∷ ts) (Inverted x) us

  -- atom = .TRUE. | .FALSE. | ( cond ) | expr rel expr
  pub data IsAtom : List Tok → CondTree → List Tok → Type 0 where
    holds : {ts : List Tok} → IsAtom (Dot IsTrue ∷ ts) (Fixed true) ts
    fails : {ts : List Tok} → IsAtom (Dot IsFalse ∷ ts) (Fixed false) ts
    nested : {ts us : List Tok} {x : CondTree} → IsCond ts x (Sign ParRight ∷ us) → IsAtom (Sign ParLeft ∷ ts) x us
    compared : {ts us : List Tok} {x : CondTree} → IsComparison ts x us → IsAtom ts x us

-- Tokens with which a conjunction or a condition doesn't go on.
abbrev pub EndsConjAt : DotWord → Type 0
EndsConjAt And = ⊥
EndsConjAt w = Unit {0}

abbrev pub EndsCondAt : DotWord → Type 0
EndsCondAt And = ⊥
EndsCondAt Or = ⊥
EndsCondAt w = Unit {0}

unfoldable pub EndsConj : List Tok → Type 0
EndsConj [] = Unit {0}
EndsConj (Sign s ∷ ts) = EndsExprAt s
EndsConj (Dot w ∷ ts) = EndsConjAt w
EndsConj (t ∷ ts) = Unit {0}

unfoldable pub EndsCond : List Tok → Type 0
EndsCond [] = Unit {0}
EndsCond (Sign s ∷ ts) = EndsExprAt s
EndsCond (Dot w ∷ ts) = EndsCondAt w
EndsCond (t ∷ ts) = Unit {0}
