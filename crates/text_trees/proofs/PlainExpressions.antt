-- Expressions, conditions and lists of plain tokens have plain names, and what is left behind them is plain.
use Rattle.std.proofs.Common.{List, [], ◌∷◌}
use Rattle.std.specs.List.{AllByRecursion}
use Rattle.fd_base.specs.declared.relation.Rel.{Rel}
use Rattle.fd_lexer.specs.declared.token.SignKind.TheVariants.{Comma}
use Rattle.fd_lexer.specs.View.{Tok, Sign}
use Rattle.fd_ast.specs.declared.expression.Op.{Op}
use Rattle.fd_ast.specs.Tree.{ExprTree, ExprTrees, CondTree}
use Rattle.fd_parser.specs.Expressions as expr
use Rattle.fd_parser.specs.Expressions.{IsSumSign, IsFactorSign, IsExpr, IsSigned, IsTerm, IsPrimary, IsArgs}
use Rattle.fd_parser.specs.Conditions as cond
use Rattle.fd_parser.specs.Conditions.{IsRelSign, IsComparison, IsCond, IsConj, IsNeg, IsAtom}
use Rattle.fd_parser.specs.Lists.{AreListed, last_one, one_more}
use Rattle.fd_names.specs.Written.{HasPlain, HavePlain, HasPlainCondition}
use Rattle.text_trees.proofs.PlainTokens.{ArePlainToks}

sum_sign_plain : {ts us : List Tok} {op : Op} → IsSumSign ts op us → ArePlainToks ts → ArePlainToks us
sum_sign_plain expr.plus h = h.1
sum_sign_plain expr.minus h = h.1

factor_sign_plain : {ts us : List Tok} {op : Op} → IsFactorSign ts op us → ArePlainToks ts → ArePlainToks us
factor_sign_plain expr.star h = h.1
factor_sign_plain expr.slash h = h.1

mutual
  pub expr_plain : {ts us : List Tok} {x : ExprTree} → IsExpr ts x us → ArePlainToks ts → HasPlain x × ArePlainToks us
  expr_plain (expr.first d) h = signed_plain d h
  expr_plain (expr.sum a s b) h = let p = expr_plain a h in let q = term_plain b (sum_sign_plain s p.1) in ((p.0, q.0), q.1)

  signed_plain : {ts us : List Tok} {x : ExprTree} → IsSigned ts x us → ArePlainToks ts → HasPlain x × ArePlainToks us
  signed_plain (expr.bare d) h = term_plain d h
  signed_plain (expr.positive d) h = term_plain d h.1
  signed_plain (expr.negative d) h = term_plain d h.1

  term_plain : {ts us : List Tok} {x : ExprTree} → IsTerm ts x us → ArePlainToks ts → HasPlain x × ArePlainToks us
  term_plain (expr.one d) h = primary_plain d h
  term_plain (expr.product a s b) h = let p = term_plain a h in let q = primary_plain b (factor_sign_plain s p.1) in ((p.0, q.0), q.1)

  primary_plain : {ts us : List Tok} {x : ExprTree} → IsPrimary ts x us → ArePlainToks ts → HasPlain x × ArePlainToks us
  primary_plain expr.number h = (tt, h.1)
  primary_plain expr.name h = (h.0, h.1)
  primary_plain (expr.call d) h = let p = args_plain d h.1.1 in ((h.0, p.0), p.1)
  primary_plain (expr.group d) h = let p = expr_plain d h.1 in (p.0, p.1.1)

  pub args_plain : {ts us : List Tok} {xs : ExprTrees} → IsArgs ts xs us → ArePlainToks ts → HavePlain xs × ArePlainToks us
  args_plain (expr.last d) h = let p = expr_plain d h in ((p.0, tt), p.1.1)
  args_plain (expr.before d e) h = let p = expr_plain d h in let q = args_plain e p.1.1 in ((p.0, q.0), q.1)

-- ---- conditions

rel_plain : {ts us : List Tok} {r : Rel} → IsRelSign ts r us → ArePlainToks ts → ArePlainToks us
rel_plain (cond.relation e) h = h.1

comparison_plain : {ts us : List Tok} {x : CondTree} → IsComparison ts x us → ArePlainToks ts → HasPlainCondition x × ArePlainToks us
comparison_plain (cond.comparison a r b) h = let p = expr_plain a h in let q = expr_plain b (rel_plain r p.1) in ((p.0, q.0), q.1)

mutual
  pub cond_plain : {ts us : List Tok} {x : CondTree} → IsCond ts x us → ArePlainToks ts → HasPlainCondition x × ArePlainToks us
  cond_plain (cond.one_conj d) h = conj_plain d h
  cond_plain (cond.either a b) h = let p = cond_plain a h in let q = conj_plain b p.1.1 in ((p.0, q.0), q.1)

  conj_plain : {ts us : List Tok} {x : CondTree} → IsConj ts x us → ArePlainToks ts → HasPlainCondition x × ArePlainToks us
  conj_plain (cond.one_neg d) h = neg_plain d h
  conj_plain (cond.both a b) h = let p = conj_plain a h in let q = neg_plain b p.1.1 in ((p.0, q.0), q.1)

  neg_plain : {ts us : List Tok} {x : CondTree} → IsNeg ts x us → ArePlainToks ts → HasPlainCondition x × ArePlainToks us
  neg_plain (cond.plain d) h = atom_plain d h
  neg_plain (cond.inverted d) h = atom_plain d h.1

  atom_plain : {ts us : List Tok} {x : CondTree} → IsAtom ts x us → ArePlainToks ts → HasPlainCondition x × ArePlainToks us
  atom_plain cond.holds h = (tt, h.1)
  atom_plain cond.fails h = (tt, h.1)
  atom_plain (cond.nested d) h = let p = cond_plain d h.1 in (p.0, p.1.1)
  atom_plain (cond.compared d) h = comparison_plain d h

-- ---- lists

-- a thing of this kind at the front of plain tokens is so, and leaves plain tokens
abbrev pub Keeps : {X : Type 0} → (List Tok → X → List Tok → Type 0) → (X → Type 0) → Type 0
Keeps {X} IsOne Q = (ts us : List Tok) (x : X) → IsOne ts x us → ArePlainToks ts → Q x × ArePlainToks us

pub listed_plain : {X : Type 0} {IsOne : List Tok → X → List Tok → Type 0} (Q : X → Type 0) → Keeps IsOne Q → {ts us : List Tok} {xs : List X} → AreListed IsOne ts xs us → ArePlainToks ts → AllByRecursion Q xs × ArePlainToks us
listed_plain Q keeps (last_one {ts = ts} {us = us} {x = x} d) h = let p = keeps ts us x d h in ((p.0, tt), p.1)
listed_plain Q keeps (one_more {ts = ts} {us = us} {x = x} d e) h =
    let p = keeps ts (Sign Comma ∷ us) x d h in
    let q = listed_plain Q keeps e p.1.1 in
    ((p.0, q.0), q.1)
