-- What stands behind the first word of a declaration, at tokens that are known by an equation, and its parts.
use Rattle.std.proofs.Common.{◌≡◌, ℕ, List, [], ◌∷◌, refl, subst}
use Rattle.std.specs.Prelude.{codes}
use Rattle.fd_base.specs.declared.numbering.Line.{Line}
use Rattle.fd_lexer.specs.declared.token.SignKind.TheVariants.{ParLeft, ParRight}
use Rattle.fd_lexer.specs.View.{Tok, Name, Sign}
use Rattle.fd_ast.specs.Tree.{ExprTrees, NoExprs, AttrTree, DeclTree, AlignDecl}
use Rattle.fd_parser.specs.Expressions.{IsArgs}
use Rattle.fd_parser.specs.Lists.{AreListed}
use Rattle.fd_parser.specs.Declarations.{IsAttr, IsName, IsDefinition, IsParameterRest, definitions, IsWithTargets, with_targets, IsAlignRest, whole_array, by_dummies, IsDistributeRest, distributed}

pub listed_then : {X : Type 0} {IsOne : List Tok → X → List Tok → Type 0} {ts us vs : List Tok} {xs : List X} → AreListed IsOne ts xs us → us ≡ vs → AreListed IsOne ts xs vs
listed_then {IsOne = IsOne} {ts = ts} {xs = xs} d e = subst (λ (us : List Tok). AreListed IsOne ts xs us) e d

-- a parenthesis and nothing behind it
pub closed : {ts us : List Tok} → ts ≡ Sign ParRight ∷ us → us ≡ [] → ts ≡ Sign ParRight ∷ []
closed e f = rw (e, f) refl

pub nothing_behind : {ts us : List Tok} → ts ≡ Sign ParRight ∷ us → ts ≡ Sign ParRight ∷ [] → us ≡ []
nothing_behind e f = cc

-- ---- PARAMETER

pub definitions_at : {l : Line} {ts us : List Tok} {ds : List DeclTree} → ts ≡ Sign ParLeft ∷ us → AreListed (IsDefinition l) us ds (Sign ParRight ∷ []) → IsParameterRest l ts ds
definitions_at e d = rw e (definitions d)

parameter_parts : {l : Line} {us : List Tok} {ds : List DeclTree} → IsParameterRest l (Sign ParLeft ∷ us) ds → AreListed (IsDefinition l) us ds (Sign ParRight ∷ [])
parameter_parts (definitions d) = d

pub parameter_parts_at : {l : Line} {ts us : List Tok} {ds : List DeclTree} → ts ≡ Sign ParLeft ∷ us → IsParameterRest l ts ds → AreListed (IsDefinition l) us ds (Sign ParRight ∷ [])
parameter_parts_at {l = l} {ds = ds} e d = parameter_parts (subst (λ (ts : List Tok). IsParameterRest l ts ds) e d)

-- ---- ALIGN

pub with_targets_at : {ts us vs ws zs : List Tok} {s : List ℕ} {xs : ExprTrees} → ts ≡ Name (codes "WITH") ∷ us → us ≡ Name s ∷ vs → vs ≡ Sign ParLeft ∷ ws → IsArgs ws xs zs → zs ≡ [] → IsWithTargets ts s xs
with_targets_at {ws = ws} {xs = xs} e f g d h = rw (e, f, g) (with_targets (subst (λ (zs : List Tok). IsArgs ws xs zs) h d))

pub record TargetsParts (s : List ℕ) (ws : List Tok) (r : List ℕ) (xs : ExprTrees) : Type 0 where
  pub name : s ≡ r
  pub targets : IsArgs ws xs []

targets_parts : {s r : List ℕ} {ws : List Tok} {xs : ExprTrees} → IsWithTargets (Name (codes "WITH") ∷ (Name s ∷ (Sign ParLeft ∷ ws))) r xs → TargetsParts s ws r xs
targets_parts (with_targets d) = record { name = refl; targets = d }

pub targets_parts_at : {ts us vs ws : List Tok} {s r : List ℕ} {xs : ExprTrees} → ts ≡ Name (codes "WITH") ∷ us → us ≡ Name s ∷ vs → vs ≡ Sign ParLeft ∷ ws → IsWithTargets ts r xs → TargetsParts s ws r xs
targets_parts_at {s = s} {r = r} {xs = xs} e f g d = targets_parts (subst (λ (vs : List Tok). IsWithTargets (Name (codes "WITH") ∷ (Name s ∷ vs)) r xs) g (subst (λ (us : List Tok). IsWithTargets (Name (codes "WITH") ∷ us) r xs) f (subst (λ (ts : List Tok). IsWithTargets ts r xs) e d)))

pub whole_array_at : {l : Line} {ts us : List Tok} {a d : List ℕ} → ts ≡ Name a ∷ us → us ≡ Name (codes "WITH") ∷ (Name d ∷ []) → IsAlignRest l ts (AlignDecl l a [] d NoExprs)
whole_array_at e f = rw (e, f) whole_array

pub dummies_at : {l : Line} {ts us vs ws zs : List Tok} {a d : List ℕ} {ss : List (List ℕ)} {xs : ExprTrees} → ts ≡ Name a ∷ us → us ≡ Sign ParLeft ∷ vs → AreListed IsName vs ss ws → ws ≡ Sign ParRight ∷ zs → IsWithTargets zs d xs → IsAlignRest l ts (AlignDecl l a ss d xs)
dummies_at e f d g t = rw (e, f) (by_dummies (listed_then d g) t)

pub record DummiesParts (l : Line) (a : List ℕ) (vs : List Tok) (x : DeclTree) : Type 0 where
  pub dummies : List (List ℕ)
  pub decomp : List ℕ
  pub trees : ExprTrees
  pub rest : List Tok
  pub is : AlignDecl l a dummies decomp trees ≡ x
  pub listed : AreListed IsName vs dummies (Sign ParRight ∷ rest)
  pub targets : IsWithTargets rest decomp trees

dummies_parts : {l : Line} {a : List ℕ} {vs : List Tok} {x : DeclTree} → IsAlignRest l (Name a ∷ (Sign ParLeft ∷ vs)) x → DummiesParts l a vs x
dummies_parts (by_dummies {d = d} {us = us} {ss = ss} {xs = xs} n t) = record { dummies = ss; decomp = d; trees = xs; rest = us; is = refl; listed = n; targets = t }

pub dummies_parts_at : {l : Line} {ts us vs : List Tok} {a : List ℕ} {x : DeclTree} → ts ≡ Name a ∷ us → us ≡ Sign ParLeft ∷ vs → IsAlignRest l ts x → DummiesParts l a vs x
dummies_parts_at {l = l} {a = a} {x = x} e f d = dummies_parts (subst (λ (us : List Tok). IsAlignRest l (Name a ∷ us) x) f (subst (λ (ts : List Tok). IsAlignRest l ts x) e d))

pub record WholeParts (l : Line) (a : List ℕ) (us : List Tok) (x : DeclTree) : Type 0 where
  pub decomp : List ℕ
  pub is : AlignDecl l a [] decomp NoExprs ≡ x
  pub rest : us ≡ Name (codes "WITH") ∷ (Name decomp ∷ [])

whole_parts : {l : Line} {a : List ℕ} {us : List Tok} {x : DeclTree} → ((vs : List Tok) → us ≡ Sign ParLeft ∷ vs → ⊥) → IsAlignRest l (Name a ∷ us) x → WholeParts l a us x
whole_parts n (whole_array {d = d}) = record { decomp = d; is = refl; rest = refl }
whole_parts n (by_dummies {ts = ts} e t) = absurd (n ts refl)

pub whole_parts_at : {l : Line} {ts us : List Tok} {a : List ℕ} {x : DeclTree} → ts ≡ Name a ∷ us → ((vs : List Tok) → us ≡ Sign ParLeft ∷ vs → ⊥) → IsAlignRest l ts x → WholeParts l a us x
whole_parts_at {l = l} {x = x} e n d = whole_parts n (subst (λ (ts : List Tok). IsAlignRest l ts x) e d)

pub with_targets_in : {ts us : List Tok} {s : List ℕ} {xs : ExprTrees} → ts ≡ us → IsWithTargets us s xs → IsWithTargets ts s xs
with_targets_in e d = rw e d

-- ---- DISTRIBUTE

pub distributed_at : {ts us vs ws zs : List Tok} {s : List ℕ} {xs : List AttrTree} → ts ≡ Name s ∷ us → us ≡ Sign ParLeft ∷ vs → AreListed IsAttr vs xs ws → ws ≡ Sign ParRight ∷ zs → zs ≡ [] → IsDistributeRest ts s xs
distributed_at e f d g h = rw (e, f) (distributed (listed_then d (closed g h)))

pub record DistributeParts (s : List ℕ) (vs : List Tok) (r : List ℕ) (xs : List AttrTree) : Type 0 where
  pub name : s ≡ r
  pub listed : AreListed IsAttr vs xs (Sign ParRight ∷ [])

distribute_parts : {s r : List ℕ} {vs : List Tok} {xs : List AttrTree} → IsDistributeRest (Name s ∷ (Sign ParLeft ∷ vs)) r xs → DistributeParts s vs r xs
distribute_parts (distributed d) = record { name = refl; listed = d }

pub distribute_parts_at : {ts us vs : List Tok} {s r : List ℕ} {xs : List AttrTree} → ts ≡ Name s ∷ us → us ≡ Sign ParLeft ∷ vs → IsDistributeRest ts r xs → DistributeParts s vs r xs
distribute_parts_at {s = s} {r = r} {xs = xs} e f d = distribute_parts (subst (λ (us : List Tok). IsDistributeRest (Name s ∷ us) r xs) f (subst (λ (ts : List Tok). IsDistributeRest ts r xs) e d))
