-- Simple statements at tokens that are known by an equation, and their parts.
use Rattle.std.proofs.Common.{◌≡◌, ℕ, List, [], ◌∷◌, map, refl, subst}
use Rattle.fd_base.specs.declared.numbering.Line.{Line}
use Rattle.fd_lexer.specs.declared.token.SignKind.TheVariants.{ParLeft, Comma, Equal, Star}
use Rattle.fd_lexer.specs.View.{Tok, Name, Words, Sign}
use Rattle.fd_ast.specs.Tree.{ExprTree, Named, Applied, ExprTrees, ItemTree, Quoted, Valued, StmtTree, AssignStmt, ReadStmt, PrintStmt, SkipStmt}
use Rattle.fd_parser.specs.Expressions.{IsExpr, IsSigned, bare, IsPrimary, name, call, IsArgs, EndsPrimary}
use Rattle.fd_parser.specs.Lists.{AreListed}
use Rattle.fd_parser.specs.Simple.{IsTarget, whole, element, IsItem, quoted, valued, IsAssignment, assigned, IsReadRest, targets, IsPrintRest, nothing, items, IsContinueRest, no_more}
use Rattle.fd_parser.proofs.LeftToRight.{expr_parts, term_parts}

pub same_tail : {ts us vs : List Tok} {t : Tok} → ts ≡ t ∷ us → ts ≡ t ∷ vs → us ≡ vs
same_tail e f = cc

-- ---- targets

pub target_primary : {ts us : List Tok} {x : ExprTree} → IsTarget ts x us → IsPrimary ts x us
target_primary whole = name
target_primary (element a) = call a

pub whole_at : {ts us : List Tok} {s : List ℕ} → ts ≡ Name s ∷ us → IsTarget ts (Named s) us
whole_at e = rw e whole

pub element_at : {ts us vs ws : List Tok} {s : List ℕ} {xs : ExprTrees} → ts ≡ Name s ∷ us → us ≡ Sign ParLeft ∷ vs → IsArgs vs xs ws → IsTarget ts (Applied s xs) ws
element_at e f a = rw (e, f) (element a)

pub no_target : {ts us : List Tok} {x : ExprTree} → ((s : List ℕ) (vs : List Tok) → ts ≡ Name s ∷ vs → ⊥) → IsTarget ts x us → ⊥
no_target n (whole {s = s} {us = us}) = n s us refl
no_target n (element {s = s} {ts = ts} a) = n s (Sign ParLeft ∷ ts) refl

pub ends_equal : (ts : List Tok) → EndsPrimary (Sign Equal ∷ ts)
unfolding EndsPrimary
ends_equal ts = tt

-- ---- items

pub quoted_at : {ts us : List Tok} {s : List ℕ} → ts ≡ Words s ∷ us → IsItem ts (Quoted s) us
quoted_at e = rw e quoted

primary_words : {s : List ℕ} {us vs : List Tok} {x : ExprTree} → IsPrimary (Words s ∷ us) x vs → ⊥
primary_words p = elim p [ ]

signed_words : {s : List ℕ} {us vs : List Tok} {x : ExprTree} → IsSigned (Words s ∷ us) x vs → ⊥
signed_words (bare t) = primary_words (term_parts t).head

quoted_parts : {s : List ℕ} {us vs : List Tok} {x : ItemTree} → IsItem (Words s ∷ us) x vs → (Quoted s ≡ x) × (us ≡ vs)
quoted_parts quoted = (refl, refl)
quoted_parts (valued d) = absurd (signed_words (expr_parts d).head)

pub quoted_parts_at : {s : List ℕ} {ts us vs : List Tok} {x : ItemTree} → ts ≡ Words s ∷ us → IsItem ts x vs → (Quoted s ≡ x) × (us ≡ vs)
quoted_parts_at {vs = vs} {x = x} e d = quoted_parts (subst (λ (ts : List Tok). IsItem ts x vs) e d)

pub record ValuedParts (ts : List Tok) (x : ItemTree) (us : List Tok) : Type 0 where
  pub tree : ExprTree
  pub is : Valued tree ≡ x
  pub value : IsExpr ts tree us

pub valued_parts : {ts us : List Tok} {x : ItemTree} → ((s : List ℕ) (vs : List Tok) → ts ≡ Words s ∷ vs → ⊥) → IsItem ts x us → ValuedParts ts x us
valued_parts n (quoted {s = s} {us = us}) = absurd (n s us refl)
valued_parts n (valued {x = x} d) = record { tree = x; is = refl; value = d }

-- ---- assignments

pub assigned_at : {l : Line} {ts us vs : List Tok} {x y : ExprTree} → IsTarget ts x us → us ≡ Sign Equal ∷ vs → IsExpr vs y [] → IsAssignment l ts (AssignStmt l x y)
assigned_at {ts = ts} {x = x} d e v = assigned (subst (λ (us : List Tok). IsTarget ts x us) e d) v

pub record AssignmentParts (l : Line) (ts : List Tok) (x : StmtTree) : Type 0 where
  pub left : ExprTree
  pub right : ExprTree
  pub rest : List Tok
  pub is : AssignStmt l left right ≡ x
  pub target : IsTarget ts left (Sign Equal ∷ rest)
  pub value : IsExpr rest right []

pub assignment_parts : {l : Line} {ts : List Tok} {x : StmtTree} → IsAssignment l ts x → AssignmentParts l ts x
assignment_parts (assigned {us = us} {x = x} {y = y} d v) = record { left = x; right = y; rest = us; is = refl; target = d; value = v }

pub value_at : {ts us vs : List Tok} {y : ExprTree} → ts ≡ Sign Equal ∷ us → ts ≡ Sign Equal ∷ vs → IsExpr vs y [] → IsExpr us y []
value_at {y = y} e f d = let g = same_tail f e in subst (λ (us : List Tok). IsExpr us y []) g d

-- ---- READ

listed_to_end : {X : Type 0} {IsOne : List Tok → X → List Tok → Type 0} {ts us : List Tok} {xs : List X} → AreListed IsOne ts xs us → us ≡ [] → AreListed IsOne ts xs []
listed_to_end {IsOne = IsOne} {ts = ts} {xs = xs} d e = subst (λ (us : List Tok). AreListed IsOne ts xs us) e d

pub reads_at : {l : Line} {ts us vs ws : List Tok} {xs : List ExprTree} → ts ≡ Sign Star ∷ us → us ≡ Sign Comma ∷ vs → AreListed IsTarget vs xs ws → ws ≡ [] → IsReadRest l ts (map (λ x. ReadStmt l x) xs)
reads_at e f d g = rw (e, f) (targets (listed_to_end d g))

pub record ReadParts (l : Line) (vs : List Tok) (xs : List StmtTree) : Type 0 where
  pub trees : List ExprTree
  pub is : map (λ x. ReadStmt l x) trees ≡ xs
  pub listed : AreListed IsTarget vs trees []

read_parts : {l : Line} {vs : List Tok} {xs : List StmtTree} → IsReadRest l (Sign Star ∷ (Sign Comma ∷ vs)) xs → ReadParts l vs xs
read_parts (targets {xs = xs} d) = record { trees = xs; is = refl; listed = d }

pub read_parts_at : {l : Line} {ts us vs : List Tok} {xs : List StmtTree} → ts ≡ Sign Star ∷ us → us ≡ Sign Comma ∷ vs → IsReadRest l ts xs → ReadParts l vs xs
read_parts_at {l = l} {xs = xs} e f d = read_parts (subst (λ (us : List Tok). IsReadRest l (Sign Star ∷ us) xs) f (subst (λ (ts : List Tok). IsReadRest l ts xs) e d))

-- ---- PRINT

pub nothing_at : {l : Line} {ts us : List Tok} → ts ≡ Sign Star ∷ us → us ≡ [] → IsPrintRest l ts (PrintStmt l [] ∷ [])
nothing_at e f = rw (e, f) nothing

pub items_at : {l : Line} {ts us vs ws : List Tok} {xs : List ItemTree} → ts ≡ Sign Star ∷ us → us ≡ Sign Comma ∷ vs → AreListed IsItem vs xs ws → ws ≡ [] → IsPrintRest l ts (PrintStmt l xs ∷ [])
items_at e f d g = rw (e, f) (items (listed_to_end d g))

pub record PrintParts (l : Line) (vs : List Tok) (xs : List StmtTree) : Type 0 where
  pub trees : List ItemTree
  pub is : PrintStmt l trees ∷ [] ≡ xs
  pub listed : AreListed IsItem vs trees []

print_parts : {l : Line} {vs : List Tok} {xs : List StmtTree} → IsPrintRest l (Sign Star ∷ (Sign Comma ∷ vs)) xs → PrintParts l vs xs
print_parts (items {xs = xs} d) = record { trees = xs; is = refl; listed = d }

pub print_parts_at : {l : Line} {ts us vs : List Tok} {xs : List StmtTree} → ts ≡ Sign Star ∷ us → us ≡ Sign Comma ∷ vs → IsPrintRest l ts xs → PrintParts l vs xs
print_parts_at {l = l} {xs = xs} e f d = print_parts (subst (λ (us : List Tok). IsPrintRest l (Sign Star ∷ us) xs) f (subst (λ (ts : List Tok). IsPrintRest l ts xs) e d))

-- ---- CONTINUE

pub continue_at : {l : Line} {ts : List Tok} → ts ≡ [] → IsContinueRest l ts (SkipStmt l ∷ [])
continue_at e = rw e no_more
