-- Declarations at tokens that are known by an equation, and their parts.
use Rattle.std.proofs.Common.{◌≡◌, ◌≢◌, ℕ, pos, List, [], ◌∷◌, refl, ap, subst}
use Rattle.std.specs.Prelude.{codes}
use Rattle.fd_base.specs.declared.numbering.Line.{Line}
use Rattle.fd_lexer.specs.declared.token.SignKind.TheVariants.{ParLeft, ParRight, Colon, Equal}
use Rattle.fd_lexer.specs.View.{Tok, Name, Sign}
use Rattle.fd_ast.specs.Tree.{ExprTree, Number, DimTree, AttrTree, WholeAttr, BlockAttr, CyclicAttr, BlockCyclicAttr, MapAttr, DeclTree, ConstantDecl, IntegerDecl, DecompDecl}
use Rattle.fd_parser.specs.Expressions.{IsExpr, EndsExpr}
use Rattle.fd_parser.specs.Lists.{AreListed, EndsElement}
use Rattle.fd_parser.specs.Declarations.{IsDim, upper_bound, both_bounds, IsAttr, whole_dim, block, cyclic, block_cyclic, map_name, IsName, a_name, IsDefinition, definition, IsEntity, scalar, array, IsDecomp, decomp}
use Rattle.fd_parser.proofs.Rules.{IsOnly}
use Rattle.fd_parser.proofs.Lists.{EndsElement-expr}

pub ends_colon : (ts : List Tok) → EndsExpr (Sign Colon ∷ ts)
unfolding EndsExpr
ends_colon ts = tt

colon_no_element : (ts : List Tok) → EndsElement (Sign Colon ∷ ts) → ⊥
unfolding EndsElement
colon_no_element ts h = h

left_no_element : (ts : List Tok) → EndsElement (Sign ParLeft ∷ ts) → ⊥
unfolding EndsElement
left_no_element ts h = h

-- ---- dimensions

pub bounds_at : {ts us vs ws : List Tok} {x y : ExprTree} → IsExpr ts x us → us ≡ Sign Colon ∷ vs → IsExpr vs y ws → IsDim ts (record { low = x; high = y }) ws
bounds_at {ts = ts} {x = x} d e f = both_bounds (subst (λ (us : List Tok). IsExpr ts x us) e d) f

pub record DimHead (ts : List Tok) : Type 0 where
  pub tree : ExprTree
  pub rest : List Tok
  pub head : IsExpr ts tree rest
  pub ends : EndsExpr rest

pub dim_head : {ts us : List Tok} {d : DimTree} → IsDim ts d us → EndsElement us → DimHead ts
dim_head (upper_bound {us = us} {x = x} e) h = record { tree = x; rest = us; head = e; ends = EndsElement-expr us h }
dim_head (both_bounds {us = us} {x = x} e f) h = record { tree = x; rest = Sign Colon ∷ us; head = e; ends = ends_colon us }

pub record BoundsParts (us : List Tok) (y : ExprTree) (d : DimTree) (r : List Tok) : Type 0 where
  pub high : ExprTree
  pub is : record { low = y; high = high } ≡ d
  pub second : IsExpr us high r

pub bounds_parts : {ts rest us r : List Tok} {y : ExprTree} {d : DimTree} → rest ≡ Sign Colon ∷ us → IsOnly ts y rest → IsDim ts d r → EndsElement r → BoundsParts us y d r
bounds_parts {us = us} c only (upper_bound {us = r} {x = x} e) h =
    let f = (only x r e (EndsElement-expr r h)).1 in
    let g : r ≡ Sign Colon ∷ us = cc in
    absurd (colon_no_element us (subst EndsElement g h))
bounds_parts {us = us} c only (both_bounds {us = ws} {vs = r} {x = x} {y = z} e f) h =
    let g = only x (Sign Colon ∷ ws) e (ends_colon ws) in
    let k : ws ≡ us = cc in
    record { high = z; is = rw g.0 refl; second = subst (λ (us : List Tok). IsExpr us z r) k f }

pub upper_parts : {ts rest r : List Tok} {y : ExprTree} {d : DimTree} → ((us : List Tok) → rest ≡ Sign Colon ∷ us → ⊥) → IsOnly ts y rest → IsDim ts d r → EndsElement r → (record { low = Number (pos 1); high = y } ≡ d) × (rest ≡ r)
upper_parts n only (upper_bound {us = r} {x = x} e) h = let f = only x r e (EndsElement-expr r h) in (rw f.0 refl, f.1)
upper_parts n only (both_bounds {us = ws} {x = x} e f) h = absurd (n ws (only x (Sign Colon ∷ ws) e (ends_colon ws)).1)

-- ---- attributes

pub whole_dim_at : {ts us : List Tok} → ts ≡ Sign Colon ∷ us → IsAttr ts WholeAttr us
whole_dim_at e = rw e whole_dim

pub block_at : {ts us : List Tok} → ts ≡ Name (codes "BLOCK") ∷ us → IsAttr ts BlockAttr us
block_at e = rw e block

pub cyclic_at : {ts us : List Tok} → ts ≡ Name (codes "CYCLIC") ∷ us → IsAttr ts CyclicAttr us
cyclic_at e = rw e cyclic

pub block_cyclic_at : {ts us vs ws : List Tok} {s : List ℕ} {x : ExprTree} → ts ≡ Name s ∷ us → us ≡ Sign ParLeft ∷ vs → s ≡ codes "BLOCK_CYCLIC" → IsExpr vs x (Sign ParRight ∷ ws) → IsAttr ts (BlockCyclicAttr x) ws
block_cyclic_at e f g d = rw (e, f, g) (block_cyclic d)

pub map_at : {ts us : List Tok} {s : List ℕ} → ts ≡ Name s ∷ us → ((vs : List Tok) → ts ≡ Name (codes "BLOCK") ∷ vs → ⊥) → ((vs : List Tok) → ts ≡ Name (codes "CYCLIC") ∷ vs → ⊥) → IsAttr ts (MapAttr s) us
map_at {ts = ts} {us = us} {s = s} e b c =
    let nb : s ≢ codes "BLOCK" = λ f. b us (rw e (ap (λ n. Name n ∷ us) f)) in
    let nc : s ≢ codes "CYCLIC" = λ f. c us (rw e (ap (λ n. Name n ∷ us) f)) in
    rw e (map_name nb nc)

pub record BlockCyclicParts (s : List ℕ) (vs : List Tok) (x : AttrTree) (r : List Tok) : Type 0 where
  pub size : ExprTree
  pub is : BlockCyclicAttr size ≡ x
  pub name : s ≡ codes "BLOCK_CYCLIC"
  pub expr : IsExpr vs size (Sign ParRight ∷ r)

block_cyclic_parts : {s : List ℕ} {vs r : List Tok} {x : AttrTree} → IsAttr (Name s ∷ (Sign ParLeft ∷ vs)) x r → EndsElement r → BlockCyclicParts s vs x r
block_cyclic_parts block h = absurd (left_no_element _ h)
block_cyclic_parts cyclic h = absurd (left_no_element _ h)
block_cyclic_parts (block_cyclic {x = x} d) h = record { size = x; is = refl; name = refl; expr = d }
block_cyclic_parts (map_name b c) h = absurd (left_no_element _ h)

pub block_cyclic_parts_at : {s : List ℕ} {ts us vs r : List Tok} {x : AttrTree} → ts ≡ Name s ∷ us → us ≡ Sign ParLeft ∷ vs → IsAttr ts x r → EndsElement r → BlockCyclicParts s vs x r
block_cyclic_parts_at {s = s} {r = r} {x = x} e f d h = block_cyclic_parts (subst (λ (us : List Tok). IsAttr (Name s ∷ us) x r) f (subst (λ (ts : List Tok). IsAttr ts x r) e d)) h

-- ---- names

pub a_name_at : {ts us : List Tok} {s : List ℕ} → ts ≡ Name s ∷ us → IsName ts s us
a_name_at e = rw e a_name

-- ---- PARAMETER

pub definition_at : {l : Line} {ts us vs ws : List Tok} {s : List ℕ} {x : ExprTree} → ts ≡ Name s ∷ us → us ≡ Sign Equal ∷ vs → IsExpr vs x ws → IsDefinition l ts (ConstantDecl l s x) ws
definition_at e f d = rw (e, f) (definition d)

pub record DefinitionParts (l : Line) (s : List ℕ) (vs : List Tok) (x : DeclTree) (r : List Tok) : Type 0 where
  pub value : ExprTree
  pub is : ConstantDecl l s value ≡ x
  pub expr : IsExpr vs value r

definition_parts : {l : Line} {s : List ℕ} {vs r : List Tok} {x : DeclTree} → IsDefinition l (Name s ∷ (Sign Equal ∷ vs)) x r → DefinitionParts l s vs x r
definition_parts (definition {x = x} d) = record { value = x; is = refl; expr = d }

pub definition_parts_at : {l : Line} {s : List ℕ} {ts us vs r : List Tok} {x : DeclTree} → ts ≡ Name s ∷ us → us ≡ Sign Equal ∷ vs → IsDefinition l ts x r → DefinitionParts l s vs x r
definition_parts_at {l = l} {s = s} {r = r} {x = x} e f d = definition_parts (subst (λ (us : List Tok). IsDefinition l (Name s ∷ us) x r) f (subst (λ (ts : List Tok). IsDefinition l ts x r) e d))

-- ---- INTEGER and DECOMPOSITION

listed_to : {X : Type 0} {IsOne : List Tok → X → List Tok → Type 0} {ts us vs : List Tok} {xs : List X} → us ≡ vs → AreListed IsOne ts xs us → AreListed IsOne ts xs vs
listed_to {IsOne = IsOne} {ts = ts} {xs = xs} e d = subst (λ (us : List Tok). AreListed IsOne ts xs us) e d

pub scalar_at : {l : Line} {ts us : List Tok} {s : List ℕ} → ts ≡ Name s ∷ us → IsEntity l ts (IntegerDecl l s []) us
scalar_at e = rw e scalar

pub array_at : {l : Line} {ts us vs ws zs : List Tok} {s : List ℕ} {ds : List DimTree} → ts ≡ Name s ∷ us → us ≡ Sign ParLeft ∷ vs → AreListed IsDim vs ds ws → ws ≡ Sign ParRight ∷ zs → IsEntity l ts (IntegerDecl l s ds) zs
array_at e f d g = rw (e, f) (array (listed_to g d))

pub decomp_at : {l : Line} {ts us vs ws zs : List Tok} {s : List ℕ} {ds : List DimTree} → ts ≡ Name s ∷ us → us ≡ Sign ParLeft ∷ vs → AreListed IsDim vs ds ws → ws ≡ Sign ParRight ∷ zs → IsDecomp l ts (DecompDecl l s ds) zs
decomp_at e f d g = rw (e, f) (decomp (listed_to g d))

pub record ArrayParts (l : Line) (s : List ℕ) (vs : List Tok) (x : DeclTree) (r : List Tok) : Type 0 where
  pub dims : List DimTree
  pub is : IntegerDecl l s dims ≡ x
  pub listed : AreListed IsDim vs dims (Sign ParRight ∷ r)

array_parts : {l : Line} {s : List ℕ} {vs r : List Tok} {x : DeclTree} → IsEntity l (Name s ∷ (Sign ParLeft ∷ vs)) x r → EndsElement r → ArrayParts l s vs x r
array_parts scalar h = absurd (left_no_element _ h)
array_parts (array {ds = ds} d) h = record { dims = ds; is = refl; listed = d }

pub array_parts_at : {l : Line} {s : List ℕ} {ts us vs r : List Tok} {x : DeclTree} → ts ≡ Name s ∷ us → us ≡ Sign ParLeft ∷ vs → IsEntity l ts x r → EndsElement r → ArrayParts l s vs x r
array_parts_at {l = l} {s = s} {r = r} {x = x} e f d h = array_parts (subst (λ (us : List Tok). IsEntity l (Name s ∷ us) x r) f (subst (λ (ts : List Tok). IsEntity l ts x r) e d)) h

pub record DecompParts (l : Line) (s : List ℕ) (vs : List Tok) (x : DeclTree) (r : List Tok) : Type 0 where
  pub dims : List DimTree
  pub is : DecompDecl l s dims ≡ x
  pub listed : AreListed IsDim vs dims (Sign ParRight ∷ r)

decomp_parts : {l : Line} {s : List ℕ} {vs r : List Tok} {x : DeclTree} → IsDecomp l (Name s ∷ (Sign ParLeft ∷ vs)) x r → DecompParts l s vs x r
decomp_parts (decomp {ds = ds} d) = record { dims = ds; is = refl; listed = d }

pub decomp_parts_at : {l : Line} {s : List ℕ} {ts us vs r : List Tok} {x : DeclTree} → ts ≡ Name s ∷ us → us ≡ Sign ParLeft ∷ vs → IsDecomp l ts x r → DecompParts l s vs x r
decomp_parts_at {l = l} {s = s} {r = r} {x = x} e f d = decomp_parts (subst (λ (us : List Tok). IsDecomp l (Name s ∷ us) x r) f (subst (λ (ts : List Tok). IsDecomp l ts x r) e d))
