-- Declarations, each one logical line, and the executed DISTRIBUTE.
use Rattle.std.specs.Prelude.{◌≢◌, ℕ, pos, Bool, true, false, ◌||◌, List, [], ◌∷◌, codes}
use Rattle.fd_base.specs.declared.numbering.Line.{Line}
use Rattle.fd_lexer.specs.declared.token.SignKind.TheVariants.{ParLeft, ParRight, Colon, Equal}
use Rattle.fd_lexer.specs.View.{Tok, Name, Sign}
use Rattle.fd_ast.specs.Tree.{ExprTree, Number, ExprTrees, NoExprs, DimTree, AttrTree, WholeAttr, BlockAttr, CyclicAttr, BlockCyclicAttr, MapAttr, DeclTree, ConstantDecl, IntegerDecl, DecompDecl, AlignDecl}
use Rattle.fd_parser.specs.Expressions.{IsExpr, IsArgs}
use Rattle.fd_parser.specs.Lists.{AreListed}

-- dim = expr | expr : expr, where one expression alone has the bounds 1 to it
pub data IsDim : List Tok → DimTree → List Tok → Type 0 where
  upper_bound : {ts us : List Tok} {x : ExprTree} → IsExpr ts x us → IsDim ts (record { low = Number (pos 1); high = x }) us
  both_bounds : {ts us vs : List Tok} {x y : ExprTree} → IsExpr ts x (Sign Colon ∷ us) → IsExpr us y vs → IsDim ts (record { low = x; high = y }) vs

-- attr = : | BLOCK | CYCLIC | BLOCK_CYCLIC ( expr ) | NAME
pub data IsAttr : List Tok → AttrTree → List Tok → Type 0 where
  whole_dim : {us : List Tok} → IsAttr (Sign Colon ∷ us) WholeAttr us
  block : {us : List Tok} → IsAttr (Name (codes "BLOCK") ∷ us) BlockAttr us
  cyclic : {us : List Tok} → IsAttr (Name (codes "CYCLIC") ∷ us) CyclicAttr us
  block_cyclic : {ts us : List Tok} {x : ExprTree} → IsExpr ts x (Sign ParRight ∷ us) → IsAttr (Name (codes "BLOCK_CYCLIC") ∷ (Sign ParLeft ∷ ts)) (BlockCyclicAttr x) us
  map_name : {s : List ℕ} {us : List Tok} → s ≢ codes "BLOCK" → s ≢ codes "CYCLIC" → IsAttr (Name s ∷ us) (MapAttr s) us

-- some attribute is a map name
abbrev pub is_map : AttrTree → Bool
is_map (MapAttr s) = true
is_map WholeAttr = false
is_map BlockAttr = false
is_map CyclicAttr = false
is_map (BlockCyclicAttr x) = false

abbrev pub has_map : List AttrTree → Bool
has_map [] = false
has_map (a ∷ as_) = is_map a || has_map as_

-- NAME
pub data IsName : List Tok → List ℕ → List Tok → Type 0 where
  a_name : {s : List ℕ} {us : List Tok} → IsName (Name s ∷ us) s us

-- NAME = expr, of a PARAMETER
pub data IsDefinition (l : Line) : List Tok → DeclTree → List Tok → Type 0 where
  definition : {s : List ℕ} {ts us : List Tok} {x : ExprTree} → IsExpr ts x us → IsDefinition l (Name s ∷ (Sign Equal ∷ ts)) (ConstantDecl l s x) us

-- entity = NAME [( dim {, dim} )]
pub data IsEntity (l : Line) : List Tok → DeclTree → List Tok → Type 0 where
  scalar : {s : List ℕ} {us : List Tok} → IsEntity l (Name s ∷ us) (IntegerDecl l s []) us
  array : {s : List ℕ} {ts us : List Tok} {ds : List DimTree} → AreListed IsDim ts ds (Sign ParRight ∷ us) → IsEntity l (Name s ∷ (Sign ParLeft ∷ ts)) (IntegerDecl l s ds) us

-- NAME ( dim {, dim} ), of a DECOMPOSITION
pub data IsDecomp (l : Line) : List Tok → DeclTree → List Tok → Type 0 where
  decomp : {s : List ℕ} {ts us : List Tok} {ds : List DimTree} → AreListed IsDim ts ds (Sign ParRight ∷ us) → IsDecomp l (Name s ∷ (Sign ParLeft ∷ ts)) (DecompDecl l s ds) us

-- behind PARAMETER: ( NAME = expr {, NAME = expr} )
pub data IsParameterRest : Line → List Tok → List DeclTree → Type 0 where
  definitions : {l : Line} {ts : List Tok} {ds : List DeclTree} → AreListed (IsDefinition l) ts ds (Sign ParRight ∷ []) → IsParameterRest l (Sign ParLeft ∷ ts) ds

-- WITH NAME ( expr {, expr} )
pub data IsWithTargets : List Tok → List ℕ → ExprTrees → Type 0 where
  with_targets : {d : List ℕ} {us : List Tok} {xs : ExprTrees} → IsArgs us xs [] → IsWithTargets (Name (codes "WITH") ∷ (Name d ∷ (Sign ParLeft ∷ us))) d xs

-- behind ALIGN: NAME WITH NAME, or NAME ( NAME {, NAME} ) WITH NAME ( expr {, expr} )
pub data IsAlignRest : Line → List Tok → DeclTree → Type 0 where
  whole_array : {l : Line} {a d : List ℕ} → IsAlignRest l (Name a ∷ (Name (codes "WITH") ∷ (Name d ∷ []))) (AlignDecl l a [] d NoExprs)
  by_dummies : {l : Line} {a d : List ℕ} {ts us : List Tok} {ss : List (List ℕ)} {xs : ExprTrees} → AreListed IsName ts ss (Sign ParRight ∷ us) → IsWithTargets us d xs → IsAlignRest l (Name a ∷ (Sign ParLeft ∷ ts)) (AlignDecl l a ss d xs)

-- behind DISTRIBUTE: NAME ( attr {, attr} )
pub data IsDistributeRest : List Tok → List ℕ → List AttrTree → Type 0 where
  distributed : {s : List ℕ} {ts : List Tok} {as_ : List AttrTree} → AreListed IsAttr ts as_ (Sign ParRight ∷ []) → IsDistributeRest (Name s ∷ (Sign ParLeft ∷ ts)) s as_
