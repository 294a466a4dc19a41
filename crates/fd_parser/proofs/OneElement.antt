-- Things in lists, and lists of them, have at most one tree.
use Rattle.std.proofs.Common.{◌≡◌, ℕ, List, [], ◌∷◌, refl, sym, ap, subst}
use Rattle.fd_base.specs.declared.numbering.Line.{Line}
use Rattle.fd_lexer.specs.declared.token.SignKind.TheVariants.{ParLeft, ParRight, Comma, Colon}
use Rattle.fd_lexer.specs.View.{Tok, Words, Sign}
use Rattle.fd_ast.specs.Tree.{ExprTree, Applied, ExprTrees, Valued, DimTree, BlockCyclicAttr, ConstantDecl, IntegerDecl, DecompDecl}
use Rattle.fd_parser.specs.Expressions.{IsExpr, IsSigned, bare, IsPrimary, EndsPrimary}
use Rattle.fd_parser.specs.Lists.{AreListed, last_one, one_more, EndsElement, EndsList}
use Rattle.fd_parser.specs.Simple.{IsTarget, whole, element, IsItem, quoted, valued}
use Rattle.fd_parser.specs.Declarations.{IsDim, upper_bound, both_bounds, IsAttr, whole_dim, block, cyclic, block_cyclic, map_name, IsName, a_name, IsDefinition, definition, IsEntity, scalar, array, IsDecomp, decomp}
use Rattle.fd_parser.proofs.LeftToRight.{expr_parts, term_parts, ends_right}
use Rattle.fd_parser.proofs.OneExpression.{AreSame, same_expr, same_args}
use Rattle.fd_parser.proofs.Lists.{EndsList-element, EndsElement-expr, EndsElement-primary, comma_ends, list_right}
use Rattle.fd_parser.proofs.DeclarationRules.{ends_colon}

-- tokens begin with at most one thing of a kind
abbrev pub IsDetermined : {X : Type 0} → (List Tok → X → List Tok → Type 0) → Type 0
IsDetermined {X} IsOne = (ts r s : List Tok) (x y : X) → IsOne ts x r → EndsElement r → IsOne ts y s → EndsElement s → AreSame x r y s

comma_no_list : (ts : List Tok) → EndsList (Sign Comma ∷ ts) → ⊥
unfolding EndsList
comma_no_list ts h = h

colon_no_element : (ts : List Tok) → EndsElement (Sign Colon ∷ ts) → ⊥
unfolding EndsElement
colon_no_element ts h = h

left_no_element : (ts : List Tok) → EndsElement (Sign ParLeft ∷ ts) → ⊥
unfolding EndsElement
left_no_element ts h = h

comma_tail : {us vs : List Tok} → Sign Comma ∷ us ≡ Sign Comma ∷ vs → vs ≡ us
comma_tail e = cc

colon_tail : {us vs : List Tok} → Sign Colon ∷ us ≡ Sign Colon ∷ vs → vs ≡ us
colon_tail e = cc

right_tail : {us vs : List Tok} → Sign ParRight ∷ us ≡ Sign ParRight ∷ vs → us ≡ vs
right_tail e = cc

cons_same : {X : Type 0} {x y : X} {xs ys : List X} → x ≡ y → xs ≡ ys → x ∷ xs ≡ y ∷ ys
cons_same e f = rw (e, f) refl

pub one_listed : {X : Type 0} {IsOne : List Tok → X → List Tok → Type 0} {ts r s : List Tok} {xs ys : List X} → IsDetermined IsOne → AreListed IsOne ts xs r → EndsList r → AreListed IsOne ts ys s → EndsList s → AreSame xs r ys s
one_listed {ts = ts} {r = r} {s = s} o (last_one {x = x} d) h (last_one {x = y} e) k = let q = o ts r s x y d (EndsList-element r h) e (EndsList-element s k) in record { tree = ap (λ z. z ∷ []) q.tree; rest = q.rest }
one_listed {ts = ts} {r = r} o (last_one {x = x} d) h (one_more {us = vs} {x = y} e m) k = absurd (comma_no_list vs (subst EndsList (o ts r (Sign Comma ∷ vs) x y d (EndsList-element r h) e (comma_ends vs)).rest h))
one_listed {ts = ts} {s = s} o (one_more {us = us} {x = x} d l) h (last_one {x = y} e) k = absurd (comma_no_list us (subst EndsList (sym (o ts (Sign Comma ∷ us) s x y d (comma_ends us) e (EndsList-element s k)).rest) k))
one_listed {IsOne = IsOne} {ts = ts} {s = s} o (one_more {us = us} {x = x} d l) h (one_more {us = vs} {x = y} {xs = ys} e m) k =
    let q = o ts (Sign Comma ∷ us) (Sign Comma ∷ vs) x y d (comma_ends us) e (comma_ends vs) in
    let p = one_listed o l h (subst (λ (ts : List Tok). AreListed IsOne ts ys s) (comma_tail q.rest) m) k in
    record { tree = cons_same q.tree p.tree; rest = p.rest }

-- lists that a closing parenthesis ends
pub listed_right : {X : Type 0} {IsOne : List Tok → X → List Tok → Type 0} {ts us vs : List Tok} {xs ys : List X} → IsDetermined IsOne → AreListed IsOne ts xs (Sign ParRight ∷ us) → AreListed IsOne ts ys (Sign ParRight ∷ vs) → AreSame xs us ys vs
listed_right {us = us} {vs = vs} o d e = let q = one_listed o d (list_right us) e (list_right vs) in record { tree = q.tree; rest = right_tail q.rest }

-- ---- elements

pub same_name : IsDetermined IsName
same_name _ _ _ _ _ a_name h a_name k = record { tree = refl; rest = refl }

abbrev bounds : ExprTree → ExprTree → DimTree
bounds x y = record { low = x; high = y }

same_bounds : {w x y z : ExprTree} → w ≡ x → y ≡ z → bounds w y ≡ bounds x z
same_bounds e f = rw (e, f) refl

pub same_dim : IsDetermined IsDim
same_dim _ r s _ _ (upper_bound d) h (upper_bound e) k = let q = same_expr d (EndsElement-expr r h) e (EndsElement-expr s k) in record { tree = same_bounds refl q.tree; rest = q.rest }
same_dim _ r s _ _ (upper_bound d) h (both_bounds {us = vs} e f) k = absurd (colon_no_element vs (subst EndsElement (same_expr d (EndsElement-expr r h) e (ends_colon vs)).rest h))
same_dim _ r s _ _ (both_bounds {us = us} d f) h (upper_bound e) k = absurd (colon_no_element us (subst EndsElement (sym (same_expr d (ends_colon us) e (EndsElement-expr s k)).rest) k))
same_dim _ r s _ _ (both_bounds {us = us} d f) h (both_bounds {us = vs} {y = y} e g) k =
    let q = same_expr d (ends_colon us) e (ends_colon vs) in
    let p = same_expr f (EndsElement-expr r h) (subst (λ (ts : List Tok). IsExpr ts y s) (colon_tail q.rest) g) (EndsElement-expr s k) in
    record { tree = same_bounds q.tree p.tree; rest = p.rest }

pub same_attr : IsDetermined IsAttr
same_attr _ _ _ _ _ whole_dim h whole_dim k = record { tree = refl; rest = refl }
same_attr _ _ _ _ _ block h block k = record { tree = refl; rest = refl }
same_attr _ _ _ _ _ block h (map_name b c) k = absurd (b refl)
same_attr _ _ _ _ _ cyclic h cyclic k = record { tree = refl; rest = refl }
same_attr _ _ _ _ _ cyclic h (map_name b c) k = absurd (c refl)
same_attr _ _ _ _ _ (block_cyclic {us = us} d) h (block_cyclic {us = vs} e) k = let q = same_expr d (ends_right us) e (ends_right vs) in record { tree = ap BlockCyclicAttr q.tree; rest = right_tail q.rest }
same_attr _ _ _ _ _ (block_cyclic {ts = ts} d) h (map_name b c) k = absurd (left_no_element ts k)
same_attr _ _ _ _ _ (map_name b c) h block k = absurd (b refl)
same_attr _ _ _ _ _ (map_name b c) h cyclic k = absurd (c refl)
same_attr _ _ _ _ _ (map_name b c) h (block_cyclic {ts = ts} e) k = absurd (left_no_element ts h)
same_attr _ _ _ _ _ (map_name b c) h (map_name d e) k = record { tree = refl; rest = refl }

pub same_definition : (l : Line) → IsDetermined (IsDefinition l)
same_definition l _ r s _ _ (definition {s = n} d) h (definition e) k = let q = same_expr d (EndsElement-expr r h) e (EndsElement-expr s k) in record { tree = ap (λ (x : ExprTree). ConstantDecl l n x) q.tree; rest = q.rest }

pub same_entity : (l : Line) → IsDetermined (IsEntity l)
same_entity l _ _ _ _ _ scalar h scalar k = record { tree = refl; rest = refl }
same_entity l _ _ _ _ _ scalar h (array {ts = ts} e) k = absurd (left_no_element ts h)
same_entity l _ _ _ _ _ (array {ts = ts} d) h scalar k = absurd (left_no_element ts k)
same_entity l _ _ _ _ _ (array {s = n} d) h (array e) k = let q = listed_right same_dim d e in record { tree = ap (λ (ds : List DimTree). IntegerDecl l n ds) q.tree; rest = q.rest }

pub same_decomp : (l : Line) → IsDetermined (IsDecomp l)
same_decomp l _ _ _ _ _ (decomp {s = n} d) h (decomp e) k = let q = listed_right same_dim d e in record { tree = ap (λ (ds : List DimTree). DecompDecl l n ds) q.tree; rest = q.rest }

left_no_primary : (ts : List Tok) → EndsPrimary (Sign ParLeft ∷ ts) → ⊥
unfolding EndsPrimary
left_no_primary ts h = h

-- a target ends also where an element of a list doesn't: before a sign of equality
pub one_target : {ts r s : List Tok} {x y : ExprTree} → IsTarget ts x r → EndsPrimary r → IsTarget ts y s → EndsPrimary s → AreSame x r y s
one_target whole h whole k = record { tree = refl; rest = refl }
one_target whole h (element {ts = ts} e) k = absurd (left_no_primary ts h)
one_target (element {ts = ts} d) h whole k = absurd (left_no_primary ts k)
one_target (element {s = n} d) h (element e) k = let q = same_args d e in record { tree = ap (λ (xs : ExprTrees). Applied n xs) q.tree; rest = q.rest }

pub same_target : IsDetermined IsTarget
same_target _ r s _ _ d h e k = one_target d (EndsElement-primary r h) e (EndsElement-primary s k)

primary_words : {s : List ℕ} {us vs : List Tok} {x : ExprTree} → IsPrimary (Words s ∷ us) x vs → ⊥
primary_words p = elim p [ ]

signed_words : {s : List ℕ} {us vs : List Tok} {x : ExprTree} → IsSigned (Words s ∷ us) x vs → ⊥
signed_words (bare t) = primary_words (term_parts t).head

words_no_expr : {s : List ℕ} {us vs : List Tok} {x : ExprTree} → IsExpr (Words s ∷ us) x vs → ⊥
words_no_expr d = signed_words (expr_parts d).head

pub same_item : IsDetermined IsItem
same_item _ _ _ _ _ quoted h quoted k = record { tree = refl; rest = refl }
same_item _ _ _ _ _ quoted h (valued e) k = absurd (words_no_expr e)
same_item _ _ _ _ _ (valued d) h quoted k = absurd (words_no_expr d)
same_item _ r s _ _ (valued d) h (valued e) k = let q = same_expr d (EndsElement-expr r h) e (EndsElement-expr s k) in record { tree = ap Valued q.tree; rest = q.rest }
