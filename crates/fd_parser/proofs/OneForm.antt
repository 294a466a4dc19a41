-- A line has at most one form.
use Rattle.std.proofs.Common.{◌≡◌, ℕ, List, [], ◌∷◌, refl, sym, ◌∙◌, ap, subst}
use Rattle.std.specs.Prelude.{true, false, codes, map}
use Rattle.fd_base.specs.declared.numbering.Line.{Line}
use Rattle.fd_lexer.specs.declared.token.SignKind.TheVariants.{Comma, Equal}
use Rattle.fd_lexer.specs.View.{Tok, Name, Sign}
use Rattle.fd_ast.specs.Tree.{ExprTree, ExprTrees, CondTree, ItemTree, AttrTree, DeclTree, AlignDecl, DistributeDecl, StmtTree, AssignStmt, ReadStmt, PrintStmt, RemapStmt}
use Rattle.fd_parser.specs.Expressions.{IsExpr}
use Rattle.fd_parser.specs.Simple.{IsAssignment, assigned, IsReadRest, targets, IsPrintRest, nothing, items, IsContinueRest, no_more}
use Rattle.fd_parser.specs.Declarations.{has_map, IsParameterRest, definitions, IsWithTargets, with_targets, IsAlignRest, whole_array, by_dummies, IsDistributeRest, distributed}
use Rattle.fd_parser.specs.Forms.{LineForm, DeclLine, SimpleLine, LogicalIf, IfThen, ElseIf, DoLine, WhileLine, IsWorded, read, print, continue, IsSimple, assignment, worded, IsThenRest, condition_then, IsIfRest, then_block, one_statement, IsRange, without_step, with_step, IsDoRest, counted, while, IsDeclared, parameter, integer, decomposition, align, IsElseRest, alone, with_if, IsChoice, if_line, elseif, else_line, endif, IsEnd, enddo, end_if, end_do, IsDistribution, without_map, with_map, IsOther, do_line, distribute, program, end_line, IsForm, declared, choice, other, simple}
use Rattle.fd_parser.proofs.LeftToRight.{ends_nothing, ends_comma}
use Rattle.fd_parser.proofs.OneExpression.{same_expr, same_args}
use Rattle.fd_parser.proofs.OneCondition.{same_cond}
use Rattle.fd_parser.proofs.Lists.{list_nothing}
use Rattle.fd_parser.proofs.SimpleRules.{ends_equal}
use Rattle.fd_parser.proofs.FormRules.{worded_no_assignment, then_no_simple}
use Rattle.fd_parser.proofs.OneElement.{one_listed, listed_right, same_name, same_attr, same_definition, same_entity, same_decomp, same_target, same_item, one_target}
use Rattle.fd_parser.proofs.Apart.{declared_no_simple, declared_no_choice, declared_no_other, choice_no_simple, choice_no_other, other_no_simple}

-- ---- simple statements

equal_tail : {us vs : List Tok} → Sign Equal ∷ us ≡ Sign Equal ∷ vs → vs ≡ us
equal_tail e = cc

same_assignment : {l : Line} {w x y z : ExprTree} → w ≡ x → y ≡ z → AssignStmt l w y ≡ AssignStmt l x z
same_assignment e f = rw (e, f) refl

one_assignment : {l : Line} {ts : List Tok} {x y : StmtTree} → IsAssignment l ts x → IsAssignment l ts y → x ≡ y
one_assignment (assigned {us = us} t d) (assigned {us = vs} {y = y} u e) =
    let q = one_target t (ends_equal us) u (ends_equal vs) in
    let p = same_expr d ends_nothing (subst (λ (ts : List Tok). IsExpr ts y []) (equal_tail q.rest) e) ends_nothing in
    same_assignment q.tree p.tree

one_read : {l : Line} {ts : List Tok} {xs ys : List StmtTree} → IsReadRest l ts xs → IsReadRest l ts ys → xs ≡ ys
one_read {l = l} (targets d) (targets e) = ap (λ (xs : List ExprTree). map (λ x. ReadStmt l x) xs) (one_listed same_target d list_nothing e list_nothing).tree

one_print : {l : Line} {ts : List Tok} {xs ys : List StmtTree} → IsPrintRest l ts xs → IsPrintRest l ts ys → xs ≡ ys
one_print nothing nothing = refl
one_print {l = l} (items d) (items e) = ap (λ (xs : List ItemTree). PrintStmt l xs ∷ []) (one_listed same_item d list_nothing e list_nothing).tree

one_continue : {l : Line} {ts : List Tok} {xs ys : List StmtTree} → IsContinueRest l ts xs → IsContinueRest l ts ys → xs ≡ ys
one_continue no_more no_more = refl

one_worded : {l : Line} {ts : List Tok} {xs ys : List StmtTree} → IsWorded l ts xs → IsWorded l ts ys → xs ≡ ys
one_worded (read d) (read e) = one_read d e
one_worded (print d) (print e) = one_print d e
one_worded (continue d) (continue e) = one_continue d e

one_simple : {l : Line} {ts : List Tok} {xs ys : List StmtTree} → IsSimple l ts xs → IsSimple l ts ys → xs ≡ ys
one_simple (assignment d) (assignment e) = ap (λ (x : StmtTree). x ∷ []) (one_assignment d e)
one_simple (assignment d) (worded e) = absurd (worded_no_assignment e d)
one_simple (worded d) (assignment e) = absurd (worded_no_assignment d e)
one_simple (worded d) (worded e) = one_worded d e

-- ---- declarations

one_parameter : {l : Line} {ts : List Tok} {xs ys : List DeclTree} → IsParameterRest l ts xs → IsParameterRest l ts ys → xs ≡ ys
one_parameter {l = l} (definitions d) (definitions e) = (listed_right (same_definition l) d e).tree

one_with_targets : {ts : List Tok} {s r : List ℕ} {xs ys : ExprTrees} → IsWithTargets ts s xs → IsWithTargets ts r ys → (s ≡ r) × (xs ≡ ys)
one_with_targets (with_targets d) (with_targets e) = (refl, (same_args d e).tree)

with_targets_in : {ts us : List Tok} {s : List ℕ} {xs : ExprTrees} → ts ≡ us → IsWithTargets us s xs → IsWithTargets ts s xs
with_targets_in e d = rw e d

same_align : {l : Line} {a d e : List ℕ} {ss rs : List (List ℕ)} {xs ys : ExprTrees} → ss ≡ rs → d ≡ e → xs ≡ ys → AlignDecl l a ss d xs ≡ AlignDecl l a rs e ys
same_align e f g = rw (e, f, g) refl

one_align : {l : Line} {ts : List Tok} {x y : DeclTree} → IsAlignRest l ts x → IsAlignRest l ts y → x ≡ y
one_align whole_array whole_array = refl
one_align (by_dummies d t) (by_dummies e u) =
    let q = listed_right same_name d e in
    let p = one_with_targets t (with_targets_in q.rest u) in
    same_align q.tree p.0 p.1

one_declared : {l : Line} {ts : List Tok} {xs ys : List DeclTree} → IsDeclared l ts xs → IsDeclared l ts ys → xs ≡ ys
one_declared (parameter d) (parameter e) = one_parameter d e
one_declared {l = l} (integer d) (integer e) = (one_listed (same_entity l) d list_nothing e list_nothing).tree
one_declared {l = l} (decomposition d) (decomposition e) = (one_listed (same_decomp l) d list_nothing e list_nothing).tree
one_declared (align d) (align e) = ap (λ (x : DeclTree). x ∷ []) (one_align d e)

one_distributed : {ts : List Tok} {s r : List ℕ} {xs ys : List AttrTree} → IsDistributeRest ts s xs → IsDistributeRest ts r ys → (s ≡ r) × (xs ≡ ys)
one_distributed (distributed d) (distributed e) = (refl, (listed_right same_attr d e).tree)

-- attributes have a map name or they haven't
no_both : {xs ys : List AttrTree} → xs ≡ ys → has_map xs ≡ false → has_map ys ≡ true → ⊥
no_both e f g = let h : false ≡ true = sym f ∙ (ap has_map e ∙ g) in absurd cc

same_distribute : {l : Line} {s r : List ℕ} {xs ys : List AttrTree} → s ≡ r → xs ≡ ys → DeclLine (DistributeDecl l s xs ∷ []) ≡ DeclLine (DistributeDecl l r ys ∷ [])
same_distribute e f = rw (e, f) refl

same_remap : {l : Line} {s r : List ℕ} {xs ys : List AttrTree} → s ≡ r → xs ≡ ys → SimpleLine (RemapStmt l s xs ∷ []) ≡ SimpleLine (RemapStmt l r ys ∷ [])
same_remap e f = rw (e, f) refl

one_distribution : {l : Line} {ts : List Tok} {f g : LineForm} → IsDistribution l ts f → IsDistribution l ts g → f ≡ g
one_distribution (without_map d m) (without_map e n) = let q = one_distributed d e in same_distribute q.0 q.1
one_distribution (without_map d m) (with_map e n) = absurd (no_both (one_distributed d e).1 m n)
one_distribution (with_map d m) (without_map e n) = absurd (no_both (one_distributed e d).1 n m)
one_distribution (with_map d m) (with_map e n) = let q = one_distributed d e in same_remap q.0 q.1

-- ---- lines of an IF

one_then : {ts : List Tok} {c d : CondTree} → IsThenRest ts c → IsThenRest ts d → c ≡ d
one_then (condition_then d) (condition_then e) = (same_cond d e).tree

simple_in : {l : Line} {ts us : List Tok} {xs : List StmtTree} → ts ≡ us → IsSimple l us xs → IsSimple l ts xs
simple_in e d = rw e d

same_logical : {c d : CondTree} {xs ys : List StmtTree} → c ≡ d → xs ≡ ys → LogicalIf c xs ≡ LogicalIf d ys
same_logical e f = rw (e, f) refl

one_if : {l : Line} {ts : List Tok} {f g : LineForm} → IsIfRest l ts f → IsIfRest l ts g → f ≡ g
one_if (then_block d) (then_block e) = ap IfThen (same_cond d e).tree
one_if (then_block d) (one_statement e s) = absurd (then_no_simple (simple_in (same_cond d e).rest s))
one_if (one_statement d s) (then_block e) = absurd (then_no_simple (simple_in (same_cond e d).rest s))
one_if (one_statement d s) (one_statement e r) = let q = same_cond d e in same_logical q.tree (one_simple s (simple_in q.rest r))

one_else : {ts : List Tok} {f g : LineForm} → IsElseRest ts f → IsElseRest ts g → f ≡ g
one_else alone alone = refl
one_else (with_if d) (with_if e) = ap ElseIf (one_then d e)

one_choice : {l : Line} {ts : List Tok} {f g : LineForm} → IsChoice l ts f → IsChoice l ts g → f ≡ g
one_choice (if_line d) (if_line e) = one_if d e
one_choice (elseif d) (elseif e) = ap ElseIf (one_then d e)
one_choice (else_line d) (else_line e) = one_else d e
one_choice endif endif = refl

-- ---- the other lines

comma_tail : {us vs : List Tok} → Sign Comma ∷ us ≡ Sign Comma ∷ vs → vs ≡ us
comma_tail e = cc

no_comma : {us : List Tok} → [] ≡ Sign Comma ∷ us → ⊥
no_comma e = cc

expr_in : {ts us vs : List Tok} {x : ExprTree} → us ≡ ts → IsExpr us x vs → IsExpr ts x vs
expr_in {vs = vs} {x = x} e d = subst (λ (ts : List Tok). IsExpr ts x vs) e d

same_range : {s : List ℕ} {a b c x y z : ExprTree} → a ≡ x → b ≡ y → c ≡ z → DoLine s a b c ≡ DoLine s x y z
same_range e f g = rw (e, f, g) refl

one_range : {s : List ℕ} {ts : List Tok} {a b c x y z : ExprTree} → IsRange ts a b c → IsRange ts x y z → DoLine s a b c ≡ DoLine s x y z
one_range (without_step {us = us} d e) (without_step {us = vs} f g) =
    let q = same_expr d (ends_comma us) f (ends_comma vs) in
    same_range q.tree (same_expr e ends_nothing (expr_in (comma_tail q.rest) g) ends_nothing).tree refl
one_range (without_step {us = us} d e) (with_step {us = vs} {vs = ws} f g h) =
    let q = same_expr d (ends_comma us) f (ends_comma vs) in
    absurd (no_comma (same_expr e ends_nothing (expr_in (comma_tail q.rest) g) (ends_comma ws)).rest)
one_range (with_step {us = us} {vs = ws} d e k) (without_step {us = vs} f g) =
    let q = same_expr d (ends_comma us) f (ends_comma vs) in
    absurd (no_comma (sym (same_expr e (ends_comma ws) (expr_in (comma_tail q.rest) g) ends_nothing).rest))
one_range (with_step {us = us} {vs = ws} d e k) (with_step {us = vs} {vs = zs} f g h) =
    let q = same_expr d (ends_comma us) f (ends_comma vs) in
    let p = same_expr e (ends_comma ws) (expr_in (comma_tail q.rest) g) (ends_comma zs) in
    same_range q.tree p.tree (same_expr k ends_nothing (expr_in (comma_tail p.rest) h) ends_nothing).tree

one_do : {ts : List Tok} {f g : LineForm} → IsDoRest ts f → IsDoRest ts g → f ≡ g
one_do (counted d) (counted e) = one_range d e
one_do (while d) (while e) = ap WhileLine (same_cond d e).tree

one_end : {ts : List Tok} {f g : LineForm} → IsEnd ts f → IsEnd ts g → f ≡ g
one_end enddo enddo = refl
one_end end_if end_if = refl
one_end end_do end_do = refl

do_no_end : {ts : List Tok} {f : LineForm} → IsEnd (Name (codes "DO") ∷ ts) f → ⊥
do_no_end e = elim e [ ]

distribute_no_end : {ts : List Tok} {f : LineForm} → IsEnd (Name (codes "DISTRIBUTE") ∷ ts) f → ⊥
distribute_no_end e = elim e [ ]

program_no_end : {ts : List Tok} {f : LineForm} → IsEnd (Name (codes "PROGRAM") ∷ ts) f → ⊥
program_no_end e = elim e [ ]

one_other : {l : Line} {ts : List Tok} {f g : LineForm} → IsOther l ts f → IsOther l ts g → f ≡ g
one_other (do_line d) (do_line e) = one_do d e
one_other (do_line d) (end_line e) = absurd (do_no_end e)
one_other (distribute d) (distribute e) = one_distribution d e
one_other (distribute d) (end_line e) = absurd (distribute_no_end e)
one_other (program d) (program e) = refl
one_other (program d) (end_line e) = absurd (program_no_end e)
one_other (end_line d) (do_line e) = absurd (do_no_end d)
one_other (end_line d) (distribute e) = absurd (distribute_no_end d)
one_other (end_line d) (program e) = absurd (program_no_end d)
one_other (end_line d) (end_line e) = one_end d e

-- ---- lines

pub one_form : {l : Line} {ts : List Tok} {f g : LineForm} → IsForm l ts f → IsForm l ts g → f ≡ g
one_form (declared d) (declared e) = ap DeclLine (one_declared d e)
one_form (declared d) (choice e) = absurd (declared_no_choice d e)
one_form (declared d) (other e) = absurd (declared_no_other d e)
one_form (declared d) (simple e) = absurd (declared_no_simple d e)
one_form (choice d) (declared e) = absurd (declared_no_choice e d)
one_form (choice d) (choice e) = one_choice d e
one_form (choice d) (other e) = absurd (choice_no_other d e)
one_form (choice d) (simple e) = absurd (choice_no_simple d e)
one_form (other d) (declared e) = absurd (declared_no_other e d)
one_form (other d) (choice e) = absurd (choice_no_other e d)
one_form (other d) (other e) = one_other d e
one_form (other d) (simple e) = absurd (other_no_simple d e)
one_form (simple d) (declared e) = absurd (declared_no_simple e d)
one_form (simple d) (choice e) = absurd (choice_no_simple e d)
one_form (simple d) (other e) = absurd (other_no_simple e d)
one_form (simple d) (simple e) = ap SimpleLine (one_simple d e)
