-- No line has two forms of different kinds.
use Rattle.std.proofs.Common.{◌≡◌, ℕ, List, [], ◌∷◌}
use Rattle.fd_base.specs.declared.numbering.Line.{Line}
use Rattle.fd_base.specs.declared.relation.Rel.{Rel}
use Rattle.fd_lexer.specs.declared.token.SignKind.TheVariants.{Equal, ParLeft}
use Rattle.fd_lexer.specs.View.{Tok, Sign}
use Rattle.fd_ast.specs.Tree.{ExprTree, ExprTrees, CondTree, AttrTree, DeclTree, StmtTree}
use Rattle.fd_parser.specs.Expressions.{IsExpr, first, bare, one, name, EndsExpr}
use Rattle.fd_parser.specs.Conditions.{IsRelSign, IsCond, one_conj, either, IsConj, one_neg, both, IsNeg, plain, inverted, IsAtom, holds, fails, nested, compared, comparison}
use Rattle.fd_parser.specs.Simple.{IsAssignment}
use Rattle.fd_parser.specs.Declarations.{IsDefinition, definition, IsEntity, scalar, array, IsDecomp, decomp, IsParameterRest, definitions, IsAlignRest, whole_array, by_dummies, IsDistributeRest, distributed}
use Rattle.fd_parser.specs.Forms.{LineForm, IsThenRest, condition_then, IsIfRest, then_block, one_statement, IsDoRest, counted, while, IsWorded, IsSimple, assignment, worded, IsDeclared, parameter, integer, decomposition, align, IsElseRest, alone, with_if, IsChoice, if_line, elseif, else_line, endif, IsEnd, enddo, end_if, end_do, IsDistribution, without_map, with_map, IsOneWord, one_word, IsOther, do_line, distribute, program, end_line}
use Rattle.fd_parser.proofs.LeftToRight.{expr_parts}
use Rattle.fd_parser.proofs.Rules.{RestArgs, no_arg, arg, rest_ends, args_parts}
use Rattle.fd_parser.proofs.OneExpression.{same_expr}
use Rattle.fd_parser.proofs.Conditions.{no_group, rel_ends, rel_no_close, rel_no_comma, signed_true, signed_false, signed_not}
use Rattle.fd_parser.proofs.Lists.{list_parts}
use Rattle.fd_parser.proofs.FormRules.{AfterTarget, by_args, after_target}

-- ---- no condition in parentheses is a list of arguments

-- behind an expression in arguments no comparison stands
rel_no_args : {us rs ts vs : List Tok} {r : Rel} {zs : ExprTrees} → IsRelSign us r rs → us ≡ ts → RestArgs ts zs vs → ⊥
rel_no_args s e no_arg = rel_no_close s e
rel_no_args s e (arg d m) = rel_no_comma s e

mutual
  cond_no_args : {ts us rest vs : List Tok} {x : CondTree} {y : ExprTree} {zs : ExprTrees} → IsCond ts x us → IsExpr ts y rest → RestArgs rest zs vs → ⊥
  cond_no_args (one_conj d) e m = conj_no_args d e m
  cond_no_args (either c d) e m = cond_no_args c e m

  conj_no_args : {ts us rest vs : List Tok} {x : CondTree} {y : ExprTree} {zs : ExprTrees} → IsConj ts x us → IsExpr ts y rest → RestArgs rest zs vs → ⊥
  conj_no_args (one_neg d) e m = neg_no_args d e m
  conj_no_args (both c d) e m = conj_no_args c e m

  neg_no_args : {ts us rest vs : List Tok} {x : CondTree} {y : ExprTree} {zs : ExprTrees} → IsNeg ts x us → IsExpr ts y rest → RestArgs rest zs vs → ⊥
  neg_no_args (plain d) e m = atom_no_args d e m
  neg_no_args (inverted d) e m = signed_not (expr_parts e).head

  atom_no_args : {ts us rest vs : List Tok} {x : CondTree} {y : ExprTree} {zs : ExprTrees} → IsAtom ts x us → IsExpr ts y rest → RestArgs rest zs vs → ⊥
  atom_no_args holds e m = signed_true (expr_parts e).head
  atom_no_args fails e m = signed_false (expr_parts e).head
  atom_no_args (nested d) e m = no_group d e
  atom_no_args (compared (comparison a r b)) e m = rel_no_args r (same_expr a (rel_ends r) e (rest_ends m)).rest m

condition_no_target : {ts us : List Tok} {c : CondTree} → IsCond ts c us → AfterTarget (Sign ParLeft ∷ ts) → ⊥
condition_no_target d (by_args a) = let q = args_parts a in cond_no_args d q.head q.more

then_no_target : {ts : List Tok} {c : CondTree} → IsThenRest ts c → AfterTarget ts → ⊥
then_no_target (condition_then d) h = condition_no_target d h

if_no_target : {l : Line} {ts : List Tok} {f : LineForm} → IsIfRest l ts f → AfterTarget ts → ⊥
if_no_target (then_block d) h = condition_no_target d h
if_no_target (one_statement d s) h = condition_no_target d h

-- ---- no definition of a PARAMETER is an argument

equal_ends : (ts : List Tok) → EndsExpr (Sign Equal ∷ ts)
unfolding EndsExpr
equal_ends ts = tt

equal_no_args : {us ts vs : List Tok} {zs : ExprTrees} → Sign Equal ∷ us ≡ ts → RestArgs ts zs vs → ⊥
equal_no_args e no_arg = absurd cc
equal_no_args e (arg d m) = absurd cc

definition_no_args : {l : Line} {ts us rest vs : List Tok} {x : DeclTree} {y : ExprTree} {zs : ExprTrees} → IsDefinition l ts x us → IsExpr ts y rest → RestArgs rest zs vs → ⊥
definition_no_args (definition {ts = ts} d) e m = equal_no_args (same_expr (first (bare (one name))) (equal_ends ts) e (rest_ends m)).rest m

parameter_no_target : {l : Line} {ts : List Tok} {ds : List DeclTree} → IsParameterRest l ts ds → AfterTarget ts → ⊥
parameter_no_target (definitions d) (by_args a) = let q = args_parts a in definition_no_args (list_parts d).head q.head q.more

-- ---- what stands behind the words of declarations is nothing that stands behind a target

entity_no_target : {l : Line} {ts us : List Tok} {x : DeclTree} → IsEntity l ts x us → AfterTarget ts → ⊥
entity_no_target scalar h = elim h [ ]
entity_no_target (array d) h = elim h [ ]

decomp_no_target : {l : Line} {ts us : List Tok} {x : DeclTree} → IsDecomp l ts x us → AfterTarget ts → ⊥
decomp_no_target (decomp d) h = elim h [ ]

align_no_target : {l : Line} {ts : List Tok} {x : DeclTree} → IsAlignRest l ts x → AfterTarget ts → ⊥
align_no_target whole_array h = elim h [ ]
align_no_target (by_dummies d t) h = elim h [ ]

declared_no_assignment : {l : Line} {ts : List Tok} {xs : List DeclTree} {y : StmtTree} → IsDeclared l ts xs → IsAssignment l ts y → ⊥
declared_no_assignment (parameter d) a = parameter_no_target d (after_target a)
declared_no_assignment (integer d) a = entity_no_target (list_parts d).head (after_target a)
declared_no_assignment (decomposition d) a = decomp_no_target (list_parts d).head (after_target a)
declared_no_assignment (align d) a = align_no_target d (after_target a)

declared_no_worded : {l : Line} {ts : List Tok} {xs : List DeclTree} {ys : List StmtTree} → IsDeclared l ts xs → IsWorded l ts ys → ⊥
declared_no_worded (parameter d) w = elim w [ ]
declared_no_worded (integer d) w = elim w [ ]
declared_no_worded (decomposition d) w = elim w [ ]
declared_no_worded (align d) w = elim w [ ]

pub declared_no_simple : {l : Line} {ts : List Tok} {xs : List DeclTree} {ys : List StmtTree} → IsDeclared l ts xs → IsSimple l ts ys → ⊥
declared_no_simple d (assignment a) = declared_no_assignment d a
declared_no_simple d (worded w) = declared_no_worded d w

pub declared_no_choice : {l : Line} {ts : List Tok} {xs : List DeclTree} {f : LineForm} → IsDeclared l ts xs → IsChoice l ts f → ⊥
declared_no_choice (parameter d) c = elim c [ ]
declared_no_choice (integer d) c = elim c [ ]
declared_no_choice (decomposition d) c = elim c [ ]
declared_no_choice (align d) c = elim c [ ]

declared_no_end : {l : Line} {ts : List Tok} {xs : List DeclTree} {f : LineForm} → IsDeclared l ts xs → IsEnd ts f → ⊥
declared_no_end (parameter d) e = elim e [ ]
declared_no_end (integer d) e = elim e [ ]
declared_no_end (decomposition d) e = elim e [ ]
declared_no_end (align d) e = elim e [ ]

do_no_declared : {l : Line} {ts : List Tok} {xs : List DeclTree} {f : LineForm} → IsOther l ts f → IsDeclared l ts xs → ⊥
do_no_declared (do_line e) d = elim d [ ]
do_no_declared (distribute e) d = elim d [ ]
do_no_declared (program e) d = elim d [ ]
do_no_declared (end_line e) d = declared_no_end d e

pub declared_no_other : {l : Line} {ts : List Tok} {xs : List DeclTree} {f : LineForm} → IsDeclared l ts xs → IsOther l ts f → ⊥
declared_no_other d e = do_no_declared e d

-- ---- the lines of an IF

else_no_target : {ts : List Tok} {f : LineForm} → IsElseRest ts f → AfterTarget ts → ⊥
else_no_target alone h = elim h [ ]
else_no_target (with_if d) h = elim h [ ]

nothing_no_target : AfterTarget [] → ⊥
nothing_no_target h = elim h [ ]

choice_no_assignment : {l : Line} {ts : List Tok} {f : LineForm} {y : StmtTree} → IsChoice l ts f → IsAssignment l ts y → ⊥
choice_no_assignment (if_line d) a = if_no_target d (after_target a)
choice_no_assignment (elseif d) a = then_no_target d (after_target a)
choice_no_assignment (else_line d) a = else_no_target d (after_target a)
choice_no_assignment endif a = nothing_no_target (after_target a)

choice_no_worded : {l : Line} {ts : List Tok} {f : LineForm} {ys : List StmtTree} → IsChoice l ts f → IsWorded l ts ys → ⊥
choice_no_worded (if_line d) w = elim w [ ]
choice_no_worded (elseif d) w = elim w [ ]
choice_no_worded (else_line d) w = elim w [ ]
choice_no_worded endif w = elim w [ ]

pub choice_no_simple : {l : Line} {ts : List Tok} {f : LineForm} {ys : List StmtTree} → IsChoice l ts f → IsSimple l ts ys → ⊥
choice_no_simple c (assignment a) = choice_no_assignment c a
choice_no_simple c (worded w) = choice_no_worded c w

end_no_choice : {l : Line} {ts : List Tok} {f g : LineForm} → IsEnd ts f → IsChoice l ts g → ⊥
end_no_choice enddo c = elim c [ ]
end_no_choice end_if c = elim c [ ]
end_no_choice end_do c = elim c [ ]

other_no_choice : {l : Line} {ts : List Tok} {f g : LineForm} → IsOther l ts f → IsChoice l ts g → ⊥
other_no_choice (do_line e) c = elim c [ ]
other_no_choice (distribute e) c = elim c [ ]
other_no_choice (program e) c = elim c [ ]
other_no_choice (end_line e) c = end_no_choice e c

pub choice_no_other : {l : Line} {ts : List Tok} {f g : LineForm} → IsChoice l ts f → IsOther l ts g → ⊥
choice_no_other c o = other_no_choice o c

-- ---- the other lines

do_no_target : {ts : List Tok} {f : LineForm} → IsDoRest ts f → AfterTarget ts → ⊥
do_no_target (counted d) h = elim h [ ]
do_no_target (while d) h = elim h [ ]

distribute_no_target : {ts : List Tok} {s : List ℕ} {xs : List AttrTree} → IsDistributeRest ts s xs → AfterTarget ts → ⊥
distribute_no_target (distributed d) h = elim h [ ]

distribution_no_target : {l : Line} {ts : List Tok} {f : LineForm} → IsDistribution l ts f → AfterTarget ts → ⊥
distribution_no_target (without_map d e) h = distribute_no_target d h
distribution_no_target (with_map d e) h = distribute_no_target d h

word_no_target : {ts : List Tok} → IsOneWord ts → AfterTarget ts → ⊥
word_no_target one_word h = elim h [ ]

end_no_assignment : {l : Line} {ts : List Tok} {f : LineForm} {y : StmtTree} → IsEnd ts f → IsAssignment l ts y → ⊥
end_no_assignment enddo a = nothing_no_target (after_target a)
end_no_assignment end_if a = elim (after_target a) [ ]
end_no_assignment end_do a = elim (after_target a) [ ]

other_no_assignment : {l : Line} {ts : List Tok} {f : LineForm} {y : StmtTree} → IsOther l ts f → IsAssignment l ts y → ⊥
other_no_assignment (do_line d) a = do_no_target d (after_target a)
other_no_assignment (distribute d) a = distribution_no_target d (after_target a)
other_no_assignment (program d) a = word_no_target d (after_target a)
other_no_assignment (end_line d) a = end_no_assignment d a

end_no_worded : {l : Line} {ts : List Tok} {f : LineForm} {ys : List StmtTree} → IsEnd ts f → IsWorded l ts ys → ⊥
end_no_worded enddo w = elim w [ ]
end_no_worded end_if w = elim w [ ]
end_no_worded end_do w = elim w [ ]

other_no_worded : {l : Line} {ts : List Tok} {f : LineForm} {ys : List StmtTree} → IsOther l ts f → IsWorded l ts ys → ⊥
other_no_worded (do_line d) w = elim w [ ]
other_no_worded (distribute d) w = elim w [ ]
other_no_worded (program d) w = elim w [ ]
other_no_worded (end_line d) w = end_no_worded d w

pub other_no_simple : {l : Line} {ts : List Tok} {f : LineForm} {ys : List StmtTree} → IsOther l ts f → IsSimple l ts ys → ⊥
other_no_simple o (assignment a) = other_no_assignment o a
other_no_simple o (worded w) = other_no_worded o w
