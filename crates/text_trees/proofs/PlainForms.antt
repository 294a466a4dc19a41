-- What lines of plain tokens hold has plain names, and stands on their lines.
use Rattle.std.proofs.Common.{◌≡◌, ℕ, ◌≤◌, List, [], ◌∷◌, map, refl}
use Rattle.std.specs.List.{AllByRecursion}
use Rattle.fd_base.specs.declared.numbering.Line.{Line}
use Rattle.fd_lexer.specs.View.{Tok}
use Rattle.fd_ast.specs.Tree.{ExprTree, ExprTrees, CondTree, DimTree, ItemTree, AttrTree, DeclTree, StmtTree, IfStmt, DoStmt, WhileStmt, ReadStmt, StmtTrees}
use Rattle.fd_parser.specs.Simple.{IsTarget, whole, element, IsItem, quoted, valued, IsAssignment, assigned, IsReadRest, targets, IsPrintRest, nothing, items, IsContinueRest, no_more}
use Rattle.fd_parser.specs.Declarations.{IsDim, upper_bound, both_bounds, IsDefinition, definition, IsEntity, scalar, array, IsDecomp, decomp, IsParameterRest, definitions, IsAlignRest, whole_array, by_dummies, IsDistributeRest, distributed}
use Rattle.fd_parser.specs.Forms.{LineForm, ProgramLine, DeclLine, SimpleLine, LogicalIf, IfThen, ElseIf, Else, EndIf, DoLine, WhileLine, EndDo, IsWorded, read, print, continue, IsSimple, assignment, worded, IsThenRest, condition_then, IsIfRest, then_block, one_statement, IsRange, without_step, with_step, IsDoRest, counted, while, IsDeclared, parameter, integer, decomposition, align, IsElseRest, alone, with_if, IsChoice, if_line, elseif, else_line, endif, IsEnd, enddo, end_if, end_do, IsDistribution, without_map, with_map, IsOther, do_line, distribute, program, end_line, IsForm, declared, choice, other, simple}
use Rattle.program_laws.specs.Named.{IsPlain}
use Rattle.fd_names.specs.Declarations.{line_of}
use Rattle.fd_names.specs.Written.{HasPlain, HavePlain, HasPlainCondition, HasPlainItem, HasPlainHead, line_of_stmt, name_of, EachIn}
use Rattle.text_trees.proofs.PlainExpressions.{expr_plain, args_plain, cond_plain, Keeps, listed_plain}
use Rattle.text_trees.proofs.PlainTokens.{ArePlainToks}

-- a statement has plain names, and stands on a line from this one on
abbrev pub IsPlainFrom : ℕ → StmtTree → Type 0
IsPlainFrom n x = HasPlainHead x × (n ≤ (line_of_stmt x).0)

-- a declaration is of a plain name, and stands on this line
abbrev pub IsPlainOn : Line → DeclTree → Type 0
IsPlainOn l x = IsPlain (name_of x) × (line_of x ≡ l)

-- the statements that a line makes, alone or with others, are so
abbrev pub Makes : (StmtTree → Type 0) → Line → LineForm → Type 0
Makes P l ProgramLine = Unit {0}
Makes P l (DeclLine ds) = Unit {0}
Makes P l (SimpleLine xs) = AllByRecursion (EachIn P) xs
Makes P l (LogicalIf c xs) = ((so otherwise : StmtTrees) → P (IfStmt l c so otherwise)) × AllByRecursion (EachIn P) xs
Makes P l (IfThen c) = (so otherwise : StmtTrees) → P (IfStmt l c so otherwise)
Makes P l (ElseIf c) = (so otherwise : StmtTrees) → P (IfStmt l c so otherwise)
Makes P l Else = Unit {0}
Makes P l EndIf = Unit {0}
Makes P l (DoLine s x y z) = (body : StmtTrees) → P (DoStmt l s x y z body)
Makes P l (WhileLine c) = (body : StmtTrees) → P (WhileStmt l c body)
Makes P l EndDo = Unit {0}

-- the declarations of a line are so
abbrev pub Declares : Line → LineForm → Type 0
Declares l ProgramLine = Unit {0}
Declares l (DeclLine ds) = AllByRecursion (IsPlainOn l) ds
Declares l (SimpleLine xs) = Unit {0}
Declares l (LogicalIf c xs) = Unit {0}
Declares l (IfThen c) = Unit {0}
Declares l (ElseIf c) = Unit {0}
Declares l Else = Unit {0}
Declares l EndIf = Unit {0}
Declares l (DoLine s x y z) = Unit {0}
Declares l (WhileLine c) = Unit {0}
Declares l EndDo = Unit {0}

abbrev pub IsPlainForm : Line → LineForm → Type 0
IsPlainForm l f = Declares l f × ((n : ℕ) → n ≤ l.0 → Makes (IsPlainFrom n) l f)

-- ---- simple statements

target_plain : {ts us : List Tok} {x : ExprTree} → IsTarget ts x us → ArePlainToks ts → HasPlain x × ArePlainToks us
target_plain whole h = (h.0, h.1)
target_plain (element d) h = let p = args_plain d h.1.1 in ((h.0, p.0), p.1)

item_plain : {ts us : List Tok} {x : ItemTree} → IsItem ts x us → ArePlainToks ts → HasPlainItem x × ArePlainToks us
item_plain quoted h = (tt, h.1)
item_plain (valued d) h = expr_plain d h

assignment_plain : {l : Line} {ts : List Tok} {x : StmtTree} → IsAssignment l ts x → ArePlainToks ts → (n : ℕ) → n ≤ l.0 → EachIn (IsPlainFrom n) x
assignment_plain (assigned t d) h n le = let p = target_plain t h in let q = expr_plain d p.1.1 in ((p.0, q.0), le)

reads_plain : (l : Line) (xs : List ExprTree) → AllByRecursion HasPlain xs → (n : ℕ) → n ≤ l.0 → AllByRecursion (EachIn (IsPlainFrom n)) (map (λ x. ReadStmt l x) xs)
reads_plain l [] h n le = tt
reads_plain l (x ∷ xs) h n le = ((h.0, le), reads_plain l xs h.1 n le)

read_plain : {l : Line} {ts : List Tok} {xs : List StmtTree} → IsReadRest l ts xs → ArePlainToks ts → (n : ℕ) → n ≤ l.0 → AllByRecursion (EachIn (IsPlainFrom n)) xs
read_plain (targets {l = l} {xs = xs} a) h n le = reads_plain l xs (listed_plain HasPlain (λ ts us x d k. target_plain d k) a h.1.1).0 n le

print_plain : {l : Line} {ts : List Tok} {xs : List StmtTree} → IsPrintRest l ts xs → ArePlainToks ts → (n : ℕ) → n ≤ l.0 → AllByRecursion (EachIn (IsPlainFrom n)) xs
print_plain nothing h n le = ((tt, le), tt)
print_plain (items a) h n le = (((listed_plain HasPlainItem (λ ts us x d k. item_plain d k) a h.1.1).0, le), tt)

continue_plain : {l : Line} {ts : List Tok} {xs : List StmtTree} → IsContinueRest l ts xs → (n : ℕ) → n ≤ l.0 → AllByRecursion (EachIn (IsPlainFrom n)) xs
continue_plain no_more n le = ((tt, le), tt)

worded_plain : {l : Line} {ts : List Tok} {xs : List StmtTree} → IsWorded l ts xs → ArePlainToks ts → (n : ℕ) → n ≤ l.0 → AllByRecursion (EachIn (IsPlainFrom n)) xs
worded_plain (read d) h n le = read_plain d h.1 n le
worded_plain (print d) h n le = print_plain d h.1 n le
worded_plain (continue d) h n le = continue_plain d n le

simple_plain : {l : Line} {ts : List Tok} {xs : List StmtTree} → IsSimple l ts xs → ArePlainToks ts → (n : ℕ) → n ≤ l.0 → AllByRecursion (EachIn (IsPlainFrom n)) xs
simple_plain (assignment d) h n le = (assignment_plain d h n le, tt)
simple_plain (worded d) h n le = worded_plain d h n le

-- ---- declarations

-- behind a dimension the tokens are plain; its names are constants
dim_plain : {ts us : List Tok} {x : DimTree} → IsDim ts x us → ArePlainToks ts → Unit {0} × ArePlainToks us
dim_plain (upper_bound d) h = (tt, (expr_plain d h).1)
dim_plain (both_bounds d e) h = (tt, (expr_plain e (expr_plain d h).1.1).1)

definition_plain : {l : Line} {ts us : List Tok} {x : DeclTree} → IsDefinition l ts x us → ArePlainToks ts → IsPlainOn l x × ArePlainToks us
definition_plain (definition d) h = ((h.0, refl), (expr_plain d h.1.1).1)

entity_plain : {l : Line} {ts us : List Tok} {x : DeclTree} → IsEntity l ts x us → ArePlainToks ts → IsPlainOn l x × ArePlainToks us
entity_plain scalar h = ((h.0, refl), h.1)
entity_plain (array a) h = ((h.0, refl), (listed_plain (λ (x : DimTree). Unit {0}) (λ ts us x d k. dim_plain d k) a h.1.1).1.1)

decomp_plain : {l : Line} {ts us : List Tok} {x : DeclTree} → IsDecomp l ts x us → ArePlainToks ts → IsPlainOn l x × ArePlainToks us
decomp_plain (decomp a) h = ((h.0, refl), (listed_plain (λ (x : DimTree). Unit {0}) (λ ts us x d k. dim_plain d k) a h.1.1).1.1)

parameter_plain : {l : Line} {ts : List Tok} {xs : List DeclTree} → IsParameterRest l ts xs → ArePlainToks ts → AllByRecursion (IsPlainOn l) xs
parameter_plain (definitions {l = l} a) h = (listed_plain (IsPlainOn l) (λ ts us x d k. definition_plain d k) a h.1).0

align_plain : {l : Line} {ts : List Tok} {x : DeclTree} → IsAlignRest l ts x → ArePlainToks ts → IsPlainOn l x
align_plain whole_array h = (h.0, refl)
align_plain (by_dummies a w) h = (h.0, refl)

declared_plain : {l : Line} {ts : List Tok} {xs : List DeclTree} → IsDeclared l ts xs → ArePlainToks ts → AllByRecursion (IsPlainOn l) xs
declared_plain (parameter d) h = parameter_plain d h.1
declared_plain (integer {l = l} a) h = (listed_plain (IsPlainOn l) (λ ts us x d k. entity_plain d k) a h.1).0
declared_plain (decomposition {l = l} a) h = (listed_plain (IsPlainOn l) (λ ts us x d k. decomp_plain d k) a h.1).0
declared_plain (align d) h = (align_plain d h.1, tt)

-- ---- lines of blocks

then_plain : {ts : List Tok} {c : CondTree} → IsThenRest ts c → ArePlainToks ts → HasPlainCondition c
then_plain (condition_then c) h = (cond_plain c h.1).0

if_plain : {l : Line} {ts : List Tok} {f : LineForm} → IsIfRest l ts f → ArePlainToks ts → IsPlainForm l f
if_plain (then_block c) h = (tt, λ n le so otherwise. ((cond_plain c h.1).0, le))
if_plain (one_statement c d) h = let p = cond_plain c h.1 in (tt, λ n le. ((λ so otherwise. (p.0, le)), simple_plain d p.1.1 n le))

else_plain : {l : Line} {ts : List Tok} {f : LineForm} → IsElseRest ts f → ArePlainToks ts → IsPlainForm l f
else_plain alone h = (tt, λ n le. tt)
else_plain (with_if d) h = (tt, λ n le so otherwise. (then_plain d h.1, le))

choice_plain : {l : Line} {ts : List Tok} {f : LineForm} → IsChoice l ts f → ArePlainToks ts → IsPlainForm l f
choice_plain (if_line d) h = if_plain d h.1
choice_plain (elseif d) h = (tt, λ n le so otherwise. (then_plain d h.1, le))
choice_plain (else_line d) h = else_plain d h.1
choice_plain endif h = (tt, λ n le. tt)

range_plain : {ts : List Tok} {x y z : ExprTree} → IsRange ts x y z → ArePlainToks ts → HasPlain x × HasPlain y × HasPlain z
range_plain (without_step d e) h = let p = expr_plain d h in let q = expr_plain e p.1.1 in (p.0, q.0, tt)
range_plain (with_step d e f) h = let p = expr_plain d h in let q = expr_plain e p.1.1 in let r = expr_plain f q.1.1 in (p.0, q.0, r.0)

do_plain : {l : Line} {ts : List Tok} {f : LineForm} → IsDoRest ts f → ArePlainToks ts → IsPlainForm l f
do_plain (counted d) h = let p = range_plain d h.1.1 in (tt, λ n le body. ((h.0, p.0, p.1, p.2), le))
do_plain (while c) h = (tt, λ n le body. ((cond_plain c h.1.1).0, le))

distributed_plain : {ts : List Tok} {s : List ℕ} {as_ : List AttrTree} → IsDistributeRest ts s as_ → ArePlainToks ts → IsPlain s
distributed_plain (distributed a) h = h.0

distribution_plain : {l : Line} {ts : List Tok} {f : LineForm} → IsDistribution l ts f → ArePlainToks ts → IsPlainForm l f
distribution_plain (without_map d e) h = (((distributed_plain d h, refl), tt), λ n le. tt)
distribution_plain (with_map d e) h = (tt, λ n le. ((distributed_plain d h, le), tt))

end_plain : {l : Line} {ts : List Tok} {f : LineForm} → IsEnd ts f → IsPlainForm l f
end_plain enddo = (tt, λ n le. tt)
end_plain end_if = (tt, λ n le. tt)
end_plain end_do = (tt, λ n le. tt)

other_plain : {l : Line} {ts : List Tok} {f : LineForm} → IsOther l ts f → ArePlainToks ts → IsPlainForm l f
other_plain (do_line d) h = do_plain d h.1
other_plain (distribute d) h = distribution_plain d h.1
other_plain (program d) h = (tt, λ n le. tt)
other_plain (end_line d) h = end_plain d

pub form_plain : {l : Line} {ts : List Tok} {f : LineForm} → IsForm l ts f → ArePlainToks ts → IsPlainForm l f
form_plain (declared d) h = (declared_plain d h, λ n le. tt)
form_plain (choice d) h = choice_plain d h
form_plain (other d) h = other_plain d h
form_plain (simple d) h = (tt, λ n le. simple_plain d h n le)
