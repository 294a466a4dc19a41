-- The forms of lines at tokens that are known by an equation, and their parts.
use Rattle.std.proofs.Common.{◌≡◌, ℕ, pos, List, [], ◌∷◌, refl, sym, subst}
use Rattle.std.specs.Prelude.{codes}
use Rattle.fd_base.specs.declared.numbering.Line.{Line}
use Rattle.fd_lexer.specs.declared.token.SignKind.TheVariants.{ParLeft, ParRight, Comma, Equal}
use Rattle.fd_lexer.specs.View.{Tok, Name, Sign}
use Rattle.fd_ast.specs.Tree.{ExprTree, Number, ExprTrees, CondTree, StmtTree}
use Rattle.fd_parser.specs.Expressions.{IsExpr, IsArgs, EndsExpr}
use Rattle.fd_parser.specs.Conditions.{IsCond}
use Rattle.fd_parser.specs.Simple.{IsTarget, whole, element, IsAssignment, assigned, IsReadRest, targets, IsPrintRest, nothing, items, IsContinueRest, no_more}
use Rattle.fd_parser.specs.Forms.{LineForm, LogicalIf, IfThen, DoLine, WhileLine, IsWorded, read, print, continue, IsSimple, assignment, worded, IsThenRest, condition_then, IsIfRest, then_block, one_statement, IsRange, without_step, with_step, IsDoRest, counted, while}
use Rattle.fd_parser.proofs.LeftToRight.{ends_nothing, ends_comma}
use Rattle.fd_parser.proofs.Rules.{IsOnly}

-- ---- what stands behind a target's name in an assignment

pub data AfterTarget : List Tok → Type 0 where
  by_equal : {us : List Tok} → AfterTarget (Sign Equal ∷ us)
  by_args : {us vs : List Tok} {xs : ExprTrees} → IsArgs us xs (Sign Equal ∷ vs) → AfterTarget (Sign ParLeft ∷ us)

after_name : {s : List ℕ} {ts us : List Tok} {x : ExprTree} → IsTarget (Name s ∷ ts) x (Sign Equal ∷ us) → AfterTarget ts
after_name whole = by_equal
after_name (element a) = by_args a

pub after_target : {l : Line} {s : List ℕ} {ts : List Tok} {x : StmtTree} → IsAssignment l (Name s ∷ ts) x → AfterTarget ts
after_target (assigned t e) = after_name t

read_no_target : {l : Line} {ts : List Tok} {xs : List StmtTree} → IsReadRest l ts xs → AfterTarget ts → ⊥
read_no_target (targets d) h = elim h [ ]

print_no_target : {l : Line} {ts : List Tok} {xs : List StmtTree} → IsPrintRest l ts xs → AfterTarget ts → ⊥
print_no_target nothing h = elim h [ ]
print_no_target (items d) h = elim h [ ]

continue_no_target : {l : Line} {ts : List Tok} {xs : List StmtTree} → IsContinueRest l ts xs → AfterTarget ts → ⊥
continue_no_target no_more h = elim h [ ]

pub worded_no_assignment : {l : Line} {ts : List Tok} {xs : List StmtTree} {x : StmtTree} → IsWorded l ts xs → IsAssignment l ts x → ⊥
worded_no_assignment (read d) a = read_no_target d (after_target a)
worded_no_assignment (print d) a = print_no_target d (after_target a)
worded_no_assignment (continue d) a = continue_no_target d (after_target a)

-- ---- simple statements

pub read_at : {l : Line} {ts us : List Tok} {xs : List StmtTree} → ts ≡ Name (codes "READ") ∷ us → IsReadRest l us xs → IsWorded l ts xs
read_at e d = rw e (read d)

pub print_at : {l : Line} {ts us : List Tok} {xs : List StmtTree} → ts ≡ Name (codes "PRINT") ∷ us → IsPrintRest l us xs → IsWorded l ts xs
print_at e d = rw e (print d)

pub continue_word_at : {l : Line} {ts us : List Tok} {xs : List StmtTree} → ts ≡ Name (codes "CONTINUE") ∷ us → IsContinueRest l us xs → IsWorded l ts xs
continue_word_at e d = rw e (continue d)

read_parts : {l : Line} {us : List Tok} {xs : List StmtTree} → IsWorded l (Name (codes "READ") ∷ us) xs → IsReadRest l us xs
read_parts (read d) = d

print_parts : {l : Line} {us : List Tok} {xs : List StmtTree} → IsWorded l (Name (codes "PRINT") ∷ us) xs → IsPrintRest l us xs
print_parts (print d) = d

continue_parts : {l : Line} {us : List Tok} {xs : List StmtTree} → IsWorded l (Name (codes "CONTINUE") ∷ us) xs → IsContinueRest l us xs
continue_parts (continue d) = d

pub read_parts_at : {l : Line} {ts us : List Tok} {xs : List StmtTree} → ts ≡ Name (codes "READ") ∷ us → IsWorded l ts xs → IsReadRest l us xs
read_parts_at {l = l} {xs = xs} e d = read_parts (subst (λ (ts : List Tok). IsWorded l ts xs) e d)

pub print_parts_at : {l : Line} {ts us : List Tok} {xs : List StmtTree} → ts ≡ Name (codes "PRINT") ∷ us → IsWorded l ts xs → IsPrintRest l us xs
print_parts_at {l = l} {xs = xs} e d = print_parts (subst (λ (ts : List Tok). IsWorded l ts xs) e d)

pub continue_parts_at : {l : Line} {ts us : List Tok} {xs : List StmtTree} → ts ≡ Name (codes "CONTINUE") ∷ us → IsWorded l ts xs → IsContinueRest l us xs
continue_parts_at {l = l} {xs = xs} e d = continue_parts (subst (λ (ts : List Tok). IsWorded l ts xs) e d)

pub no_word : {l : Line} {ts : List Tok} {xs : List StmtTree} → ((us : List Tok) → ts ≡ Name (codes "READ") ∷ us → ⊥) → ((us : List Tok) → ts ≡ Name (codes "PRINT") ∷ us → ⊥) → ((us : List Tok) → ts ≡ Name (codes "CONTINUE") ∷ us → ⊥) → IsWorded l ts xs → ⊥
no_word r p c (read {ts = us} d) = r us refl
no_word r p c (print {ts = us} d) = p us refl
no_word r p c (continue {ts = us} d) = c us refl

-- a simple statement that is worded some way is worded this way
pub worded_parts : {l : Line} {ts : List Tok} {xs ys : List StmtTree} → IsWorded l ts ys → IsSimple l ts xs → IsWorded l ts xs
worded_parts w (assignment a) = absurd (worded_no_assignment w a)
worded_parts w (worded d) = d

pub record AssignmentAlone (l : Line) (ts : List Tok) (xs : List StmtTree) : Type 0 where
  pub stmt : StmtTree
  pub is : stmt ∷ [] ≡ xs
  pub assignment : IsAssignment l ts stmt

pub assignment_alone : {l : Line} {ts : List Tok} {xs : List StmtTree} → ((ys : List StmtTree) → IsWorded l ts ys → ⊥) → IsSimple l ts xs → AssignmentAlone l ts xs
assignment_alone n (assignment {x = x} a) = record { stmt = x; is = refl; assignment = a }
assignment_alone n (worded {xs = xs} d) = absurd (n xs d)

then_no_worded : {l : Line} {xs : List StmtTree} → IsWorded l (Name (codes "THEN") ∷ []) xs → ⊥
then_no_worded d = elim d [ ]

nothing_after : AfterTarget [] → ⊥
nothing_after h = elim h [ ]

pub then_no_simple : {l : Line} {xs : List StmtTree} → IsSimple l (Name (codes "THEN") ∷ []) xs → ⊥
then_no_simple (assignment a) = nothing_after (after_target a)
then_no_simple (worded d) = then_no_worded d

-- ---- IF

cond_then : {ts us vs : List Tok} {c : CondTree} → us ≡ vs → IsCond ts c (Sign ParRight ∷ us) → IsCond ts c (Sign ParRight ∷ vs)
cond_then {ts = ts} {c = c} e d = subst (λ (us : List Tok). IsCond ts c (Sign ParRight ∷ us)) e d

pub then_at : {ts us vs : List Tok} {c : CondTree} → ts ≡ Sign ParLeft ∷ us → IsCond us c (Sign ParRight ∷ vs) → vs ≡ Name (codes "THEN") ∷ [] → IsThenRest ts c
then_at e d f = rw e (condition_then (cond_then f d))

then_parts : {us : List Tok} {c : CondTree} → IsThenRest (Sign ParLeft ∷ us) c → IsCond us c (Sign ParRight ∷ (Name (codes "THEN") ∷ []))
then_parts (condition_then d) = d

pub then_parts_at : {ts us : List Tok} {c : CondTree} → ts ≡ Sign ParLeft ∷ us → IsThenRest ts c → IsCond us c (Sign ParRight ∷ (Name (codes "THEN") ∷ []))
then_parts_at {c = c} e d = then_parts (subst (λ (ts : List Tok). IsThenRest ts c) e d)

pub if_then_at : {l : Line} {ts us vs : List Tok} {c : CondTree} → ts ≡ Sign ParLeft ∷ us → IsCond us c (Sign ParRight ∷ vs) → vs ≡ Name (codes "THEN") ∷ [] → IsIfRest l ts (IfThen c)
if_then_at e d f = rw e (then_block (cond_then f d))

pub logical_at : {l : Line} {ts us vs : List Tok} {c : CondTree} {xs : List StmtTree} → ts ≡ Sign ParLeft ∷ us → IsCond us c (Sign ParRight ∷ vs) → IsSimple l vs xs → IsIfRest l ts (LogicalIf c xs)
logical_at e d s = rw e (one_statement d s)

pub record IfHead (us : List Tok) : Type 0 where
  pub tree : CondTree
  pub rest : List Tok
  pub head : IsCond us tree (Sign ParRight ∷ rest)

if_head : {l : Line} {us : List Tok} {f : LineForm} → IsIfRest l (Sign ParLeft ∷ us) f → IfHead us
if_head (then_block {c = c} d) = record { tree = c; rest = Name (codes "THEN") ∷ []; head = d }
if_head (one_statement {us = us} {c = c} d s) = record { tree = c; rest = us; head = d }

pub if_head_at : {l : Line} {ts us : List Tok} {f : LineForm} → ts ≡ Sign ParLeft ∷ us → IsIfRest l ts f → IfHead us
if_head_at {l = l} {f = f} e d = if_head (subst (λ (ts : List Tok). IsIfRest l ts f) e d)

abbrev pub IsOnlyCond : List Tok → CondTree → List Tok → Type 0
IsOnlyCond us c rest = (x : CondTree) (r : List Tok) → IsCond us x (Sign ParRight ∷ r) → (c ≡ x) × (rest ≡ r)

simple_in : {l : Line} {us vs : List Tok} {xs : List StmtTree} → us ≡ vs → IsSimple l vs xs → IsSimple l us xs
simple_in e d = rw e d

if_then_parts : {l : Line} {us rest : List Tok} {c : CondTree} {f : LineForm} → rest ≡ Name (codes "THEN") ∷ [] → IsOnlyCond us c rest → IsIfRest l (Sign ParLeft ∷ us) f → IfThen c ≡ f
if_then_parts t only (then_block {c = c} d) = let e = only c _ d in rw e.0 refl
if_then_parts t only (one_statement {us = vs} {c = c} d s) = let e = (only c vs d).1 in absurd (then_no_simple (simple_in (sym t) (simple_in e s)))

pub if_then_parts_at : {l : Line} {ts us rest : List Tok} {c : CondTree} {f : LineForm} → ts ≡ Sign ParLeft ∷ us → rest ≡ Name (codes "THEN") ∷ [] → IsOnlyCond us c rest → IsIfRest l ts f → IfThen c ≡ f
if_then_parts_at {l = l} {f = f} e t only d = if_then_parts t only (subst (λ (ts : List Tok). IsIfRest l ts f) e d)

pub record LogicalParts (l : Line) (c : CondTree) (rest : List Tok) (f : LineForm) : Type 0 where
  pub stmts : List StmtTree
  pub is : LogicalIf c stmts ≡ f
  pub simple : IsSimple l rest stmts

logical_parts : {l : Line} {us rest : List Tok} {c : CondTree} {f : LineForm} → (rest ≡ Name (codes "THEN") ∷ [] → ⊥) → IsOnlyCond us c rest → IsIfRest l (Sign ParLeft ∷ us) f → LogicalParts l c rest f
logical_parts n only (then_block {c = c} d) = absurd (n (only c _ d).1)
logical_parts n only (one_statement {us = vs} {c = c} {xs = xs} d s) = let e = only c vs d in record { stmts = xs; is = rw e.0 refl; simple = simple_in e.1 s }

pub logical_parts_at : {l : Line} {ts us rest : List Tok} {c : CondTree} {f : LineForm} → ts ≡ Sign ParLeft ∷ us → (rest ≡ Name (codes "THEN") ∷ [] → ⊥) → IsOnlyCond us c rest → IsIfRest l ts f → LogicalParts l c rest f
logical_parts_at {l = l} {f = f} e n only d = logical_parts n only (subst (λ (ts : List Tok). IsIfRest l ts f) e d)

-- ---- DO

pub record RangeHead (ts : List Tok) : Type 0 where
  pub first : ExprTree
  pub last : ExprTree
  pub middle : List Tok
  pub rest : List Tok
  pub one : IsExpr ts first (Sign Comma ∷ middle)
  pub two : IsExpr middle last rest
  pub ends : EndsExpr rest

pub range_head : {ts : List Tok} {x y z : ExprTree} → IsRange ts x y z → RangeHead ts
range_head (without_step {us = us} {x = x} {y = y} d e) = record { first = x; last = y; middle = us; rest = []; one = d; two = e; ends = ends_nothing }
range_head (with_step {us = us} {vs = vs} {x = x} {y = y} d e f) = record { first = x; last = y; middle = us; rest = Sign Comma ∷ vs; one = d; two = e; ends = ends_comma vs }

pub expr_in : {us vs ws : List Tok} {x : ExprTree} → us ≡ vs → IsExpr vs x ws → IsExpr us x ws
expr_in e d = rw e d

expr_to : {us vs ws : List Tok} {x : ExprTree} → vs ≡ ws → IsExpr us x vs → IsExpr us x ws
expr_to {us = us} {x = x} e d = subst (λ (vs : List Tok). IsExpr us x vs) e d

tail_at : {ts us vs : List Tok} → ts ≡ Sign Comma ∷ us → ts ≡ Sign Comma ∷ vs → us ≡ vs
tail_at e f = cc

pub middle_in : {rest us vs ws : List Tok} {y : ExprTree} → rest ≡ Sign Comma ∷ us → rest ≡ Sign Comma ∷ vs → IsExpr vs y ws → IsExpr us y ws
middle_in e f d = expr_in (tail_at e f) d

pub without_step_at : {ts us vs ws : List Tok} {x y : ExprTree} → IsExpr ts x us → us ≡ Sign Comma ∷ vs → IsExpr vs y ws → ws ≡ [] → IsRange ts x y (Number (pos 1))
without_step_at d e f g = without_step (expr_to e d) (expr_to g f)

pub with_step_at : {ts us vs ws zs : List Tok} {x y z : ExprTree} → IsExpr ts x us → us ≡ Sign Comma ∷ vs → IsExpr vs y ws → ws ≡ Sign Comma ∷ zs → IsExpr zs z [] → IsRange ts x y z
with_step_at d e f g h = with_step (expr_to e d) (expr_to g f) h

-- the two expressions with which a range begins are these, and then nothing stands
pub no_step_parts : {ts r1 us r2 : List Tok} {a b x y z : ExprTree} → IsOnly ts a r1 → r1 ≡ Sign Comma ∷ us → IsOnly us b r2 → r2 ≡ [] → IsRange ts x y z → (a ≡ x) × (b ≡ y) × (Number (pos 1) ≡ z)
no_step_parts one c two n (without_step {us = vs} {x = x} {y = y} d e) = let f = one x _ d (ends_comma vs) in let g = two y _ (middle_in c f.1 e) ends_nothing in (f.0, g.0, refl)
no_step_parts one c two n (with_step {us = vs} {vs = ws} {x = x} {y = y} d e h) = let f = one x _ d (ends_comma vs) in let g = (two y _ (middle_in c f.1 e) (ends_comma ws)).1 in absurd cc

pub first_is : {ts r1 : List Tok} {a x y z : ExprTree} → IsOnly ts a r1 → IsRange ts x y z → a ≡ x
first_is one (without_step {us = vs} {x = x} d e) = (one x _ d (ends_comma vs)).0
first_is one (with_step {us = vs} {x = x} d e h) = (one x _ d (ends_comma vs)).0

pub record StepParts (b : ExprTree) (r2 : List Tok) (y z : ExprTree) : Type 0 where
  pub rest : List Tok
  pub is : b ≡ y
  pub comma : r2 ≡ Sign Comma ∷ rest
  pub step : IsExpr rest z []

pub step_parts : {ts r1 us r2 : List Tok} {a b x y z : ExprTree} → IsOnly ts a r1 → r1 ≡ Sign Comma ∷ us → IsOnly us b r2 → (r2 ≡ [] → ⊥) → IsRange ts x y z → StepParts b r2 y z
step_parts one c two n (without_step {us = vs} {x = x} {y = y} d e) = let f = one x _ d (ends_comma vs) in absurd (n (two y _ (middle_in c f.1 e) ends_nothing).1)
step_parts one c two n (with_step {us = vs} {vs = ws} {x = x} {y = y} d e h) = let f = one x _ d (ends_comma vs) in let g = two y _ (middle_in c f.1 e) (ends_comma ws) in record { rest = ws; is = g.0; comma = g.1; step = h }

pub counted_at : {ts us vs : List Tok} {s : List ℕ} {x y z : ExprTree} → ts ≡ Name s ∷ us → us ≡ Sign Equal ∷ vs → IsRange vs x y z → IsDoRest ts (DoLine s x y z)
counted_at e f d = rw (e, f) (counted d)

pub record CountedParts (s : List ℕ) (vs : List Tok) (f : LineForm) : Type 0 where
  pub first : ExprTree
  pub last : ExprTree
  pub step : ExprTree
  pub is : DoLine s first last step ≡ f
  pub range : IsRange vs first last step

counted_parts : {s : List ℕ} {vs : List Tok} {f : LineForm} → IsDoRest (Name s ∷ (Sign Equal ∷ vs)) f → CountedParts s vs f
counted_parts (counted {x = x} {y = y} {z = z} d) = record { first = x; last = y; step = z; is = refl; range = d }

pub counted_parts_at : {ts us vs : List Tok} {s : List ℕ} {f : LineForm} → ts ≡ Name s ∷ us → us ≡ Sign Equal ∷ vs → IsDoRest ts f → CountedParts s vs f
counted_parts_at {s = s} {f = f} e g d = counted_parts (subst (λ (us : List Tok). IsDoRest (Name s ∷ us) f) g (subst (λ (ts : List Tok). IsDoRest ts f) e d))

pub while_at : {ts us vs ws : List Tok} {s : List ℕ} {c : CondTree} → ts ≡ Name s ∷ us → s ≡ codes "WHILE" → us ≡ Sign ParLeft ∷ vs → IsCond vs c (Sign ParRight ∷ ws) → ws ≡ [] → IsDoRest ts (WhileLine c)
while_at e w f d g = rw (e, w, f) (while (cond_then g d))

pub record WhileParts (s : List ℕ) (us : List Tok) (f : LineForm) : Type 0 where
  pub tree : CondTree
  pub rest : List Tok
  pub is : WhileLine tree ≡ f
  pub word : s ≡ codes "WHILE"
  pub left : us ≡ Sign ParLeft ∷ rest
  pub condition : IsCond rest tree (Sign ParRight ∷ [])

while_parts : {s : List ℕ} {us : List Tok} {f : LineForm} → ((vs : List Tok) → us ≡ Sign Equal ∷ vs → ⊥) → IsDoRest (Name s ∷ us) f → WhileParts s us f
while_parts n (counted {ts = vs} d) = absurd (n vs refl)
while_parts n (while {ts = vs} {c = c} d) = record { tree = c; rest = vs; is = refl; word = refl; left = refl; condition = d }

pub while_parts_at : {ts us : List Tok} {s : List ℕ} {f : LineForm} → ts ≡ Name s ∷ us → ((vs : List Tok) → us ≡ Sign Equal ∷ vs → ⊥) → IsDoRest ts f → WhileParts s us f
while_parts_at {f = f} e n d = while_parts n (subst (λ (ts : List Tok). IsDoRest ts f) e d)

left_tail : {ts us vs : List Tok} → ts ≡ Sign ParLeft ∷ us → ts ≡ Sign ParLeft ∷ vs → us ≡ vs
left_tail e f = cc

pub condition_in : {ts us vs ws : List Tok} {c : CondTree} → ts ≡ Sign ParLeft ∷ us → ts ≡ Sign ParLeft ∷ vs → IsCond vs c ws → IsCond us c ws
condition_in e f d = rw (left_tail e f) d
