-- The references of a program without refusals fit their arrays, and their numbers differ.
use Rattle.std.proofs.Common.{◌≡◌, ◌≢◌, ℕ, zero, suc, ◌+◌, ◌<◌, ◌≤◌, List, [], ◌∷◌, ◌++◌, Option, None, Some, refl, sym, ap, ◌∙◌, unwrap_or, option_map, slice_get, flat_map, arith}
use Rattle.std.specs.List.{All, AllPairs}
use Rattle.std.proofs.lemmas.List.Elements.{All-nil, All-cons, All-weaker}
use Rattle.std.proofs.lemmas.List.Kept.{AllPairs-cons}
use Rattle.fd_base.specs.declared.numbering.Line.{Line}
use Rattle.fd_ast.specs.Tree.{ExprTree, ExprTrees, CondTree, ItemTree, StmtTree, StmtTrees}
use Rattle.fd_prog.specs.declared.program.Array.{Array}
use Rattle.fd_prog.specs.Checked.{Reference, references_in, references_among, condition_references, target_references, item_references, statement_references, statements_references}
use Rattle.fd_prog.specs.Conditions.{Condition}
use Rattle.fd_prog.specs.Expressions.{Expression, Expressions}
use Rattle.fd_prog.specs.Statements.{Target, PrintItem, Statement, Statements}
use Rattle.fd_prog.specs.Stores.{no_shape}
use Rattle.fd_prog.specs.WellFormed.{count_of}
use Rattle.fd_names.specs.declared.declarations.Alignment.{Alignment}
use Rattle.fd_names.specs.declared.declarations.Spread.{Spread}
use Rattle.fd_names.specs.Declarations.{finished_arrays}
use Rattle.fd_names.specs.Expressions.{count}
use Rattle.fd_names.specs.Sites.{CountUp}
use Rattle.fd_names.specs.Standing.{Scope, IsArrayAt, Stands, a_number, a_scalar, a_constant, an_element, a_function, a_negation, an_operation, AllStand, no_more, and_more, ConditionStands, a_truth, a_comparison, a_not, a_both, an_either, TargetStands, to_scalar, to_element, ItemsStand, no_items, a_text, a_value, StatementStands, an_assignment, an_if, a_do, a_while, a_read, a_print, a_continue, StatementsStand, no_statements, and_statements}

abbrev Each : (Reference → Type 0) → List Reference → Type 0
Each P [] = Unit {0}
Each P (r ∷ rs) = P r × Each P rs

join : (P : Reference → Type 0) (xs ys : List Reference) → Each P xs → Each P ys → Each P (xs ++ ys)
join P [] ys h k = k
join P (x ∷ xs) ys h k = (h.0, join P xs ys h.1 k)

each : (P : Reference → Type 0) (xs : List Reference) → Each P xs → All P xs
each P [] h = All-nil P
each P (x ∷ xs) h = All-cons P x xs h.0 (each P xs h.1)

-- ---- subscripts

-- as many subscripts as the array of its number has dimensions
abbrev pub Fits : List Array → Reference → Type 0
Fits arrays r = r.subs ≡ (unwrap_or (option_map (λ (a : Array). a.shape) (slice_get arrays r.array)) no_shape).dims

one_more : (a b : ℕ) → a ≡ b → a + 1 ≡ 1 + b
one_more a b h = omega arith

counts : {c : Scope} {l : Line} {es : ExprTrees} {xs : Expressions} → AllStand c l es xs → count_of xs ≡ count es
counts no_more = refl
counts (and_more {es = es} {xs = xs} h k) = one_more (count_of xs) (count es) (counts k)

fitting : (arrays : List Array) (k m n : ℕ) (names : List ℕ) → IsArrayAt arrays k names m → n ≡ m → n ≡ (unwrap_or (option_map (λ (a : Array). a.shape) (slice_get arrays k)) no_shape).dims
fitting arrays k m n names i e = e ∙ (sym i.shape ∙ sym (ap (λ o. (unwrap_or (option_map (λ (a : Array). a.shape) o) no_shape).dims) i.place))

mutual
  fit : {c : Scope} {l : Line} {e : ExprTree} {x : Expression} → Stands c l e x → Each (Fits c.arrays) (references_in x)
  fit a_number = tt
  fit (a_scalar h) = tt
  fit (a_constant h) = tt
  fit (an_element {c = c} {n = n} {es = es} {xs = xs} {k = k} i all) = (fitting c.arrays k (count es) (count_of xs) n i (counts all), all_fit all)
  fit (a_function e t all) = all_fit all
  fit (a_negation h) = fit h
  fit (an_operation {c = c} {x = x} {y = y} h k) = join (Fits c.arrays) (references_in x) (references_in y) (fit h) (fit k)

  all_fit : {c : Scope} {l : Line} {es : ExprTrees} {xs : Expressions} → AllStand c l es xs → Each (Fits c.arrays) (references_among xs)
  all_fit no_more = tt
  all_fit (and_more {c = c} {x = x} {xs = xs} h k) = join (Fits c.arrays) (references_in x) (references_among xs) (fit h) (all_fit k)

condition_fit : {c : Scope} {l : Line} {e : CondTree} {x : Condition} → ConditionStands c l e x → Each (Fits c.arrays) (condition_references x)
condition_fit a_truth = tt
condition_fit (a_comparison {c = c} {x = x} {y = y} h k) = join (Fits c.arrays) (references_in x) (references_in y) (fit h) (fit k)
condition_fit (a_not h) = condition_fit h
condition_fit (a_both {c = c} {x = x} {y = y} h k) = join (Fits c.arrays) (condition_references x) (condition_references y) (condition_fit h) (condition_fit k)
condition_fit (an_either {c = c} {x = x} {y = y} h k) = join (Fits c.arrays) (condition_references x) (condition_references y) (condition_fit h) (condition_fit k)

target_fit : {c : Scope} {l : Line} {e : ExprTree} {x : Target} → TargetStands c l e x → Each (Fits c.arrays) (target_references x)
target_fit (to_scalar h) = tt
target_fit (to_element {c = c} {n = n} {es = es} {xs = xs} {k = k} i all) = (fitting c.arrays k (count es) (count_of xs) n i (counts all), all_fit all)

items_fit : {c : Scope} {l : Line} {es : List ItemTree} {xs : List PrintItem} → ItemsStand c l es xs → Each (Fits c.arrays) (flat_map item_references xs)
items_fit no_items = tt
items_fit (a_text h) = items_fit h
items_fit (a_value {c = c} {x = x} {xs = xs} h k) = join (Fits c.arrays) (references_in x) (flat_map item_references xs) (fit h) (items_fit k)

mutual
  statement_fit : {c : Scope} {e : StmtTree} {x : Statement} → StatementStands c e x → Each (Fits c.arrays) (statement_references x)
  statement_fit (an_assignment {c = c} {u = u} {x = x} h k) = join (Fits c.arrays) (target_references u) (references_in x) (target_fit h) (fit k)
  statement_fit (an_if {c = c} {x = x} {us = us} {vs = vs} h k m) = join (Fits c.arrays) (condition_references x) (statements_references us ++ statements_references vs) (condition_fit h) (join (Fits c.arrays) (statements_references us) (statements_references vs) (statements_fit k) (statements_fit m))
  statement_fit (a_do {c = c} {x = x} {y = y} {z = z} {us = us} i h k m b) =
      join (Fits c.arrays) (references_in x) (references_in y ++ (references_in z ++ statements_references us)) (fit h)
      (join (Fits c.arrays) (references_in y) (references_in z ++ statements_references us) (fit k)
      (join (Fits c.arrays) (references_in z) (statements_references us) (fit m) (statements_fit b)))
  statement_fit (a_while {c = c} {x = x} {us = us} h k) = join (Fits c.arrays) (condition_references x) (statements_references us) (condition_fit h) (statements_fit k)
  statement_fit (a_read h) = target_fit h
  statement_fit (a_print h) = items_fit h
  statement_fit a_continue = tt

  statements_fit : {c : Scope} {es : StmtTrees} {xs : Statements} → StatementsStand c es xs → Each (Fits c.arrays) (statements_references xs)
  statements_fit no_statements = tt
  statements_fit (and_statements {c = c} {x = x} {xs = xs} h k) = join (Fits c.arrays) (statement_references x) (statements_references xs) (statement_fit h) (statements_fit k)

pub all_fitting : (c : Scope) (es : StmtTrees) (xs : Statements) → StatementsStand c es xs → All (Fits c.arrays) (statements_references xs)
all_fitting c es xs h = each (Fits c.arrays) (statements_references xs) (statements_fit h)

-- the finished array of a number has the shape of the declared one
shape_kept : (sps : List Spread) (xs : List Array) (gs : List (Option Alignment)) (k : ℕ) → option_map (λ (a : Array). a.shape) (slice_get (finished_arrays sps xs gs) k) ≡ option_map (λ (a : Array). a.shape) (slice_get xs k)
shape_kept sps [] gs k = refl
shape_kept sps (x ∷ xs) [] zero = refl
shape_kept sps (x ∷ xs) [] (suc k) = shape_kept sps xs [] k
shape_kept sps (x ∷ xs) (None ∷ gs) zero = refl
shape_kept sps (x ∷ xs) (Some g ∷ gs) zero = refl
shape_kept sps (x ∷ xs) (g ∷ gs) (suc k) = shape_kept sps xs gs k

pub all_fitting_finished : (sps : List Spread) (xs : List Array) (gs : List (Option Alignment)) (rs : List Reference) → All (Fits xs) rs → All (Fits (finished_arrays sps xs gs)) rs
all_fitting_finished sps xs gs rs h = All-weaker (Fits xs) (Fits (finished_arrays sps xs gs)) (λ r f. f ∙ sym (ap (λ o. (unwrap_or o no_shape).dims) (shape_kept sps xs gs r.array))) rs h

-- ---- numbers

rises : (a b : ℕ) (rs : List Reference) → CountUp a rs b → a ≤ b
rises a b [] h = omega (arith, h)
rises a b (r ∷ rs) h = let k : a + 1 ≤ b = rises (a + 1) b rs h.1 in omega arith

below : (a b : ℕ) (rs : List Reference) → CountUp a rs b → Each (λ r. r.site < b) rs
below a b [] h = tt
below a b (r ∷ rs) h = let k : a + 1 ≤ b = rises (a + 1) b rs h.1 in let e = h.0 in (omega arith, below (a + 1) b rs h.1)

above : (m a b : ℕ) (rs : List Reference) → m < a → CountUp a rs b → Each (λ r. m < r.site) rs
above m a b [] le h = tt
above m a b (r ∷ rs) le h = let e = h.0 in (omega arith, above m (a + 1) b rs (omega arith) h.1)

other : (r s : Reference) (a : ℕ) → r.site ≡ a → a < s.site → r.site ≢ s.site
other r s a e h = λ f. omega arith

others : (r : Reference) (a : ℕ) (rs : List Reference) → r.site ≡ a → Each (λ s. a < s.site) rs → All (λ s. r.site ≢ s.site) rs
others r a [] e h = All-nil (λ s. r.site ≢ s.site)
others r a (s ∷ rs) e h = All-cons (λ q. r.site ≢ q.site) s rs (other r s a e h.0) (others r a rs e h.1)

less : (a : ℕ) → a < a + 1
less a = omega arith

no_pairs : (R : Reference → Reference → Type 0) → AllPairs R []
no_pairs R = λ i j d h k. absurd (omega (arith, k))

pub all_apart : (a b : ℕ) (rs : List Reference) → CountUp a rs b → AllPairs (λ (r s : Reference). r.site ≢ s.site) rs
all_apart a b [] h = no_pairs (λ (r s : Reference). r.site ≢ s.site)
all_apart a b (r ∷ rs) h = AllPairs-cons (λ (p q : Reference). p.site ≢ q.site) r rs (others r a rs h.0 (above a (a + 1) b rs (less a) h.1)) (all_apart (a + 1) b rs h.1)

pub all_below : (a b : ℕ) (rs : List Reference) → CountUp a rs b → All (λ (r : Reference). r.site < b) rs
all_below a b rs h = each (λ r. r.site < b) rs (below a b rs h)
