-- Items of communication: what the ranks need of a distributed array for one reference, or for equal ones.
use Rattle.std.specs.Prelude.{ℕ, ◌==◌, Bool, true, false, not, ◌&&◌, if◌then◌else◌, is_some, List, [], ◌∷◌, ◌++◌, map, filter, flat_map, Option, Some, None, Result, Ok, Err}
use Rattle.std.specs.List.{list_any}
use Rattle.std.specs.Ordering.{nat_cmp, ordering_then, is_eq}
use Rattle.std.specs.declared.cmp.Ordering.{Ordering}
use Rattle.std.specs.declared.cmp.Ordering.TheVariants.{Less, Equal, Greater}
use Rattle.fd_prog.specs.declared.form.FormRefusal.{FormRefusal}
use Rattle.fd_prog.specs.declared.item.Item.{Item}
use Rattle.fd_prog.specs.declared.item.Widened.{Widened}
use Rattle.fd_prog.specs.Outcomes.{and_then}
use Rattle.fd_prog.specs.Expressions.{Expression, Expressions}
use Rattle.fd_prog.specs.Statements.{Target, ToScalar, ToElement, Statement, Assign, If, Do, While, Read, Print, Continue, Distribute, Statements, Empty, Then}
use Rattle.fd_prog.specs.Programs.{CheckedProgram}
use Rattle.fd_prog.specs.Forms.{LinearAtom, Variable, ScalarOf, ElementOf, FunctionOf, ProductOf, QuotientOf, LinearForm, Sum, LinearTerms, NoTerms, Term, LinearForms, NoForms, Part, linear_form_of, linear_forms_of, form_order, forms_order}
use Rattle.fd_prog.specs.FormOf.{form_of_expression, forms_of_expressions}
use Rattle.fd_prog.specs.Homes.{Distribution, Location, Executor, EveryRank, RankZero, OwnerOf, executor_of, distribution_at, location_of}

-- ---- items

-- a loop over which an item is widened, by the forms of its bounds and its step
pub record LinearLoop : Type 0 where
  pub first : LinearForm
  pub last : LinearForm
  pub step : LinearForm

-- the elements of an array that these subscripts give in the iterations of the widened loops, the outermost first, for the ranks of a home.
-- In all forms the variable of each of these loops goes by the loop's number, the outermost one's being 0
pub record LinearItem : Type 0 where
  pub array : ℕ
  pub subs : LinearForms
  pub loops : List LinearLoop
  pub home : Executor

abbrev pub linear_loop_of : Widened → LinearLoop
linear_loop_of l = record { first = linear_form_of l.first; last = linear_form_of l.last; step = linear_form_of l.step }

abbrev pub linear_item_of : Item → LinearItem
linear_item_of x = record { array = x.array; subs = linear_forms_of x.subs; loops = map linear_loop_of x.loops; home = executor_of x.home }

-- ---- equal items, by an order that has no meaning of its own

abbrev pub loop_order : LinearLoop → LinearLoop → Ordering
loop_order l m = ordering_then (form_order l.first m.first) (ordering_then (form_order l.last m.last) (form_order l.step m.step))

abbrev pub loops_order : List LinearLoop → List LinearLoop → Ordering
loops_order [] [] = Equal
loops_order [] (m ∷ ms) = Less
loops_order (l ∷ ls) [] = Greater
loops_order (l ∷ ls) (m ∷ ms) = ordering_then (loop_order l m) (loops_order ls ms)

abbrev pub location_order : Location → Location → Ordering
location_order l m = ordering_then (nat_cmp l.decomp m.decomp) (form_order l.form m.form)

abbrev pub executor_rank : Executor → ℕ
executor_rank EveryRank = 0
executor_rank RankZero = 1
executor_rank (OwnerOf l) = 2

abbrev pub executor_order : Executor → Executor → Ordering
executor_order (OwnerOf l) (OwnerOf m) = location_order l m
executor_order a b = nat_cmp (executor_rank a) (executor_rank b)

abbrev pub item_order : LinearItem → LinearItem → Ordering
item_order x y =
    ordering_then (nat_cmp x.array y.array) (ordering_then (forms_order x.subs y.subs) (ordering_then (loops_order x.loops y.loops) (executor_order x.home y.home)))

-- two items are equal
abbrev pub is_same_item : LinearItem → LinearItem → Bool
is_same_item x y = is_eq (item_order x y)

-- ---- names

-- a name of one of three kinds; an array and a decomposition of one spelling are different names
pub data Name : Type 0 where
  ScalarName : ℕ → Name
  ArrayName : ℕ → Name
  DecompName : ℕ → Name

abbrev pub is_same_name : Name → Name → Bool
is_same_name (ScalarName a) (ScalarName b) = a == b
is_same_name (ArrayName a) (ArrayName b) = a == b
is_same_name (DecompName a) (DecompName b) = a == b
is_same_name m n = false

abbrev pub is_among : List Name → Name → Bool
is_among names n = list_any (is_same_name n) names

abbrev mutual
  -- the names in an atom, but for widened variables
  pub atom_names : LinearAtom → List Name
  atom_names (Variable i) = []
  atom_names (ScalarOf s) = ScalarName s ∷ []
  atom_names (ElementOf array fs) = ArrayName array ∷ forms_names fs
  atom_names (FunctionOf f fs) = forms_names fs
  atom_names (ProductOf f g) = form_names f ++ form_names g
  atom_names (QuotientOf f g) = form_names f ++ form_names g

  pub form_names : LinearForm → List Name
  form_names (Sum ts c) = terms_names ts

  pub terms_names : LinearTerms → List Name
  terms_names NoTerms = []
  terms_names (Term c a ts) = atom_names a ++ terms_names ts

  pub forms_names : LinearForms → List Name
  forms_names NoForms = []
  forms_names (Part f fs) = form_names f ++ forms_names fs

abbrev pub loop_names : LinearLoop → List Name
loop_names l = form_names l.first ++ (form_names l.last ++ form_names l.step)

abbrev pub executor_names : Executor → List Name
executor_names EveryRank = []
executor_names RankZero = []
executor_names (OwnerOf l) = DecompName l.decomp ∷ form_names l.form

-- the decomposition that an array is distributed over, if it is
abbrev pub decomp_names : Option Distribution → List Name
decomp_names None = []
decomp_names (Some d) = DecompName d.decomp ∷ []

-- the names of an item: its array, all that its subscripts, bounds and home use, its array's decomposition and its home's
abbrev pub item_names : CheckedProgram → LinearItem → List Name
item_names p x =
    ArrayName x.array ∷ (forms_names x.subs ++ (flat_map loop_names x.loops ++ (executor_names x.home ++ decomp_names (distribution_at p x.array))))

-- ---- what statements set

abbrev pub target_name : Target → Name
target_name (ToScalar s) = ScalarName s
target_name (ToElement array subs site) = ArrayName array

abbrev mutual
  -- what a statement sets, and all that stands in it: an assignment and a READ their target, and a DO its variable
  pub names_set : Statement → List Name
  names_set (Assign line target e) = target_name target ∷ []
  names_set (If line c so otherwise) = all_names_set so ++ all_names_set otherwise
  names_set (Do line var first last by body) = ScalarName var ∷ all_names_set body
  names_set (While line c body) = all_names_set body
  names_set (Read line target) = target_name target ∷ []
  names_set (Print line items) = []
  names_set (Continue line) = []
  names_set (Distribute line decomp given) = []

  pub all_names_set : Statements → List Name
  all_names_set Empty = []
  all_names_set (Then s ss) = names_set s ++ all_names_set ss

-- ---- widening

-- a DO around a reference: its variable, its bounds and its step, and what its body sets
pub record CountedLoop : Type 0 where
  pub var : ℕ
  pub first : Expression
  pub last : Expression
  pub step : Expression
  pub sets : List Name

-- what stands around a reference: a side of an IF, a DO WHILE, or a DO
pub data Enclosing : Type 0 where
  Side : Enclosing
  Repeated : Enclosing
  Counted : CountedLoop → Enclosing

-- the forms of a loop's bounds, where the scalars of `bound` are widened variables
abbrev pub loop_forms : List ℕ → CountedLoop → Result LinearLoop FormRefusal
loop_forms bound l =
    and_then (form_of_expression bound l.first) (λ first. and_then (form_of_expression bound l.last) (λ last.
    and_then (form_of_expression bound l.step) (λ step. Ok (record { first = first; last = last; step = step }))))

-- the same of all of these loops
abbrev pub all_loop_forms : List ℕ → List CountedLoop → Result (List LinearLoop) FormRefusal
all_loop_forms bound [] = Ok []
all_loop_forms bound (l ∷ ls) = and_then (loop_forms bound l) (λ m. and_then (all_loop_forms bound ls) (λ ms. Ok (m ∷ ms)))

-- the name is that of a distributed array
abbrev pub is_distributed : CheckedProgram → Name → Bool
is_distributed p (ScalarName s) = false
is_distributed p (ArrayName a) = is_some (distribution_at p a)
is_distributed p (DecompName d) = false

-- an item with these names may be widened over a loop whose bounds have those: the bounds use replicated names alone and don't name the loop's own variable,
-- and the body sets none of all these names
abbrev pub may_widen : CheckedProgram → List Name → CountedLoop → List Name → Bool
may_widen p names l bounds =
    not (list_any (is_distributed p) bounds) && (not (is_among bounds (ScalarName l.var)) && not (list_any (is_among (names ++ bounds)) l.sets))

-- the names but for a variable that is widened
abbrev pub without : ℕ → List Name → List Name
without var names = filter (λ n. not (is_same_name n (ScalarName var))) names

abbrev pub with_loop : Bool → CountedLoop → List CountedLoop → List CountedLoop
with_loop true l outer = outer ++ (l ∷ [])
with_loop false l outer = []

-- the loop and those further out over which an item with these names is widened, where the loop's bounds have such forms
abbrev pub widened_past : CheckedProgram → List Name → CountedLoop → Result LinearLoop FormRefusal → (List Name → List CountedLoop) → List CountedLoop
widened_past p names l (Err why) outer = []
widened_past p names l (Ok m) outer = with_loop (may_widen p names l (loop_names m)) l (outer (without l.var (names ++ loop_names m)))

-- of what stands around a reference, from the innermost outwards, the loops over which an item with these names is widened; the outermost comes first.
-- The first that the item isn't widened over ends it
abbrev pub widened_over : CheckedProgram → List Enclosing → List Name → List CountedLoop
widened_over p [] names = []
widened_over p (Side ∷ around) names = []
widened_over p (Repeated ∷ around) names = []
widened_over p (Counted l ∷ around) names = widened_past p names l (loop_forms [] l) (widened_over p around)

-- ---- the item of a reference

-- where a reference stands: what is around it, and who executes what values it, where some scalars are widened variables
pub record Setting : Type 0 where
  pub around : List Enclosing
  pub home : List ℕ → Result Executor FormRefusal

-- the item of a reference to an array with these subscripts, widened over these loops
abbrev pub item_over : Setting → ℕ → Expressions → List CountedLoop → Result LinearItem FormRefusal
item_over s array subs loops =
    let bound = map (λ (l : CountedLoop). l.var) loops in
    and_then (forms_of_expressions bound subs) (λ fs. and_then (s.home bound) (λ home. and_then (all_loop_forms bound loops) (λ ms.
    Ok (record { array = array; subs = fs; loops = ms; home = home }))))

-- whoever executes owns the element: the home is at the location of the reference
abbrev pub is_local : Distribution → LinearForms → Executor → Bool
is_local d subs EveryRank = false
is_local d subs RankZero = false
is_local d subs (OwnerOf l) = is_eq (location_order l (location_of d subs))

-- the item of a reference to a distributed array, or none where it is local
abbrev pub item_unless_local : CheckedProgram → Setting → Distribution → ℕ → Expressions → LinearItem → Result (Option LinearItem) FormRefusal
item_unless_local p s d array subs plain =
    if is_local d plain.subs plain.home then Ok None
    else and_then (item_over s array subs (widened_over p s.around (item_names p plain))) (λ x. Ok (Some x))

-- the item of a reference, or none where the array is replicated or the reference is local. A form past a limit is refused
abbrev pub item_by : CheckedProgram → Setting → ℕ → Expressions → Option Distribution → Result (Option LinearItem) FormRefusal
item_by p s array subs None = Ok None
item_by p s array subs (Some d) = and_then (item_over s array subs []) (item_unless_local p s d array subs)

abbrev pub item_of_reference : CheckedProgram → Setting → ℕ → Expressions → Result (Option LinearItem) FormRefusal
item_of_reference p s array subs = item_by p s array subs (distribution_at p array)
