-- The references of a program that make items, and the items by their numbers.
use Rattle.std.specs.Prelude.{ℕ, suc, ◌==◌, ◌-◌, Bool, false, not, List, [], ◌∷◌, ◌++◌, map, filter, flat_map, find, get_or, slice_get, Option, Some, None, option_map, unwrap_or, if◌then◌else◌, Result, Ok, Err}
use Rattle.std.specs.List.{list_any, position, range_with_len}
use Rattle.fd_base.specs.declared.numbering.Line.{Line}
use Rattle.fd_prog.specs.declared.form.FormRefusal.{FormRefusal}
use Rattle.fd_prog.specs.Expressions.{Expression, Number, Scalar, Element, Negated, Joined, Applied, Expressions, End, More}
use Rattle.fd_prog.specs.Conditions.{Condition, Fixed, Compared, Not, Both, Either}
use Rattle.fd_prog.specs.Statements.{Target, ToScalar, ToElement, PrintItem, Words, Value, Statement, Assign, If, Do, While, Read, Print, Continue, Distribute, Statements, Empty, Then}
use Rattle.fd_prog.specs.Programs.{CheckedProgram}
use Rattle.fd_prog.specs.Homes.{EveryRank, home_of_statement}
use Rattle.fd_prog.specs.Items.{LinearItem, Name, ScalarName, DecompName, Enclosing, Side, Repeated, Counted, Setting, all_names_set, item_names, item_of_reference, is_among, is_same_item, target_name}
use Rattle.fd_prog.specs.Nodes as nodes

-- ---- uses

-- a reference that makes an item, by its number, with the line of its statement
pub record Use : Type 0 where
  pub line : Line
  pub site : ℕ
  pub item : LinearItem

-- where references stand: their line, and their setting in the program
pub record Stand : Type 0 where
  pub program : CheckedProgram
  pub line : Line
  pub setting : Setting

abbrev pub use_of : Line → ℕ → Result (Option LinearItem) FormRefusal → List Use
use_of line site (Ok (Some x)) = record { line = line; site = site; item = x } ∷ []
use_of line site (Ok None) = []
use_of line site (Err why) = []

abbrev mutual
  -- the uses in an expression from left to right, a reference before those in its subscripts
  pub expression_uses : Stand → Expression → List Use
  expression_uses t (Number x) = []
  expression_uses t (Scalar s) = []
  expression_uses t (Element array subs site) = use_of t.line site (item_of_reference t.program t.setting array subs) ++ expressions_uses t subs
  expression_uses t (Negated a) = expression_uses t a
  expression_uses t (Joined op a b) = expression_uses t a ++ expression_uses t b
  expression_uses t (Applied f args) = expressions_uses t args

  pub expressions_uses : Stand → Expressions → List Use
  expressions_uses t End = []
  expressions_uses t (More e es) = expression_uses t e ++ expressions_uses t es

abbrev pub condition_uses : Stand → Condition → List Use
condition_uses t (Fixed b) = []
condition_uses t (Compared rel a b) = expression_uses t a ++ expression_uses t b
condition_uses t (Not c) = condition_uses t c
condition_uses t (Both c d) = condition_uses t c ++ condition_uses t d
condition_uses t (Either c d) = condition_uses t c ++ condition_uses t d

-- a target itself is set and not read; its subscripts are read
abbrev pub target_uses : Stand → Target → List Use
target_uses t (ToScalar s) = []
target_uses t (ToElement array subs site) = expressions_uses t subs

abbrev pub print_uses : Stand → PrintItem → List Use
print_uses t (Words text) = []
print_uses t (Value e) = expression_uses t e

-- where the references stand that all ranks value
abbrev pub for_all_ranks : CheckedProgram → List Enclosing → Line → Stand
for_all_ranks p around line = record { program = p; line = line; setting = record { around = around; home = λ bound. Ok EveryRank } }

-- where the references stand that are valued by whoever executes a statement
abbrev pub for_home_of : CheckedProgram → List Enclosing → Line → Statement → Stand
for_home_of p around line s = record { program = p; line = line; setting = record { around = around; home = λ bound. home_of_statement p bound s } }

-- a DO as what stands around its body
abbrev pub counted : ℕ → Expression → Expression → Expression → Statements → Enclosing
counted var first last by body = Counted (record { var = var; first = first; last = last; step = by; sets = all_names_set body })

abbrev mutual
  -- what the nodes of a statement use, in order of the nodes: all ranks value conditions, bounds and the subscripts of targets, and whoever executes the statement the rest.
  -- The bounds of a DO and the condition of a DO WHILE stand outside that loop; the condition is used at the beginning and at the latch
  pub uses_in : CheckedProgram → List Enclosing → Statement → List (List Use)
  uses_in p around (Assign line target e) =
      (target_uses (for_all_ranks p around line) target ++ expression_uses (for_home_of p around line (Assign line target e)) e) ∷ []
  uses_in p around (If line c so otherwise) =
      condition_uses (for_all_ranks p around line) c ∷ ([] ∷ (uses_among p (Side ∷ around) so
      ++ ([] ∷ ([] ∷ (uses_among p (Side ∷ around) otherwise ++ ([] ∷ ([] ∷ [])))))))
  uses_in p around (Do line var first last by body) =
      (expression_uses (for_all_ranks p around line) first ++ (expression_uses (for_all_ranks p around line) last ++ expression_uses (for_all_ranks p around line) by))
      ∷ ([] ∷ (uses_among p (counted var first last by body ∷ around) body ++ ([] ∷ [])))
  uses_in p around (While line c body) =
      condition_uses (for_all_ranks p around line) c ∷ ([] ∷ (uses_among p (Repeated ∷ around) body
      ++ (condition_uses (for_all_ranks p around line) c ∷ [])))
  uses_in p around (Read line target) = target_uses (for_all_ranks p around line) target ∷ []
  uses_in p around (Print line items) = flat_map (print_uses (for_home_of p around line (Print line items))) items ∷ []
  uses_in p around (Continue line) = [] ∷ []
  uses_in p around (Distribute line decomp given) = [] ∷ []

  pub uses_among : CheckedProgram → List Enclosing → Statements → List (List Use)
  uses_among p around Empty = []
  uses_among p around (Then s ss) = uses_in p around s ++ uses_among p around ss

-- what the nodes of a program use, in order of their numbers
abbrev pub uses_by_node : CheckedProgram → List (List Use)
uses_by_node p = [] ∷ (uses_among p [] p.body ++ ([] ∷ []))

-- all uses in source order
abbrev pub uses_of : CheckedProgram → List Use
uses_of p = flat_map (λ us. us) (uses_by_node p)

-- ---- numbers

-- each item's first use, in order
abbrev pub first_uses : List Use → List Use
first_uses [] = []
first_uses (u ∷ us) = u ∷ filter (λ (v : Use). not (is_same_item u.item v.item)) (first_uses us)

-- the first use of each item of a program
abbrev pub firsts_of : CheckedProgram → List Use
firsts_of p = first_uses (uses_of p)

-- the items of a program in order of their numbers, which begin with 1
abbrev pub items_of : CheckedProgram → List LinearItem
items_of p = map (λ (u : Use). u.item) (firsts_of p)

-- the number of an item, or 0 where there is no such item
abbrev pub number_in : List LinearItem → LinearItem → ℕ
number_in xs x = unwrap_or (option_map suc (position (is_same_item x) xs)) 0

-- the number of the item of the reference with this number, or 0 where it has none
abbrev pub item_at_site : CheckedProgram → ℕ → ℕ
item_at_site p site = unwrap_or (option_map (λ (u : Use). number_in (items_of p) u.item) (find (λ (u : Use). u.site == site) (uses_of p))) 0

-- the items of the references by the references' numbers
abbrev pub items_at_sites : CheckedProgram → List ℕ
items_at_sites p = map (item_at_site p) (range_with_len 0 p.sites)

-- ---- what nodes take and steal

-- a node takes the items of the references that it values
abbrev pub takes : CheckedProgram → ℕ → ℕ → Bool
takes p n x = list_any (λ (u : Use). number_in (items_of p) u.item == x) (get_or (uses_by_node p) n [])

-- what a node changes: an assignment and a READ their target, a DISTRIBUTE its decomposition, and a DO its variable, when it starts and at its latch
abbrev pub name_stolen : nodes.Role → Option Name
name_stolen (nodes.Simple (Assign line target e)) = Some (target_name target)
name_stolen (nodes.Simple (Read line target)) = Some (target_name target)
name_stolen (nodes.Simple (Distribute line decomp given)) = Some (DecompName decomp)
name_stolen (nodes.Loop (Do line var first last by body) latch) = Some (ScalarName var)
name_stolen (nodes.Latch (Do line var first last by body) loop) = Some (ScalarName var)
name_stolen role = None

-- the item has this name
abbrev pub has_name : CheckedProgram → Option Name → Option LinearItem → Bool
has_name p (Some name) (Some x) = is_among (item_names p x) name
has_name p (Some name) None = false
has_name p None x = false

-- the item of a number, which begins with 1
abbrev pub item_numbered : List LinearItem → ℕ → Option LinearItem
item_numbered xs x = if x == 0 then None else slice_get xs (x - 1)

-- a node steals the items that have what it changes among their names
abbrev pub steals : CheckedProgram → ℕ → ℕ → Bool
steals p n x = has_name p (name_stolen (nodes.node_at (nodes.nodes_of p) n).role) (item_numbered (items_of p) x)
