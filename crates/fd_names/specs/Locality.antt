-- The rules on subscripts of distributed references, which are judged once the whole program is known.
use Rattle.std.specs.Prelude.{ℕ, ◌++◌, Bool, false, ◌||◌, if◌then◌else◌, List, [], ◌∷◌, get_or, Result, Ok, Err}
use Rattle.fd_base.specs.declared.limit.Limit.TheVariants as limits
use Rattle.fd_prog.specs.declared.form.FormRefusal.{FormRefusal}
use Rattle.fd_prog.specs.declared.form.FormRefusal.TheVariants as refused
use Rattle.fd_prog.specs.Forms.{LinearForm}
use Rattle.fd_prog.specs.FormOf.{form_of_expression}
use Rattle.fd_prog.specs.Expressions.{Expression, Number, Scalar, Element, Negated, Joined, Applied, Expressions, End, More}
use Rattle.fd_prog.specs.Conditions.{Condition, Fixed, Compared, Not, Both, Either}
use Rattle.fd_prog.specs.Statements.{Target, ToScalar, ToElement, PrintItem, Words, Value, Statement, Assign, If, Do, While, Read, Print, Continue, Distribute, Statements, Empty, Then}
use Rattle.fd_names.specs.declared.refusal.Cause.{Cause}
use Rattle.fd_names.specs.declared.refusal.Cause.TheVariants.{IndexNotLocal, TooMany}
use Rattle.fd_names.specs.declared.refusal.Refusal.{Refusal}
use Rattle.fd_names.specs.First.{at_line, given}

-- for each array, whether it is distributed
abbrev pub Dealt : Type 0
Dealt = List Bool

abbrev pub is_dealt : Dealt → ℕ → Bool
is_dealt ds k = get_or ds k false

abbrev mutual
  -- a distributed array stands somewhere in an expression
  pub mentions : Dealt → Expression → Bool
  mentions ds (Number z) = false
  mentions ds (Scalar k) = false
  mentions ds (Element k es site) = is_dealt ds k || mention ds es
  mentions ds (Negated e) = mentions ds e
  mentions ds (Joined o a b) = mentions ds a || mentions ds b
  mentions ds (Applied f es) = mention ds es

  pub mention : Dealt → Expressions → Bool
  mention ds End = false
  mention ds (More e es) = mentions ds e || mention ds es

-- a limit that the form of a subscript passes
abbrev pub form_causes : Result LinearForm FormRefusal → List Cause
form_causes (Ok f) = []
form_causes (Err refused.Terms) = TooMany limits.Terms ∷ []
form_causes (Err refused.Coefficient) = TooMany limits.Coefficient ∷ []
form_causes (Err refused.Memory) = []

-- what is wrong in subscripts of a distributed reference: a distributed array in them, or a form past its limits
abbrev pub subscript_causes : Dealt → Expressions → List Cause
subscript_causes ds End = []
subscript_causes ds (More e es) = given (mentions ds e) IndexNotLocal ++ (form_causes (form_of_expression [] e) ++ subscript_causes ds es)

abbrev pub reference_causes : Bool → Dealt → Expressions → List Cause
reference_causes b ds es = if b then subscript_causes ds es else []

abbrev mutual
  -- what is wrong in the distributed references of an expression
  pub index_causes : Dealt → Expression → List Cause
  index_causes ds (Number z) = []
  index_causes ds (Scalar k) = []
  index_causes ds (Element k es site) = reference_causes (is_dealt ds k) ds es ++ all_index_causes ds es
  index_causes ds (Negated e) = index_causes ds e
  index_causes ds (Joined o a b) = index_causes ds a ++ index_causes ds b
  index_causes ds (Applied f es) = all_index_causes ds es

  pub all_index_causes : Dealt → Expressions → List Cause
  all_index_causes ds End = []
  all_index_causes ds (More e es) = index_causes ds e ++ all_index_causes ds es

abbrev pub index_in_condition : Dealt → Condition → List Cause
index_in_condition ds (Fixed b) = []
index_in_condition ds (Compared r a b) = index_causes ds a ++ index_causes ds b
index_in_condition ds (Not c) = index_in_condition ds c
index_in_condition ds (Both a b) = index_in_condition ds a ++ index_in_condition ds b
index_in_condition ds (Either a b) = index_in_condition ds a ++ index_in_condition ds b

abbrev pub index_in_target : Dealt → Target → List Cause
index_in_target ds (ToScalar k) = []
index_in_target ds (ToElement k es site) = reference_causes (is_dealt ds k) ds es ++ all_index_causes ds es

abbrev pub index_in_item : Dealt → PrintItem → List Cause
index_in_item ds (Words text) = []
index_in_item ds (Value e) = index_causes ds e

abbrev pub index_in_items : Dealt → List PrintItem → List Cause
index_in_items ds [] = []
index_in_items ds (x ∷ xs) = index_in_item ds x ++ index_in_items ds xs

abbrev mutual
  -- all of a statement's, each on the line of its own statement
  pub index_refusals : Dealt → Statement → List Refusal
  index_refusals ds (Assign l t e) = at_line l (index_in_target ds t ++ index_causes ds e)
  index_refusals ds (If l c so otherwise) = at_line l (index_in_condition ds c) ++ (all_index_refusals ds so ++ all_index_refusals ds otherwise)
  index_refusals ds (Do l k a b by body) = at_line l (index_causes ds a ++ (index_causes ds b ++ index_causes ds by)) ++ all_index_refusals ds body
  index_refusals ds (While l c body) = at_line l (index_in_condition ds c) ++ all_index_refusals ds body
  index_refusals ds (Read l t) = at_line l (index_in_target ds t)
  index_refusals ds (Print l xs) = at_line l (index_in_items ds xs)
  index_refusals ds (Continue l) = []
  index_refusals ds (Distribute l d given_) = []

  pub all_index_refusals : Dealt → Statements → List Refusal
  all_index_refusals ds Empty = []
  all_index_refusals ds (Then x rest) = index_refusals ds x ++ all_index_refusals ds rest
