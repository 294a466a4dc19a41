-- The distributed arrays of a program: how they are dealt, and the subscripts of references to them.
use Rattle.std.specs.Prelude.{◌≡◌, ℕ, ◌++◌, Bool, false, if◌then◌else◌, List, [], ◌∷◌, flat_map, is_some, All, IfSome, IsOk}
use Rattle.fd_base.specs.Places.{IsRegular}
use Rattle.fd_prog.specs.declared.program.Decomp.{Decomp}
use Rattle.fd_prog.specs.Checked.{Reference, references_among}
use Rattle.fd_prog.specs.Conditions.{Condition, Fixed, Compared, Not, Both, Either}
use Rattle.fd_prog.specs.Expressions.{Expression, Number, Scalar, Element, Negated, Joined, Applied, Expressions, End, More}
use Rattle.fd_prog.specs.FormOf.{forms_of_expressions}
use Rattle.fd_prog.specs.Homes.{distribution_at}
use Rattle.fd_prog.specs.Programs.{CheckedProgram}
use Rattle.fd_prog.specs.Statements.{Target, ToScalar, ToElement, PrintItem, Words, Value, Statement, Assign, If, Do, While, Read, Print, Continue, Distribute, Statements, Empty, Then}

-- each decomposition that is distributed is so by a formula of the position
abbrev pub AreRegular : CheckedProgram → Type 0
AreRegular p = All (λ (d : Decomp). IfSome d.dist IsRegular) p.decomps

-- the array of this number is distributed
abbrev pub is_distributed : CheckedProgram → ℕ → Bool
is_distributed p k = is_some (distribution_at p k)

abbrev pub chosen : Bool → Expressions → List Expressions
chosen b es = if b then es ∷ [] else []

abbrev mutual
  -- the subscripts of each reference to an array that passes a test, those of references in subscripts among them
  pub subscripts_in : (ℕ → Bool) → Expression → List Expressions
  subscripts_in test (Number x) = []
  subscripts_in test (Scalar s) = []
  subscripts_in test (Element k es site) = chosen (test k) es ++ subscripts_among test es
  subscripts_in test (Negated a) = subscripts_in test a
  subscripts_in test (Joined op a b) = subscripts_in test a ++ subscripts_in test b
  subscripts_in test (Applied f es) = subscripts_among test es

  pub subscripts_among : (ℕ → Bool) → Expressions → List Expressions
  subscripts_among test End = []
  subscripts_among test (More e es) = subscripts_in test e ++ subscripts_among test es

abbrev pub condition_subscripts : (ℕ → Bool) → Condition → List Expressions
condition_subscripts test (Fixed b) = []
condition_subscripts test (Compared rel a b) = subscripts_in test a ++ subscripts_in test b
condition_subscripts test (Not c) = condition_subscripts test c
condition_subscripts test (Both c d) = condition_subscripts test c ++ condition_subscripts test d
condition_subscripts test (Either c d) = condition_subscripts test c ++ condition_subscripts test d

abbrev pub target_subscripts : (ℕ → Bool) → Target → List Expressions
target_subscripts test (ToScalar s) = []
target_subscripts test (ToElement k es site) = chosen (test k) es ++ subscripts_among test es

abbrev pub item_subscripts : (ℕ → Bool) → PrintItem → List Expressions
item_subscripts test (Words text) = []
item_subscripts test (Value e) = subscripts_in test e

abbrev mutual
  -- the same in a statement and all that stands in it
  pub statement_subscripts : (ℕ → Bool) → Statement → List Expressions
  statement_subscripts test (Assign line target e) = target_subscripts test target ++ subscripts_in test e
  statement_subscripts test (If line c so otherwise) = condition_subscripts test c ++ (statements_subscripts test so ++ statements_subscripts test otherwise)
  statement_subscripts test (Do line var first last by body) = subscripts_in test first ++ (subscripts_in test last ++ (subscripts_in test by ++ statements_subscripts test body))
  statement_subscripts test (While line c body) = condition_subscripts test c ++ statements_subscripts test body
  statement_subscripts test (Read line target) = target_subscripts test target
  statement_subscripts test (Print line items) = flat_map (item_subscripts test) items
  statement_subscripts test (Continue line) = []
  statement_subscripts test (Distribute line decomp given) = []

  pub statements_subscripts : (ℕ → Bool) → Statements → List Expressions
  statements_subscripts test Empty = []
  statements_subscripts test (Then s ss) = statement_subscripts test s ++ statements_subscripts test ss

-- each of these subscripts has a form, and no distributed array stands in one
pub record AreLocal (p : CheckedProgram) (subs : Expressions) : Type 0 where
  pub forms : IsOk (forms_of_expressions [] subs)
  pub replicated : All (λ (r : Reference). is_distributed p r.array ≡ false) (references_among subs)

-- all subscripts of distributed references are so, a target's too
abbrev pub IsLocal : CheckedProgram → Type 0
IsLocal p = All (AreLocal p) (statements_subscripts (is_distributed p) p.body)
