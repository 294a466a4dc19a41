-- The value of a linear form.
use Rattle.std.specs.Prelude.{◌≡◌, ℕ, ℤ, pos, ◌+ℤ◌, ◌*ℤ◌, true, Option, List, [], ◌∷◌, slice_index_or, Some, None, Result, Ok}
use Rattle.fd_base.specs.declared.numbers.FaultKind.{FaultKind}
use Rattle.fd_base.specs.Numbers.{fits_i64, exact}
use Rattle.fd_prog.specs.declared.expression.Op2.TheVariants.{Mul, Div}
use Rattle.fd_prog.specs.Outcomes.{and_then}
use Rattle.fd_prog.specs.Values.{Readings, element_value, joined, applied}
use Rattle.fd_prog.specs.Forms.{LinearAtom, Variable, ScalarOf, ElementOf, FunctionOf, ProductOf, QuotientOf, LinearForm, Sum, LinearTerms, NoTerms, Term, LinearForms, NoForms, Part}

abbrev mutual
  -- the value of an atom with numbers for the widened variables, the outermost first. Where a part is outside 64 bits, or an operation on parts faults, there is none, and the iteration is skipped; which fault it is doesn't matter
  pub atom_value : Readings → List ℤ → LinearAtom → Result ℤ FaultKind
  atom_value r vs (Variable i) = Ok (slice_index_or vs i (pos 0))
  atom_value r vs (ScalarOf s) = Ok (r.scalar s)
  atom_value r vs (ElementOf array fs) = and_then (part_values r vs fs) (element_value r array None)
  atom_value r vs (FunctionOf f fs) = and_then (part_values r vs fs) (applied f)
  atom_value r vs (ProductOf f g) = and_then (and_then (form_value r vs f) exact) (λ x. and_then (and_then (form_value r vs g) exact) (joined Mul x))
  atom_value r vs (QuotientOf f g) = and_then (and_then (form_value r vs f) exact) (λ x. and_then (and_then (form_value r vs g) exact) (joined Div x))

  -- the value of a form, which may be outside 64 bits
  pub form_value : Readings → List ℤ → LinearForm → Result ℤ FaultKind
  form_value r vs (Sum ts c) = and_then (terms_value r vs ts) (λ x. Ok (x +ℤ c))

  -- the sum of all terms
  pub terms_value : Readings → List ℤ → LinearTerms → Result ℤ FaultKind
  terms_value r vs NoTerms = Ok (pos 0)
  terms_value r vs (Term c a ts) = and_then (atom_value r vs a) (λ x. and_then (terms_value r vs ts) (λ y. Ok (c *ℤ x +ℤ y)))

  -- the values of forms as parts of an atom, each of which is inside 64 bits
  pub part_values : Readings → List ℤ → LinearForms → Result (List ℤ) FaultKind
  part_values r vs NoForms = Ok []
  part_values r vs (Part f fs) = and_then (and_then (form_value r vs f) exact) (λ x. and_then (part_values r vs fs) (λ xs. Ok (x ∷ xs)))

-- all numbers fit 64 bits
pub record AreWords (r : Readings) : Type 0 where
  pub scalars : (s : ℕ) → fits_i64 (r.scalar s) ≡ true
  pub elements : (array n : ℕ) (site : Option ℕ) → fits_i64 (r.element array site n) ≡ true

-- an element has one number, whichever reference reads it; so it is in a store
abbrev pub IsOneNumber : Readings → Type 0
IsOneNumber r = (array site n : ℕ) → r.element array (Some site) n ≡ r.element array None n
