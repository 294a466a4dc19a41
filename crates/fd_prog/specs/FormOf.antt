-- The linear form of an expression, or the limit that one on the way passes.
use Rattle.std.specs.Prelude.{ℕ, ◌+◌, ◌^◌, ◌≤◌, IsTrue, ℤ, pos, negsuc, ◌+ℤ◌, ◌*ℤ◌, unsigned_abs, Bool, true, ◌&&◌, nat_lt, nat_le, ◌==◌, if◌then◌else◌, List, [], ◌∷◌, Option, Some, None, option_map, Result, Ok, Err}
use Rattle.std.specs.List.{position}
use Rattle.std.specs.declared.cmp.Ordering.{Ordering}
use Rattle.std.specs.declared.cmp.Ordering.TheVariants.{Less, Equal, Greater}
use Rattle.fd_base.specs.declared.numbers.FaultKind.{FaultKind}
use Rattle.fd_base.specs.Numbers.{is_zero, exact_quotient}
use Rattle.fd_prog.specs.declared.expression.Op2.{Op2}
use Rattle.fd_prog.specs.declared.expression.Op2.TheVariants.{Add, Sub, Mul, Div}
use Rattle.fd_prog.specs.declared.form.FormRefusal.{FormRefusal}
use Rattle.fd_prog.specs.declared.form.FormRefusal.TheVariants.{Terms, Coefficient}
use Rattle.fd_prog.specs.Outcomes.{and_then}
use Rattle.fd_prog.specs.Expressions.{Expression, Number, Scalar, Element, Negated, Joined, Applied, Expressions, End, More}
use Rattle.fd_prog.specs.Values.{applied}
use Rattle.fd_prog.specs.Forms.{LinearAtom, Variable, ScalarOf, ElementOf, FunctionOf, ProductOf, QuotientOf, LinearForm, Sum, LinearTerms, NoTerms, Term, LinearForms, NoForms, Part, terms_in, atom_order}

-- ---- sums and multiples, without limits

-- terms with one more before them, unless its coefficient is 0
abbrev pub kept : ℤ → LinearAtom → LinearTerms → LinearTerms
kept c a ts = if is_zero c then ts else Term c a ts

-- where a multiple of an atom belongs: before a term whose atom is greater, in the term of the same atom, or behind
abbrev pub joined_term : Ordering → ℤ → LinearAtom → ℤ → LinearAtom → LinearTerms → LinearTerms → LinearTerms
joined_term Less c a d b ts behind = kept c a (Term d b ts)
joined_term Equal c a d b ts behind = kept (c +ℤ d) b ts
joined_term Greater c a d b ts behind = Term d b behind

-- a multiple of an atom and terms in the order of their atoms, summed up: terms of one atom are added
abbrev pub with_term : ℤ → LinearAtom → LinearTerms → LinearTerms
with_term c a NoTerms = kept c a NoTerms
with_term c a (Term d b ts) = joined_term (atom_order a b) c a d b ts (with_term c a ts)

-- all terms of both
abbrev pub sum_of_terms : LinearTerms → LinearTerms → LinearTerms
sum_of_terms NoTerms us = us
sum_of_terms (Term c a ts) us = with_term c a (sum_of_terms ts us)

-- all terms so many times
abbrev pub scaled_terms : ℤ → LinearTerms → LinearTerms
scaled_terms k NoTerms = NoTerms
scaled_terms k (Term c a ts) = kept (k *ℤ c) a (scaled_terms k ts)

abbrev pub sum_of : LinearForm → LinearForm → LinearForm
sum_of (Sum ts c) (Sum us d) = Sum (sum_of_terms ts us) (c +ℤ d)

abbrev pub scaled : ℤ → LinearForm → LinearForm
scaled k (Sum ts c) = Sum (scaled_terms k ts) (k *ℤ c)

abbrev pub minus_one : ℤ
minus_one = negsuc 0

-- ---- the forms of operators

abbrev pub constant : ℤ → LinearForm
constant z = Sum NoTerms z

abbrev pub single : LinearAtom → LinearForm
single a = Sum (Term (pos 1) a NoTerms) (pos 0)

-- the number that a form without terms is
abbrev pub constant_in : LinearForm → Option ℤ
constant_in (Sum NoTerms c) = Some c
constant_in (Sum (Term d a ts) c) = None

-- a number and others, where all are there
abbrev pub paired : Option ℤ → Option (List ℤ) → Option (List ℤ)
paired (Some x) xs = option_map (λ ys. x ∷ ys) xs
paired None xs = None

-- the numbers, where all of these forms are constant
abbrev pub constants_in : LinearForms → Option (List ℤ)
constants_in NoForms = Some []
constants_in (Part f fs) = paired (constant_in f) (constants_in fs)

-- a product scales one side where the other is constant, and is else an atom
abbrev pub product : Option ℤ → Option ℤ → LinearForm → LinearForm → LinearForm
product (Some x) y f g = scaled x g
product None (Some y) f g = scaled y f
product None None f g = single (ProductOf f g)

-- the constant where all parts are constant and nothing faults, and else the atom
abbrev pub known_or : Option (Result ℤ FaultKind) → LinearAtom → LinearForm
known_or (Some (Ok z)) a = constant z
known_or (Some (Err kind)) a = single a
known_or None a = single a

-- the quotient of both, where both are constant
abbrev pub known_quotient : Option ℤ → Option ℤ → Option (Result ℤ FaultKind)
known_quotient (Some x) (Some y) = Some (exact_quotient x y)
known_quotient (Some x) None = None
known_quotient None y = None

abbrev pub joined_form : Op2 → LinearForm → LinearForm → LinearForm
joined_form Add f g = sum_of f g
joined_form Sub f g = sum_of f (scaled minus_one g)
joined_form Mul f g = product (constant_in f) (constant_in g) f g
joined_form Div f g = known_or (known_quotient (constant_in f) (constant_in g)) (QuotientOf f g)

-- the form of a scalar: a widened variable is one by its place
abbrev pub scalar_atom : Option ℕ → ℕ → LinearAtom
scalar_atom (Some i) s = Variable i
scalar_atom None s = ScalarOf s

-- ---- limits

-- a number of at most 2^31 in size
abbrev pub is_small : ℤ → Bool
is_small z = nat_le (unsigned_abs z) (2 ^ 31)

abbrev pub are_small : LinearTerms → Bool
are_small NoTerms = true
are_small (Term c a ts) = is_small c && are_small ts

-- the form, or the limit that it passes: 16 terms, and 2^31 in the size of coefficients and the constant
abbrev pub limited : LinearForm → Result LinearForm FormRefusal
limited (Sum ts c) = if nat_lt 16 (terms_in ts) then Err Terms else if are_small ts && is_small c then Ok (Sum ts c) else Err Coefficient

-- what keeps the limits
abbrev pub KeepsLimits : LinearForm → Type 0
KeepsLimits (Sum ts c) = (terms_in ts ≤ 16) × IsTrue (are_small ts) × IsTrue (is_small c)

-- all of these forms keep the limits
abbrev pub AllKeep : LinearForms → Type 0
AllKeep NoForms = Unit {0}
AllKeep (Part f fs) = KeepsLimits f × AllKeep fs

-- the sizes of all coefficients summed up
abbrev pub weight : LinearTerms → ℕ
weight NoTerms = 0
weight (Term c a ts) = unsigned_abs c + weight ts

-- the same with the constant's
abbrev pub form_weight : LinearForm → ℕ
form_weight (Sum ts c) = unsigned_abs c + weight ts

abbrev mutual
  -- the form of an expression over the widened scalars, or the limit that the first form on the way passes
  pub form_of_expression : List ℕ → Expression → Result LinearForm FormRefusal
  form_of_expression bound (Number n) = limited (constant n)
  form_of_expression bound (Scalar s) = Ok (single (scalar_atom (position (λ b. b == s) bound) s))
  form_of_expression bound (Element array subs site) = and_then (forms_of_expressions bound subs) (λ fs. Ok (single (ElementOf array fs)))
  form_of_expression bound (Negated a) = and_then (form_of_expression bound a) (λ f. limited (scaled minus_one f))
  form_of_expression bound (Joined op a b) = and_then (form_of_expression bound a) (λ f. and_then (form_of_expression bound b) (λ g. limited (joined_form op f g)))
  form_of_expression bound (Applied f args) = and_then (forms_of_expressions bound args) (λ fs. limited (known_or (option_map (applied f) (constants_in fs)) (FunctionOf f fs)))

  -- the forms of all of them from left to right
  pub forms_of_expressions : List ℕ → Expressions → Result LinearForms FormRefusal
  forms_of_expressions bound End = Ok NoForms
  forms_of_expressions bound (More e es) = and_then (form_of_expression bound e) (λ f. and_then (forms_of_expressions bound es) (λ fs. Ok (Part f fs)))
