-- Readings that agree on what a value depends on give that value alike.
use Rattle.std.proofs.Common.{◌≡◌, ℕ, ℤ, ◌+ℤ◌, ◌*ℤ◌, neg_ℤ, not, ◌&&◌, ◌||◌, List, ◌∷◌, Option, Some, None, Result, Ok, Err, refl, ◌∙◌, ap}
use Rattle.fd_base.specs.declared.numbers.FaultKind.{FaultKind}
use Rattle.fd_base.specs.Numbers.{exact}
use Rattle.fd_base.specs.Shapes.{ordinal_of}
use Rattle.fd_prog.specs.declared.expression.Op2.TheVariants.{Mul, Div}
use Rattle.fd_prog.specs.Outcomes.{and_then}
use Rattle.fd_prog.specs.Values.{Readings, element_value, value_of, values_of, truth_of, compared, joined, applied}
use Rattle.fd_prog.specs.Expressions.{Expression, Number, Scalar, Element, Negated, Joined, Applied, Expressions, End, More}
use Rattle.fd_prog.specs.Conditions.{Condition, Fixed, Compared, Not, Both, Either}
use Rattle.fd_prog.specs.Forms.{LinearAtom, Variable, ScalarOf, ElementOf, FunctionOf, ProductOf, QuotientOf, LinearForm, Sum, LinearTerms, NoTerms, Term, LinearForms, NoForms, Part}
use Rattle.fd_prog.specs.FormValues.{atom_value, form_value, terms_value, part_values}
use Rattle.fd_prog.proofs.Runs.{and_then-same}
use Rattle.rank_part.specs.Seen.{AreAlike, IsSame, OfElement, AllRead, EachReads, ConditionReads, AtomReads, FormReads, TermsRead, FormsRead}

-- an element
pub element_same : (r q : Readings) (array : ℕ) (site : Option ℕ) (subs : Result (List ℤ) FaultKind) → AreAlike r q → OfElement r (IsSame r q) array site subs
    → and_then subs (element_value q array site) ≡ and_then subs (element_value r array site)
element_same r q array site (Err e) alike same = refl
element_same r q array site (Ok xs) alike same =
    ap (λ shape. and_then (ordinal_of shape xs) (λ n. Ok (q.element array site n))) (alike.shapes array)
    ∙ and_then-same (ordinal_of (r.shape array) xs) (λ n. Ok (q.element array site n)) (λ n. Ok (r.element array site n)) (λ n e. ap Ok (same xs n refl e))

mutual
  pub value_same : (r q : Readings) → AreAlike r q → (e : Expression) → AllRead r (IsSame r q) e → value_of q e ≡ value_of r e
  value_same r q alike (Number x) h = refl
  value_same r q alike (Scalar s) h = ap Ok (alike.scalars s)
  value_same r q alike (Element array subs site) h =
      ap (λ xs. and_then xs (element_value q array (Some site))) (values_same r q alike subs h.0) ∙ element_same r q array (Some site) (values_of r subs) alike h.1
  value_same r q alike (Negated a) h = ap (λ x. and_then x (λ y. exact (neg_ℤ y))) (value_same r q alike a h)
  value_same r q alike (Joined op a b) h =
      ap (λ x. and_then x (λ m. and_then (value_of q b) (joined op m))) (value_same r q alike a h.0)
      ∙ ap (λ y. and_then (value_of r a) (λ m. and_then y (joined op m))) (value_same r q alike b h.1)
  value_same r q alike (Applied f args) h = ap (λ xs. and_then xs (applied f)) (values_same r q alike args h)

  pub values_same : (r q : Readings) → AreAlike r q → (es : Expressions) → EachReads r (IsSame r q) es → values_of q es ≡ values_of r es
  values_same r q alike End h = refl
  values_same r q alike (More e es) h =
      ap (λ x. and_then x (λ m. and_then (values_of q es) (λ ms. Ok (m ∷ ms)))) (value_same r q alike e h.0)
      ∙ ap (λ y. and_then (value_of r e) (λ m. and_then y (λ ms. Ok (m ∷ ms)))) (values_same r q alike es h.1)

-- a condition
pub truth_same : (r q : Readings) → AreAlike r q → (c : Condition) → ConditionReads r (IsSame r q) c → truth_of q c ≡ truth_of r c
truth_same r q alike (Fixed b) h = refl
truth_same r q alike (Compared rel a b) h =
    ap (λ x. and_then x (λ m. and_then (value_of q b) (λ n. Ok (compared rel m n)))) (value_same r q alike a h.0)
    ∙ ap (λ y. and_then (value_of r a) (λ m. and_then y (λ n. Ok (compared rel m n)))) (value_same r q alike b h.1)
truth_same r q alike (Not c) h = ap (λ x. and_then x (λ m. Ok (not m))) (truth_same r q alike c h)
truth_same r q alike (Both c d) h =
    ap (λ x. and_then x (λ m. and_then (truth_of q d) (λ n. Ok (m && n)))) (truth_same r q alike c h.0)
    ∙ ap (λ y. and_then (truth_of r c) (λ m. and_then y (λ n. Ok (m && n)))) (truth_same r q alike d h.1)
truth_same r q alike (Either c d) h =
    ap (λ x. and_then x (λ m. and_then (truth_of q d) (λ n. Ok (m || n)))) (truth_same r q alike c h.0)
    ∙ ap (λ y. and_then (truth_of r c) (λ m. and_then y (λ n. Ok (m || n)))) (truth_same r q alike d h.1)

mutual
  pub atom_same : (r q : Readings) (vs : List ℤ) → AreAlike r q → (a : LinearAtom) → AtomReads r (IsSame r q) vs a → atom_value q vs a ≡ atom_value r vs a
  atom_same r q vs alike (Variable i) h = refl
  atom_same r q vs alike (ScalarOf s) h = ap Ok (alike.scalars s)
  atom_same r q vs alike (ElementOf array fs) h =
      ap (λ xs. and_then xs (element_value q array None)) (parts_same r q vs alike fs h.0) ∙ element_same r q array None (part_values r vs fs) alike h.1
  atom_same r q vs alike (FunctionOf f fs) h = ap (λ xs. and_then xs (applied f)) (parts_same r q vs alike fs h)
  atom_same r q vs alike (ProductOf f g) h =
      ap (λ x. and_then (and_then x exact) (λ m. and_then (and_then (form_value q vs g) exact) (joined Mul m))) (form_same r q vs alike f h.0)
      ∙ ap (λ y. and_then (and_then (form_value r vs f) exact) (λ m. and_then (and_then y exact) (joined Mul m))) (form_same r q vs alike g h.1)
  atom_same r q vs alike (QuotientOf f g) h =
      ap (λ x. and_then (and_then x exact) (λ m. and_then (and_then (form_value q vs g) exact) (joined Div m))) (form_same r q vs alike f h.0)
      ∙ ap (λ y. and_then (and_then (form_value r vs f) exact) (λ m. and_then (and_then y exact) (joined Div m))) (form_same r q vs alike g h.1)

  pub form_same : (r q : Readings) (vs : List ℤ) → AreAlike r q → (f : LinearForm) → FormReads r (IsSame r q) vs f → form_value q vs f ≡ form_value r vs f
  form_same r q vs alike (Sum ts c) h = ap (λ x. and_then x (λ m. Ok (m +ℤ c))) (terms_same r q vs alike ts h)

  pub terms_same : (r q : Readings) (vs : List ℤ) → AreAlike r q → (ts : LinearTerms) → TermsRead r (IsSame r q) vs ts → terms_value q vs ts ≡ terms_value r vs ts
  terms_same r q vs alike NoTerms h = refl
  terms_same r q vs alike (Term c a ts) h =
      ap (λ x. and_then x (λ m. and_then (terms_value q vs ts) (λ n. Ok (c *ℤ m +ℤ n)))) (atom_same r q vs alike a h.0)
      ∙ ap (λ y. and_then (atom_value r vs a) (λ m. and_then y (λ n. Ok (c *ℤ m +ℤ n)))) (terms_same r q vs alike ts h.1)

  pub parts_same : (r q : Readings) (vs : List ℤ) → AreAlike r q → (fs : LinearForms) → FormsRead r (IsSame r q) vs fs → part_values q vs fs ≡ part_values r vs fs
  parts_same r q vs alike NoForms h = refl
  parts_same r q vs alike (Part f fs) h =
      ap (λ x. and_then (and_then x exact) (λ m. and_then (part_values q vs fs) (λ ms. Ok (m ∷ ms)))) (form_same r q vs alike f h.0)
      ∙ ap (λ y. and_then (and_then (form_value r vs f) exact) (λ m. and_then y (λ ms. Ok (m ∷ ms)))) (parts_same r q vs alike fs h.1)

-- ---- facts on what is read

of_element : (r : Readings) (P Q : ℕ → Option ℕ → ℕ → Type 0) → ((array : ℕ) (site : Option ℕ) (n : ℕ) → P array site n → Q array site n)
    → (array : ℕ) (site : Option ℕ) (subs : Result (List ℤ) FaultKind) → OfElement r P array site subs → OfElement r Q array site subs
of_element r P Q f array site subs h = λ xs n e k. f array site n (h xs n e k)

mutual
  pub reads-map : (r : Readings) (P Q : ℕ → Option ℕ → ℕ → Type 0) → ((array : ℕ) (site : Option ℕ) (n : ℕ) → P array site n → Q array site n) → (e : Expression) → AllRead r P e → AllRead r Q e
  reads-map r P Q f (Number x) h = tt
  reads-map r P Q f (Scalar s) h = tt
  reads-map r P Q f (Element array subs site) h = (each-map r P Q f subs h.0, of_element r P Q f array (Some site) (values_of r subs) h.1)
  reads-map r P Q f (Negated a) h = reads-map r P Q f a h
  reads-map r P Q f (Joined op a b) h = (reads-map r P Q f a h.0, reads-map r P Q f b h.1)
  reads-map r P Q f (Applied g args) h = each-map r P Q f args h

  pub each-map : (r : Readings) (P Q : ℕ → Option ℕ → ℕ → Type 0) → ((array : ℕ) (site : Option ℕ) (n : ℕ) → P array site n → Q array site n) → (es : Expressions) → EachReads r P es → EachReads r Q es
  each-map r P Q f End h = tt
  each-map r P Q f (More e es) h = (reads-map r P Q f e h.0, each-map r P Q f es h.1)

pub condition-map : (r : Readings) (P Q : ℕ → Option ℕ → ℕ → Type 0) → ((array : ℕ) (site : Option ℕ) (n : ℕ) → P array site n → Q array site n) → (c : Condition) → ConditionReads r P c → ConditionReads r Q c
condition-map r P Q f (Fixed b) h = tt
condition-map r P Q f (Compared rel a b) h = (reads-map r P Q f a h.0, reads-map r P Q f b h.1)
condition-map r P Q f (Not c) h = condition-map r P Q f c h
condition-map r P Q f (Both c d) h = (condition-map r P Q f c h.0, condition-map r P Q f d h.1)
condition-map r P Q f (Either c d) h = (condition-map r P Q f c h.0, condition-map r P Q f d h.1)

mutual
  pub atom-map : (r : Readings) (vs : List ℤ) (P Q : ℕ → Option ℕ → ℕ → Type 0) → ((array : ℕ) (site : Option ℕ) (n : ℕ) → P array site n → Q array site n) → (a : LinearAtom) → AtomReads r P vs a → AtomReads r Q vs a
  atom-map r vs P Q f (Variable i) h = tt
  atom-map r vs P Q f (ScalarOf s) h = tt
  atom-map r vs P Q f (ElementOf array fs) h = (forms-map r vs P Q f fs h.0, of_element r P Q f array None (part_values r vs fs) h.1)
  atom-map r vs P Q f (FunctionOf g fs) h = forms-map r vs P Q f fs h
  atom-map r vs P Q f (ProductOf g k) h = (form-map r vs P Q f g h.0, form-map r vs P Q f k h.1)
  atom-map r vs P Q f (QuotientOf g k) h = (form-map r vs P Q f g h.0, form-map r vs P Q f k h.1)

  pub form-map : (r : Readings) (vs : List ℤ) (P Q : ℕ → Option ℕ → ℕ → Type 0) → ((array : ℕ) (site : Option ℕ) (n : ℕ) → P array site n → Q array site n) → (g : LinearForm) → FormReads r P vs g → FormReads r Q vs g
  form-map r vs P Q f (Sum ts c) h = terms-map r vs P Q f ts h

  pub terms-map : (r : Readings) (vs : List ℤ) (P Q : ℕ → Option ℕ → ℕ → Type 0) → ((array : ℕ) (site : Option ℕ) (n : ℕ) → P array site n → Q array site n) → (ts : LinearTerms) → TermsRead r P vs ts → TermsRead r Q vs ts
  terms-map r vs P Q f NoTerms h = tt
  terms-map r vs P Q f (Term c a ts) h = (atom-map r vs P Q f a h.0, terms-map r vs P Q f ts h.1)

  pub forms-map : (r : Readings) (vs : List ℤ) (P Q : ℕ → Option ℕ → ℕ → Type 0) → ((array : ℕ) (site : Option ℕ) (n : ℕ) → P array site n → Q array site n) → (fs : LinearForms) → FormsRead r P vs fs → FormsRead r Q vs fs
  forms-map r vs P Q f NoForms h = tt
  forms-map r vs P Q f (Part g fs) h = (form-map r vs P Q f g h.0, forms-map r vs P Q f fs h.1)
