-- The value of a form depends on the variables, scalars and arrays that occur in it alone.
use Rattle.std.proofs.Common.{◌≡◌, ℕ, ℤ, pos, ◌+ℤ◌, ◌*ℤ◌, Bool, true, false, cond, List, [], ◌∷◌, All, slice_index_or, None, Result, Ok, Err, refl, ap, ◌∙◌, subst}
use Rattle.std.specs.declared.cmp.Ordering.{Ordering}
use Rattle.std.specs.declared.cmp.Ordering.TheVariants.{Less, Equal, Greater}
use Rattle.std.proofs.lemmas.List.Elements.{All-head, All-tail}
use Rattle.fd_base.specs.declared.numbers.FaultKind.{FaultKind}
use Rattle.fd_base.specs.Numbers.{exact, is_zero}
use Rattle.fd_base.specs.Shapes.{ordinal_of}
use Rattle.fd_prog.specs.declared.expression.Op2.TheVariants.{Mul, Div}
use Rattle.fd_prog.specs.Outcomes.{and_then}
use Rattle.fd_prog.specs.Values.{Readings, applied, element_value, joined}
use Rattle.fd_prog.specs.Forms.{LinearAtom, Variable, ScalarOf, ElementOf, FunctionOf, ProductOf, QuotientOf, LinearForm, Sum, LinearTerms, NoTerms, Term, LinearForms, NoForms, Part, atom_order}
use Rattle.fd_prog.specs.FormOf.{joined_term, kept, with_term}
use Rattle.fd_prog.specs.FormValues.{atom_value, form_value, part_values, terms_value}
use Rattle.fd_prog.specs.Items.{Name, ScalarName, ArrayName, atom_names, form_names, forms_names, terms_names}
use Rattle.fd_prog.proofs.Runs.{and_then-same}
use Rattle.rank_part.proofs.FormReading.{back, front}
use Rattle.rank_part.proofs.Images.{Put, put_atom, put_form, put_forms, put_terms}

-- ---- leaves

-- facts hold of the variables and of the names in a form
abbrev mutual
  pub LeavesAtom : (ℕ → Type 0) → (Name → Type 0) → LinearAtom → Type 0
  LeavesAtom V N (Variable i) = V i
  LeavesAtom V N (ScalarOf s) = N (ScalarName s)
  LeavesAtom V N (ElementOf array fs) = N (ArrayName array) × LeavesForms V N fs
  LeavesAtom V N (FunctionOf f fs) = LeavesForms V N fs
  LeavesAtom V N (ProductOf f g) = LeavesForm V N f × LeavesForm V N g
  LeavesAtom V N (QuotientOf f g) = LeavesForm V N f × LeavesForm V N g

  pub LeavesForm : (ℕ → Type 0) → (Name → Type 0) → LinearForm → Type 0
  LeavesForm V N (Sum ts c) = LeavesTerms V N ts

  pub LeavesTerms : (ℕ → Type 0) → (Name → Type 0) → LinearTerms → Type 0
  LeavesTerms V N NoTerms = Unit {0}
  LeavesTerms V N (Term c a ts) = LeavesAtom V N a × LeavesTerms V N ts

  pub LeavesForms : (ℕ → Type 0) → (Name → Type 0) → LinearForms → Type 0
  LeavesForms V N NoForms = Unit {0}
  LeavesForms V N (Part f fs) = LeavesForm V N f × LeavesForms V N fs

abbrev Anything : {A : Type 0} → A → Type 0
Anything x = Unit {0}

abbrev Nothing : {A : Type 0} → A → Type 0
Nothing x = ⊥

mutual
  any-atom : (a : LinearAtom) → LeavesAtom Anything Anything a
  any-atom (Variable i) = tt
  any-atom (ScalarOf s) = tt
  any-atom (ElementOf array fs) = (tt, any-forms fs)
  any-atom (FunctionOf f fs) = any-forms fs
  any-atom (ProductOf f g) = (any-form f, any-form g)
  any-atom (QuotientOf f g) = (any-form f, any-form g)

  any-form : (f : LinearForm) → LeavesForm Anything Anything f
  any-form (Sum ts c) = any-terms ts

  any-terms : (ts : LinearTerms) → LeavesTerms Anything Anything ts
  any-terms NoTerms = tt
  any-terms (Term c a ts) = (any-atom a, any-terms ts)

  any-forms : (fs : LinearForms) → LeavesForms Anything Anything fs
  any-forms NoForms = tt
  any-forms (Part f fs) = (any-form f, any-forms fs)

-- facts on names come to the leaves
mutual
  named-atom : (V : ℕ → Type 0) (N : Name → Type 0) (a : LinearAtom) → LeavesAtom V Anything a → All N (atom_names a) → LeavesAtom V N a
  named-atom V N (Variable i) h k = h
  named-atom V N (ScalarOf s) h k = All-head N (ScalarName s) [] k
  named-atom V N (ElementOf array fs) h k = (All-head N (ArrayName array) (forms_names fs) k, named-forms V N fs h.1 (All-tail N (ArrayName array) (forms_names fs) k))
  named-atom V N (FunctionOf f fs) h k = named-forms V N fs h k
  named-atom V N (ProductOf f g) h k = (named-form V N f h.0 (front N (form_names f) (form_names g) k), named-form V N g h.1 (back N (form_names f) (form_names g) k))
  named-atom V N (QuotientOf f g) h k = (named-form V N f h.0 (front N (form_names f) (form_names g) k), named-form V N g h.1 (back N (form_names f) (form_names g) k))

  named-form : (V : ℕ → Type 0) (N : Name → Type 0) (f : LinearForm) → LeavesForm V Anything f → All N (form_names f) → LeavesForm V N f
  named-form V N (Sum ts c) h k = named-terms V N ts h k

  named-terms : (V : ℕ → Type 0) (N : Name → Type 0) (ts : LinearTerms) → LeavesTerms V Anything ts → All N (terms_names ts) → LeavesTerms V N ts
  named-terms V N NoTerms h k = tt
  named-terms V N (Term c a ts) h k = (named-atom V N a h.0 (front N (atom_names a) (terms_names ts) k), named-terms V N ts h.1 (back N (atom_names a) (terms_names ts) k))

  named-forms : (V : ℕ → Type 0) (N : Name → Type 0) (fs : LinearForms) → LeavesForms V Anything fs → All N (forms_names fs) → LeavesForms V N fs
  named-forms V N NoForms h k = tt
  named-forms V N (Part f fs) h k = (named-form V N f h.0 (front N (form_names f) (forms_names fs) k), named-forms V N fs h.1 (back N (form_names f) (forms_names fs) k))

-- ---- images

kept-leaves : (V : ℕ → Type 0) (N : Name → Type 0) (c : ℤ) (a : LinearAtom) (ts : LinearTerms) → LeavesAtom V N a → LeavesTerms V N ts → LeavesTerms V N (kept c a ts)
kept-leaves V N c a ts h k = by (is_zero c)
  where
    by : (b : Bool) → LeavesTerms V N (cond b ts (Term c a ts))
    by true = k
    by false = (h, k)

with_term-leaves : (V : ℕ → Type 0) (N : Name → Type 0) (c : ℤ) (a : LinearAtom) (ts : LinearTerms) → LeavesAtom V N a → LeavesTerms V N ts → LeavesTerms V N (with_term c a ts)
with_term-leaves V N c a NoTerms h k = kept-leaves V N c a NoTerms h tt
with_term-leaves V N c a (Term d b ts) h k = by (with_term-leaves V N c a ts h k.1) (atom_order a b)
  where
    by : LeavesTerms V N (with_term c a ts) → (o : Ordering) → LeavesTerms V N (joined_term o c a d b ts (with_term c a ts))
    by rest Less = kept-leaves V N c a (Term d b ts) h k
    by rest Equal = kept-leaves V N (c +ℤ d) b ts k.0 k.1
    by rest Greater = (k.0, rest)

-- what is put in place of leaves has the facts that follow from theirs
record Turns (r : Put) (V : ℕ → Type 0) (N : Name → Type 0) (W : ℕ → Type 0) (M : Name → Type 0) : Type 0 where
  variables : (i : ℕ) → V i → LeavesAtom W M (r.variable i)
  scalars : (s : ℕ) → N (ScalarName s) → LeavesAtom W M (r.scalar s)
  arrays : (array : ℕ) → N (ArrayName array) → M (ArrayName array)

mutual
  atom-turned : (r : Put) (V : ℕ → Type 0) (N : Name → Type 0) (W : ℕ → Type 0) (M : Name → Type 0) → Turns r V N W M → (a : LinearAtom) → LeavesAtom V N a → LeavesAtom W M (put_atom r a)
  atom-turned r V N W M t (Variable i) h = t.variables i h
  atom-turned r V N W M t (ScalarOf s) h = t.scalars s h
  atom-turned r V N W M t (ElementOf array fs) h = (t.arrays array h.0, forms-turned r V N W M t fs h.1)
  atom-turned r V N W M t (FunctionOf f fs) h = forms-turned r V N W M t fs h
  atom-turned r V N W M t (ProductOf f g) h = (form-turned r V N W M t f h.0, form-turned r V N W M t g h.1)
  atom-turned r V N W M t (QuotientOf f g) h = (form-turned r V N W M t f h.0, form-turned r V N W M t g h.1)

  form-turned : (r : Put) (V : ℕ → Type 0) (N : Name → Type 0) (W : ℕ → Type 0) (M : Name → Type 0) → Turns r V N W M → (f : LinearForm) → LeavesForm V N f → LeavesForm W M (put_form r f)
  form-turned r V N W M t (Sum ts c) h = terms-turned r V N W M t ts h

  terms-turned : (r : Put) (V : ℕ → Type 0) (N : Name → Type 0) (W : ℕ → Type 0) (M : Name → Type 0) → Turns r V N W M → (ts : LinearTerms) → LeavesTerms V N ts → LeavesTerms W M (put_terms r ts)
  terms-turned r V N W M t NoTerms h = tt
  terms-turned r V N W M t (Term c a ts) h = with_term-leaves W M c (put_atom r a) (put_terms r ts) (atom-turned r V N W M t a h.0) (terms-turned r V N W M t ts h.1)

  forms-turned : (r : Put) (V : ℕ → Type 0) (N : Name → Type 0) (W : ℕ → Type 0) (M : Name → Type 0) → Turns r V N W M → (fs : LinearForms) → LeavesForms V N fs → LeavesForms W M (put_forms r fs)
  forms-turned r V N W M t NoForms h = tt
  forms-turned r V N W M t (Part f fs) h = (form-turned r V N W M t f h.0, forms-turned r V N W M t fs h.1)

-- a form that an image leads back to has no variables, where no variable leads back; so its image has facts that follow from those of its names
pub image-leaves : (r q : Put) (N : Name → Type 0) (W : ℕ → Type 0) (M : Name → Type 0) (f : LinearForm) → put_form q (put_form r f) ≡ f → ((i : ℕ) → LeavesAtom Nothing Anything (q.variable i)) → ((s : ℕ) → LeavesAtom Nothing Anything (q.scalar s))
    → ((s : ℕ) → N (ScalarName s) → LeavesAtom W M (r.scalar s)) → ((array : ℕ) → N (ArrayName array) → M (ArrayName array)) → All N (form_names f) → LeavesForm W M (put_form r f)
image-leaves r q N W M f back vs ss scalars arrays names =
    let P : LinearForm → Type 0 = LeavesForm Nothing Anything in
    let plain = subst P back (form-turned q Anything Anything Nothing Anything (record { variables = λ i h. vs i; scalars = λ s h. ss s; arrays = λ array h. tt }) (put_form r f) (any-form (put_form r f))) in
    form-turned r Nothing N W M (record { variables = λ i h. absurd h; scalars = scalars; arrays = arrays }) f (named-form Nothing N f plain names)

-- ---- values

-- two readings, with numbers for variables, have the same of these variables and names
pub record AreSame (V : ℕ → Type 0) (N : Name → Type 0) (r q : Readings) (vs ws : List ℤ) : Type 0 where
  pub shapes : (array : ℕ) → q.shape array ≡ r.shape array
  pub variables : (i : ℕ) → V i → slice_index_or ws i (pos 0) ≡ slice_index_or vs i (pos 0)
  pub scalars : (s : ℕ) → N (ScalarName s) → q.scalar s ≡ r.scalar s
  pub elements : (array : ℕ) → N (ArrayName array) → (n : ℕ) → q.element array None n ≡ r.element array None n

element-same : (r q : Readings) (array : ℕ) (subs : Result (List ℤ) FaultKind) → q.shape array ≡ r.shape array → ((n : ℕ) → q.element array None n ≡ r.element array None n)
    → and_then subs (element_value q array None) ≡ and_then subs (element_value r array None)
element-same r q array (Err e) shape same = refl
element-same r q array (Ok xs) shape same =
    ap (λ s. and_then (ordinal_of s xs) (λ n. Ok (q.element array None n))) shape
    ∙ and_then-same (ordinal_of (r.shape array) xs) (λ n. Ok (q.element array None n)) (λ n. Ok (r.element array None n)) (λ n e. ap Ok (same n))

mutual
  atom-same : (V : ℕ → Type 0) (N : Name → Type 0) (r q : Readings) (vs ws : List ℤ) → AreSame V N r q vs ws → (a : LinearAtom) → LeavesAtom V N a → atom_value q ws a ≡ atom_value r vs a
  atom-same V N r q vs ws k (Variable i) h = ap Ok (k.variables i h)
  atom-same V N r q vs ws k (ScalarOf s) h = ap Ok (k.scalars s h)
  atom-same V N r q vs ws k (ElementOf array fs) h =
      ap (λ xs. and_then xs (element_value q array None)) (parts-same V N r q vs ws k fs h.1) ∙ element-same r q array (part_values r vs fs) (k.shapes array) (k.elements array h.0)
  atom-same V N r q vs ws k (FunctionOf f fs) h = ap (λ xs. and_then xs (applied f)) (parts-same V N r q vs ws k fs h)
  atom-same V N r q vs ws k (ProductOf f g) h =
      ap (λ x. and_then (and_then x exact) (λ m. and_then (and_then (form_value q ws g) exact) (joined Mul m))) (form-same V N r q vs ws k f h.0)
      ∙ ap (λ y. and_then (and_then (form_value r vs f) exact) (λ m. and_then (and_then y exact) (joined Mul m))) (form-same V N r q vs ws k g h.1)
  atom-same V N r q vs ws k (QuotientOf f g) h =
      ap (λ x. and_then (and_then x exact) (λ m. and_then (and_then (form_value q ws g) exact) (joined Div m))) (form-same V N r q vs ws k f h.0)
      ∙ ap (λ y. and_then (and_then (form_value r vs f) exact) (λ m. and_then (and_then y exact) (joined Div m))) (form-same V N r q vs ws k g h.1)

  pub form-same : (V : ℕ → Type 0) (N : Name → Type 0) (r q : Readings) (vs ws : List ℤ) → AreSame V N r q vs ws → (f : LinearForm) → LeavesForm V N f → form_value q ws f ≡ form_value r vs f
  form-same V N r q vs ws k (Sum ts c) h = ap (λ x. and_then x (λ m. Ok (m +ℤ c))) (terms-same V N r q vs ws k ts h)

  terms-same : (V : ℕ → Type 0) (N : Name → Type 0) (r q : Readings) (vs ws : List ℤ) → AreSame V N r q vs ws → (ts : LinearTerms) → LeavesTerms V N ts → terms_value q ws ts ≡ terms_value r vs ts
  terms-same V N r q vs ws k NoTerms h = refl
  terms-same V N r q vs ws k (Term c a ts) h =
      ap (λ x. and_then x (λ m. and_then (terms_value q ws ts) (λ n. Ok (c *ℤ m +ℤ n)))) (atom-same V N r q vs ws k a h.0)
      ∙ ap (λ y. and_then (atom_value r vs a) (λ m. and_then y (λ n. Ok (c *ℤ m +ℤ n)))) (terms-same V N r q vs ws k ts h.1)

  parts-same : (V : ℕ → Type 0) (N : Name → Type 0) (r q : Readings) (vs ws : List ℤ) → AreSame V N r q vs ws → (fs : LinearForms) → LeavesForms V N fs → part_values q ws fs ≡ part_values r vs fs
  parts-same V N r q vs ws k NoForms h = refl
  parts-same V N r q vs ws k (Part f fs) h =
      ap (λ x. and_then (and_then x exact) (λ m. and_then (part_values q ws fs) (λ ms. Ok (m ∷ ms)))) (form-same V N r q vs ws k f h.0)
      ∙ ap (λ y. and_then (and_then (form_value r vs f) exact) (λ m. and_then y (λ ms. Ok (m ∷ ms)))) (parts-same V N r q vs ws k fs h.1)
