-- Linear forms without where they lie in memory, and the order of their atoms.
use Rattle.std.specs.Prelude.{ℕ, ◌+◌, ℤ}
use Rattle.std.specs.Ordering.{nat_cmp, int_cmp, ordering_then}
use Rattle.std.specs.declared.cmp.Ordering.{Ordering}
use Rattle.std.specs.declared.cmp.Ordering.TheVariants.{Less, Equal, Greater}
use Rattle.fd_prog.specs.declared.expression.Func.{Func}
use Rattle.fd_prog.specs.declared.expression.Func.TheVariants.{Mod, Abs, Min, Max}
use Rattle.fd_prog.specs.declared.form.Atom.{Atom}
use Rattle.fd_prog.specs.declared.form.Atom.TheVariants as stored
use Rattle.fd_prog.specs.declared.form.TermList.{TermList}
use Rattle.fd_prog.specs.declared.form.TermList.TheVariants as stored_terms
use Rattle.fd_prog.specs.declared.form.FormList.{FormList}
use Rattle.fd_prog.specs.declared.form.FormList.TheVariants as stored_forms
use Rattle.fd_prog.specs.declared.form.Form.{Form}

mutual
  -- what a form sums up, apart from numbers; a widened variable goes by its number, that of the outermost loop being 0
  pub data LinearAtom : Type 0 where
    Variable : ℕ → LinearAtom
    ScalarOf : ℕ → LinearAtom
    ElementOf : ℕ → LinearForms → LinearAtom
    FunctionOf : Func → LinearForms → LinearAtom
    ProductOf : LinearForm → LinearForm → LinearAtom
    QuotientOf : LinearForm → LinearForm → LinearAtom

  -- the sum of its terms and a constant
  pub data LinearForm : Type 0 where
    Sum : LinearTerms → ℤ → LinearForm

  -- terms, one after the other, each a coefficient times an atom
  pub data LinearTerms : Type 0 where
    NoTerms : LinearTerms
    Term : ℤ → LinearAtom → LinearTerms → LinearTerms

  -- forms, one after the other
  pub data LinearForms : Type 0 where
    NoForms : LinearForms
    Part : LinearForm → LinearForms → LinearForms

abbrev mutual
  pub linear_atom_of : Atom → LinearAtom
  linear_atom_of (stored.Bound i) = Variable i
  linear_atom_of (stored.Scalar s) = ScalarOf s
  linear_atom_of (stored.Elem array subs) = ElementOf array (linear_forms_of subs)
  linear_atom_of (stored.Call f args) = FunctionOf f (linear_forms_of args)
  linear_atom_of (stored.Mul' p ts c q us d) = ProductOf (Sum (linear_terms_of ts) c) (Sum (linear_terms_of us) d)
  linear_atom_of (stored.Div' p ts c q us d) = QuotientOf (Sum (linear_terms_of ts) c) (Sum (linear_terms_of us) d)

  pub linear_terms_of : TermList → LinearTerms
  linear_terms_of stored_terms.End = NoTerms
  linear_terms_of (stored_terms.More' p c a q rest) = Term c (linear_atom_of a) (linear_terms_of rest)

  pub linear_forms_of : FormList → LinearForms
  linear_forms_of stored_forms.End = NoForms
  linear_forms_of (stored_forms.More' p ts c q rest) = Part (Sum (linear_terms_of ts) c) (linear_forms_of rest)

abbrev pub linear_form_of : Form → LinearForm
linear_form_of f = Sum (linear_terms_of f.terms) f.constant

-- how many terms there are
abbrev pub terms_in : LinearTerms → ℕ
terms_in NoTerms = 0
terms_in (Term c a ts) = terms_in ts + 1

-- ---- the order of atoms, which has no meaning of its own: it gives equal sums equal forms

-- the functions in the order in which they are declared
abbrev pub function_rank : Func → ℕ
function_rank Mod = 0
function_rank Abs = 1
function_rank Min = 2
function_rank Max = 3

-- the kinds of atoms in the order in which they are declared
abbrev pub atom_rank : LinearAtom → ℕ
atom_rank (Variable i) = 0
atom_rank (ScalarOf s) = 1
atom_rank (ElementOf array subs) = 2
atom_rank (FunctionOf f args) = 3
atom_rank (ProductOf f g) = 4
atom_rank (QuotientOf f g) = 5

abbrev mutual
  -- atoms of one kind by their parts from left to right, and others by their kinds
  pub atom_order : LinearAtom → LinearAtom → Ordering
  atom_order (Variable i) (Variable j) = nat_cmp i j
  atom_order (ScalarOf s) (ScalarOf t) = nat_cmp s t
  atom_order (ElementOf array fs) (ElementOf other gs) = ordering_then (nat_cmp array other) (forms_order fs gs)
  atom_order (FunctionOf f fs) (FunctionOf g gs) = ordering_then (nat_cmp (function_rank f) (function_rank g)) (forms_order fs gs)
  atom_order (ProductOf f g) (ProductOf h k) = ordering_then (form_order f h) (form_order g k)
  atom_order (QuotientOf f g) (QuotientOf h k) = ordering_then (form_order f h) (form_order g k)
  atom_order a b = nat_cmp (atom_rank a) (atom_rank b)

  -- forms by their terms, and then by their constants
  pub form_order : LinearForm → LinearForm → Ordering
  form_order (Sum ts c) (Sum us d) = ordering_then (terms_order ts us) (int_cmp c d)

  -- terms by the first that differ, where an end comes first; a term by its atom, and then by its coefficient
  pub terms_order : LinearTerms → LinearTerms → Ordering
  terms_order NoTerms NoTerms = Equal
  terms_order NoTerms (Term d b us) = Less
  terms_order (Term c a ts) NoTerms = Greater
  terms_order (Term c a ts) (Term d b us) = ordering_then (atom_order a b) (ordering_then (int_cmp c d) (terms_order ts us))

  -- forms in a row by the first that differ, where an end comes first
  pub forms_order : LinearForms → LinearForms → Ordering
  forms_order NoForms NoForms = Equal
  forms_order NoForms (Part g gs) = Less
  forms_order (Part f fs) NoForms = Greater
  forms_order (Part f fs) (Part g gs) = ordering_then (form_order f g) (forms_order fs gs)
