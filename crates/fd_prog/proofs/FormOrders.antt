-- Atoms that neither comes before the other are one atom.
use Rattle.std.proofs.Common.{◌≡◌, refl, sym, ℕ, ℤ}
use Rattle.std.specs.Ordering.{nat_cmp, int_cmp, ordering_then}
use Rattle.std.specs.declared.cmp.Ordering.{Ordering}
use Rattle.std.specs.declared.cmp.Ordering.TheVariants.{Less, Equal, Greater}
use Rattle.std.proofs.lemmas.Cmp.{ranked, int_ranked}
use Rattle.fd_prog.specs.declared.expression.Func.{Func}
use Rattle.fd_prog.specs.declared.expression.Func.TheVariants.{Mod, Abs, Min, Max}
use Rattle.fd_prog.specs.Forms.{LinearAtom, Variable, ScalarOf, ElementOf, FunctionOf, ProductOf, QuotientOf, LinearForm, Sum, LinearTerms, NoTerms, Term, LinearForms, NoForms, Part, atom_order, form_order, terms_order, forms_order, function_rank}

both_equal : (o p : Ordering) → ordering_then o p ≡ Equal → (o ≡ Equal) × (p ≡ Equal)
both_equal Less p h = absurd (cc)
both_equal Equal p h = (refl, h)
both_equal Greater p h = absurd (cc)

pub nat_same : (m n : ℕ) → nat_cmp m n ≡ Equal → m ≡ n
nat_same m n h = ranked m n Equal (sym h)

pub int_same : (m n : ℤ) → int_cmp m n ≡ Equal → m ≡ n
int_same m n h = int_ranked m n Equal (sym h)

pub function_same : (f g : Func) → nat_cmp (function_rank f) (function_rank g) ≡ Equal → f ≡ g
function_same Mod Mod h = refl
function_same Abs Abs h = refl
function_same Min Min h = refl
function_same Max Max h = refl
function_same f g h = absurd (cc)

mutual
  pub atom_same : (a b : LinearAtom) → atom_order a b ≡ Equal → a ≡ b
  atom_same (Variable i) (Variable j) h = let e = nat_same i j h in cc
  atom_same (ScalarOf s) (ScalarOf t) h = let e = nat_same s t h in cc
  atom_same (ElementOf array fs) (ElementOf other gs) h =
      let p = both_equal (nat_cmp array other) (forms_order fs gs) h in
      let e = nat_same array other p.0 in
      let es = forms_same fs gs p.1 in
      cc
  atom_same (FunctionOf f fs) (FunctionOf g gs) h =
      let p = both_equal (nat_cmp (function_rank f) (function_rank g)) (forms_order fs gs) h in
      let e = function_same f g p.0 in
      let es = forms_same fs gs p.1 in
      cc
  atom_same (ProductOf f g) (ProductOf d k) h =
      let p = both_equal (form_order f d) (form_order g k) h in
      let e = form_same f d p.0 in
      let es = form_same g k p.1 in
      cc
  atom_same (QuotientOf f g) (QuotientOf d k) h =
      let p = both_equal (form_order f d) (form_order g k) h in
      let e = form_same f d p.0 in
      let es = form_same g k p.1 in
      cc
  atom_same a b h = absurd (cc)

  pub form_same : (f g : LinearForm) → form_order f g ≡ Equal → f ≡ g
  form_same (Sum ts c) (Sum us d) h =
      let p = both_equal (terms_order ts us) (int_cmp c d) h in
      let e = terms_same ts us p.0 in
      let es = int_same c d p.1 in
      cc

  pub terms_same : (ts us : LinearTerms) → terms_order ts us ≡ Equal → ts ≡ us
  terms_same NoTerms NoTerms h = refl
  terms_same NoTerms (Term d b us) h = absurd (cc)
  terms_same (Term c a ts) NoTerms h = absurd (cc)
  terms_same (Term c a ts) (Term d b us) h =
      let p = both_equal (atom_order a b) (ordering_then (int_cmp c d) (terms_order ts us)) h in
      let q = both_equal (int_cmp c d) (terms_order ts us) p.1 in
      let e = atom_same a b p.0 in
      let f = int_same c d q.0 in
      let g = terms_same ts us q.1 in
      cc

  pub forms_same : (fs gs : LinearForms) → forms_order fs gs ≡ Equal → fs ≡ gs
  forms_same NoForms NoForms h = refl
  forms_same NoForms (Part g gs) h = absurd (cc)
  forms_same (Part f fs) NoForms h = absurd (cc)
  forms_same (Part f fs) (Part g gs) h =
      let p = both_equal (form_order f g) (forms_order fs gs) h in
      let e = form_same f g p.0 in
      let es = forms_same fs gs p.1 in
      cc
