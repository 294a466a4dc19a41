-- The order of atoms is a total order, in which no two different atoms are equal.
use Rattle.std.proofs.Common.{◌≡◌, refl, sym, ◌∙◌, ap, arith, ◌<◌, ◌≤◌, ℕ, ℤ, ◌⊎◌, inl, inr}
use Rattle.std.specs.Cmp.{IsTotalOrder, nat_cmp_is}
use Rattle.std.specs.Ordering.{nat_cmp, int_cmp, ordering_then, ordering_reverse}
use Rattle.std.specs.declared.cmp.Ordering.{Ordering}
use Rattle.std.specs.declared.cmp.Ordering.TheVariants.{Less, Equal, Greater}
use Rattle.std.proofs.lemmas.Cmp.{nat_cmp_total, int_cmp_total, ranked}
use Rattle.fd_prog.specs.Forms.{LinearAtom, Variable, ScalarOf, ElementOf, FunctionOf, ProductOf, QuotientOf, LinearForm, Sum, LinearTerms, NoTerms, Term, LinearForms, NoForms, Part, atom_rank, atom_order, form_order, terms_order, forms_order, function_rank}
use Rattle.fd_prog.proofs.FormOrders.{nat_same, int_same, atom_same, form_same, terms_same}

reversed_then : (o p : Ordering) → ordering_reverse (ordering_then o p) ≡ ordering_then (ordering_reverse o) (ordering_reverse p)
reversed_then Less p = refl
reversed_then Equal p = refl
reversed_then Greater p = refl

both_back : (o back p behind : Ordering) → o ≡ ordering_reverse back → p ≡ ordering_reverse behind → ordering_then o p ≡ ordering_reverse (ordering_then back behind)
both_back o back p behind e f = ap (λ z. ordering_then z p) e ∙ ap (λ z. ordering_then (ordering_reverse back) z) f ∙ sym (reversed_then back behind)

mutual
  atom_back : (a b : LinearAtom) → atom_order a b ≡ ordering_reverse (atom_order b a)
  atom_back (Variable i) (Variable j) = nat_cmp_total.antisymm i j
  atom_back (ScalarOf s) (ScalarOf t) = nat_cmp_total.antisymm s t
  atom_back (ElementOf array fs) (ElementOf other gs) =
      both_back (nat_cmp array other) (nat_cmp other array) (forms_order fs gs) (forms_order gs fs) (nat_cmp_total.antisymm array other) (forms_back fs gs)
  atom_back (FunctionOf f fs) (FunctionOf g gs) =
      both_back (nat_cmp (function_rank f) (function_rank g)) (nat_cmp (function_rank g) (function_rank f)) (forms_order fs gs) (forms_order gs fs) (nat_cmp_total.antisymm (function_rank f) (function_rank g)) (forms_back fs gs)
  atom_back (ProductOf f g) (ProductOf d k) = both_back (form_order f d) (form_order d f) (form_order g k) (form_order k g) (form_back f d) (form_back g k)
  atom_back (QuotientOf f g) (QuotientOf d k) = both_back (form_order f d) (form_order d f) (form_order g k) (form_order k g) (form_back f d) (form_back g k)
  atom_back a b = refl

  form_back : (f g : LinearForm) → form_order f g ≡ ordering_reverse (form_order g f)
  form_back (Sum ts c) (Sum us d) = both_back (terms_order ts us) (terms_order us ts) (int_cmp c d) (int_cmp d c) (terms_back ts us) (int_cmp_total.antisymm c d)

  terms_back : (ts us : LinearTerms) → terms_order ts us ≡ ordering_reverse (terms_order us ts)
  terms_back NoTerms NoTerms = refl
  terms_back NoTerms (Term d b us) = refl
  terms_back (Term c a ts) NoTerms = refl
  terms_back (Term c a ts) (Term d b us) =
      both_back (atom_order a b) (atom_order b a) (ordering_then (int_cmp c d) (terms_order ts us)) (ordering_then (int_cmp d c) (terms_order us ts)) (atom_back a b)
      (both_back (int_cmp c d) (int_cmp d c) (terms_order ts us) (terms_order us ts) (int_cmp_total.antisymm c d) (terms_back ts us))

  forms_back : (fs gs : LinearForms) → forms_order fs gs ≡ ordering_reverse (forms_order gs fs)
  forms_back NoForms NoForms = refl
  forms_back NoForms (Part g gs) = refl
  forms_back (Part f fs) NoForms = refl
  forms_back (Part f fs) (Part g gs) = both_back (form_order f g) (form_order g f) (forms_order fs gs) (forms_order gs fs) (form_back f g) (forms_back fs gs)

-- parts in order, one after the other
both_on : (ab bc ac before behind over : Ordering) → (ab ≡ Less → bc ≡ Less → ac ≡ Less) → (ab ≡ Equal → ac ≡ bc) → (bc ≡ Equal → ac ≡ ab) → (before ≡ Less → behind ≡ Less → over ≡ Less)
    → ordering_then ab before ≡ Less → ordering_then bc behind ≡ Less → ordering_then ac over ≡ Less
both_on Less Less ac before behind over on left right rest h g = ap (λ z. ordering_then z over) (on refl refl)
both_on Less Equal ac before behind over on left right rest h g = ap (λ z. ordering_then z over) (right refl)
both_on Less Greater ac before behind over on left right rest h g = absurd (cc)
both_on Equal Less ac before behind over on left right rest h g = ap (λ z. ordering_then z over) (left refl)
both_on Equal Equal ac before behind over on left right rest h g = ap (λ z. ordering_then z over) (left refl) ∙ rest h g
both_on Equal Greater ac before behind over on left right rest h g = absurd (cc)
both_on Greater bc ac before behind over on left right rest h g = absurd (cc)

nat_on : (x y z : ℕ) (before behind over : Ordering) → (before ≡ Less → behind ≡ Less → over ≡ Less) → ordering_then (nat_cmp x y) before ≡ Less → ordering_then (nat_cmp y z) behind ≡ Less → ordering_then (nat_cmp x z) over ≡ Less
nat_on x y z before behind over rest h g =
    both_on (nat_cmp x y) (nat_cmp y z) (nat_cmp x z) before behind over (nat_cmp_total.trans x y z) (λ e. ap (λ k. nat_cmp k z) (nat_same x y e)) (λ e. sym (ap (nat_cmp x) (nat_same y z e))) rest h g

int_on : (x y z : ℤ) (before behind over : Ordering) → (before ≡ Less → behind ≡ Less → over ≡ Less) → ordering_then (int_cmp x y) before ≡ Less → ordering_then (int_cmp y z) behind ≡ Less → ordering_then (int_cmp x z) over ≡ Less
int_on x y z before behind over rest h g =
    both_on (int_cmp x y) (int_cmp y z) (int_cmp x z) before behind over (int_cmp_total.trans x y z) (λ e. ap (λ k. int_cmp k z) (int_same x y e)) (λ e. sym (ap (int_cmp x) (int_same y z e))) rest h g

pair_on : (d e f i j k : LinearForm) → (form_order d e ≡ Less → form_order e f ≡ Less → form_order d f ≡ Less) → (form_order i j ≡ Less → form_order j k ≡ Less → form_order i k ≡ Less)
    → ordering_then (form_order d e) (form_order i j) ≡ Less → ordering_then (form_order e f) (form_order j k) ≡ Less → ordering_then (form_order d f) (form_order i k) ≡ Less
pair_on d e f i j k on rest h g =
    both_on (form_order d e) (form_order e f) (form_order d f) (form_order i j) (form_order j k) (form_order i k) on
    (λ p. ap (λ z. form_order z f) (form_same d e p)) (λ p. sym (ap (form_order d) (form_same e f p))) rest h g

-- atoms of different kinds are in the order of their kinds
kinds : (a b : LinearAtom) → (atom_rank a ≡ atom_rank b) ⊎ (atom_order a b ≡ nat_cmp (atom_rank a) (atom_rank b))
kinds (Variable i) (Variable j) = inl refl
kinds (ScalarOf s) (ScalarOf t) = inl refl
kinds (ElementOf array fs) (ElementOf other gs) = inl refl
kinds (FunctionOf f fs) (FunctionOf g gs) = inl refl
kinds (ProductOf f g) (ProductOf d k) = inl refl
kinds (QuotientOf f g) (QuotientOf d k) = inl refl
kinds a b = inr refl

less_rank : (a b : LinearAtom) → atom_order a b ≡ Less → atom_rank a ≤ atom_rank b
less_rank a b h = elim (kinds a b) [ inl e ↦ omega (arith, e) | inr e ↦ below e ]
  where
    below : atom_order a b ≡ nat_cmp (atom_rank a) (atom_rank b) → atom_rank a ≤ atom_rank b
    below e = let less : atom_rank a < atom_rank b = ranked (atom_rank a) (atom_rank b) Less (sym h ∙ e) in omega (arith, less)

rank_less : (a b : LinearAtom) → atom_rank a < atom_rank b → atom_order a b ≡ Less
rank_less a b less = elim (kinds a b) [ inl e ↦ absurd (omega (arith, e, less)) | inr e ↦ e ∙ sym (nat_cmp_is (atom_rank a) (atom_rank b) Less less) ]

mutual
  atom_on : (a b c : LinearAtom) → atom_order a b ≡ Less → atom_order b c ≡ Less → atom_order a c ≡ Less
  atom_on (Variable i) (Variable j) (Variable k) h g = nat_cmp_total.trans i j k h g
  atom_on (ScalarOf i) (ScalarOf j) (ScalarOf k) h g = nat_cmp_total.trans i j k h g
  atom_on (ElementOf i ds) (ElementOf j es) (ElementOf k fs) h g =
      nat_on i j k (forms_order ds es) (forms_order es fs) (forms_order ds fs) (forms_on ds es fs) h g
  atom_on (FunctionOf i ds) (FunctionOf j es) (FunctionOf k fs) h g =
      nat_on (function_rank i) (function_rank j) (function_rank k) (forms_order ds es) (forms_order es fs) (forms_order ds fs) (forms_on ds es fs) h g
  atom_on (ProductOf d i) (ProductOf e j) (ProductOf f k) h g = pair_on d e f i j k (form_on d e f) (form_on i j k) h g
  atom_on (QuotientOf d i) (QuotientOf e j) (QuotientOf f k) h g = pair_on d e f i j k (form_on d e f) (form_on i j k) h g
  atom_on a b c h g = rank_less a c (omega (arith, less_rank a b h, less_rank b c g))

  form_on : (d e f : LinearForm) → form_order d e ≡ Less → form_order e f ≡ Less → form_order d f ≡ Less
  form_on (Sum ts c) (Sum us d) (Sum vs e) h g =
      both_on (terms_order ts us) (terms_order us vs) (terms_order ts vs) (int_cmp c d) (int_cmp d e) (int_cmp c e) (terms_on ts us vs)
      (λ p. ap (λ z. terms_order z vs) (terms_same ts us p)) (λ p. sym (ap (terms_order ts) (terms_same us vs p))) (int_cmp_total.trans c d e) h g

  terms_on : (ts us vs : LinearTerms) → terms_order ts us ≡ Less → terms_order us vs ≡ Less → terms_order ts vs ≡ Less
  terms_on (Term c a ts) (Term d b us) (Term e k vs) h g =
      both_on (atom_order a b) (atom_order b k) (atom_order a k) (ordering_then (int_cmp c d) (terms_order ts us)) (ordering_then (int_cmp d e) (terms_order us vs)) (ordering_then (int_cmp c e) (terms_order ts vs)) (atom_on a b k)
      (λ p. ap (λ z. atom_order z k) (atom_same a b p)) (λ p. sym (ap (atom_order a) (atom_same b k p)))
      (int_on c d e (terms_order ts us) (terms_order us vs) (terms_order ts vs) (terms_on ts us vs)) h g
  terms_on NoTerms us (Term e k vs) h g = refl
  terms_on NoTerms NoTerms NoTerms h g = h
  terms_on NoTerms (Term d b us) NoTerms h g = absurd (cc)
  terms_on (Term c a ts) NoTerms vs h g = absurd (cc)
  terms_on (Term c a ts) (Term d b us) NoTerms h g = absurd (cc)

  forms_on : (ds es fs : LinearForms) → forms_order ds es ≡ Less → forms_order es fs ≡ Less → forms_order ds fs ≡ Less
  forms_on (Part d ds) (Part e es) (Part f fs) h g =
      both_on (form_order d e) (form_order e f) (form_order d f) (forms_order ds es) (forms_order es fs) (forms_order ds fs) (form_on d e f)
      (λ p. ap (λ z. form_order z f) (form_same d e p)) (λ p. sym (ap (form_order d) (form_same e f p))) (forms_on ds es fs) h g
  forms_on NoForms es (Part f fs) h g = refl
  forms_on NoForms NoForms NoForms h g = h
  forms_on NoForms (Part e es) NoForms h g = absurd (cc)
  forms_on (Part d ds) NoForms fs h g = absurd (cc)
  forms_on (Part d ds) (Part e es) NoForms h g = absurd (cc)

pub atom_order_total : IsTotalOrder atom_order
atom_order_total = record {
  antisymm = atom_back;
  trans = atom_on;
  congr = λ a b c e. ap (λ z. atom_order z c) (atom_same a b e);
}
