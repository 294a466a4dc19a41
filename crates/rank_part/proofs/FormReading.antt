-- What the form of an expression reads is what the elements in the expression read.
use Rattle.std.proofs.Common.{◌≡◌, ℕ, zero, suc, ℤ, ◌+ℤ◌, ◌*ℤ◌, Bool, true, false, cond, ◌==◌, List, [], ◌∷◌, ◌++◌, All, Option, Some, None, option_map, Result, Ok, Err, sym, subst}
use Rattle.std.specs.List.{position}
use Rattle.std.specs.declared.cmp.Ordering.{Ordering}
use Rattle.std.specs.declared.cmp.Ordering.TheVariants.{Less, Equal, Greater}
use Rattle.std.proofs.lemmas.List.Elements.{All-nil, All-cons, All-head, All-tail, All-append}
use Rattle.fd_base.specs.declared.numbers.FaultKind.{FaultKind}
use Rattle.fd_base.specs.declared.shapes.Along.{Along}
use Rattle.fd_base.specs.declared.shapes.Along.TheVariants.{Fixed, Dim}
use Rattle.fd_base.specs.Numbers.{is_zero}
use Rattle.fd_prog.specs.declared.expression.Op2.{Op2}
use Rattle.fd_prog.specs.declared.expression.Op2.TheVariants.{Add, Sub, Mul, Div}
use Rattle.fd_prog.specs.Outcomes.{and_then}
use Rattle.fd_prog.specs.Expressions.{Expression, Number, Scalar, Element, Negated, Joined, Applied, Expressions, End, More}
use Rattle.fd_prog.specs.Values.{Readings, applied}
use Rattle.fd_prog.specs.Forms.{LinearAtom, Variable, ScalarOf, ElementOf, FunctionOf, ProductOf, QuotientOf, LinearForm, Sum, LinearTerms, NoTerms, Term, LinearForms, NoForms, Part, atom_order}
use Rattle.fd_prog.specs.FormOf.{kept, joined_term, with_term, sum_of_terms, scaled_terms, sum_of, scaled, minus_one, constant, single, constant_in, constants_in, product, known_or, known_quotient, joined_form, scalar_atom, limited, form_of_expression, forms_of_expressions}
use Rattle.fd_prog.specs.FormValues.{part_values}
use Rattle.fd_prog.specs.Homes.{form_at, plus_number, subscript_along}
use Rattle.fd_prog.specs.Items.{Name, ScalarName, ArrayName, DecompName, atom_names, form_names, terms_names, forms_names}
use Rattle.program_laws.specs.Indexing.{Indexed, elements_among, elements_in}
use Rattle.fd_prog.proofs.FormValues.{limited-ok}
use Rattle.fd_prog.proofs.Runs.{and_then-ok}
use Rattle.rank_part.specs.Seen.{OfElement, AtomReads, FormReads, TermsRead, FormsRead}
use Rattle.rank_part.proofs.Images.{put_atom, put_form, put_terms, put_forms, widening}

-- ---- parts of lists

pub front : {A : Type 0} (P : A → Type 0) (xs ys : List A) → All P (xs ++ ys) → All P xs
front P [] ys h = All-nil P
front P (x ∷ xs) ys h = All-cons P x xs (All-head P x (xs ++ ys) h) (front P xs ys (All-tail P x (xs ++ ys) h))

pub back : {A : Type 0} (P : A → Type 0) (xs ys : List A) → All P (xs ++ ys) → All P ys
back P [] ys h = h
back P (x ∷ xs) ys h = back P xs ys (All-tail P x (xs ++ ys) h)

-- ---- what the operators' forms read

kept-reads : (r : Readings) (P : ℕ → Option ℕ → ℕ → Type 0) (vs : List ℤ) (c : ℤ) (a : LinearAtom) (ts : LinearTerms) → AtomReads r P vs a → TermsRead r P vs ts → TermsRead r P vs (kept c a ts)
kept-reads r P vs c a ts h k = by (is_zero c)
  where
    by : (b : Bool) → TermsRead r P vs (cond b ts (Term c a ts))
    by true = k
    by false = (h, k)

with_term-reads : (r : Readings) (P : ℕ → Option ℕ → ℕ → Type 0) (vs : List ℤ) (c : ℤ) (a : LinearAtom) (ts : LinearTerms) → AtomReads r P vs a → TermsRead r P vs ts → TermsRead r P vs (with_term c a ts)
with_term-reads r P vs c a NoTerms h k = kept-reads r P vs c a NoTerms h tt
with_term-reads r P vs c a (Term d b ts) h k = by (with_term-reads r P vs c a ts h k.1) (atom_order a b)
  where
    by : TermsRead r P vs (with_term c a ts) → (o : Ordering) → TermsRead r P vs (joined_term o c a d b ts (with_term c a ts))
    by rest Less = kept-reads r P vs c a (Term d b ts) h k
    by rest Equal = kept-reads r P vs (c +ℤ d) b ts k.0 k.1
    by rest Greater = (k.0, rest)

sum-reads : (r : Readings) (P : ℕ → Option ℕ → ℕ → Type 0) (vs : List ℤ) (ts us : LinearTerms) → TermsRead r P vs ts → TermsRead r P vs us → TermsRead r P vs (sum_of_terms ts us)
sum-reads r P vs NoTerms us h k = k
sum-reads r P vs (Term c a ts) us h k = with_term-reads r P vs c a (sum_of_terms ts us) h.0 (sum-reads r P vs ts us h.1 k)

scaled_terms-read : (r : Readings) (P : ℕ → Option ℕ → ℕ → Type 0) (vs : List ℤ) (k : ℤ) (ts : LinearTerms) → TermsRead r P vs ts → TermsRead r P vs (scaled_terms k ts)
scaled_terms-read r P vs k NoTerms h = tt
scaled_terms-read r P vs k (Term c a ts) h = kept-reads r P vs (k *ℤ c) a (scaled_terms k ts) h.0 (scaled_terms-read r P vs k ts h.1)

sum_of-reads : (r : Readings) (P : ℕ → Option ℕ → ℕ → Type 0) (vs : List ℤ) (f g : LinearForm) → FormReads r P vs f → FormReads r P vs g → FormReads r P vs (sum_of f g)
sum_of-reads r P vs (Sum ts c) (Sum us d) h k = sum-reads r P vs ts us h k

scaled-reads : (r : Readings) (P : ℕ → Option ℕ → ℕ → Type 0) (vs : List ℤ) (k : ℤ) (f : LinearForm) → FormReads r P vs f → FormReads r P vs (scaled k f)
scaled-reads r P vs k (Sum ts c) h = scaled_terms-read r P vs k ts h

known-reads : (r : Readings) (P : ℕ → Option ℕ → ℕ → Type 0) (vs : List ℤ) (o : Option (Result ℤ FaultKind)) (a : LinearAtom) → AtomReads r P vs a → FormReads r P vs (known_or o a)
known-reads r P vs (Some (Ok z)) a h = tt
known-reads r P vs (Some (Err kind)) a h = (h, tt)
known-reads r P vs None a h = (h, tt)

product-reads : (r : Readings) (P : ℕ → Option ℕ → ℕ → Type 0) (vs : List ℤ) (o p : Option ℤ) (f g : LinearForm) → FormReads r P vs f → FormReads r P vs g → FormReads r P vs (product o p f g)
product-reads r P vs (Some x) p f g h k = scaled-reads r P vs x g k
product-reads r P vs None (Some y) f g h k = scaled-reads r P vs y f h
product-reads r P vs None None f g h k = ((h, k), tt)

joined-reads : (r : Readings) (P : ℕ → Option ℕ → ℕ → Type 0) (vs : List ℤ) (op : Op2) (f g : LinearForm) → FormReads r P vs f → FormReads r P vs g → FormReads r P vs (joined_form op f g)
joined-reads r P vs Add f g h k = sum_of-reads r P vs f g h k
joined-reads r P vs Sub f g h k = sum_of-reads r P vs f (scaled minus_one g) h (scaled-reads r P vs minus_one g k)
joined-reads r P vs Mul f g h k = product-reads r P vs (constant_in f) (constant_in g) f g h k
joined-reads r P vs Div f g h k = known-reads r P vs (known_quotient (constant_in f) (constant_in g)) (QuotientOf f g) (h, k)

limited-reads : (r : Readings) (P : ℕ → Option ℕ → ℕ → Type 0) (vs : List ℤ) (f g : LinearForm) → limited f ≡ Ok g → FormReads r P vs f → FormReads r P vs g
limited-reads r P vs f g e h = let Q : LinearForm → Type 0 = FormReads r P vs in subst Q (sym (limited-ok f g e)) h

scalar-reads : (r : Readings) (P : ℕ → Option ℕ → ℕ → Type 0) (vs : List ℤ) (o : Option ℕ) (s : ℕ) → FormReads r P vs (single (scalar_atom o s))
scalar-reads r P vs (Some i) s = (tt, tt)
scalar-reads r P vs None s = (tt, tt)

-- ---- what the forms of expressions read

-- a fact holds of the element that the subscripts of a reference name as forms over widened scalars, where they name one
abbrev pub OfIndexed : Readings → (ℕ → Option ℕ → ℕ → Type 0) → List ℤ → List ℕ → Indexed → Type 0
OfIndexed r P vs bound x = (gs : LinearForms) → forms_of_expressions bound x.subs ≡ Ok gs → OfElement r P x.array None (part_values r vs gs)

mutual
  pub form-reads : (r : Readings) (P : ℕ → Option ℕ → ℕ → Type 0) (vs : List ℤ) (bound : List ℕ) (e : Expression) (f : LinearForm) → form_of_expression bound e ≡ Ok f → All (OfIndexed r P vs bound) (elements_in e) → FormReads r P vs f
  form-reads r P vs bound (Number n) f h k = limited-reads r P vs (constant n) f h tt
  form-reads r P vs bound (Scalar s) f h k =
      let same : single (scalar_atom (position (λ b. b == s) bound) s) ≡ f = cc in
      let Q : LinearForm → Type 0 = FormReads r P vs in
      subst Q same (scalar-reads r P vs (position (λ b. b == s) bound) s)
  form-reads r P vs bound (Element array subs site) f h k =
      let p = and_then-ok (forms_of_expressions bound subs) (λ fs. Ok (single (ElementOf array fs))) f h in
      let same : single (ElementOf array p.0) ≡ f = cc in
      let Q : LinearForm → Type 0 = FormReads r P vs in
      let x : Indexed = record { array = array; subs = subs } in
      subst Q same ((forms-read r P vs bound subs p.0 p.1 (All-tail (OfIndexed r P vs bound) x (elements_among subs) k), All-head (OfIndexed r P vs bound) x (elements_among subs) k p.0 p.1), tt)
  form-reads r P vs bound (Negated a) f h k =
      let p = and_then-ok (form_of_expression bound a) (λ g. limited (scaled minus_one g)) f h in
      limited-reads r P vs (scaled minus_one p.0) f p.2 (scaled-reads r P vs minus_one p.0 (form-reads r P vs bound a p.0 p.1 k))
  form-reads r P vs bound (Joined op a b) f h k =
      let p = and_then-ok (form_of_expression bound a) (λ g. and_then (form_of_expression bound b) (λ m. limited (joined_form op g m))) f h in
      let q = and_then-ok (form_of_expression bound b) (λ m. limited (joined_form op p.0 m)) f p.2 in
      limited-reads r P vs (joined_form op p.0 q.0) f q.2
      (joined-reads r P vs op p.0 q.0 (form-reads r P vs bound a p.0 p.1 (front (OfIndexed r P vs bound) (elements_in a) (elements_in b) k)) (form-reads r P vs bound b q.0 q.1 (back (OfIndexed r P vs bound) (elements_in a) (elements_in b) k)))
  form-reads r P vs bound (Applied g args) f h k =
      let p = and_then-ok (forms_of_expressions bound args) (λ fs. limited (known_or (option_map (applied g) (constants_in fs)) (FunctionOf g fs))) f h in
      limited-reads r P vs (known_or (option_map (applied g) (constants_in p.0)) (FunctionOf g p.0)) f p.2
      (known-reads r P vs (option_map (applied g) (constants_in p.0)) (FunctionOf g p.0) (forms-read r P vs bound args p.0 p.1 k))

  pub forms-read : (r : Readings) (P : ℕ → Option ℕ → ℕ → Type 0) (vs : List ℤ) (bound : List ℕ) (es : Expressions) (fs : LinearForms) → forms_of_expressions bound es ≡ Ok fs → All (OfIndexed r P vs bound) (elements_among es) → FormsRead r P vs fs
  forms-read r P vs bound End fs h k =
      let same : NoForms ≡ fs = cc in
      let Q : LinearForms → Type 0 = FormsRead r P vs in
      subst Q same tt
  forms-read r P vs bound (More e es) fs h k =
      let p = and_then-ok (form_of_expression bound e) (λ f. and_then (forms_of_expressions bound es) (λ gs. Ok (Part f gs))) fs h in
      let q = and_then-ok (forms_of_expressions bound es) (λ gs. Ok (Part p.0 gs)) fs p.2 in
      let same : Part p.0 q.0 ≡ fs = cc in
      let Q : LinearForms → Type 0 = FormsRead r P vs in
      subst Q same (form-reads r P vs bound e p.0 p.1 (front (OfIndexed r P vs bound) (elements_in e) (elements_among es) k), forms-read r P vs bound es q.0 q.1 (back (OfIndexed r P vs bound) (elements_in e) (elements_among es) k))

-- a subscript of a decomposition reads what the subscripts read
pub along-reads : (r : Readings) (P : ℕ → Option ℕ → ℕ → Type 0) (vs : List ℤ) (along : Along) (low : ℤ) (fs : LinearForms) → FormsRead r P vs fs → FormReads r P vs (subscript_along along low fs)
along-reads r P vs (Fixed position) low fs h = tt
along-reads r P vs (Dim dim shift) low fs h = plus (form_at fs dim) (at fs dim h)
  where
    at : (gs : LinearForms) (k : ℕ) → FormsRead r P vs gs → FormReads r P vs (form_at gs k)
    at NoForms k h = tt
    at (Part g gs) zero h = h.0
    at (Part g gs) (suc k) h = at gs k h.1

    plus : (f : LinearForm) → FormReads r P vs f → FormReads r P vs (plus_number f (shift +ℤ low))
    plus (Sum ts c) h = h

-- ---- names

-- a fact holds of all elements of an array
abbrev pub OfArray : (ℕ → Option ℕ → ℕ → Type 0) → Readings → Name → Type 0
OfArray P r (ScalarName k) = Unit {0}
OfArray P r (ArrayName array) = (subs : Result (List ℤ) FaultKind) → OfElement r P array None subs
OfArray P r (DecompName decomp) = Unit {0}

-- a form reads elements of the arrays among its names alone
mutual
  atom-named : (r : Readings) (P : ℕ → Option ℕ → ℕ → Type 0) (vs : List ℤ) (a : LinearAtom) → All (OfArray P r) (atom_names a) → AtomReads r P vs a
  atom-named r P vs (Variable i) h = tt
  atom-named r P vs (ScalarOf s) h = tt
  atom-named r P vs (ElementOf array fs) h = (forms-named r P vs fs (All-tail (OfArray P r) (ArrayName array) (forms_names fs) h), All-head (OfArray P r) (ArrayName array) (forms_names fs) h (part_values r vs fs))
  atom-named r P vs (FunctionOf g fs) h = forms-named r P vs fs h
  atom-named r P vs (ProductOf f g) h = (form-named r P vs f (front (OfArray P r) (form_names f) (form_names g) h), form-named r P vs g (back (OfArray P r) (form_names f) (form_names g) h))
  atom-named r P vs (QuotientOf f g) h = (form-named r P vs f (front (OfArray P r) (form_names f) (form_names g) h), form-named r P vs g (back (OfArray P r) (form_names f) (form_names g) h))

  pub form-named : (r : Readings) (P : ℕ → Option ℕ → ℕ → Type 0) (vs : List ℤ) (f : LinearForm) → All (OfArray P r) (form_names f) → FormReads r P vs f
  form-named r P vs (Sum ts c) h = terms-named r P vs ts h

  terms-named : (r : Readings) (P : ℕ → Option ℕ → ℕ → Type 0) (vs : List ℤ) (ts : LinearTerms) → All (OfArray P r) (terms_names ts) → TermsRead r P vs ts
  terms-named r P vs NoTerms h = tt
  terms-named r P vs (Term c a ts) h = (atom-named r P vs a (front (OfArray P r) (atom_names a) (terms_names ts) h), terms-named r P vs ts (back (OfArray P r) (atom_names a) (terms_names ts) h))

  forms-named : (r : Readings) (P : ℕ → Option ℕ → ℕ → Type 0) (vs : List ℤ) (fs : LinearForms) → All (OfArray P r) (forms_names fs) → FormsRead r P vs fs
  forms-named r P vs NoForms h = tt
  forms-named r P vs (Part f fs) h = (form-named r P vs f (front (OfArray P r) (form_names f) (forms_names fs) h), forms-named r P vs fs (back (OfArray P r) (form_names f) (forms_names fs) h))

kept-names : (Q : Name → Type 0) (c : ℤ) (a : LinearAtom) (ts : LinearTerms) → All Q (atom_names a) → All Q (terms_names ts) → All Q (terms_names (kept c a ts))
kept-names Q c a ts h k = by (is_zero c)
  where
    by : (b : Bool) → All Q (terms_names (cond b ts (Term c a ts)))
    by true = k
    by false = All-append Q (atom_names a) (terms_names ts) h k

with_term-names : (Q : Name → Type 0) (c : ℤ) (a : LinearAtom) (ts : LinearTerms) → All Q (atom_names a) → All Q (terms_names ts) → All Q (terms_names (with_term c a ts))
with_term-names Q c a NoTerms h k = kept-names Q c a NoTerms h k
with_term-names Q c a (Term d b ts) h k =
    by (with_term-names Q c a ts h (back Q (atom_names b) (terms_names ts) k)) (atom_order a b)
  where
    by : All Q (terms_names (with_term c a ts)) → (o : Ordering) → All Q (terms_names (joined_term o c a d b ts (with_term c a ts)))
    by rest Less = kept-names Q c a (Term d b ts) h k
    by rest Equal = kept-names Q (c +ℤ d) b ts (front Q (atom_names b) (terms_names ts) k) (back Q (atom_names b) (terms_names ts) k)
    by rest Greater = All-append Q (atom_names b) (terms_names (with_term c a ts)) (front Q (atom_names b) (terms_names ts) k) rest

widened-names : (Q : Name → Type 0) (o : Option ℕ) (s : ℕ) → Q (ScalarName s) → All Q (atom_names (scalar_atom o s))
widened-names Q (Some i) s h = All-nil Q
widened-names Q None s h = All-cons Q (ScalarName s) [] h (All-nil Q)

-- widening brings no name
mutual
  atom-image-names : (Q : Name → Type 0) (bound : List ℕ) (a : LinearAtom) → All Q (atom_names a) → All Q (atom_names (put_atom (widening bound) a))
  atom-image-names Q bound (Variable i) h = h
  atom-image-names Q bound (ScalarOf s) h = widened-names Q (position (λ b. b == s) bound) s (All-head Q (ScalarName s) [] h)
  atom-image-names Q bound (ElementOf array fs) h = All-cons Q (ArrayName array) (forms_names (put_forms (widening bound) fs)) (All-head Q (ArrayName array) (forms_names fs) h) (forms-image-names Q bound fs (All-tail Q (ArrayName array) (forms_names fs) h))
  atom-image-names Q bound (FunctionOf g fs) h = forms-image-names Q bound fs h
  atom-image-names Q bound (ProductOf f g) h =
      All-append Q (form_names (put_form (widening bound) f)) (form_names (put_form (widening bound) g)) (form-image-names Q bound f (front Q (form_names f) (form_names g) h)) (form-image-names Q bound g (back Q (form_names f) (form_names g) h))
  atom-image-names Q bound (QuotientOf f g) h =
      All-append Q (form_names (put_form (widening bound) f)) (form_names (put_form (widening bound) g)) (form-image-names Q bound f (front Q (form_names f) (form_names g) h)) (form-image-names Q bound g (back Q (form_names f) (form_names g) h))

  pub form-image-names : (Q : Name → Type 0) (bound : List ℕ) (f : LinearForm) → All Q (form_names f) → All Q (form_names (put_form (widening bound) f))
  form-image-names Q bound (Sum ts c) h = terms-image-names Q bound ts h

  terms-image-names : (Q : Name → Type 0) (bound : List ℕ) (ts : LinearTerms) → All Q (terms_names ts) → All Q (terms_names (put_terms (widening bound) ts))
  terms-image-names Q bound NoTerms h = h
  terms-image-names Q bound (Term c a ts) h =
      with_term-names Q c (put_atom (widening bound) a) (put_terms (widening bound) ts) (atom-image-names Q bound a (front Q (atom_names a) (terms_names ts) h)) (terms-image-names Q bound ts (back Q (atom_names a) (terms_names ts) h))

  forms-image-names : (Q : Name → Type 0) (bound : List ℕ) (fs : LinearForms) → All Q (forms_names fs) → All Q (forms_names (put_forms (widening bound) fs))
  forms-image-names Q bound NoForms h = h
  forms-image-names Q bound (Part f fs) h =
      All-append Q (form_names (put_form (widening bound) f)) (forms_names (put_forms (widening bound) fs)) (form-image-names Q bound f (front Q (form_names f) (forms_names fs) h)) (forms-image-names Q bound fs (back Q (form_names f) (forms_names fs) h))
