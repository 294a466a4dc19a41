-- The forms of expressions over widened scalars are the images of those without them, so a local reference stays local.
use Rattle.std.proofs.Common.{◌≡◌, refl, sym, ◌∙◌, ap, ap₂, arith, subst, ℕ, zero, suc, ◌+◌, ◌≤◌, ℤ, pos, ◌+ℤ◌, ◌*ℤ◌, Bool, true, false, cond, nat_lt, ◌&&◌, ◌==◌, List, [], get_or, Option, Some, None, option_map, Result, Ok, Err}
use Rattle.std.specs.List.{position}
use Rattle.std.specs.Ordering.{is_eq}
use Rattle.std.specs.Result.{result_err}
use Rattle.std.specs.declared.cmp.Ordering.{Ordering}
use Rattle.std.specs.declared.cmp.Ordering.TheVariants.{Less, Equal, Greater}
use Rattle.std.proofs.Math.IntN.{*ℤ-zero}
use Rattle.std.proofs.lemmas.Bool.Decides.{nat_tests}
use Rattle.std.proofs.lemmas.Int.{ints}
use Rattle.std.proofs.lemmas.List.Quantifiers.{position-Some}
use Rattle.fd_base.specs.Numbers.{is_zero}
use Rattle.fd_base.specs.declared.numbers.FaultKind.{FaultKind}
use Rattle.fd_prog.specs.declared.expression.Op2.{Op2}
use Rattle.fd_prog.specs.declared.expression.Op2.TheVariants.{Add, Sub, Mul, Div}
use Rattle.fd_prog.specs.declared.form.FormRefusal.{FormRefusal}
use Rattle.fd_prog.specs.declared.form.FormRefusal.TheVariants.{Terms, Coefficient}
use Rattle.fd_prog.specs.Outcomes.{and_then}
use Rattle.fd_prog.specs.Expressions.{Expression, Number, Scalar, Element, Negated, Joined, Applied, Expressions, End, More}
use Rattle.fd_prog.specs.Programs.{CheckedProgram}
use Rattle.fd_prog.specs.Statements.{Target, ToScalar, ToElement, Statement, Assign, If, Do, While, Read, Print, Continue, Distribute}
use Rattle.fd_prog.specs.Values.{applied}
use Rattle.fd_prog.specs.Forms.{LinearAtom, Variable, ScalarOf, ElementOf, FunctionOf, ProductOf, QuotientOf, LinearForm, Sum, LinearTerms, NoTerms, Term, LinearForms, NoForms, Part, terms_in, atom_order}
use Rattle.fd_prog.specs.FormOf.{kept, joined_term, with_term, sum_of_terms, scaled_terms, sum_of, scaled, minus_one, constant, single, constant_in, constants_in, paired, product, known_or, known_quotient, joined_form, scalar_atom, are_small, is_small, limited, form_of_expression, forms_of_expressions}
use Rattle.fd_prog.specs.FormSums.{coefficient, AreOrdered}
use Rattle.fd_prog.specs.Homes.{Distribution, Executor, EveryRank, OwnerOf, distribution_at, element_home, home_of_statement, location_of, target_home}
use Rattle.fd_prog.specs.Items.{is_local}
use Rattle.fd_prog.proofs.FormOrders.{atom_same}
use Rattle.fd_prog.proofs.FormSums.{picked, terms-equal, with_term-ordered, with_term-coefficient, sum-coefficient, scaled-coefficient, sum-ordered, scaled-ordered}
use Rattle.fd_prog.proofs.FormValues.{zero_is}
use Rattle.fd_prog.proofs.Integers.{zero_plus, distributed_left}
use Rattle.std.specs.Ordering.{nat_cmp, ordering_then, ordering_reverse}
use Rattle.std.specs.Cmp.{nat_cmp_is}
use Rattle.fd_base.specs.declared.shapes.Along.{Along}
use Rattle.fd_base.specs.declared.shapes.Along.TheVariants.{Fixed, Dim}
use Rattle.fd_prog.specs.Forms.{form_order}
use Rattle.fd_prog.specs.Homes.{Location, RankZero, form_at, plus_number, subscript_along}
use Rattle.fd_prog.specs.Items.{location_order}
use Rattle.fd_prog.proofs.Runs.{and_then-ok}
use Rattle.fd_prog.proofs.TotalOrder.{atom_order_total}
use Rattle.rank_part.proofs.Executing.{local-home}

-- ---- atoms in place of variables and scalars

-- what is put in place of each variable and each scalar
pub record Put : Type 0 where
  pub variable : ℕ → LinearAtom
  pub scalar : ℕ → LinearAtom

abbrev mutual
  pub put_atom : Put → LinearAtom → LinearAtom
  put_atom r (Variable i) = r.variable i
  put_atom r (ScalarOf s) = r.scalar s
  put_atom r (ElementOf array fs) = ElementOf array (put_forms r fs)
  put_atom r (FunctionOf f fs) = FunctionOf f (put_forms r fs)
  put_atom r (ProductOf f g) = ProductOf (put_form r f) (put_form r g)
  put_atom r (QuotientOf f g) = QuotientOf (put_form r f) (put_form r g)

  pub put_form : Put → LinearForm → LinearForm
  put_form r (Sum ts c) = Sum (put_terms r ts) c

  -- the sum of the terms' images, in the order of the images
  pub put_terms : Put → LinearTerms → LinearTerms
  put_terms r NoTerms = NoTerms
  put_terms r (Term c a ts) = with_term c (put_atom r a) (put_terms r ts)

  pub put_forms : Put → LinearForms → LinearForms
  put_forms r NoForms = NoForms
  put_forms r (Part f fs) = Part (put_form r f) (put_forms r fs)

put-ordered : (r : Put) (ts : LinearTerms) → AreOrdered (put_terms r ts)
put-ordered r NoTerms = tt
put-ordered r (Term c a ts) = with_term-ordered c (put_atom r a) (put_terms r ts) (put-ordered r ts)

-- ---- the image of a sum is the sum of the images

kept-put : (r : Put) (x : LinearAtom) (c : ℤ) (a : LinearAtom) (ts : LinearTerms)
    → coefficient x (put_terms r (kept c a ts)) ≡ picked (is_eq (atom_order x (put_atom r a))) c +ℤ coefficient x (put_terms r ts)
kept-put r x c a ts = by (is_zero c) refl
  where
    nothing : (b : Bool) (y : ℤ) → y ≡ picked b (pos 0) +ℤ y
    nothing true y = sym (zero_plus y)
    nothing false y = sym (zero_plus y)

    by : (t : Bool) → is_zero c ≡ t → coefficient x (put_terms r (cond t ts (Term c a ts))) ≡ picked (is_eq (atom_order x (put_atom r a))) c +ℤ coefficient x (put_terms r ts)
    by true e =
        nothing (is_eq (atom_order x (put_atom r a))) (coefficient x (put_terms r ts))
        ∙ ap (λ z. picked (is_eq (atom_order x (put_atom r a))) z +ℤ coefficient x (put_terms r ts)) (sym (zero_is c e))
    by false e = with_term-coefficient x c (put_atom r a) (put_terms r ts)

with_term-put : (r : Put) (x : LinearAtom) (c : ℤ) (a : LinearAtom) (ts : LinearTerms)
    → coefficient x (put_terms r (with_term c a ts)) ≡ picked (is_eq (atom_order x (put_atom r a))) c +ℤ coefficient x (put_terms r ts)
with_term-put r x c a NoTerms = kept-put r x c a NoTerms
with_term-put r x c a (Term d b ts) = by (with_term-put r x c a ts) (atom_order a b) refl
  where
    both : (t : Bool) (y : ℤ) → picked t (c +ℤ d) +ℤ y ≡ picked t c +ℤ (picked t d +ℤ y)
    both true y = omega (arith, ints)
    both false y = omega (arith, ints)

    swapped : (p q y w : ℤ) → w ≡ p +ℤ y → q +ℤ w ≡ p +ℤ (q +ℤ y)
    swapped p q y w e = omega (arith, ints)

    by : coefficient x (put_terms r (with_term c a ts)) ≡ picked (is_eq (atom_order x (put_atom r a))) c +ℤ coefficient x (put_terms r ts) → (o : Ordering) → atom_order a b ≡ o
        → coefficient x (put_terms r (joined_term o c a d b ts (with_term c a ts))) ≡ picked (is_eq (atom_order x (put_atom r a))) c +ℤ coefficient x (put_terms r (Term d b ts))
    by rest Less e = kept-put r x c a (Term d b ts)
    by rest Equal e =
        kept-put r x (c +ℤ d) b ts ∙ both (is_eq (atom_order x (put_atom r b))) (coefficient x (put_terms r ts))
        ∙ ap (λ z. picked (is_eq (atom_order x (put_atom r b))) c +ℤ z) (sym (with_term-coefficient x d (put_atom r b) (put_terms r ts)))
        ∙ ap (λ z. picked (is_eq (atom_order x (put_atom r z))) c +ℤ coefficient x (put_terms r (Term d b ts))) (sym (atom_same a b e))
    by rest Greater e =
        with_term-coefficient x d (put_atom r b) (put_terms r (with_term c a ts))
        ∙ swapped (picked (is_eq (atom_order x (put_atom r a))) c) (picked (is_eq (atom_order x (put_atom r b))) d) (coefficient x (put_terms r ts)) (coefficient x (put_terms r (with_term c a ts))) rest
        ∙ ap (λ z. picked (is_eq (atom_order x (put_atom r a))) c +ℤ z) (sym (with_term-coefficient x d (put_atom r b) (put_terms r ts)))

sum-put : (r : Put) (x : LinearAtom) (ts us : LinearTerms) → coefficient x (put_terms r (sum_of_terms ts us)) ≡ coefficient x (put_terms r ts) +ℤ coefficient x (put_terms r us)
sum-put r x NoTerms us = sym (zero_plus (coefficient x (put_terms r us)))
sum-put r x (Term c a ts) us =
    with_term-put r x c a (sum_of_terms ts us) ∙ ap (λ z. picked (is_eq (atom_order x (put_atom r a))) c +ℤ z) (sum-put r x ts us)
    ∙ grouped (picked (is_eq (atom_order x (put_atom r a))) c) (coefficient x (put_terms r ts)) (coefficient x (put_terms r us))
    ∙ ap (λ z. z +ℤ coefficient x (put_terms r us)) (sym (with_term-coefficient x c (put_atom r a) (put_terms r ts)))
  where
    grouped : (p q w : ℤ) → p +ℤ (q +ℤ w) ≡ p +ℤ q +ℤ w
    grouped p q w = omega (arith, ints)

scaled-put : (r : Put) (x : LinearAtom) (k : ℤ) (ts : LinearTerms) → coefficient x (put_terms r (scaled_terms k ts)) ≡ k *ℤ coefficient x (put_terms r ts)
scaled-put r x k NoTerms = sym (*ℤ-zero k)
scaled-put r x k (Term c a ts) =
    kept-put r x (k *ℤ c) a (scaled_terms k ts) ∙ ap (λ z. picked (is_eq (atom_order x (put_atom r a))) (k *ℤ c) +ℤ z) (scaled-put r x k ts)
    ∙ ap (λ z. z +ℤ k *ℤ coefficient x (put_terms r ts)) (times (is_eq (atom_order x (put_atom r a))))
    ∙ sym (distributed_left k (picked (is_eq (atom_order x (put_atom r a))) c) (coefficient x (put_terms r ts)))
    ∙ ap (λ z. k *ℤ z) (sym (with_term-coefficient x c (put_atom r a) (put_terms r ts)))
  where
    times : (b : Bool) → picked b (k *ℤ c) ≡ k *ℤ picked b c
    times true = refl
    times false = sym (*ℤ-zero k)

sum-image : (r : Put) (f g : LinearForm) → put_form r (sum_of f g) ≡ sum_of (put_form r f) (put_form r g)
sum-image r (Sum ts c) (Sum us d) =
    ap (λ z. Sum z (c +ℤ d)) (terms-equal (put_terms r (sum_of_terms ts us)) (sum_of_terms (put_terms r ts) (put_terms r us)) (put-ordered r (sum_of_terms ts us))
    (sum-ordered (put_terms r ts) (put_terms r us) (put-ordered r us)) (λ x. sum-put r x ts us ∙ sym (sum-coefficient x (put_terms r ts) (put_terms r us))))

scaled-image : (r : Put) (k : ℤ) (f : LinearForm) → put_form r (scaled k f) ≡ scaled k (put_form r f)
scaled-image r k (Sum ts c) =
    ap (λ z. Sum z (k *ℤ c)) (terms-equal (put_terms r (scaled_terms k ts)) (scaled_terms k (put_terms r ts)) (put-ordered r (scaled_terms k ts))
    (scaled-ordered k (put_terms r ts) (put-ordered r ts)) (λ x. scaled-put r x k ts ∙ sym (scaled-coefficient x k (put_terms r ts))))

-- ---- an image that leads back has the same coefficients, in another order

with_term-most : (c : ℤ) (a : LinearAtom) (ts : LinearTerms) → terms_in (with_term c a ts) ≤ terms_in ts + 1
with_term-most c a NoTerms = by (is_zero c)
  where
    by : (t : Bool) → terms_in (cond t NoTerms (Term c a NoTerms)) ≤ 0 + 1
    by true = omega arith
    by false = omega arith
with_term-most c a (Term d b ts) = by (with_term-most c a ts) (atom_order a b)
  where
    least : (k : ℤ) (e : LinearAtom) (us : LinearTerms) (t : Bool) → terms_in (cond t us (Term k e us)) ≤ terms_in us + 1
    least k e us true = omega arith
    least k e us false = omega arith

    by : terms_in (with_term c a ts) ≤ terms_in ts + 1 → (o : Ordering) → terms_in (joined_term o c a d b ts (with_term c a ts)) ≤ terms_in ts + 1 + 1
    by rest Less = least c a (Term d b ts) (is_zero c)
    by rest Equal = let k = least (c +ℤ d) b ts (is_zero (c +ℤ d)) in omega (arith, k)
    by rest Greater = omega (arith, rest)

put-most : (r : Put) (ts : LinearTerms) → terms_in (put_terms r ts) ≤ terms_in ts
put-most r NoTerms = omega arith
put-most r (Term c a ts) = omega (arith, put-most r ts, with_term-most c (put_atom r a) (put_terms r ts))

with_term-small : (c : ℤ) (a : LinearAtom) (ts : LinearTerms) → terms_in (with_term c a ts) ≡ terms_in ts + 1 → are_small (with_term c a ts) ≡ (is_small c && are_small ts)
with_term-small c a NoTerms h = by (is_zero c) h
  where
    by : (t : Bool) → terms_in (cond t NoTerms (Term c a NoTerms)) ≡ 0 + 1 → are_small (cond t NoTerms (Term c a NoTerms)) ≡ (is_small c && true)
    by true e = absurd (omega (arith, e))
    by false e = refl
with_term-small c a (Term d b ts) h = by (with_term-small c a ts) (atom_order a b) h
  where
    before : (t : Bool) → terms_in (cond t (Term d b ts) (Term c a (Term d b ts))) ≡ terms_in ts + 1 + 1 → are_small (cond t (Term d b ts) (Term c a (Term d b ts))) ≡ (is_small c && (is_small d && are_small ts))
    before true e = absurd (omega (arith, e))
    before false e = refl

    merged : (t : Bool) → terms_in (cond t ts (Term (c +ℤ d) b ts)) ≡ terms_in ts + 1 + 1 → ⊥
    merged true e = omega (arith, e)
    merged false e = omega (arith, e)

    turned : (p q s : Bool) → (p && (q && s)) ≡ (q && (p && s))
    turned true true s = refl
    turned true false s = refl
    turned false true s = refl
    turned false false s = refl

    by : (terms_in (with_term c a ts) ≡ terms_in ts + 1 → are_small (with_term c a ts) ≡ (is_small c && are_small ts)) → (o : Ordering)
        → terms_in (joined_term o c a d b ts (with_term c a ts)) ≡ terms_in ts + 1 + 1 → are_small (joined_term o c a d b ts (with_term c a ts)) ≡ (is_small c && (is_small d && are_small ts))
    by rest Less e = before (is_zero c) e
    by rest Equal e = absurd (merged (is_zero (c +ℤ d)) e)
    by rest Greater e = ap (λ z. is_small d && z) (rest (omega (arith, e))) ∙ turned (is_small d) (is_small c) (are_small ts)

put-small : (r : Put) (ts : LinearTerms) → terms_in (put_terms r ts) ≡ terms_in ts → are_small (put_terms r ts) ≡ are_small ts
put-small r NoTerms h = refl
put-small r (Term c a ts) h =
    let least = put-most r ts in
    let most = with_term-most c (put_atom r a) (put_terms r ts) in
    with_term-small c (put_atom r a) (put_terms r ts) (omega (arith, h, least, most)) ∙ ap (λ z. is_small c && z) (put-small r ts (omega (arith, h, least, most)))

abbrev terms_of : LinearForm → LinearTerms
terms_of (Sum ts c) = ts

-- the image of a form under the second leads back to the form
abbrev pub LeadsBack : Put → Put → LinearForm → Type 0
LeadsBack r q f = put_form q (put_form r f) ≡ f

same-count : (r q : Put) (ts : LinearTerms) (c : ℤ) → LeadsBack r q (Sum ts c) → terms_in (put_terms r ts) ≡ terms_in ts
same-count r q ts c h =
    let back : terms_in (put_terms q (put_terms r ts)) ≡ terms_in ts = ap (λ z. terms_in (terms_of z)) h in
    omega (arith, back, put-most q (put_terms r ts), put-most r ts)

constant-image : (r q : Put) (f : LinearForm) → LeadsBack r q f → constant_in (put_form r f) ≡ constant_in f
constant-image r q (Sum NoTerms c) h = refl
constant-image r q (Sum (Term d a ts) c) h = none (put_terms r (Term d a ts)) (same-count r q (Term d a ts) c h)
  where
    none : (us : LinearTerms) → terms_in us ≡ terms_in ts + 1 → constant_in (Sum us c) ≡ None
    none NoTerms e = absurd (omega (arith, e))
    none (Term k b us) e = refl

-- ---- results side by side

-- where a part is found its image is, which leads back, and else both are refused by the same limit
abbrev Follows : {A : Type 0} → (A → A) → (A → A) → Result A FormRefusal → Result A FormRefusal → Type 0
Follows image back (Ok x) w = (w ≡ Ok (image x)) × (back (image x) ≡ x)
Follows image back (Err why) w = w ≡ Err why

follows-then : {A B : Type 0} (i j : A → A) (k l : B → B) (o w : Result A FormRefusal) (f g : A → Result B FormRefusal) → Follows i j o w
    → ((x : A) → j (i x) ≡ x → Follows k l (f x) (g (i x))) → Follows k l (and_then o f) (and_then w g)
follows-then {B = B} i j k l (Ok x) w f g h next =
    let P : Result B FormRefusal → Type 0 = Follows k l (f x) in
    subst P (sym (ap (λ z. and_then z g) h.0)) (next x h.1)
follows-then i j k l (Err why) w f g h next = ap (λ z. and_then z g) h

follows-same : {A : Type 0} (i j : A → A) (o w : Result A FormRefusal) → Follows i j o w → result_err w ≡ result_err o
follows-same i j (Ok x) w h = ap result_err h.0
follows-same i j (Err why) w h = ap result_err h

limited-follows : (r q : Put) (f g : LinearForm) → g ≡ put_form r f → LeadsBack r q f → Follows (put_form r) (put_form q) (limited f) (limited g)
limited-follows r q (Sum ts c) g e h =
    let count = same-count r q ts c h in
    let same : limited g ≡ cond (nat_lt 16 (terms_in ts)) (Err Terms) (cond (are_small ts && is_small c) (Ok (Sum (put_terms r ts) c)) (Err Coefficient)) =
    ap limited e ∙ ap₂ (λ n b. cond (nat_lt 16 n) (Err Terms) (cond (b && is_small c) (Ok (Sum (put_terms r ts) c)) (Err Coefficient))) count (put-small r ts count) in
    let P : Result LinearForm FormRefusal → Type 0 = Follows (put_form r) (put_form q) (limited (Sum ts c)) in
    subst P (sym same) (by (nat_lt 16 (terms_in ts)) (are_small ts && is_small c))
  where
    by : (b d : Bool) → Follows (put_form r) (put_form q) (cond b (Err Terms) (cond d (Ok (Sum ts c)) (Err Coefficient))) (cond b (Err Terms) (cond d (Ok (Sum (put_terms r ts) c)) (Err Coefficient)))
    by true d = refl
    by false true = (refl, h)
    by false false = refl

-- ---- the forms of operators

known-image : (r : Put) (o : Option (Result ℤ FaultKind)) (a : LinearAtom) → known_or o (put_atom r a) ≡ put_form r (known_or o a)
known-image r (Some (Ok z)) a = refl
known-image r (Some (Err kind)) a = refl
known-image r None a = refl

product-image : (r : Put) (o p : Option ℤ) (f g : LinearForm) → product o p (put_form r f) (put_form r g) ≡ put_form r (product o p f g)
product-image r (Some x) p f g = sym (scaled-image r x g)
product-image r None (Some y) f g = sym (scaled-image r y f)
product-image r None None f g = refl

joined-image : (r : Put) (op : Op2) (f g : LinearForm) → constant_in (put_form r f) ≡ constant_in f → constant_in (put_form r g) ≡ constant_in g
    → joined_form op (put_form r f) (put_form r g) ≡ put_form r (joined_form op f g)
joined-image r Add f g h k = sym (sum-image r f g)
joined-image r Sub f g h k = ap (sum_of (put_form r f)) (sym (scaled-image r minus_one g)) ∙ sym (sum-image r f (scaled minus_one g))
joined-image r Mul f g h k = ap₂ (λ o p. product o p (put_form r f) (put_form r g)) h k ∙ product-image r (constant_in f) (constant_in g) f g
joined-image r Div f g h k =
    ap₂ (λ o p. known_or (known_quotient o p) (QuotientOf (put_form r f) (put_form r g))) h k ∙ known-image r (known_quotient (constant_in f) (constant_in g)) (QuotientOf f g)

joined-back : (r q : Put) (op : Op2) (f g : LinearForm) → LeadsBack r q f → LeadsBack r q g → LeadsBack r q (joined_form op f g)
joined-back r q op f g h k =
    ap (put_form q) (sym (joined-image r op f g (constant-image r q f h) (constant-image r q g k)))
    ∙ sym (joined-image q op (put_form r f) (put_form r g) (ap constant_in h ∙ sym (constant-image r q f h)) (ap constant_in k ∙ sym (constant-image r q g k)))
    ∙ ap₂ (joined_form op) h k

abbrev first_or : LinearForm → LinearForms → LinearForm
first_or f NoForms = f
first_or f (Part g gs) = g

abbrev rest_of : LinearForms → LinearForms
rest_of NoForms = NoForms
rest_of (Part g gs) = gs

constants-image : (r q : Put) (fs : LinearForms) → put_forms q (put_forms r fs) ≡ fs → constants_in (put_forms r fs) ≡ constants_in fs
constants-image r q NoForms h = refl
constants-image r q (Part f fs) h = ap₂ paired (constant-image r q f (ap (first_or f) h)) (constants-image r q fs (ap rest_of h))

known-back : (r q : Put) (o : Option (Result ℤ FaultKind)) (a : LinearAtom) → put_atom q (put_atom r a) ≡ a → LeadsBack r q (known_or o a)
known-back r q (Some (Ok z)) a h = refl
known-back r q (Some (Err kind)) a h = ap single h
known-back r q None a h = ap single h

-- ---- the forms of expressions

-- the widened scalars become variables
abbrev pub widening : List ℕ → Put
widening bound = record { variable = Variable; scalar = λ s. scalar_atom (position (λ b. b == s) bound) s }

-- and back
abbrev pub narrowing : List ℕ → Put
narrowing bound = record { variable = λ i. ScalarOf (get_or bound i 0); scalar = ScalarOf }

scalar-back : (bound : List ℕ) (s : ℕ) → put_atom (narrowing bound) (scalar_atom (position (λ b. b == s) bound) s) ≡ ScalarOf s
scalar-back bound s = by (position (λ b. b == s) bound) refl
  where
    by : (o : Option ℕ) → position (λ b. b == s) bound ≡ o → put_atom (narrowing bound) (scalar_atom o s) ≡ ScalarOf s
    by None e = refl
    by (Some i) e =
        let p = position-Some (λ b. b == s) bound i 0 e in
        let q = p.1 in
        let same : get_or bound i 0 ≡ s = grind (arith, nat_tests) in
        ap ScalarOf same

mutual
  -- the form over widened scalars is the image of that without them
  form-follows : (bound : List ℕ) (e : Expression) → Follows (put_form (widening bound)) (put_form (narrowing bound)) (form_of_expression [] e) (form_of_expression bound e)
  form-follows bound (Number n) = limited-follows (widening bound) (narrowing bound) (constant n) (constant n) refl refl
  form-follows bound (Scalar s) = (refl, ap single (scalar-back bound s))
  form-follows bound (Element array subs site) =
      follows-then (put_forms (widening bound)) (put_forms (narrowing bound)) (put_form (widening bound)) (put_form (narrowing bound)) (forms_of_expressions [] subs) (forms_of_expressions bound subs)
      (λ fs. Ok (single (ElementOf array fs))) (λ fs. Ok (single (ElementOf array fs))) (forms-follow bound subs)
      (λ fs h. (refl, ap (λ z. single (ElementOf array z)) h))
  form-follows bound (Negated a) =
      let r = widening bound in let q = narrowing bound in
      follows-then (put_form r) (put_form q) (put_form r) (put_form q) (form_of_expression [] a) (form_of_expression bound a)
      (λ f. limited (scaled minus_one f)) (λ f. limited (scaled minus_one f)) (form-follows bound a)
      (λ f h. limited-follows r q (scaled minus_one f) (scaled minus_one (put_form r f)) (sym (scaled-image r minus_one f))
      (ap (put_form q) (scaled-image r minus_one f) ∙ scaled-image q minus_one (put_form r f) ∙ ap (scaled minus_one) h))
  form-follows bound (Joined op a b) =
      let r = widening bound in let q = narrowing bound in
      follows-then (put_form r) (put_form q) (put_form r) (put_form q) (form_of_expression [] a) (form_of_expression bound a)
      (λ f. and_then (form_of_expression [] b) (λ g. limited (joined_form op f g))) (λ f. and_then (form_of_expression bound b) (λ g. limited (joined_form op f g))) (form-follows bound a)
      (λ f h. follows-then (put_form r) (put_form q) (put_form r) (put_form q) (form_of_expression [] b) (form_of_expression bound b)
      (λ g. limited (joined_form op f g)) (λ g. limited (joined_form op (put_form r f) g)) (form-follows bound b)
      (λ g k. limited-follows r q (joined_form op f g) (joined_form op (put_form r f) (put_form r g))
      (joined-image r op f g (constant-image r q f h) (constant-image r q g k)) (joined-back r q op f g h k)))
  form-follows bound (Applied f args) =
      let r = widening bound in let q = narrowing bound in
      follows-then (put_forms r) (put_forms q) (put_form r) (put_form q) (forms_of_expressions [] args) (forms_of_expressions bound args)
      (λ fs. limited (known_or (option_map (applied f) (constants_in fs)) (FunctionOf f fs))) (λ fs. limited (known_or (option_map (applied f) (constants_in fs)) (FunctionOf f fs))) (forms-follow bound args)
      (λ fs h. limited-follows r q (known_or (option_map (applied f) (constants_in fs)) (FunctionOf f fs)) (known_or (option_map (applied f) (constants_in (put_forms r fs))) (FunctionOf f (put_forms r fs)))
      (ap (λ z. known_or (option_map (applied f) z) (FunctionOf f (put_forms r fs))) (constants-image r q fs h) ∙ known-image r (option_map (applied f) (constants_in fs)) (FunctionOf f fs))
      (known-back r q (option_map (applied f) (constants_in fs)) (FunctionOf f fs) (ap (FunctionOf f) h)))

  forms-follow : (bound : List ℕ) (es : Expressions) → Follows (put_forms (widening bound)) (put_forms (narrowing bound)) (forms_of_expressions [] es) (forms_of_expressions bound es)
  forms-follow bound End = (refl, refl)
  forms-follow bound (More e es) =
      let r = widening bound in let q = narrowing bound in
      follows-then (put_form r) (put_form q) (put_forms r) (put_forms q) (form_of_expression [] e) (form_of_expression bound e)
      (λ f. and_then (forms_of_expressions [] es) (λ fs. Ok (Part f fs))) (λ f. and_then (forms_of_expressions bound es) (λ fs. Ok (Part f fs))) (form-follows bound e)
      (λ f h. follows-then (put_forms r) (put_forms q) (put_forms r) (put_forms q) (forms_of_expressions [] es) (forms_of_expressions bound es)
      (λ fs. Ok (Part f fs)) (λ fs. Ok (Part (put_form r f) fs)) (forms-follow bound es)
      (λ fs k. (refl, ap₂ Part h k)))

-- the form of an expression that has one without widened scalars
pub form-image : (bound : List ℕ) (e : Expression) (f : LinearForm) → form_of_expression [] e ≡ Ok f → (form_of_expression bound e ≡ Ok (put_form (widening bound) f)) × LeadsBack (widening bound) (narrowing bound) f
form-image bound e f h = let P : Result LinearForm FormRefusal → Type 0 = λ o. Follows (put_form (widening bound)) (put_form (narrowing bound)) o (form_of_expression bound e) in subst P h (form-follows bound e)

-- and the forms of expressions
pub forms-image : (bound : List ℕ) (es : Expressions) (fs : LinearForms) → forms_of_expressions [] es ≡ Ok fs → forms_of_expressions bound es ≡ Ok (put_forms (widening bound) fs)
forms-image bound es fs h =
    let P : Result LinearForms FormRefusal → Type 0 = λ o. Follows (put_forms (widening bound)) (put_forms (narrowing bound)) o (forms_of_expressions bound es) in
    let q = subst P h (forms-follow bound es) in q.0

-- an expression that has a form over widened scalars has one without them
pub forms-plain : (bound : List ℕ) (es : Expressions) (gs : LinearForms) → forms_of_expressions bound es ≡ Ok gs → (fs : LinearForms) × (forms_of_expressions [] es ≡ Ok fs) × (gs ≡ put_forms (widening bound) fs)
forms-plain bound es gs h = by (forms_of_expressions [] es) refl (forms-follow bound es)
  where
    by : (o : Result LinearForms FormRefusal) → forms_of_expressions [] es ≡ o → Follows (put_forms (widening bound)) (put_forms (narrowing bound)) o (forms_of_expressions bound es) → (fs : LinearForms) × (forms_of_expressions [] es ≡ Ok fs) × (gs ≡ put_forms (widening bound) fs)
    by (Ok fs) e k = let q = k.0 in (fs, e, cc)
    by (Err why) e k = absurd (cc)

-- ---- locations

along-image : (r : Put) (along : Along) (low : ℤ) (fs : LinearForms) → subscript_along along low (put_forms r fs) ≡ put_form r (subscript_along along low fs)
along-image r (Fixed position) low fs = refl
along-image r (Dim dim shift) low fs = plus (form_at (put_forms r fs) dim) (form_at fs dim) (at fs dim)
  where
    at : (gs : LinearForms) (k : ℕ) → form_at (put_forms r gs) k ≡ put_form r (form_at gs k)
    at NoForms k = refl
    at (Part g gs) zero = refl
    at (Part g gs) (suc k) = at gs k

    shifted : (f : LinearForm) (z : ℤ) → plus_number (put_form r f) z ≡ put_form r (plus_number f z)
    shifted (Sum ts c) z = refl

    plus : (g f : LinearForm) → g ≡ put_form r f → plus_number g (shift +ℤ low) ≡ put_form r (plus_number f (shift +ℤ low))
    plus g f e = ap (λ h. plus_number h (shift +ℤ low)) e ∙ shifted f (shift +ℤ low)

-- where a home or a reference lies with atoms put in place of others
abbrev pub put_location : Put → Location → Location
put_location r l = record { decomp = l.decomp; form = put_form r l.form }

location-image : (r : Put) (d : Distribution) (fs : LinearForms) → location_of d (put_forms r fs) ≡ put_location r (location_of d fs)
location-image r d fs = ap (λ f. record { decomp = d.decomp; form = f }) (along-image r d.along d.low fs)

abbrev pub put_home : Put → Executor → Executor
put_home r EveryRank = EveryRank
put_home r RankZero = RankZero
put_home r (OwnerOf l) = OwnerOf (put_location r l)

element-image : (o : Option Distribution) (bound : List ℕ) (subs : Expressions) (home widened : Executor) → element_home o [] subs ≡ Ok home → element_home o bound subs ≡ Ok widened → widened ≡ put_home (widening bound) home
element-image None bound subs home widened h k = let e : EveryRank ≡ home = cc in let f : EveryRank ≡ widened = cc in sym f ∙ ap (put_home (widening bound)) e
element-image (Some d) bound subs home widened h k =
    let r = widening bound in
    let p = and_then-ok (forms_of_expressions [] subs) (λ fs. Ok (OwnerOf (location_of d fs))) home h in
    let q = and_then-ok (forms_of_expressions bound subs) (λ fs. Ok (OwnerOf (location_of d fs))) widened k in
    let image = forms-image bound subs p.0 p.1 in
    let e : OwnerOf (location_of d p.0) ≡ home = cc in
    let f : OwnerOf (location_of d q.0) ≡ widened = cc in
    let same : put_forms r p.0 ≡ q.0 = cc in
    sym f ∙ ap (λ gs. OwnerOf (location_of d gs)) (sym same) ∙ ap OwnerOf (location-image r d p.0) ∙ ap (put_home r) e

target-image : (p : CheckedProgram) (bound : List ℕ) (target : Target) (home widened : Executor) → target_home p [] target ≡ Ok home → target_home p bound target ≡ Ok widened → widened ≡ put_home (widening bound) home
target-image p bound (ToScalar s) home widened h k = let e : EveryRank ≡ home = cc in let f : EveryRank ≡ widened = cc in sym f ∙ ap (put_home (widening bound)) e
target-image p bound (ToElement array subs site) home widened h k = element-image (distribution_at p array) bound subs home widened h k

abbrev told : Executor → Result Executor FormRefusal
told who = Ok who

plain-image : (bound : List ℕ) (who home widened : Executor) → who ≡ put_home (widening bound) who → told who ≡ Ok home → told who ≡ Ok widened → widened ≡ put_home (widening bound) home
plain-image bound who home widened h e f = let a : who ≡ home = cc in let b : who ≡ widened = cc in sym b ∙ h ∙ ap (put_home (widening bound)) a

-- who executes a statement over widened scalars
pub home-image : (p : CheckedProgram) (bound : List ℕ) (s : Statement) (home widened : Executor) → home_of_statement p [] s ≡ Ok home → home_of_statement p bound s ≡ Ok widened → widened ≡ put_home (widening bound) home
home-image p bound (Assign line target e) home widened h k = target-image p bound target home widened h k
home-image p bound (If line c so otherwise) home widened h k = plain-image bound EveryRank home widened refl h k
home-image p bound (Do line var first last by body) home widened h k = plain-image bound EveryRank home widened refl h k
home-image p bound (While line c body) home widened h k = plain-image bound EveryRank home widened refl h k
home-image p bound (Read line target) home widened h k = target-image p bound target home widened h k
home-image p bound (Print line items) home widened h k = plain-image bound RankZero home widened refl h k
home-image p bound (Continue line) home widened h k = plain-image bound EveryRank home widened refl h k
home-image p bound (Distribute line decomp given) home widened h k = plain-image bound EveryRank home widened refl h k

-- ---- local references

-- each form is as great as itself
form-equal : (f : LinearForm) → form_order f f ≡ Equal
form-equal f = by (form_order f f) (atom_order_total.antisymm (ProductOf f f) (ProductOf f f))
  where
    by : (o : Ordering) → ordering_then o o ≡ ordering_reverse (ordering_then o o) → o ≡ Equal
    by Less h = absurd (cc)
    by Equal h = refl
    by Greater h = absurd (cc)

location-equal : (l : Location) → is_eq (location_order l l) ≡ true
location-equal l = ap (λ o. is_eq (ordering_then (nat_cmp l.decomp l.decomp) o)) (form-equal l.form) ∙ ap (λ o. is_eq (ordering_then o Equal)) (sym (nat_cmp_is l.decomp l.decomp Equal refl))

-- a local reference stays local where scalars are widened
pub stays-local : (p : CheckedProgram) (s : Statement) (d : Distribution) (subs : Expressions) (bound : List ℕ) (fs gs : LinearForms) (home widened : Executor)
    → home_of_statement p [] s ≡ Ok home → home_of_statement p bound s ≡ Ok widened → forms_of_expressions [] subs ≡ Ok fs → forms_of_expressions bound subs ≡ Ok gs → is_local d fs home ≡ true → is_local d gs widened ≡ true
stays-local p s d subs bound fs gs home widened h k e f local =
    let r = widening bound in
    let image = forms-image bound subs fs e in
    let same : put_forms r fs ≡ gs = cc in
    let owner : home ≡ OwnerOf (location_of d fs) = local-home d fs home local in
    let away : widened ≡ OwnerOf (location_of d gs) = home-image p bound s home widened h k ∙ ap (put_home r) owner ∙ ap OwnerOf (sym (location-image r d fs) ∙ ap (location_of d) same) in
    ap (is_local d gs) away ∙ location-equal (location_of d gs)
