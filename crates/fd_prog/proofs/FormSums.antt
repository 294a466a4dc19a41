-- The terms of every form are in the order of their atoms, and equal sums have equal terms.
use Rattle.std.proofs.Common.{◌≡◌, refl, sym, ◌∙◌, ap, arith, subst, ℕ, ℤ, pos, ◌+ℤ◌, ◌*ℤ◌, Bool, true, false, cond, List, Option, Some, None, option_map, Result, Ok, Err, ◌==◌}
use Rattle.std.specs.List.{position}
use Rattle.std.specs.Ordering.{is_eq, ordering_reverse}
use Rattle.std.specs.declared.cmp.Ordering.{Ordering}
use Rattle.std.specs.declared.cmp.Ordering.TheVariants.{Less, Equal, Greater}
use Rattle.std.proofs.Math.IntN.{*ℤ-zero}
use Rattle.std.proofs.lemmas.Cmp.{tied_itself}
use Rattle.std.proofs.lemmas.Int.{ints}
use Rattle.fd_base.specs.Numbers.{is_zero}
use Rattle.fd_base.specs.declared.numbers.FaultKind.{FaultKind}
use Rattle.std.specs.Prelude.{IfOk}
use Rattle.fd_prog.specs.declared.expression.Op2.{Op2}
use Rattle.fd_prog.specs.declared.expression.Op2.TheVariants.{Add, Sub, Mul, Div}
use Rattle.fd_prog.specs.declared.form.Form.{Form}
use Rattle.fd_prog.specs.declared.form.FormRefusal.{FormRefusal}
use Rattle.fd_prog.specs.Outcomes.{and_then}
use Rattle.fd_prog.specs.Expressions.{Expression, Number, Scalar, Element, Negated, Joined, Applied}
use Rattle.fd_prog.specs.Values.{applied}
use Rattle.fd_prog.specs.Forms.{LinearAtom, FunctionOf, ElementOf, ProductOf, QuotientOf, LinearForm, Sum, LinearTerms, NoTerms, Term, atom_order, linear_form_of}
use Rattle.fd_prog.specs.FormOf.{kept, joined_term, with_term, sum_of_terms, scaled_terms, sum_of, scaled, minus_one, constant, single, constant_in, constants_in, product, known_or, known_quotient, joined_form, scalar_atom, limited, form_of_expression, forms_of_expressions}
use Rattle.fd_prog.specs.FormSums.{coefficient, IsBefore, AreOrdered, IsOrdered}
use Rattle.fd_prog.proofs.FormOrders.{atom_same}
use Rattle.fd_prog.proofs.FormValues.{zero_is, limited-ok}
use Rattle.fd_prog.proofs.Integers.{zero_plus, distributed_left}
use Rattle.fd_prog.proofs.Runs.{and_then-ok}
use Rattle.fd_prog.proofs.TotalOrder.{atom_order_total}

-- ---- the order of terms

before_rest : (a b : LinearAtom) (ts : LinearTerms) → atom_order a b ≡ Less → IsBefore b ts → IsBefore a ts
before_rest a b NoTerms h k = tt
before_rest a b (Term c e ts) h k = atom_order_total.trans a b e h k

kept-before : (a : LinearAtom) (c : ℤ) (b : LinearAtom) (ts : LinearTerms) → atom_order a b ≡ Less → IsBefore a ts → IsBefore a (kept c b ts)
kept-before a c b ts h k = by (is_zero c)
  where
    by : (t : Bool) → IsBefore a (cond t ts (Term c b ts))
    by true = k
    by false = h

kept-ordered : (c : ℤ) (b : LinearAtom) (ts : LinearTerms) → IsBefore b ts → AreOrdered ts → AreOrdered (kept c b ts)
kept-ordered c b ts h k = by (is_zero c) refl
  where
    by : (t : Bool) → is_zero c ≡ t → AreOrdered (cond t ts (Term c b ts))
    by true e = k
    by false e = (e, h, k)

with_term-before : (a : LinearAtom) (c : ℤ) (b : LinearAtom) (ts : LinearTerms) → atom_order a b ≡ Less → IsBefore a ts → AreOrdered ts → IsBefore a (with_term c b ts)
with_term-before a c b NoTerms h k o = kept-before a c b NoTerms h tt
with_term-before a c b (Term d e ts) h k o = by (atom_order b e)
  where
    by : (r : Ordering) → IsBefore a (joined_term r c b d e ts (with_term c b ts))
    by Less = kept-before a c b (Term d e ts) h k
    by Equal = kept-before a (c +ℤ d) e ts k (before_rest a e ts k o.1)
    by Greater = k

pub with_term-ordered : (c : ℤ) (b : LinearAtom) (ts : LinearTerms) → AreOrdered ts → AreOrdered (with_term c b ts)
with_term-ordered c b NoTerms o = kept-ordered c b NoTerms tt tt
with_term-ordered c b (Term d e ts) o = by (with_term-ordered c b ts o.2) (atom_order b e) refl
  where
    by : AreOrdered (with_term c b ts) → (r : Ordering) → atom_order b e ≡ r → AreOrdered (joined_term r c b d e ts (with_term c b ts))
    by rest Less h = kept-ordered c b (Term d e ts) h o
    by rest Equal h = kept-ordered (c +ℤ d) e ts o.1 o.2
    by rest Greater h = (o.0, with_term-before e c b ts (atom_order_total.antisymm e b ∙ ap ordering_reverse h) o.1 o.2, rest)

pub sum-ordered : (ts us : LinearTerms) → AreOrdered us → AreOrdered (sum_of_terms ts us)
sum-ordered NoTerms us o = o
sum-ordered (Term c a ts) us o = with_term-ordered c a (sum_of_terms ts us) (sum-ordered ts us o)

scaled-before : (a : LinearAtom) (k : ℤ) (ts : LinearTerms) → IsBefore a ts → AreOrdered ts → IsBefore a (scaled_terms k ts)
scaled-before a k NoTerms h o = tt
scaled-before a k (Term c b ts) h o = kept-before a (k *ℤ c) b (scaled_terms k ts) h (scaled-before a k ts (before_rest a b ts h o.1) o.2)

pub scaled-ordered : (k : ℤ) (ts : LinearTerms) → AreOrdered ts → AreOrdered (scaled_terms k ts)
scaled-ordered k NoTerms o = tt
scaled-ordered k (Term c b ts) o = kept-ordered (k *ℤ c) b (scaled_terms k ts) (scaled-before b k ts o.1 o.2) (scaled-ordered k ts o.2)

sum_of-ordered : (f g : LinearForm) → IsOrdered g → IsOrdered (sum_of f g)
sum_of-ordered (Sum ts c) (Sum us d) o = sum-ordered ts us o

scaled_form-ordered : (k : ℤ) (f : LinearForm) → IsOrdered f → IsOrdered (scaled k f)
scaled_form-ordered k (Sum ts c) o = scaled-ordered k ts o

single-ordered : (a : LinearAtom) → IsOrdered (single a)
single-ordered a = (refl, tt, tt)

known-ordered : (q : Option (Result ℤ FaultKind)) (a : LinearAtom) → IsOrdered (known_or q a)
known-ordered (Some (Ok z)) a = tt
known-ordered (Some (Err kind)) a = single-ordered a
known-ordered None a = single-ordered a

product-ordered : (o p : Option ℤ) (f g : LinearForm) → IsOrdered f → IsOrdered g → IsOrdered (product o p f g)
product-ordered (Some x) p f g h k = scaled_form-ordered x g k
product-ordered None (Some y) f g h k = scaled_form-ordered y f h
product-ordered None None f g h k = single-ordered (ProductOf f g)

joined-ordered : (op : Op2) (f g : LinearForm) → IsOrdered f → IsOrdered g → IsOrdered (joined_form op f g)
joined-ordered Add f g h k = sum_of-ordered f g k
joined-ordered Sub f g h k = sum_of-ordered f (scaled minus_one g) (scaled_form-ordered minus_one g k)
joined-ordered Mul f g h k = product-ordered (constant_in f) (constant_in g) f g h k
joined-ordered Div f g h k = known-ordered (known_quotient (constant_in f) (constant_in g)) (QuotientOf f g)

limited-ordered : (f g : LinearForm) → limited f ≡ Ok g → IsOrdered f → IsOrdered g
limited-ordered f g e o = let P : LinearForm → Type 0 = IsOrdered in subst P (sym (limited-ok f g e)) o

-- the terms of the form of every expression are in order
pub form-ordered : (bound : List ℕ) (e : Expression) (f : LinearForm) → form_of_expression bound e ≡ Ok f → IsOrdered f
form-ordered bound (Number n) f h = limited-ordered (constant n) f h tt
form-ordered bound (Scalar s) f h =
    let same : single (scalar_atom (position (λ b. b == s) bound) s) ≡ f = cc in
    let P : LinearForm → Type 0 = IsOrdered in
    subst P same (single-ordered (scalar_atom (position (λ b. b == s) bound) s))
form-ordered bound (Element array subs site) f h =
    let p = and_then-ok (forms_of_expressions bound subs) (λ fs. Ok (single (ElementOf array fs))) f h in
    let same : single (ElementOf array p.0) ≡ f = cc in
    let P : LinearForm → Type 0 = IsOrdered in
    subst P same (single-ordered (ElementOf array p.0))
form-ordered bound (Negated a) f h =
    let p = and_then-ok (form_of_expression bound a) (λ g. limited (scaled minus_one g)) f h in
    limited-ordered (scaled minus_one p.0) f p.2 (scaled_form-ordered minus_one p.0 (form-ordered bound a p.0 p.1))
form-ordered bound (Joined op a b) f h =
    let p = and_then-ok (form_of_expression bound a) (λ g. and_then (form_of_expression bound b) (λ k. limited (joined_form op g k))) f h in
    let q = and_then-ok (form_of_expression bound b) (λ k. limited (joined_form op p.0 k)) f p.2 in
    limited-ordered (joined_form op p.0 q.0) f q.2 (joined-ordered op p.0 q.0 (form-ordered bound a p.0 p.1) (form-ordered bound b q.0 q.1))
form-ordered bound (Applied g args) f h =
    let p = and_then-ok (forms_of_expressions bound args) (λ fs. limited (known_or (option_map (applied g) (constants_in fs)) (FunctionOf g fs))) f h in
    limited-ordered (known_or (option_map (applied g) (constants_in p.0)) (FunctionOf g p.0)) f p.2 (known-ordered (option_map (applied g) (constants_in p.0)) (FunctionOf g p.0))

-- ---- equal sums

-- an atom before all terms is in none of them
none-before : (a : LinearAtom) (ts : LinearTerms) → IsBefore a ts → AreOrdered ts → coefficient a ts ≡ pos 0
none-before a NoTerms h o = refl
none-before a (Term c b ts) h o = rw (h, none-before a ts (before_rest a b ts h o.1) o.2) refl

first-coefficient : (c : ℤ) (a : LinearAtom) (ts : LinearTerms) → AreOrdered (Term c a ts) → coefficient a (Term c a ts) ≡ c
first-coefficient c a ts o = rw (tied_itself atom_order_total a, none-before a ts o.1 o.2) (plain c)
  where
    plain : (c : ℤ) → c +ℤ pos 0 ≡ c
    plain c = omega (arith, ints)

not_zero : (c : ℤ) → is_zero c ≡ false → c ≡ pos 0 → ⊥
not_zero c h e = let same : is_zero (pos 0) ≡ false = ap is_zero (sym e) ∙ h in cc

rest-coefficient : (a : LinearAtom) (c : ℤ) (b : LinearAtom) (ts us : LinearTerms) → coefficient a (Term c b ts) ≡ coefficient a (Term c b us) → coefficient a ts ≡ coefficient a us
rest-coefficient a c b ts us h = by (cond (is_eq (atom_order a b)) c (pos 0)) (coefficient a ts) (coefficient a us) h
  where
    by : (x y z : ℤ) → x +ℤ y ≡ x +ℤ z → y ≡ z
    by x y z e = omega (arith, ints)

-- terms in order that have each atom equally often are equal
pub terms-equal : (ts us : LinearTerms) → AreOrdered ts → AreOrdered us → ((a : LinearAtom) → coefficient a ts ≡ coefficient a us) → ts ≡ us
terms-equal NoTerms NoTerms o p h = refl
terms-equal NoTerms (Term d b us) o p h = absurd (not_zero d p.0 (sym (first-coefficient d b us p) ∙ sym (h b)))
terms-equal (Term c a ts) NoTerms o p h = absurd (not_zero c o.0 (sym (first-coefficient c a ts o) ∙ h a))
terms-equal (Term c a ts) (Term d b us) o p h = by (λ k. terms-equal ts us o.2 p.2 k) (atom_order a b) refl
  where
    by : (((x : LinearAtom) → coefficient x ts ≡ coefficient x us) → ts ≡ us) → (r : Ordering) → atom_order a b ≡ r → Term c a ts ≡ Term d b us
    by rest Less e = absurd (not_zero c o.0 (sym (first-coefficient c a ts o) ∙ h a ∙ none-before a (Term d b us) e p))
    by rest Greater e =
        let back : atom_order b a ≡ Less = atom_order_total.antisymm b a ∙ ap ordering_reverse e in
        absurd (not_zero d p.0 (sym (first-coefficient d b us p) ∙ sym (h b) ∙ none-before b (Term c a ts) back o))
    by rest Equal e =
        let atom : a ≡ b = atom_same a b e in
        let number : c ≡ d = sym (first-coefficient c a ts o) ∙ h a ∙ ap (λ z. coefficient z (Term d b us)) atom ∙ first-coefficient d b us p in
        let head : Term c a us ≡ Term d b us = cc in
        let others = rest (λ x. rest-coefficient x c a ts us (h x ∙ ap (coefficient x) (sym head))) in
        cc

-- ---- how often an atom is in sums and multiples

-- a coefficient of its atom, and 0 of another
abbrev pub picked : Bool → ℤ → ℤ
picked b c = cond b c (pos 0)

kept-coefficient : (x : LinearAtom) (c : ℤ) (a : LinearAtom) (ts : LinearTerms) → coefficient x (kept c a ts) ≡ picked (is_eq (atom_order x a)) c +ℤ coefficient x ts
kept-coefficient x c a ts = by (is_zero c) refl
  where
    nothing : (b : Bool) (y : ℤ) → y ≡ picked b (pos 0) +ℤ y
    nothing true y = sym (zero_plus y)
    nothing false y = sym (zero_plus y)

    by : (t : Bool) → is_zero c ≡ t → coefficient x (cond t ts (Term c a ts)) ≡ picked (is_eq (atom_order x a)) c +ℤ coefficient x ts
    by true e = nothing (is_eq (atom_order x a)) (coefficient x ts) ∙ ap (λ z. picked (is_eq (atom_order x a)) z +ℤ coefficient x ts) (sym (zero_is c e))
    by false e = refl

pub with_term-coefficient : (x : LinearAtom) (c : ℤ) (a : LinearAtom) (ts : LinearTerms) → coefficient x (with_term c a ts) ≡ picked (is_eq (atom_order x a)) c +ℤ coefficient x ts
with_term-coefficient x c a NoTerms = kept-coefficient x c a NoTerms
with_term-coefficient x c a (Term d b ts) = by (with_term-coefficient x c a ts) (atom_order a b) refl
  where
    both : (t : Bool) (y : ℤ) → picked t (c +ℤ d) +ℤ y ≡ picked t c +ℤ (picked t d +ℤ y)
    both true y = omega (arith, ints)
    both false y = omega (arith, ints)

    swapped : (p q y w : ℤ) → w ≡ p +ℤ y → q +ℤ w ≡ p +ℤ (q +ℤ y)
    swapped p q y w e = omega (arith, ints)

    by : coefficient x (with_term c a ts) ≡ picked (is_eq (atom_order x a)) c +ℤ coefficient x ts → (r : Ordering) → atom_order a b ≡ r
        → coefficient x (joined_term r c a d b ts (with_term c a ts)) ≡ picked (is_eq (atom_order x a)) c +ℤ coefficient x (Term d b ts)
    by rest Less e = kept-coefficient x c a (Term d b ts)
    by rest Equal e =
        kept-coefficient x (c +ℤ d) b ts ∙ both (is_eq (atom_order x b)) (coefficient x ts)
        ∙ ap (λ z. picked (is_eq (atom_order x z)) c +ℤ coefficient x (Term d b ts)) (sym (atom_same a b e))
    by rest Greater e = swapped (picked (is_eq (atom_order x a)) c) (picked (is_eq (atom_order x b)) d) (coefficient x ts) (coefficient x (with_term c a ts)) rest

-- an atom is in a sum as often as in both
pub sum-coefficient : (x : LinearAtom) (ts us : LinearTerms) → coefficient x (sum_of_terms ts us) ≡ coefficient x ts +ℤ coefficient x us
sum-coefficient x NoTerms us = sym (zero_plus (coefficient x us))
sum-coefficient x (Term c a ts) us =
    with_term-coefficient x c a (sum_of_terms ts us) ∙ ap (λ z. picked (is_eq (atom_order x a)) c +ℤ z) (sum-coefficient x ts us)
    ∙ grouped (picked (is_eq (atom_order x a)) c) (coefficient x ts) (coefficient x us)
  where
    grouped : (p q w : ℤ) → p +ℤ (q +ℤ w) ≡ p +ℤ q +ℤ w
    grouped p q w = omega (arith, ints)

-- an atom is in a multiple that many times as often
pub scaled-coefficient : (x : LinearAtom) (k : ℤ) (ts : LinearTerms) → coefficient x (scaled_terms k ts) ≡ k *ℤ coefficient x ts
scaled-coefficient x k NoTerms = sym (*ℤ-zero k)
scaled-coefficient x k (Term c a ts) =
    kept-coefficient x (k *ℤ c) a (scaled_terms k ts) ∙ ap (λ z. picked (is_eq (atom_order x a)) (k *ℤ c) +ℤ z) (scaled-coefficient x k ts)
    ∙ ap (λ z. z +ℤ k *ℤ coefficient x ts) (times (is_eq (atom_order x a))) ∙ sym (distributed_left k (picked (is_eq (atom_order x a)) c) (coefficient x ts))
  where
    times : (b : Bool) → picked b (k *ℤ c) ≡ k *ℤ picked b c
    times true = refl
    times false = sym (*ℤ-zero k)

-- the same of a form that is found
pub ordered-found : (bound : List ℕ) (e : Expression) (o : Result Form FormRefusal) → IfOk o (λ f. form_of_expression bound e ≡ Ok (linear_form_of f)) → IfOk o (λ f. IsOrdered (linear_form_of f))
ordered-found bound e (Ok f) found = form-ordered bound e (linear_form_of f) found
ordered-found bound e (Err why) found = found
