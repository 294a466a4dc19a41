-- The value of a form is that of its expression.
use Rattle.std.proofs.Common.{◌≡◌, IfOk, refl, sym, ◌∙◌, ap, arith, ℕ, ◌^◌, ◌<◌, ◌≤◌, subst, ◌-ℤ◌, ℤ, pos, negsuc, ◌+ℤ◌, ◌*ℤ◌, neg_ℤ, Bool, true, false, cond, List, [], ◌∷◌, map, fold, get_or, nat_lt, ◌==◌, unsigned_abs, int_lt, int_div, int_rem, Option, Some, None, option_map, Result, Ok, Err, ◌&&◌}
use Rattle.std.specs.Int.{int_min, int_max}
use Rattle.std.specs.List.{position}
use Rattle.std.specs.declared.cmp.Ordering.{Ordering}
use Rattle.std.specs.declared.cmp.Ordering.TheVariants.{Less, Equal, Greater}
use Rattle.std.proofs.Math.IntN.{zero-*ℤ, *ℤ-zero, *ℤ_comm}
use Rattle.std.proofs.lemmas.Bool.Decides.{nat_tests}
use Rattle.std.proofs.lemmas.Int.{ints, rem_below}
use Rattle.std.proofs.lemmas.List.{get_or-map}
use Rattle.std.proofs.lemmas.List.Quantifiers.{position-Some}
use Rattle.fd_base.specs.declared.numbers.FaultKind.{FaultKind}
use Rattle.fd_base.specs.declared.numbers.FaultKind.TheVariants.{Overflow, ZeroDivide}
use Rattle.fd_base.specs.Numbers.{fits_i64, exact, exact_quotient, exact_remainder, is_zero}
use Rattle.fd_base.proofs.Quotients.{remainder_is}
use Rattle.fd_prog.specs.declared.expression.Func.{Func}
use Rattle.fd_prog.specs.declared.expression.Func.TheVariants.{Mod, Abs, Min, Max}
use Rattle.fd_prog.specs.declared.expression.Op2.{Op2}
use Rattle.fd_prog.specs.declared.expression.Op2.TheVariants.{Add, Sub, Mul, Div}
use Rattle.fd_prog.specs.declared.form.FormRefusal.TheVariants.{Terms, Coefficient}
use Rattle.fd_prog.specs.declared.form.Form.{Form}
use Rattle.fd_prog.specs.declared.form.FormRefusal.{FormRefusal}
use Rattle.fd_prog.specs.Outcomes.{and_then}
use Rattle.fd_prog.specs.Expressions.{Expression, Number, Scalar, Element, Negated, Joined, Applied, Expressions, End, More}
use Rattle.fd_base.specs.Shapes.{ordinal_of}
use Rattle.fd_prog.specs.Values.{Readings, first, second, element_value, value_of, values_of, joined, applied}
use Rattle.fd_prog.specs.Forms.{linear_form_of, LinearAtom, ElementOf, FunctionOf, ProductOf, QuotientOf, LinearForm, Sum, LinearTerms, NoTerms, Term, LinearForms, NoForms, Part, terms_in, atom_order}
use Rattle.fd_prog.specs.FormOf.{kept, joined_term, with_term, sum_of_terms, scaled_terms, sum_of, scaled, minus_one, constant, single, constant_in, constants_in, paired, product, known_or, known_quotient, joined_form, scalar_atom, are_small, is_small, limited, form_of_expression, forms_of_expressions}
use Rattle.fd_prog.specs.FormValues.{IsOneNumber, AreWords, form_value, atom_value, terms_value, part_values}
use Rattle.fd_prog.proofs.Integers.{regrouped, distributed, distributed_left, zero_plus, minus_once, once}
use Rattle.fd_prog.proofs.FormOrders.{atom_same}
use Rattle.fd_prog.proofs.Runs.{and_then-ok}

-- ---- terms

pub zero_is : (c : ℤ) → is_zero c ≡ true → c ≡ pos 0
zero_is (pos n) h = ap pos (grind (arith, nat_tests))
zero_is (negsuc n) h = absurd (cc)

no_times : (c x y : ℤ) → c ≡ pos 0 → y ≡ c *ℤ x +ℤ y
no_times c x y e = sym (ap (λ z. z *ℤ x +ℤ y) e ∙ ap (λ z. z +ℤ y) (zero-*ℤ x) ∙ zero_plus y)

kept-value : (r : Readings) (vs : List ℤ) (c : ℤ) (a : LinearAtom) (ts : LinearTerms) (x y : ℤ) → atom_value r vs a ≡ Ok x → terms_value r vs ts ≡ Ok y
    → terms_value r vs (kept c a ts) ≡ Ok (c *ℤ x +ℤ y)
kept-value r vs c a ts x y ea et = by (is_zero c) refl
  where
    by : (b : Bool) → is_zero c ≡ b → terms_value r vs (cond b ts (Term c a ts)) ≡ Ok (c *ℤ x +ℤ y)
    by true h = et ∙ ap Ok (no_times c x y (zero_is c h))
    by false h = rw (ea, et) refl

collected : (c d x y : ℤ) (w : ℤ) → d *ℤ x +ℤ y ≡ w → (c +ℤ d) *ℤ x +ℤ y ≡ c *ℤ x +ℤ w
collected c d x y w e = ap (λ z. z +ℤ y) (distributed c d x) ∙ moved (c *ℤ x) (d *ℤ x) y w e
  where
    moved : (p q y w : ℤ) → q +ℤ y ≡ w → p +ℤ q +ℤ y ≡ p +ℤ w
    moved p q y w e = omega (arith, ints)

swapped : (p q y w : ℤ) → q +ℤ y ≡ w → q +ℤ (p +ℤ y) ≡ p +ℤ w
swapped p q y w e = omega (arith, ints)

with_term-value : (r : Readings) (vs : List ℤ) (c : ℤ) (a : LinearAtom) (ts : LinearTerms) (x y : ℤ) → atom_value r vs a ≡ Ok x → terms_value r vs ts ≡ Ok y
    → terms_value r vs (with_term c a ts) ≡ Ok (c *ℤ x +ℤ y)
with_term-value r vs c a NoTerms x y ea et = kept-value r vs c a NoTerms x y ea et
with_term-value r vs c a (Term d b ts) x y ea et =
    let p = and_then-ok (atom_value r vs b) (λ z. and_then (terms_value r vs ts) (λ t. Ok (d *ℤ z +ℤ t))) y et in
    let q = and_then-ok (terms_value r vs ts) (λ t. Ok (d *ℤ p.0 +ℤ t)) y p.2 in
    let sum : d *ℤ p.0 +ℤ q.0 ≡ y = cc in
    by (atom_order a b) refl p.0 q.0 p.1 q.1 sum (with_term-value r vs c a ts x q.0 ea q.1)
  where
    by : (o : Ordering) → atom_order a b ≡ o → (z t : ℤ) → atom_value r vs b ≡ Ok z → terms_value r vs ts ≡ Ok t → d *ℤ z +ℤ t ≡ y
        → terms_value r vs (with_term c a ts) ≡ Ok (c *ℤ x +ℤ t) → terms_value r vs (joined_term o c a d b ts (with_term c a ts)) ≡ Ok (c *ℤ x +ℤ y)
    by Less h z t eb es sum rest = kept-value r vs c a (Term d b ts) x y ea et
    by Equal h z t eb es sum rest =
        let one : a ≡ b = atom_same a b h in
        let same : x ≡ z = cc in
        kept-value r vs (c +ℤ d) b ts z t eb es ∙ ap Ok (collected c d z t y sum) ∙ ap (λ k. Ok (c *ℤ k +ℤ y)) (sym same)
    by Greater h z t eb es sum rest = rw (eb, rest) (ap Ok (swapped (c *ℤ x) (d *ℤ z) t y sum))

sum-value : (r : Readings) (vs : List ℤ) (ts us : LinearTerms) (x y : ℤ) → terms_value r vs ts ≡ Ok x → terms_value r vs us ≡ Ok y → terms_value r vs (sum_of_terms ts us) ≡ Ok (x +ℤ y)
sum-value r vs NoTerms us x y et eu = let zero : pos 0 ≡ x = cc in eu ∙ ap Ok (sym (zero_plus y)) ∙ ap (λ z. Ok (z +ℤ y)) zero
sum-value r vs (Term c a ts) us x y et eu =
    let p = and_then-ok (atom_value r vs a) (λ z. and_then (terms_value r vs ts) (λ t. Ok (c *ℤ z +ℤ t))) x et in
    let q = and_then-ok (terms_value r vs ts) (λ t. Ok (c *ℤ p.0 +ℤ t)) x p.2 in
    let sum : c *ℤ p.0 +ℤ q.0 ≡ x = cc in
    with_term-value r vs c a (sum_of_terms ts us) p.0 (q.0 +ℤ y) p.1 (sum-value r vs ts us q.0 y q.1 eu) ∙ ap Ok (grouped (c *ℤ p.0) q.0 x y sum)
  where
    grouped : (p q x y : ℤ) → p +ℤ q ≡ x → p +ℤ (q +ℤ y) ≡ x +ℤ y
    grouped p q x y e = omega (arith, ints)

zero_times : (k : ℤ) → pos 0 ≡ k *ℤ pos 0
zero_times k = sym (*ℤ-zero k)

scaled-value : (r : Readings) (vs : List ℤ) (k : ℤ) (ts : LinearTerms) (x : ℤ) → terms_value r vs ts ≡ Ok x → terms_value r vs (scaled_terms k ts) ≡ Ok (k *ℤ x)
scaled-value r vs k NoTerms x et = let zero : pos 0 ≡ x = cc in ap Ok (zero_times k) ∙ ap (λ z. Ok (k *ℤ z)) zero
scaled-value r vs k (Term c a ts) x et =
    let p = and_then-ok (atom_value r vs a) (λ z. and_then (terms_value r vs ts) (λ t. Ok (c *ℤ z +ℤ t))) x et in
    let q = and_then-ok (terms_value r vs ts) (λ t. Ok (c *ℤ p.0 +ℤ t)) x p.2 in
    let sum : c *ℤ p.0 +ℤ q.0 ≡ x = cc in
    kept-value r vs (k *ℤ c) a (scaled_terms k ts) p.0 (k *ℤ q.0) p.1 (scaled-value r vs k ts q.0 q.1)
    ∙ ap (λ z. Ok (z +ℤ k *ℤ q.0)) (regrouped k c p.0) ∙ ap Ok (sym (distributed_left k (c *ℤ p.0) q.0)) ∙ ap (λ z. Ok (k *ℤ z)) sum

-- ---- forms

sum_of-value : (r : Readings) (vs : List ℤ) (f g : LinearForm) (x y : ℤ) → form_value r vs f ≡ Ok x → form_value r vs g ≡ Ok y → form_value r vs (sum_of f g) ≡ Ok (x +ℤ y)
sum_of-value r vs (Sum ts c) (Sum us d) x y ef eg =
    let p = and_then-ok (terms_value r vs ts) (λ t. Ok (t +ℤ c)) x ef in
    let q = and_then-ok (terms_value r vs us) (λ t. Ok (t +ℤ d)) y eg in
    let left : p.0 +ℤ c ≡ x = cc in
    let right : q.0 +ℤ d ≡ y = cc in
    rw (sum-value r vs ts us p.0 q.0 p.1 q.1) (ap Ok (paired_up p.0 q.0 c d x y left right))
  where
    paired_up : (p q c d x y : ℤ) → p +ℤ c ≡ x → q +ℤ d ≡ y → p +ℤ q +ℤ (c +ℤ d) ≡ x +ℤ y
    paired_up p q c d x y e f = omega (arith, ints)

scaled_form-value : (r : Readings) (vs : List ℤ) (k : ℤ) (f : LinearForm) (x : ℤ) → form_value r vs f ≡ Ok x → form_value r vs (scaled k f) ≡ Ok (k *ℤ x)
scaled_form-value r vs k (Sum ts c) x ef =
    let p = and_then-ok (terms_value r vs ts) (λ t. Ok (t +ℤ c)) x ef in
    let whole : p.0 +ℤ c ≡ x = cc in
    rw (scaled-value r vs k ts p.0 p.1) (ap Ok (sym (distributed_left k p.0 c)) ∙ ap (λ z. Ok (k *ℤ z)) whole)

constant-value : (r : Readings) (vs : List ℤ) (f : LinearForm) (k x : ℤ) → constant_in f ≡ Some k → form_value r vs f ≡ Ok x → k ≡ x
constant-value r vs (Sum NoTerms c) k x ec ef = let e : pos 0 +ℤ c ≡ x = cc in let g : c ≡ k = cc in sym g ∙ sym (zero_plus c) ∙ e
constant-value r vs (Sum (Term d a ts) c) k x ec ef = absurd (cc)

single-value : (r : Readings) (vs : List ℤ) (a : LinearAtom) (x : ℤ) → atom_value r vs a ≡ Ok x → form_value r vs (single a) ≡ Ok x
single-value r vs a x e = rw e (ap Ok (ap (λ z. z +ℤ pos 0 +ℤ pos 0) (once x) ∙ plain x))
  where
    plain : (x : ℤ) → x +ℤ pos 0 +ℤ pos 0 ≡ x
    plain x = omega (arith, ints)

known-value : (r : Readings) (vs : List ℤ) (q : Option (Result ℤ FaultKind)) (a : LinearAtom) (x : ℤ) → ((v : Result ℤ FaultKind) → q ≡ Some v → v ≡ Ok x) → atom_value r vs a ≡ Ok x
    → form_value r vs (known_or q a) ≡ Ok x
known-value r vs (Some (Ok z)) a x known e = ap Ok (zero_plus z) ∙ known (Ok z) refl
known-value r vs (Some (Err kind)) a x known e = single-value r vs a x e
known-value r vs None a x known e = single-value r vs a x e

-- ---- numbers that fit

pub exact-ok : (z x : ℤ) → exact z ≡ Ok x → (z ≡ x) × (fits_i64 x ≡ true)
exact-ok z x h = by (fits_i64 z) refl h
  where
    by : (b : Bool) → fits_i64 z ≡ b → cond b (Ok z) (Err Overflow) ≡ Ok x → (z ≡ x) × (fits_i64 x ≡ true)
    by true e h = let same : z ≡ x = cc in (same, ap fits_i64 (sym same) ∙ e)
    by false e h = absurd (cc)

small-fits : (z : ℤ) → is_small z ≡ true → fits_i64 z ≡ true
small-fits (pos n) h = grind (arith, nat_tests)
small-fits (negsuc n) h = grind (arith, nat_tests)

fits-abs : (z : ℤ) → fits_i64 z ≡ true → unsigned_abs z ≤ 2 ^ 63
fits-abs (pos n) h = grind (arith, nat_tests)
fits-abs (negsuc n) h = grind (arith, nat_tests)

abs-fits : (z : ℤ) → unsigned_abs z < 2 ^ 63 → fits_i64 z ≡ true
abs-fits (pos n) h = grind (arith, nat_tests)
abs-fits (negsuc n) h = grind (arith, nat_tests)

nonzero-abs : (z : ℤ) → is_zero z ≡ false → 0 < unsigned_abs z
nonzero-abs (pos n) h = grind (arith, nat_tests)
nonzero-abs (negsuc n) h = grind (arith, nat_tests)

-- all of them fit 64 bits
abbrev pub AllFit : List ℤ → Type 0
AllFit [] = Unit {0}
AllFit (x ∷ xs) = (fits_i64 x ≡ true) × AllFit xs

first-fits : (xs : List ℤ) → AllFit xs → fits_i64 (first xs) ≡ true
first-fits [] h = refl
first-fits (x ∷ xs) h = h.0

second-fits : (xs : List ℤ) → AllFit xs → fits_i64 (second xs) ≡ true
second-fits [] h = refl
second-fits (x ∷ []) h = refl
second-fits (x ∷ (y ∷ xs)) h = h.1.0

either-fits : (b : Bool) (x y : ℤ) → fits_i64 x ≡ true → fits_i64 y ≡ true → fits_i64 (cond b x y) ≡ true
either-fits true x y h k = h
either-fits false x y h k = k

least-fits : (x : ℤ) (xs : List ℤ) → fits_i64 x ≡ true → AllFit xs → fits_i64 (fold int_min x xs) ≡ true
least-fits x [] h k = h
least-fits x (y ∷ ys) h k = least-fits (int_min x y) ys (either-fits (int_lt y x) y x k.0 h) k.1

greatest-fits : (x : ℤ) (xs : List ℤ) → fits_i64 x ≡ true → AllFit xs → fits_i64 (fold int_max x xs) ≡ true
greatest-fits x [] h k = h
greatest-fits x (y ∷ ys) h k = greatest-fits (int_max x y) ys (either-fits (int_lt y x) x y h k.0) k.1

remainder-fits : (a b x : ℤ) → fits_i64 b ≡ true → exact_remainder a b ≡ Ok x → fits_i64 x ≡ true
remainder-fits a b x fit h = by (is_zero b) refl h
  where
    by : (t : Bool) → is_zero b ≡ t → cond t (Err ZeroDivide) (Ok (a -ℤ int_div a b *ℤ b)) ≡ Ok x → fits_i64 x ≡ true
    by true e h = absurd (cc)
    by false e h =
        let same : a -ℤ int_div a b *ℤ b ≡ x = cc in
        let below : unsigned_abs (int_rem a b) < unsigned_abs b = rem_below a b (nonzero-abs b e) in
        let small : unsigned_abs (int_rem a b) < 2 ^ 63 = omega (arith, fits-abs b fit, below) in
        ap fits_i64 (sym same ∙ remainder_is a b) ∙ abs-fits (int_rem a b) small

quotient-fits : (a b x : ℤ) → exact_quotient a b ≡ Ok x → fits_i64 x ≡ true
quotient-fits a b x h = by (is_zero b) h
  where
    by : (t : Bool) → cond t (Err ZeroDivide) (exact (int_div a b)) ≡ Ok x → fits_i64 x ≡ true
    by true h = absurd (cc)
    by false h = (exact-ok (int_div a b) x h).1

pub joined-fits : (op : Op2) (y z x : ℤ) → joined op y z ≡ Ok x → fits_i64 x ≡ true
joined-fits Add y z x h = (exact-ok (y +ℤ z) x h).1
joined-fits Sub y z x h = (exact-ok (y -ℤ z) x h).1
joined-fits Mul y z x h = (exact-ok (y *ℤ z) x h).1
joined-fits Div y z x h = quotient-fits y z x h

pub applied-fits : (f : Func) (xs : List ℤ) (x : ℤ) → AllFit xs → applied f xs ≡ Ok x → fits_i64 x ≡ true
applied-fits Mod xs x all h = remainder-fits (first xs) (second xs) x (second-fits xs all) h
applied-fits Abs xs x all h = (exact-ok (pos (unsigned_abs (first xs))) x h).1
applied-fits Min [] x all h = let same : pos 0 ≡ x = cc in ap fits_i64 (sym same)
applied-fits Min (y ∷ ys) x all h = let same : fold int_min y ys ≡ x = cc in ap fits_i64 (sym same) ∙ least-fits y ys all.0 all.1
applied-fits Max [] x all h = let same : pos 0 ≡ x = cc in ap fits_i64 (sym same)
applied-fits Max (y ∷ ys) x all h = let same : fold int_max y ys ≡ x = cc in ap fits_i64 (sym same) ∙ greatest-fits y ys all.0 all.1

pub limited-ok : (f g : LinearForm) → limited f ≡ Ok g → g ≡ f
limited-ok (Sum ts c) g h = by (nat_lt 16 (terms_in ts)) (are_small ts && is_small c) h
  where
    by : (b d : Bool) → cond b (Err Terms) (cond d (Ok (Sum ts c)) (Err Coefficient)) ≡ Ok g → g ≡ Sum ts c
    by true d h = absurd (cc)
    by false true h = cc
    by false false h = absurd (cc)

constant-small : (n : ℤ) (g : LinearForm) → limited (constant n) ≡ Ok g → is_small n ≡ true
constant-small n g h = by (is_small n) refl h
  where
    by : (b : Bool) → is_small n ≡ b → cond b (Ok (constant n)) (Err Coefficient) ≡ Ok g → is_small n ≡ true
    by true e h = e
    by false e h = absurd (cc)

mutual
  -- a value fits 64 bits, as the numbers in an expression that has a form do
  value-fits : (r : Readings) (bound : List ℕ) (e : Expression) (f : LinearForm) (x : ℤ) → AreWords r → form_of_expression bound e ≡ Ok f → value_of r e ≡ Ok x → fits_i64 x ≡ true
  value-fits r bound (Number n) f x words ef ev = let same : n ≡ x = cc in ap fits_i64 (sym same) ∙ small-fits n (constant-small n f ef)
  value-fits r bound (Scalar s) f x words ef ev = let same : r.scalar s ≡ x = cc in ap fits_i64 (sym same) ∙ words.scalars s
  value-fits r bound (Element array subs site) f x words ef ev =
      let p = and_then-ok (values_of r subs) (element_value r array (Some site)) x ev in
      let q = and_then-ok (ordinal_of (r.shape array) p.0) (λ n. Ok (r.element array (Some site) n)) x p.2 in
      let same : r.element array (Some site) q.0 ≡ x = cc in
      ap fits_i64 (sym same) ∙ words.elements array q.0 (Some site)
  value-fits r bound (Negated a) f x words ef ev = let p = and_then-ok (value_of r a) (λ y. exact (neg_ℤ y)) x ev in (exact-ok (neg_ℤ p.0) x p.2).1
  value-fits r bound (Joined op a b) f x words ef ev =
      let p = and_then-ok (value_of r a) (λ y. and_then (value_of r b) (joined op y)) x ev in
      let q = and_then-ok (value_of r b) (joined op p.0) x p.2 in
      joined-fits op p.0 q.0 x q.2
  value-fits r bound (Applied g args) f x words ef ev =
      let p = and_then-ok (forms_of_expressions bound args) (λ fs. limited (known_or (option_map (applied g) (constants_in fs)) (FunctionOf g fs))) f ef in
      let q = and_then-ok (values_of r args) (applied g) x ev in
      applied-fits g q.0 x (values-fit r bound args p.0 q.0 words p.1 q.1) q.2

  values-fit : (r : Readings) (bound : List ℕ) (es : Expressions) (fs : LinearForms) (xs : List ℤ) → AreWords r → forms_of_expressions bound es ≡ Ok fs → values_of r es ≡ Ok xs → AllFit xs
  values-fit r bound End fs xs words ef ev = let P : List ℤ → Type 0 = AllFit in let same : [] ≡ xs = cc in subst P same tt
  values-fit r bound (More e es) fs xs words ef ev =
      let p = and_then-ok (form_of_expression bound e) (λ f. and_then (forms_of_expressions bound es) (λ gs. Ok (Part f gs))) fs ef in
      let q = and_then-ok (forms_of_expressions bound es) (λ gs. Ok (Part p.0 gs)) fs p.2 in
      let v = and_then-ok (value_of r e) (λ y. and_then (values_of r es) (λ ys. Ok (y ∷ ys))) xs ev in
      let w = and_then-ok (values_of r es) (λ ys. Ok (v.0 ∷ ys)) xs v.2 in
      let same : v.0 ∷ w.0 ≡ xs = cc in
      let P : List ℤ → Type 0 = AllFit in
      subst P same (value-fits r bound e p.0 v.0 words p.1 v.1, values-fit r bound es q.0 w.0 words q.1 w.1)

-- ---- expressions

part-value : (r : Readings) (vs : List ℤ) (f : LinearForm) (x : ℤ) → form_value r vs f ≡ Ok x → fits_i64 x ≡ true → and_then (form_value r vs f) exact ≡ Ok x
part-value r vs f x e fit = rw (e, fit) refl

scalar-value : (r : Readings) (bound : List ℕ) (s : ℕ) → atom_value r (map r.scalar bound) (scalar_atom (position (λ b. b == s) bound) s) ≡ Ok (r.scalar s)
scalar-value r bound s = by (position (λ b. b == s) bound) refl
  where
    by : (o : Option ℕ) → position (λ b. b == s) bound ≡ o → atom_value r (map r.scalar bound) (scalar_atom o s) ≡ Ok (r.scalar s)
    by None e = refl
    by (Some i) e =
        let p = position-Some (λ b. b == s) bound i 0 e in
        let q = p.1 in
        let same : get_or bound i 0 ≡ s = grind (arith, nat_tests) in
        ap Ok (get_or-map (λ k. r.scalar k) bound i 0 (pos 0) p.0 ∙ ap (λ k. r.scalar k) same)

quotient-known : (o p : Option ℤ) (a b x : ℤ) (v : Result ℤ FaultKind) → ((k : ℤ) → o ≡ Some k → k ≡ a) → ((k : ℤ) → p ≡ Some k → k ≡ b) → exact_quotient a b ≡ Ok x → known_quotient o p ≡ Some v → v ≡ Ok x
quotient-known (Some k) (Some l) a b x v left right e h =
    let same : exact_quotient k l ≡ v = cc in
    sym same ∙ ap (λ z. exact_quotient z l) (left k refl) ∙ ap (λ z. exact_quotient a z) (right l refl) ∙ e
quotient-known (Some k) None a b x v left right e h = absurd (cc)
quotient-known None p a b x v left right e h = absurd (cc)

product-value : (r : Readings) (vs : List ℤ) (f g : LinearForm) (o p : Option ℤ) (y z x : ℤ) → constant_in f ≡ o → constant_in g ≡ p → form_value r vs f ≡ Ok y → form_value r vs g ≡ Ok z → fits_i64 y ≡ true → fits_i64 z ≡ true → joined Mul y z ≡ Ok x
    → form_value r vs (product o p f g) ≡ Ok x
product-value r vs f g (Some k) p y z x cf cg ef eg fy fz h =
    scaled_form-value r vs k g z eg ∙ ap (λ m. Ok (m *ℤ z)) (constant-value r vs f k y cf ef) ∙ ap Ok (exact-ok (y *ℤ z) x h).0
product-value r vs f g None (Some k) y z x cf cg ef eg fy fz h =
    scaled_form-value r vs k f y ef ∙ ap (λ m. Ok (m *ℤ y)) (constant-value r vs g k z cg eg) ∙ ap Ok (*ℤ_comm z y ∙ (exact-ok (y *ℤ z) x h).0)
product-value r vs f g None None y z x cf cg ef eg fy fz h =
    single-value r vs (ProductOf f g) x (rw (part-value r vs f y ef fy, part-value r vs g z eg fz) h)

joined-value : (r : Readings) (vs : List ℤ) (op : Op2) (f g : LinearForm) (y z x : ℤ) → form_value r vs f ≡ Ok y → form_value r vs g ≡ Ok z → fits_i64 y ≡ true → fits_i64 z ≡ true → joined op y z ≡ Ok x
    → form_value r vs (joined_form op f g) ≡ Ok x
joined-value r vs Add f g y z x ef eg fy fz h = sum_of-value r vs f g y z ef eg ∙ ap Ok (exact-ok (y +ℤ z) x h).0
joined-value r vs Sub f g y z x ef eg fy fz h =
    sum_of-value r vs f (scaled minus_one g) y (minus_one *ℤ z) ef (scaled_form-value r vs minus_one g z eg)
    ∙ ap (λ m. Ok (y +ℤ m)) (minus_once z) ∙ ap Ok (exact-ok (y -ℤ z) x h).0
joined-value r vs Mul f g y z x ef eg fy fz h = product-value r vs f g (constant_in f) (constant_in g) y z x refl refl ef eg fy fz h
joined-value r vs Div f g y z x ef eg fy fz h =
    known-value r vs (known_quotient (constant_in f) (constant_in g)) (QuotientOf f g) x
    (λ v e. quotient-known (constant_in f) (constant_in g) y z x v (λ k c. constant-value r vs f k y c ef) (λ k c. constant-value r vs g k z c eg) h e)
    (rw (part-value r vs f y ef fy, part-value r vs g z eg fz) h)

constants-value : (r : Readings) (vs : List ℤ) (fs : LinearForms) (ks xs : List ℤ) → constants_in fs ≡ Some ks → part_values r vs fs ≡ Ok xs → ks ≡ xs
constants-value r vs NoForms ks xs ec ev = cc
constants-value r vs (Part f fs) ks xs ec ev =
    let p = and_then-ok (and_then (form_value r vs f) exact) (λ y. and_then (part_values r vs fs) (λ ys. Ok (y ∷ ys))) xs ev in
    let q = and_then-ok (part_values r vs fs) (λ ys. Ok (p.0 ∷ ys)) xs p.2 in
    let v = and_then-ok (form_value r vs f) exact p.0 p.1 in
    let w = exact-ok v.0 p.0 v.2 in
    let same : p.0 ∷ q.0 ≡ xs = cc in
    by (constant_in f) (constants_in fs) refl refl ec p.0 q.0 same (λ k c. constant-value r vs f k v.0 c v.1 ∙ w.0) (λ ls c. constants-value r vs fs ls q.0 c q.1)
  where
    by : (o : Option ℤ) (p : Option (List ℤ)) → constant_in f ≡ o → constants_in fs ≡ p → paired o p ≡ Some ks → (y : ℤ) (ys : List ℤ) → y ∷ ys ≡ xs
        → ((k : ℤ) → constant_in f ≡ Some k → k ≡ y) → ((ls : List ℤ) → constants_in fs ≡ Some ls → ls ≡ ys) → ks ≡ xs
    by (Some k) (Some ls) eo ep h y ys same one others =
        let e = one k eo in
        let es = others ls ep in
        cc
    by (Some k) None eo ep h y ys same one others = absurd (cc)
    by None p eo ep h y ys same one others = absurd (cc)

function-known : (g : Func) (o : Option (List ℤ)) (xs : List ℤ) (x : ℤ) (v : Result ℤ FaultKind) → ((ks : List ℤ) → o ≡ Some ks → ks ≡ xs) → applied g xs ≡ Ok x → option_map (applied g) o ≡ Some v → v ≡ Ok x
function-known g (Some ks) xs x v known e h = let same : applied g ks ≡ v = cc in sym same ∙ ap (applied g) (known ks refl) ∙ e
function-known g None xs x v known e h = absurd (cc)

mutual
  -- wherever an expression has a value, its form has it
  pub value-kept : (r : Readings) (bound : List ℕ) (e : Expression) (f : LinearForm) (x : ℤ) → AreWords r → IsOneNumber r → form_of_expression bound e ≡ Ok f → value_of r e ≡ Ok x → form_value r (map r.scalar bound) f ≡ Ok x
  value-kept r bound (Number n) f x words one ef ev = let same : n ≡ x = cc in ap (form_value r (map r.scalar bound)) (limited-ok (constant n) f ef) ∙ ap Ok (zero_plus n ∙ same)
  value-kept r bound (Scalar s) f x words one ef ev =
      let form : f ≡ single (scalar_atom (position (λ b. b == s) bound) s) = cc in
      rw form (single-value r (map r.scalar bound) (scalar_atom (position (λ b. b == s) bound) s) x (scalar-value r bound s ∙ ev))
  value-kept r bound (Element array subs site) f x words one ef ev =
      let p = and_then-ok (forms_of_expressions bound subs) (λ fs. Ok (single (ElementOf array fs))) f ef in
      let form : f ≡ single (ElementOf array p.0) = cc in
      let q = and_then-ok (values_of r subs) (element_value r array (Some site)) x ev in
      let w = and_then-ok (ordinal_of (r.shape array) q.0) (λ n. Ok (r.element array (Some site) n)) x q.2 in
      let same : r.element array (Some site) w.0 ≡ x = cc in
      let found : and_then (ordinal_of (r.shape array) q.0) (λ n. Ok (r.element array None n)) ≡ Ok x = rw w.1 (ap Ok (sym (one array site w.0) ∙ same)) in
      rw form (single-value r (map r.scalar bound) (ElementOf array p.0) x (rw (values-kept r bound subs p.0 q.0 words one p.1 q.1) found))
  value-kept r bound (Negated a) f x words one ef ev =
      let p = and_then-ok (form_of_expression bound a) (λ g. limited (scaled minus_one g)) f ef in
      let q = and_then-ok (value_of r a) (λ y. exact (neg_ℤ y)) x ev in
      ap (form_value r (map r.scalar bound)) (limited-ok (scaled minus_one p.0) f p.2)
      ∙ (scaled_form-value r (map r.scalar bound) minus_one p.0 q.0 (value-kept r bound a p.0 q.0 words one p.1 q.1) ∙ ap Ok (minus_once q.0 ∙ (exact-ok (neg_ℤ q.0) x q.2).0))
  value-kept r bound (Joined op a b) f x words one ef ev =
      let p = and_then-ok (form_of_expression bound a) (λ g. and_then (form_of_expression bound b) (λ k. limited (joined_form op g k))) f ef in
      let q = and_then-ok (form_of_expression bound b) (λ k. limited (joined_form op p.0 k)) f p.2 in
      let v = and_then-ok (value_of r a) (λ y. and_then (value_of r b) (joined op y)) x ev in
      let w = and_then-ok (value_of r b) (joined op v.0) x v.2 in
      ap (form_value r (map r.scalar bound)) (limited-ok (joined_form op p.0 q.0) f q.2)
      ∙ (joined-value r (map r.scalar bound) op p.0 q.0 v.0 w.0 x (value-kept r bound a p.0 v.0 words one p.1 v.1) (value-kept r bound b q.0 w.0 words one q.1 w.1)
      (value-fits r bound a p.0 v.0 words p.1 v.1) (value-fits r bound b q.0 w.0 words q.1 w.1) w.2)
  value-kept r bound (Applied g args) f x words one ef ev =
      let p = and_then-ok (forms_of_expressions bound args) (λ fs. limited (known_or (option_map (applied g) (constants_in fs)) (FunctionOf g fs))) f ef in
      let q = and_then-ok (values_of r args) (applied g) x ev in
      let parts = values-kept r bound args p.0 q.0 words one p.1 q.1 in
      ap (form_value r (map r.scalar bound)) (limited-ok (known_or (option_map (applied g) (constants_in p.0)) (FunctionOf g p.0)) f p.2)
      ∙ (known-value r (map r.scalar bound) (option_map (applied g) (constants_in p.0)) (FunctionOf g p.0) x
      (λ v e. function-known g (constants_in p.0) q.0 x v (λ ks c. constants-value r (map r.scalar bound) p.0 ks q.0 c parts) q.2 e) (rw parts q.2))

  pub values-kept : (r : Readings) (bound : List ℕ) (es : Expressions) (fs : LinearForms) (xs : List ℤ) → AreWords r → IsOneNumber r → forms_of_expressions bound es ≡ Ok fs → values_of r es ≡ Ok xs → part_values r (map r.scalar bound) fs ≡ Ok xs
  values-kept r bound End fs xs words one ef ev = let same : fs ≡ NoForms = cc in rw same ev
  values-kept r bound (More e es) fs xs words one ef ev =
      let p = and_then-ok (form_of_expression bound e) (λ f. and_then (forms_of_expressions bound es) (λ gs. Ok (Part f gs))) fs ef in
      let q = and_then-ok (forms_of_expressions bound es) (λ gs. Ok (Part p.0 gs)) fs p.2 in
      let v = and_then-ok (value_of r e) (λ y. and_then (values_of r es) (λ ys. Ok (y ∷ ys))) xs ev in
      let w = and_then-ok (values_of r es) (λ ys. Ok (v.0 ∷ ys)) xs v.2 in
      let form : fs ≡ Part p.0 q.0 = cc in
      let head = part-value r (map r.scalar bound) p.0 v.0 (value-kept r bound e p.0 v.0 words one p.1 v.1) (value-fits r bound e p.0 v.0 words p.1 v.1) in
      rw form (rw (head, values-kept r bound es q.0 w.0 words one q.1 w.1) w.2)

-- the same of a form that was found
pub value-found : (bound : List ℕ) (e : Expression) (o : Result Form FormRefusal) → IfOk o (λ f. form_of_expression bound e ≡ Ok (linear_form_of f))
    → IfOk o (λ f. (r : Readings) (x : ℤ) → AreWords r → IsOneNumber r → value_of r e ≡ Ok x → form_value r (map r.scalar bound) (linear_form_of f) ≡ Ok x)
value-found bound e (Ok f) found = λ r x words one ev. value-kept r bound e (linear_form_of f) x words one found ev
value-found bound e (Err why) found = found
