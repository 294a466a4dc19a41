-- The sizes of coefficients in sums and multiples.
use Rattle.std.proofs.Common.{◌≡◌, refl, arith, ◌+◌, ◌*◌, ◌^◌, ◌≤◌, ℤ, pos, negsuc, ◌+ℤ◌, ◌*ℤ◌, Bool, true, false, cond, ◌&&◌, IsTrue, unsigned_abs, Some, subst}
use Rattle.std.specs.declared.cmp.Ordering.{Ordering}
use Rattle.std.specs.declared.cmp.Ordering.TheVariants.{Less, Equal, Greater}
use Rattle.std.proofs.lemmas.Bool.Decides.{nat_tests}
use Rattle.std.proofs.lemmas.Int.{ints, unsigned_abs-mul}
use Rattle.fd_base.specs.Numbers.{is_zero}
use Rattle.fd_prog.specs.Forms.{LinearAtom, LinearForm, Sum, LinearTerms, NoTerms, Term, terms_in, atom_order}
use Rattle.fd_prog.specs.FormOf.{kept, joined_term, with_term, sum_of_terms, scaled_terms, scaled, minus_one, constant_in, is_small, are_small, weight, form_weight, KeepsLimits}

pub small-abs : (z : ℤ) → IsTrue (is_small z) → unsigned_abs z ≤ 2 ^ 31
small-abs z h = grind (arith, nat_tests)

abs-sum : (c d : ℤ) → unsigned_abs (c +ℤ d) ≤ unsigned_abs c + unsigned_abs d
abs-sum (pos m) (pos n) = omega (arith, ints)
abs-sum (pos m) (negsuc n) = grind (arith, ints)
abs-sum (negsuc m) (pos n) = grind (arith, ints)
abs-sum (negsuc m) (negsuc n) = omega (arith, ints)

weight-kept : (c : ℤ) (a : LinearAtom) (ts : LinearTerms) → weight (kept c a ts) ≤ unsigned_abs c + weight ts
weight-kept c a ts = by (is_zero c)
  where
    by : (b : Bool) → weight (cond b ts (Term c a ts)) ≤ unsigned_abs c + weight ts
    by true = omega arith
    by false = omega arith

weight-with : (c : ℤ) (a : LinearAtom) (ts : LinearTerms) → weight (with_term c a ts) ≤ unsigned_abs c + weight ts
weight-with c a NoTerms = weight-kept c a NoTerms
weight-with c a (Term d b ts) = by (weight-with c a ts) (atom_order a b)
  where
    by : weight (with_term c a ts) ≤ unsigned_abs c + weight ts → (o : Ordering) → weight (joined_term o c a d b ts (with_term c a ts)) ≤ unsigned_abs c + (unsigned_abs d + weight ts)
    by rest Less = weight-kept c a (Term d b ts)
    by rest Equal = omega (arith, weight-kept (c +ℤ d) b ts, abs-sum c d)
    by rest Greater = omega (arith, rest)

pub weight-sum : (ts us : LinearTerms) → weight (sum_of_terms ts us) ≤ weight ts + weight us
weight-sum NoTerms us = omega arith
weight-sum (Term c a ts) us = omega (arith, weight-with c a (sum_of_terms ts us), weight-sum ts us)

pub small-first : (c : ℤ) (ts : LinearTerms) → IsTrue (is_small c && are_small ts) → IsTrue (is_small c)
small-first c ts h = by (is_small c) h
  where
    by : (b : Bool) → IsTrue (b && are_small ts) → IsTrue b
    by true h = refl
    by false h = h

small-rest : (b c : Bool) → IsTrue (b && c) → IsTrue c
small-rest true c h = h
small-rest false c h = absurd (cc)

weight-small : (ts : LinearTerms) → IsTrue (are_small ts) → weight ts ≤ terms_in ts * 2 ^ 31
weight-small NoTerms h = omega arith
weight-small (Term c a ts) h =
    omega (arith, small-abs c (small-first c ts h), weight-small ts (small-rest (is_small c) (are_small ts) h))

-- a form that keeps the limits is far inside 64 bits
pub weight-keeps : (f : LinearForm) → KeepsLimits f → form_weight f ≤ 2 ^ 36
weight-keeps (Sum ts c) h = omega (arith, h.0, small-abs c h.2, weight-small ts h.1)

weight-minus : (ts : LinearTerms) → weight (scaled_terms minus_one ts) ≤ weight ts
weight-minus NoTerms = omega arith
weight-minus (Term c a ts) = omega (arith, weight-kept (minus_one *ℤ c) a (scaled_terms minus_one ts), unsigned_abs-mul minus_one c, weight-minus ts)

pub weight-negative : (f : LinearForm) → form_weight (scaled minus_one f) ≤ form_weight f
weight-negative (Sum ts c) = omega (arith, unsigned_abs-mul minus_one c, weight-minus ts)

-- a constant of a form that keeps the limits is small
pub constant-keeps : (f : LinearForm) (x : ℤ) → KeepsLimits f → constant_in f ≡ Some x → IsTrue (is_small x)
constant-keeps (Sum NoTerms c) x h e = let same : c ≡ x = cc in let P : ℤ → Type 0 = λ z. IsTrue (is_small z) in subst P same h.2
constant-keeps (Sum (Term d a ts) c) x h e = absurd (cc)
