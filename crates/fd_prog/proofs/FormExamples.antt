-- Linear forms and their limits, by computing with the definitions.
use Rattle.std.proofs.Common.{◌≡◌, refl, ℕ, suc, zero, pos, negsuc, [], ◌∷◌}
use Rattle.std.specs.Prelude.{Result, Ok, Err}
use Rattle.fd_prog.specs.declared.expression.Func.TheVariants.{Mod, Abs, Min, Max}
use Rattle.fd_prog.specs.declared.expression.Op2.TheVariants.{Add, Sub, Mul, Div}
use Rattle.fd_prog.specs.declared.form.FormRefusal.{FormRefusal}
use Rattle.fd_prog.specs.declared.form.FormRefusal.TheVariants.{Terms, Coefficient}
use Rattle.fd_prog.specs.Expressions.{Expression, Number, Scalar, Element, Negated, Joined, Applied, End, More}
use Rattle.fd_prog.specs.Forms.{Variable, ScalarOf, ElementOf, FunctionOf, ProductOf, QuotientOf, LinearForm, Sum, NoTerms, Term, NoForms, Part}
use Rattle.fd_prog.specs.FormOf.{form_of_expression, constant, single}

-- ---- words for expressions

abbrev number : ℕ → Expression
number n = Number (pos n)

abbrev minus : ℕ → Expression
minus n = Negated (Number (pos n))

abbrev plus : Expression → Expression → Expression
plus a b = Joined Add a b

abbrev times : Expression → Expression → Expression
times a b = Joined Mul a b

abbrev less : Expression → Expression → Expression
less a b = Joined Sub a b

abbrev by : Expression → Expression → Expression
by a b = Joined Div a b

abbrev form : Expression → Result LinearForm FormRefusal
form e = form_of_expression [] e

-- the sum of the scalars below a number, the greatest last
abbrev scalars_below : ℕ → Expression
scalars_below zero = number 0
scalars_below (suc n) = plus (scalars_below n) (Scalar n)

-- ---- limits

-- seventeen scalars are one term too many, also where one is subtracted again, since the sum on the way has them
seventeen_terms : form (scalars_below 17) ≡ Err Terms
seventeen_terms = refl

seventeen_on_the_way : form (less (scalars_below 17) (Scalar 16)) ≡ Err Terms
seventeen_on_the_way = refl

-- sixteen and one of them again are sixteen
sixteen_terms : form (less (scalars_below 16) (scalars_below 16)) ≡ Ok (constant (pos 0))
sixteen_terms = refl

large_coefficient : form (times (number 3000000000) (Scalar 0)) ≡ Err Coefficient
large_coefficient = refl

large_constant : form (times (number 65536) (number 65536)) ≡ Err Coefficient
large_constant = refl

greatest_constant : form (number 2147483648) ≡ Ok (constant (pos 2147483648))
greatest_constant = refl

least_constant : form (minus 2147483648) ≡ Ok (constant (negsuc 2147483647))
least_constant = refl

one_more : form (plus (number 2147483648) (number 1)) ≡ Err Coefficient
one_more = refl

-- a constant past the limit is refused where it stands, whatever becomes of it
large_part : form (times (number 0) (number 2147483649)) ≡ Err Coefficient
large_part = refl

-- the left side's limit comes first
left_first : form (plus (scalars_below 17) (number 3000000000)) ≡ Err Terms
left_first = refl

-- ---- terms

doubled : form (plus (Scalar 3) (Scalar 3)) ≡ Ok (Sum (Term (pos 2) (ScalarOf 3) NoTerms) (pos 0))
doubled = refl

cancelled : form (less (plus (Scalar 3) (number 5)) (Scalar 3)) ≡ Ok (constant (pos 5))
cancelled = refl

no_times : form (plus (times (number 0) (Scalar 1)) (number 1)) ≡ Ok (constant (pos 1))
no_times = refl

scaled_sum : form (times (times (number 2) (plus (Scalar 0) (number 1))) (number 3)) ≡ Ok (Sum (Term (pos 6) (ScalarOf 0) NoTerms) (pos 6))
scaled_sum = refl

-- a widened scalar is a variable by its place
widened : form_of_expression (4 ∷ (7 ∷ [])) (less (Scalar 7) (number 1)) ≡ Ok (Sum (Term (pos 1) (Variable 1) NoTerms) (negsuc 0))
widened = refl

-- ---- atoms

product_of_scalars : form (times (Scalar 0) (Scalar 1)) ≡ Ok (single (ProductOf (single (ScalarOf 0)) (single (ScalarOf 1))))
product_of_scalars = refl

quotient_toward_zero : form (by (minus 7) (number 2)) ≡ Ok (constant (negsuc 2))
quotient_toward_zero = refl

quotient_that_faults : form (by (number 7) (number 0)) ≡ Ok (single (QuotientOf (constant (pos 7)) (constant (pos 0))))
quotient_that_faults = refl

quotient_by_constant : form (by (Scalar 0) (number 2)) ≡ Ok (single (QuotientOf (single (ScalarOf 0)) (constant (pos 2))))
quotient_by_constant = refl

remainder_that_faults : form (Applied Mod (More (number 3) (More (number 0) End))) ≡ Ok (single (FunctionOf Mod (Part (constant (pos 3)) (Part (constant (pos 0)) NoForms))))
remainder_that_faults = refl

remainder : form (Applied Mod (More (minus 7) (More (number 3) End))) ≡ Ok (constant (negsuc 0))
remainder = refl

least_of_three : form (Applied Min (More (number 3) (More (minus 2) (More (number 0) End)))) ≡ Ok (constant (negsuc 1))
least_of_three = refl

greatest_of_a_scalar : form (Applied Max (More (Scalar 0) (More (number 0) End))) ≡ Ok (single (FunctionOf Max (Part (single (ScalarOf 0)) (Part (constant (pos 0)) NoForms))))
greatest_of_a_scalar = refl

size : form (Applied Abs (More (minus 4) End)) ≡ Ok (constant (pos 4))
size = refl

element : form (plus (Element 2 (More (plus (Scalar 0) (number 1)) End) 9) (Element 2 (More (plus (number 1) (Scalar 0)) End) 10))
    ≡ Ok (Sum (Term (pos 2) (ElementOf 2 (Part (Sum (Term (pos 1) (ScalarOf 0) NoTerms) (pos 1)) NoForms)) NoTerms) (pos 0))
element = refl
