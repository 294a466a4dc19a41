-- Forms of small expressions, by computing with the definitions.
use Rattle.std.proofs.Common.{◌≡◌, refl, ℕ, pos, negsuc, [], ◌∷◌, Ok, Err}
use Rattle.fd_prog.specs.declared.expression.Func.TheVariants.{Mod, Max}
use Rattle.fd_prog.specs.declared.expression.Op2.TheVariants.{Add, Sub, Mul, Div}
use Rattle.fd_prog.specs.declared.form.FormRefusal.TheVariants.{Terms, Coefficient}
use Rattle.fd_prog.specs.Expressions.{Expression, Number, Scalar, Element, Negated, Joined, Applied, End, More}
use Rattle.fd_prog.specs.Forms.{Variable, ScalarOf, FunctionOf, QuotientOf, Sum, NoTerms, Term, NoForms, Part}
use Rattle.fd_prog.specs.FormOf.{form_of_expression, constant, single}

abbrev number : ℕ → Expression
number n = Number (pos n)

abbrev add : Expression → Expression → Expression
add a b = Joined Add a b

-- I + J and J + I are one form
either_order : form_of_expression [] (add (Scalar 1) (Scalar 0)) ≡ form_of_expression [] (add (Scalar 0) (Scalar 1))
either_order = refl

-- 2*(I + 3) - I is I + 6, where I is the second widened variable
collected : form_of_expression (7 ∷ (4 ∷ [])) (Joined Sub (Joined Mul (number 2) (add (Scalar 4) (number 3))) (Scalar 4)) ≡ Ok (Sum (Term (pos 1) (Variable 1) NoTerms) (pos 6))
collected = refl

-- A(I) - A(I) at two references is 0, and so is 0*I
cancelled : form_of_expression [] (Joined Sub (Element 0 (More (Scalar 4) End) 1) (Element 0 (More (Scalar 4) End) 2)) ≡ Ok (constant (pos 0))
cancelled = refl

no_multiple : form_of_expression [] (Joined Mul (Scalar 4) (number 0)) ≡ Ok (constant (pos 0))
no_multiple = refl

-- -7/2 is -3, 1/0 is an atom, MOD(7, 4) is 3, and MAX(I, 3) is an atom
quotient : form_of_expression [] (Joined Div (Negated (number 7)) (number 2)) ≡ Ok (constant (negsuc 2))
quotient = refl

faulting : form_of_expression [] (Joined Div (number 1) (number 0)) ≡ Ok (single (QuotientOf (constant (pos 1)) (constant (pos 0))))
faulting = refl

remainder : form_of_expression [] (Applied Mod (More (number 7) (More (number 4) End))) ≡ Ok (constant (pos 3))
remainder = refl

greatest : form_of_expression [] (Applied Max (More (Scalar 0) (More (number 3) End))) ≡ Ok (single (FunctionOf Max (Part (single (ScalarOf 0)) (Part (constant (pos 3)) NoForms))))
greatest = refl

-- 2^31 is a constant, and 2^31 + 1 isn't, also where it cancels
largest : form_of_expression [] (number 2147483648) ≡ Ok (constant (pos 2147483648))
largest = refl

too_large : form_of_expression [] (Joined Sub (number 2147483649) (number 2147483649)) ≡ Err Coefficient
too_large = refl

-- a sum of 17 names has too many terms, and with 2^31 + 1 before it the number decides, but not behind it
abbrev names : Expression
names = add (add (add (add (add (add (add (add (add (add (add (add (add (add (add (add (Scalar 0) (Scalar 1)) (Scalar 2)) (Scalar 3)) (Scalar 4)) (Scalar 5)) (Scalar 6)) (Scalar 7)) (Scalar 8)) (Scalar 9)) (Scalar 10)) (Scalar 11)) (Scalar 12)) (Scalar 13)) (Scalar 14)) (Scalar 15)) (Scalar 16)

too_many : form_of_expression [] names ≡ Err Terms
too_many = refl

number_first : form_of_expression [] (add (number 2147483649) names) ≡ Err Coefficient
number_first = refl

names_first : form_of_expression [] (add names (number 2147483649)) ≡ Err Terms
names_first = refl
