-- Small programs, run by computing with the definitions.
use Rattle.std.proofs.Common.{◌≡◌, refl, ℕ, ℤ, pos, negsuc, List, [], ◌∷◌, ◌++◌, codes, None, true}
use Rattle.std.specs.Fmt.{decimal, signed_decimal}
use Rattle.std.specs.List.{join_with_byte}
use Rattle.fd_base.specs.declared.numbering.Line.{Line}
use Rattle.fd_base.specs.declared.numbers.FaultKind.{FaultKind}
use Rattle.fd_base.specs.declared.numbers.FaultKind.TheVariants.{Overflow, ZeroDivide, Bounds, ZeroStep, EndOfInput, StepLimit}
use Rattle.fd_base.specs.declared.relation.Rel.TheVariants.{Eq, Lt}
use Rattle.fd_base.specs.declared.shapes.Along.TheVariants.{Fixed as At}
use Rattle.fd_prog.specs.declared.expression.Func.{Func}
use Rattle.fd_prog.specs.declared.expression.Func.TheVariants.{Mod, Abs, Min, Max}
use Rattle.fd_prog.specs.declared.expression.Op2.TheVariants.{Add, Sub, Div}
use Rattle.fd_prog.specs.declared.program.Array.{Array}
use Rattle.fd_prog.specs.declared.run.Printed.{Printed}
use Rattle.fd_prog.specs.declared.run.Outcome.{Outcome}
use Rattle.fd_prog.specs.declared.run.Outcome.TheVariants.{Done, Fault}
use Rattle.fd_prog.specs.Run.{Run}
use Rattle.fd_prog.specs.Expressions.{Expression, Number, Scalar, Element, Negated, Joined, Applied, End, More}
use Rattle.fd_prog.specs.Conditions.{Fixed, Compared, Either}
use Rattle.fd_prog.specs.Statements.{Target, ToScalar, ToElement, Words, Value, Statement, Assign, If, Do, While, Read, Print, Continue, Statements, Empty, Then}
use Rattle.fd_prog.specs.Programs.{CheckedProgram}
use Rattle.fd_prog.specs.Sequence.{sequential_run}

-- an array with one dimension from 1 on
abbrev vector : ℕ → Array
vector n = record {
  name = codes "A";
  shape = record { dims = 1; low = pos 1 ∷ (pos 0 ∷ []); extent = n ∷ (1 ∷ []) };
  decomp = None;
  along = At 0;
}

-- a program with the scalars I, N, S, and one array A(4)
abbrev program : Statements → CheckedProgram
program body = record {
  scalars = codes "I" ∷ (codes "N" ∷ (codes "S" ∷ []));
  arrays = vector 4 ∷ [];
  decomps = [];
  body = body;
  end_line = record { 0 = 99 };
  rest = 0;
  sites = 9;
}

abbrev line : ℕ → Line
line n = record { 0 = n }

abbrev number : ℕ → Expression
number n = Number (pos n)

abbrev I : Expression
I = Scalar 0

abbrev N : Expression
N = Scalar 1

abbrev S : Expression
S = Scalar 2

abbrev one : Statement → Statements
one s = Then s Empty

abbrev A : Expression → Expression
A e = Element 0 (More e End) 0

abbrev A_is : Expression → Target
A_is e = ToElement 0 (More e End) 0

abbrev printed : ℕ → List ℕ → Printed
printed n text = record { step = n; text = text }

abbrev run : List Printed → Outcome → Run
run lines outcome = record { lines = lines; outcome = outcome }

-- two lines within two steps, and one within one
abbrev two_prints : Statements
two_prints = Then (Print (line 1) (Value (number 1) ∷ [])) (one (Print (line 2) (Value (number 2) ∷ [])))

both_lines : sequential_run (program two_prints) [] 2 ≡ run (printed 1 (decimal 1) ∷ (printed 2 (decimal 2) ∷ [])) Done
both_lines = refl

one_line : sequential_run (program two_prints) [] 1 ≡ run (printed 1 (decimal 1) ∷ []) (Fault 2 (line 2) StepLimit)
one_line = refl

-- READ *, N and PRINT *, N-1
abbrev less_one : Statements
less_one = Then (Read (line 1) (ToScalar 1)) (one (Print (line 2) (Value (Joined Sub N (number 1)) ∷ [])))

less_one_of_seven : sequential_run (program less_one) (pos 7 ∷ []) 9 ≡ run (printed 2 (decimal 6) ∷ []) Done
less_one_of_seven = refl

no_input : sequential_run (program less_one) [] 9 ≡ run [] (Fault 1 (line 1) EndOfInput)
no_input = refl

-- DO I = 9223372036854775807, 9223372036854775807 with PRINT *, I: its last increment has no number
abbrev greatest : Expression
greatest = number 9223372036854775807

abbrev to_the_end : Statements
to_the_end = one (Do (line 1) 0 greatest greatest (number 1) (one (Print (line 2) (Value I ∷ []))))

last_increment : sequential_run (program to_the_end) [] 1000000 ≡ run (printed 3 (decimal 9223372036854775807) ∷ []) (Fault 4 (line 1) Overflow)
last_increment = refl

limit_before_increment : sequential_run (program to_the_end) [] 3 ≡ run (printed 3 (decimal 9223372036854775807) ∷ []) (Fault 4 (line 1) StepLimit)
limit_before_increment = refl

-- a sum over an array in a loop whose bound changes meanwhile
abbrev sum_of_array : Statements
sum_of_array =
    Then (Do (line 3) 0 (number 1) (number 4) (number 1) (one (Assign (line 4) (A_is I) I)))
    (Then (Assign (line 6) (ToScalar 1) (number 3))
    (Then (Do (line 7) 0 (number 1) N (number 1)
    (Then (Assign (line 8) (ToScalar 2) (Joined Add S (A I))) (one (Assign (line 9) (ToScalar 1) (number 1)))))
    (one (Print (line 11) (Value S ∷ (Value N ∷ (Value I ∷ [])))))))

sum_is_six : sequential_run (program sum_of_array) [] 1000000 ≡ run (printed 23 (join_with_byte 32 (decimal 6 ∷ (decimal 1 ∷ (decimal 4 ∷ [])))) ∷ []) Done
sum_is_six = refl

-- ---- single statements: where a fault comes from, and what is valued before it

abbrev fault : Statement → List Printed → ℕ → FaultKind → Type 0
fault s lines n kind = sequential_run (program (one s)) [] 1000000 ≡ run lines (Fault n (line 1) kind)

-- what a PRINT of an expression prints, in the first step
abbrev prints : Expression → ℤ → Type 0
prints e x = sequential_run (program (one (Print (line 1) (Value e ∷ [])))) [] 1000000 ≡ run (printed 1 (signed_decimal x) ∷ []) Done

abbrev prints_fault : Expression → FaultKind → Type 0
prints_fault e kind = fault (Print (line 1) (Value e ∷ [])) [] 1 kind

abbrev least : Expression
least = Joined Sub (Negated greatest) (number 1)

abbrev zero_divide : Expression
zero_divide = Joined Div (number 1) (number 0)

abbrev call2 : Func → Expression → Expression → Expression
call2 f a b = Applied f (More a (More b End))

-- `/` rounds toward zero, and MOD has the sign of the first argument
quotient : prints (Joined Div (Negated (number 7)) (number 2)) (negsuc 2)
quotient = refl

remainder : prints (call2 Mod (Negated (number 7)) (number 2)) (negsuc 0)
remainder = refl

remainder_of_least : prints (call2 Mod least (Negated (number 1))) (pos 0)
remainder_of_least = refl

quotient_of_least : prints_fault (Joined Div least (Negated (number 1))) Overflow
quotient_of_least = refl

negated_least : prints_fault (Negated least) Overflow
negated_least = refl

size_of_least : prints_fault (Applied Abs (More least End)) Overflow
size_of_least = refl

remainder_by_zero : prints_fault (call2 Mod (number 1) (number 0)) ZeroDivide
remainder_by_zero = refl

smallest : prints (Applied Min (More (number 3) (More (Negated (number 5)) (More (number 4) End)))) (negsuc 4)
smallest = refl

largest : prints (Applied Max (More (number 3) (More (Negated (number 5)) (More (number 4) End)))) (pos 4)
largest = refl

-- the first fault from left to right
left_first : prints_fault (Joined Add (A (number 9)) zero_divide) Bounds
left_first = refl

argument_first : prints_fault (call2 Max (number 1) zero_divide) ZeroDivide
argument_first = refl

-- all subscripts before their bounds
subscripts_first : prints_fault (Element 0 (More (number 9) (More zero_divide End)) 0) ZeroDivide
subscripts_first = refl

-- the target before the right side, and before the next number is taken
target_first : fault (Assign (line 1) (A_is (number 0)) zero_divide) [] 1 Bounds
target_first = refl

target_before_input : fault (Read (line 1) (A_is (number 5))) [] 1 Bounds
target_before_input = refl

-- `.OR.` values both sides
both_sides : fault (If (line 1) (Either (Fixed true) (Compared Eq zero_divide (number 0))) Empty Empty) [] 1 ZeroDivide
both_sides = refl

-- ---- loops

-- what a PRINT of I behind a loop prints, in this step
abbrev leaves : Statement → List Printed → ℕ → ℤ → Type 0
leaves s lines n x = sequential_run (program (Then s (one (Print (line 9) (Value I ∷ []))))) [] 1000000 ≡ run (lines ++ printed n (signed_decimal x) ∷ []) Done

-- DO I = first, last, step without a body
abbrev do_nothing : Expression → Expression → Expression → Statement
do_nothing first last by = Do (line 1) 0 first last by Empty

-- a start and four tests, and I is the first number past the end
counts_up : leaves (do_nothing (number 1) (number 6) (number 2)) [] 6 (pos 7)
counts_up = refl

counts_down : leaves (do_nothing (number 3) (number 1) (Negated (number 1))) [] 6 (pos 0)
counts_down = refl

-- no iteration: a start and one test
no_iteration : leaves (do_nothing (number 3) (number 1) (number 1)) [] 3 (pos 3)
no_iteration = refl

zero_step : fault (do_nothing (number 1) (number 2) (number 0)) [] 1 ZeroStep
zero_step = refl

-- the bounds are valued in order, and the step is tested behind them
bounds_in_order : fault (do_nothing (A (number 9)) zero_divide (number 0)) [] 1 Bounds
bounds_in_order = refl

-- from the least number by the greatest, three times: the count needs more than 64 bits on its way, and the last increment has no number
widest : fault (do_nothing least greatest greatest) [] 5 Overflow
widest = refl

-- DO WHILE (I .LT. 2) with I = I + 1: three tests and two assignments
abbrev count_to_two : Statement
count_to_two = While (line 1) (Compared Lt I (number 2)) (one (Assign (line 2) (ToScalar 0) (Joined Add I (number 1))))

counts_to_two : leaves count_to_two [] 6 (pos 2)
counts_to_two = refl

-- a loop without an end comes to the limit at its test, or within its body
endless : sequential_run (program (one (While (line 1) (Fixed true) (one (Continue (line 2)))))) [] 6 ≡ run [] (Fault 7 (line 1) StepLimit)
endless = refl

endless_inside : sequential_run (program (one (While (line 1) (Fixed true) (one (Continue (line 2)))))) [] 7 ≡ run [] (Fault 8 (line 2) StepLimit)
endless_inside = refl

-- a loop in a loop, whose inner bounds are valued anew
abbrev triangle : Statements
triangle =
    Then (Do (line 1) 0 (number 1) (number 3) (number 1)
    (one (Do (line 2) 1 (number 1) I (number 1) (one (Assign (line 3) (ToScalar 2) (Joined Add S (number 1)))))))
    (one (Print (line 9) (Words (codes "S") ∷ (Value S ∷ []))))

triangle_is_six : sequential_run (program triangle) [] 1000000 ≡ run (printed 24 (join_with_byte 32 (codes "S" ∷ (decimal 6 ∷ []))) ∷ []) Done
triangle_is_six = refl
