-- The value of an expression and of a condition, or the first fault from left to right.
use Rattle.std.specs.Prelude.{ℕ, ℤ, pos, ◌+ℤ◌, ◌-ℤ◌, ◌*ℤ◌, neg_ℤ, unsigned_abs, int_lt, int_le, Bool, not, ◌&&◌, ◌||◌, List, [], ◌∷◌, fold, slice_index_or, Option, Some, Result, Ok}
use Rattle.std.specs.Int.{int_min, int_max}
use Rattle.std.specs.Ordering.{int_eq}
use Rattle.fd_base.specs.declared.numbers.FaultKind.{FaultKind}
use Rattle.fd_base.specs.declared.relation.Rel.{Rel}
use Rattle.fd_base.specs.declared.relation.Rel.TheVariants.{Eq, Ne, Lt, Le, Gt, Ge}
use Rattle.fd_base.specs.declared.shapes.Shape.{Shape}
use Rattle.fd_base.specs.Numbers.{exact, exact_quotient, exact_remainder}
use Rattle.fd_base.specs.Shapes.{ordinal_of}
use Rattle.fd_prog.specs.declared.expression.Func.{Func}
use Rattle.fd_prog.specs.declared.expression.Func.TheVariants.{Mod, Abs, Min, Max}
use Rattle.fd_prog.specs.declared.expression.Op2.{Op2}
use Rattle.fd_prog.specs.declared.expression.Op2.TheVariants.{Add, Sub, Mul, Div}
use Rattle.fd_prog.specs.Outcomes.{and_then}
use Rattle.fd_prog.specs.Expressions.{Expression, Number, Scalar, Element, Negated, Joined, Applied, Expressions, End, More}
use Rattle.fd_prog.specs.Conditions.{Condition, Fixed, Compared, Not, Both, Either}

-- what an expression reads: the number of each scalar, the shape of each array, and the number of each element of an array by its column-major number. An element's number may depend on the number of the reference that reads it; an element inside a form has no such number
pub record Readings : Type 0 where
  pub scalar : ℕ → ℤ
  pub shape : ℕ → Shape
  pub element : ℕ → Option ℕ → ℕ → ℤ

-- the number of the element that subscripts name, or Bounds where one is outside
abbrev pub element_value : Readings → ℕ → Option ℕ → List ℤ → Result ℤ FaultKind
element_value r array site subs = and_then (ordinal_of (r.shape array) subs) (λ n. Ok (r.element array site n))

-- both sides, exactly; `/` rounds toward zero
abbrev pub joined : Op2 → ℤ → ℤ → Result ℤ FaultKind
joined Add x y = exact (x +ℤ y)
joined Sub x y = exact (x -ℤ y)
joined Mul x y = exact (x *ℤ y)
joined Div x y = exact_quotient x y

-- the first and the second of some numbers. Every sound program has as many arguments and subscripts as these want; one that is missing would be 0
abbrev pub first : List ℤ → ℤ
first xs = slice_index_or xs 0 (pos 0)

abbrev pub second : List ℤ → ℤ
second xs = slice_index_or xs 1 (pos 0)

-- both, which are the subscripts of a reference
abbrev pub pair_of : List ℤ → List ℤ
pair_of xs = first xs ∷ (second xs ∷ [])

-- the least and the greatest of some numbers, of which every sound program has two or more
abbrev pub least : List ℤ → ℤ
least [] = pos 0
least (x ∷ xs) = fold int_min x xs

abbrev pub greatest : List ℤ → ℤ
greatest [] = pos 0
greatest (x ∷ xs) = fold int_max x xs

-- a function of its arguments (ANSI X3.9-1978, table 5)
abbrev pub applied : Func → List ℤ → Result ℤ FaultKind
applied Mod xs = exact_remainder (first xs) (second xs)
applied Abs xs = exact (pos (unsigned_abs (first xs)))
applied Min xs = Ok (least xs)
applied Max xs = Ok (greatest xs)

abbrev mutual
  -- the value of an expression: operands and arguments from left to right, all subscripts of a reference before their bounds
  pub value_of : Readings → Expression → Result ℤ FaultKind
  value_of r (Number n) = Ok n
  value_of r (Scalar s) = Ok (r.scalar s)
  value_of r (Element array subs site) = and_then (values_of r subs) (element_value r array (Some site))
  value_of r (Negated a) = and_then (value_of r a) (λ x. exact (neg_ℤ x))
  value_of r (Joined op a b) = and_then (value_of r a) (λ x. and_then (value_of r b) (joined op x))
  value_of r (Applied f args) = and_then (values_of r args) (applied f)

  -- the values of all of them, or the first fault
  pub values_of : Readings → Expressions → Result (List ℤ) FaultKind
  values_of r End = Ok []
  values_of r (More e es) = and_then (value_of r e) (λ x. and_then (values_of r es) (λ xs. Ok (x ∷ xs)))

-- a comparison holds
abbrev pub compared : Rel → ℤ → ℤ → Bool
compared Eq x y = int_eq x y
compared Ne x y = not (int_eq x y)
compared Lt x y = int_lt x y
compared Le x y = int_le x y
compared Gt x y = int_lt y x
compared Ge x y = int_le y x

-- whether a condition holds, or the first fault; `.AND.` and `.OR.` value both sides
abbrev pub truth_of : Readings → Condition → Result Bool FaultKind
truth_of r (Fixed b) = Ok b
truth_of r (Compared rel a b) = and_then (value_of r a) (λ x. and_then (value_of r b) (λ y. Ok (compared rel x y)))
truth_of r (Not c) = and_then (truth_of r c) (λ x. Ok (not x))
truth_of r (Both c d) = and_then (truth_of r c) (λ x. and_then (truth_of r d) (λ y. Ok (x && y)))
truth_of r (Either c d) = and_then (truth_of r c) (λ x. and_then (truth_of r d) (λ y. Ok (x || y)))
