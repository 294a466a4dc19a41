-- Constants: expressions that are built from numbers, constants, signs and functions, and their values.
use Rattle.std.specs.Prelude.{ℤ, neg_ℤ, Bool, true, false, ◌&&◌, List, [], ◌∷◌, Option, None, Some, option_map, option_and_then}
use Rattle.std.specs.Result.{result_ok}
use Rattle.fd_base.specs.Numbers.{exact}
use Rattle.fd_prog.specs.Expressions.{Expression, Number, Scalar, Element, Negated, Joined, Applied, Expressions, End, More}
use Rattle.fd_prog.specs.Values.{joined, applied}

abbrev mutual
  -- the value of a constant, or None where it is none or faults; a run computes by the same `joined` and `applied`
  pub constant_of : Expression → Option ℤ
  constant_of (Number n) = Some n
  constant_of (Scalar k) = None
  constant_of (Element k es site) = None
  constant_of (Negated e) = option_and_then (λ x. result_ok (exact (neg_ℤ x))) (constant_of e)
  constant_of (Joined op a b) = option_and_then (λ x. option_and_then (λ y. result_ok (joined op x y)) (constant_of b)) (constant_of a)
  constant_of (Applied f es) = option_and_then (λ xs. result_ok (applied f xs)) (constants_of es)

  -- the values of all of them, where all are constant
  pub constants_of : Expressions → Option (List ℤ)
  constants_of End = Some []
  constants_of (More e es) = option_and_then (λ x. option_map (λ xs. x ∷ xs) (constants_of es)) (constant_of e)

abbrev mutual
  -- no scalar and no element stands in an expression
  pub names_nothing : Expression → Bool
  names_nothing (Number n) = true
  names_nothing (Scalar k) = false
  names_nothing (Element k es site) = false
  names_nothing (Negated e) = names_nothing e
  names_nothing (Joined op a b) = names_nothing a && names_nothing b
  names_nothing (Applied f es) = name_nothing es

  pub name_nothing : Expressions → Bool
  name_nothing End = true
  name_nothing (More e es) = names_nothing e && name_nothing es
