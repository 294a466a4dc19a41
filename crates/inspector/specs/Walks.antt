-- What the iterations of an item's loops find for a rank.
use Rattle.std.specs.Prelude.{◌≡◌, ℕ, zero, suc, ◌-◌, ◌==◌, ℤ, ◌+ℤ◌, ◌&&◌, if◌then◌else◌, List, [], ◌∷◌, ◌++◌, flat_map, length, take, Result, Ok, Err, Contains}
use Rattle.fd_base.specs.declared.numbers.FaultKind.{FaultKind}
use Rattle.fd_base.specs.Numbers.{fits_i64}
use Rattle.fd_base.specs.Places.{Place, is_owner}
use Rattle.fd_base.specs.Shapes.{ordinal_of}
use Rattle.fd_prog.specs.Outcomes.{and_then}
use Rattle.fd_prog.specs.FormValues.{part_values}
use Rattle.fd_prog.specs.Stores.{shape_of}
use Rattle.fd_prog.specs.Items.{LinearItem, LinearLoop}
use Rattle.fd_prog.specs.Needs.{Sight, executes_at, iterations_inside}
use Rattle.fd_prog.specs.Programs.{CheckedProgram}
use Rattle.fd_prog.specs.Values.{Readings}

-- the element, where there is one that the rank doesn't own
abbrev pub others_element : Place → ℕ → Result ℕ FaultKind → List ℕ
others_element place rank (Ok n) = if is_owner place n rank then [] else n ∷ []
others_element place rank (Err kind) = []

-- the element that an item's subscripts give in an iteration
abbrev pub element_in : Readings → List ℤ → LinearItem → CheckedProgram → Result ℕ FaultKind
element_in r vs x p = and_then (part_values r vs x.subs) (ordinal_of (shape_of p x.array))

-- the element that an iteration of the innermost loop reads for a rank and that the rank doesn't own; others find none
abbrev pub found_at : Sight → LinearItem → ℕ → List ℤ → List ℕ
found_at s x rank vs =
    if (length vs == length x.loops) && executes_at s vs x.home rank
    then others_element (s.array_place x.array) rank (element_in s.readings vs x s.program)
    else []

-- the same of iterations, one after the other
abbrev pub found_in : Sight → LinearItem → ℕ → List (List ℤ) → List ℕ
found_in s x rank iterations = flat_map (found_at s x rank) iterations

-- how a walk stands: how many iterations it may still visit, and the elements found so far, in any order and maybe more than once
pub record Walk : Type 0 where
  pub left : ℕ
  pub found : List ℕ

-- two lists have the same members
pub record HaveSameMembers (xs ys : List ℕ) : Type 0 where
  pub forth : (e : ℕ) → Contains xs e → Contains ys e
  pub back : (e : ℕ) → Contains ys e → Contains xs e

-- a walk went over iterations, in order, as far as it might
pub record Visits (s : Sight) (x : LinearItem) (rank : ℕ) (iterations : List (List ℤ)) (before after : Walk) : Type 0 where
  pub left : after.left ≡ before.left - length iterations
  pub found : HaveSameMembers after.found (before.found ++ found_in s x rank (take before.left iterations))

-- the numbers of a loop's variable from a number on, by steps, until one doesn't fit 64 bits
abbrev pub numbers_from : ℤ → ℤ → ℕ → List ℤ
numbers_from v by zero = []
numbers_from v by (suc n) = if fits_i64 v then v ∷ numbers_from (v +ℤ by) by n else []

-- what one number of a loop's variable is the first iteration of, where `inside` are those of the loops inside
abbrev pub one_number_of : Readings → List LinearLoop → List ℤ → ℤ → List (List ℤ)
one_number_of r ls vs v = (vs ++ v ∷ []) ∷ iterations_inside r ls (vs ++ v ∷ [])

-- what is left to visit leads on to all
pub record Goes (s : Sight) (x : LinearItem) (rank : ℕ) (rest : List (List ℤ)) (now : Walk) (all : List (List ℤ)) (begun : Walk) : Type 0 where
  pub goes : (after : Walk) → Visits s x rank rest now after → Visits s x rank all begun after
