-- What a rank needs of an item: the elements that it reads by it and doesn't own.
use Rattle.std.specs.Prelude.{ℕ, ◌==◌, ℤ, pos, ◌+ℤ◌, ◌-ℤ◌, ◌*ℤ◌, Bool, false, not, ◌&&◌, List, [], ◌∷◌, ◌++◌, map, filter, flat_map, length, take, take_while, slice_get, option_and_then, Option, Some, None, Result, Ok, Err}
use Rattle.std.specs.List.{list_any, range_with_len}
use Rattle.fd_base.specs.declared.numbers.FaultKind.{FaultKind}
use Rattle.fd_base.specs.Numbers.{exact, fits_i64, exact_trip_count}
use Rattle.fd_base.specs.Places.{Place, is_owner}
use Rattle.fd_base.specs.Shapes.{extent_of, low_of, ordinal_of, size_of, within}
use Rattle.fd_prog.specs.declared.program.Decomp.{Decomp}
use Rattle.fd_prog.specs.Outcomes.{and_then}
use Rattle.fd_prog.specs.Values.{Readings}
use Rattle.fd_prog.specs.Stores.{shape_of}
use Rattle.fd_prog.specs.Forms.{LinearForm}
use Rattle.fd_prog.specs.FormValues.{form_value, part_values}
use Rattle.fd_prog.specs.Programs.{CheckedProgram}
use Rattle.fd_prog.specs.Homes.{Location, Executor, executes_by}
use Rattle.fd_prog.specs.Items.{LinearItem, LinearLoop}

-- what a rank's needs are read from: the numbers of scalars and elements, the places of the arrays, and those of the distributed dimensions of the
-- decompositions, position by position
pub record Sight : Type 0 where
  pub program : CheckedProgram
  pub readings : Readings
  pub array_place : ℕ → Place
  pub decomp_place : ℕ → Place

-- ---- iterations

-- how a widened loop begins: the first number of its variable, its step, and how often it iterates
pub record LoopNumbers : Type 0 where
  pub first : ℤ
  pub by : ℤ
  pub count : ℕ

-- the value of a bound, which faults outside 64 bits
abbrev pub bound_value : Readings → List ℤ → LinearForm → Result ℤ FaultKind
bound_value r vs f = and_then (form_value r vs f) exact

abbrev pub loop_numbers : Readings → List ℤ → LinearLoop → Result LoopNumbers FaultKind
loop_numbers r vs l =
    and_then (bound_value r vs l.first) (λ x. and_then (bound_value r vs l.last) (λ y. and_then (bound_value r vs l.step) (λ z.
    and_then (exact_trip_count x y z) (λ n. Ok (record { first = x; by = z; count = n })))))

-- the numbers of a loop's variable in its iterations: an increment past 64 bits ends the loop, and where its bounds fault there are none
abbrev pub numbers_in : Result LoopNumbers FaultKind → List ℤ
numbers_in (Ok n) = take_while fits_i64 (map (λ k. n.first +ℤ pos k *ℤ n.by) (range_with_len 0 n.count))
numbers_in (Err kind) = []

-- the iterations of nested loops where the variables of the loops around them have these numbers, each as it begins: an iteration is the numbers of the
-- variables from the outermost loop to its own, and those of the loops inside follow it
abbrev pub iterations_inside : Readings → List LinearLoop → List ℤ → List (List ℤ)
iterations_inside r [] vs = []
iterations_inside r (l ∷ ls) vs =
    flat_map (λ v. (vs ++ v ∷ []) ∷ iterations_inside r ls (vs ++ v ∷ [])) (numbers_in (loop_numbers r vs l))

-- all iterations; without loops there is one, which sets no variable
abbrev pub all_iterations : Readings → List LinearLoop → List (List ℤ)
all_iterations r [] = [] ∷ []
all_iterations r (l ∷ ls) = iterations_inside r (l ∷ ls) []

-- the iterations that are visited: the first so many
abbrev pub visited : Readings → LinearItem → ℕ → List (List ℤ)
visited r x limit = take limit (all_iterations r x.loops)

-- ---- needs

-- a rank owns the element that there may be
abbrev pub owns_some : Place → ℕ → Option ℕ → Bool
owns_some place rank (Some element) = is_owner place element rank
owns_some place rank None = false

-- the position along the distributed dimension of a decomposition that a subscript has, where it is inside
abbrev pub position_at : CheckedProgram → ℕ → Result ℤ FaultKind → Option ℕ
position_at p decomp (Ok z) = option_and_then (λ (d : Decomp). within (extent_of d.shape d.dim) (z -ℤ low_of d.shape d.dim)) (slice_get p.decomps decomp)
position_at p decomp (Err kind) = None

-- a rank executes at a home in an iteration; where the home faults or leaves its decomposition, none does
abbrev pub executes_at : Sight → List ℤ → Executor → ℕ → Bool
executes_at s vs home rank =
    executes_by (λ (l : Location) owner. owns_some (s.decomp_place l.decomp) owner (position_at s.program l.decomp (form_value s.readings vs l.form))) home rank

-- the result is this element
abbrev pub is_element : ℕ → Result ℕ FaultKind → Bool
is_element element (Ok n) = n == element
is_element element (Err kind) = false

-- in an iteration of the innermost loop a rank executes, and the subscripts give the element inside the bounds
abbrev pub reads_in : Sight → LinearItem → ℕ → ℕ → List ℤ → Bool
reads_in s x rank element vs =
    (length vs == length x.loops) && (executes_at s vs x.home rank && is_element element (and_then (part_values s.readings vs x.subs) (ordinal_of (shape_of s.program x.array))))

-- a rank reads an element by an item and doesn't own it
abbrev pub is_needed : Sight → LinearItem → ℕ → ℕ → ℕ → Bool
is_needed s x rank limit element = not (is_owner (s.array_place x.array) element rank) && list_any (reads_in s x rank element) (visited s.readings x limit)

-- the elements that a rank needs of an item, ascending
abbrev pub needs : Sight → LinearItem → ℕ → ℕ → List ℕ
needs s x rank limit = filter (is_needed s x rank limit) (range_with_len 0 (size_of (shape_of s.program x.array)))
