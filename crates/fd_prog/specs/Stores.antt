-- What a run has stored.
use Rattle.std.specs.Prelude.{ℕ, ◌+◌, ℤ, pos, List, [], ◌∷◌, map, length, replicate, slice_get, slice_index_or, slice_set, option_map, unwrap_or, ok_or, Result, Ok}
use Rattle.fd_base.specs.declared.numbers.FaultKind.{FaultKind}
use Rattle.fd_base.specs.declared.numbers.FaultKind.TheVariants.{EndOfInput}
use Rattle.fd_base.specs.declared.shapes.Shape.{Shape}
use Rattle.fd_base.specs.Shapes.{size_of, ordinal_of}
use Rattle.fd_prog.specs.declared.program.Array.{Array}
use Rattle.fd_prog.specs.Outcomes.{and_then}
use Rattle.fd_prog.specs.Expressions.{Expression}
use Rattle.fd_prog.specs.Statements.{Target, ToScalar, ToElement}
use Rattle.fd_prog.specs.Programs.{CheckedProgram}
use Rattle.fd_prog.specs.Values.{Readings, value_of, values_of}

-- a number for each scalar, the numbers of each array in column-major order, and how many numbers of the input were taken
pub record Store : Type 0 where
  pub scalars : List ℤ
  pub arrays : List (List ℤ)
  pub taken : ℕ

-- a shape without elements
abbrev pub no_shape : Shape
no_shape = record { dims = 1; low = pos 0 ∷ (pos 0 ∷ []); extent = 0 ∷ (1 ∷ []) }

-- the shape of an array by its number
abbrev pub shape_of : CheckedProgram → ℕ → Shape
shape_of p array = unwrap_or (option_map (λ (a : Array). a.shape) (slice_get p.arrays array)) no_shape

-- at first all numbers are 0
abbrev pub first_store : CheckedProgram → Store
first_store p = record {
  scalars = replicate (length p.scalars) (pos 0);
  arrays = map (λ (a : Array). replicate (size_of a.shape) (pos 0)) p.arrays;
  taken = 0;
}

-- what an expression reads in a store; the reference that reads makes no difference
abbrev pub readings_of : CheckedProgram → Store → Readings
readings_of p s = record {
  scalar = λ k. slice_index_or s.scalars k (pos 0);
  shape = shape_of p;
  element = λ array site n. slice_index_or (slice_index_or s.arrays array []) n (pos 0);
}

-- a scalar by its number, or an element by its array and its column-major number
pub data Cell : Type 0 where
  ScalarCell : ℕ → Cell
  ElementCell : ℕ → ℕ → Cell

-- what a target names: its subscripts from left to right, and then their bounds
abbrev pub cell_of : Readings → Target → Result Cell FaultKind
cell_of r (ToScalar s) = Ok (ScalarCell s)
cell_of r (ToElement array subs site) = and_then (values_of r subs) (λ xs. and_then (ordinal_of (r.shape array) xs) (λ n. Ok (ElementCell array n)))

-- the store with another number in a cell
abbrev pub put : Cell → ℤ → Store → Store
put (ScalarCell k) x s = record s { scalars = slice_set s.scalars k x }
put (ElementCell array n) x s = record s { arrays = slice_set s.arrays array (slice_set (slice_index_or s.arrays array []) n x) }

-- an assignment: the target's subscripts and bounds, then the right side, then the number is put there
abbrev pub assigned : CheckedProgram → Target → Expression → Store → Result Store FaultKind
assigned p target e s =
    and_then (cell_of (readings_of p s) target) (λ cell. and_then (value_of (readings_of p s) e) (λ x. Ok (put cell x s)))

-- a READ of one target: its subscripts and bounds, then the next number of the input, which is put there
abbrev pub read_into : CheckedProgram → List ℤ → Target → Store → Result Store FaultKind
read_into p input target s =
    and_then (cell_of (readings_of p s) target) (λ cell. and_then (ok_or (slice_get input s.taken) EndOfInput) (λ x.
    Ok (put cell x (record s { taken = s.taken + 1 }))))
