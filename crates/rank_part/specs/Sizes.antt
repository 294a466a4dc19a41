-- How many numbers a store has.
use Rattle.std.specs.Prelude.{◌≡◌, ℕ, length, slice_get, Some}
use Rattle.fd_base.specs.Shapes.{size_of}
use Rattle.fd_prog.specs.declared.program.Array.{Array}
use Rattle.fd_prog.specs.Programs.{CheckedProgram}
use Rattle.fd_prog.specs.Stores.{Store}
use Rattle.rank_part.specs.Parts.{row}

-- a number for each scalar of a program, and for each array one for each of its elements
pub record HasSizes (p : CheckedProgram) (s : Store) : Type 0 where
  pub scalars : length s.scalars ≡ length p.scalars
  pub arrays : length s.arrays ≡ length p.arrays
  pub elements : (array : ℕ) (a : Array) → slice_get p.arrays array ≡ Some a → length (row s.arrays array) ≡ size_of a.shape
