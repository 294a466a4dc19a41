-- The values of references whose subscripts have values.
use Rattle.std.proofs.Common.{◌≡◌, ◌<◌, ℕ, ℤ, pos, length, get_or, ap, List, [], ◌∷◌, Option, Some, ok_or, Result, Ok, refl}
use Rattle.std.specs.Option.{option_map, unwrap_or}
use Rattle.std.proofs.lemmas.Option.{slice_get-get_or}
use Rattle.fd_base.specs.declared.numbers.FaultKind.{FaultKind}
use Rattle.fd_base.specs.declared.numbers.FaultKind.TheVariants.{Bounds}
use Rattle.fd_base.specs.declared.shapes.Shape.{Shape}
use Rattle.fd_prog.specs.declared.program.Array.{Array}
use Rattle.fd_prog.specs.Programs.{CheckedProgram}
use Rattle.fd_prog.specs.Expressions.{Expression, Element, End, More}
use Rattle.fd_base.specs.Shapes.{ordinal_of}
use Rattle.fd_prog.specs.Outcomes.{and_then}
use Rattle.fd_prog.specs.Statements.{ToElement}
use Rattle.fd_prog.specs.Stores.{ElementCell, cell_of, shape_of, no_shape}
use Rattle.fd_prog.specs.Values.{Readings, value_of, element_value}

-- by one subscript
pub value-row : (r : Readings) (array site : ℕ) (a : Expression) (x : ℤ) → value_of r a ≡ Ok x
    → value_of r (Element array (More a End) site) ≡ element_value r array (Some site) (x ∷ (pos 0 ∷ []))
value-row r array site a x first = rw first refl

-- by two subscripts
pub value-grid : (r : Readings) (array site : ℕ) (a b : Expression) (x y : ℤ) → value_of r a ≡ Ok x → value_of r b ≡ Ok y
    → value_of r (Element array (More a (More b End)) site) ≡ element_value r array (Some site) (x ∷ (y ∷ []))
value-grid r array site a b x y first second = rw (first, second) refl

-- the cell of a target by one subscript
pub cell-row : (r : Readings) (array site : ℕ) (a : Expression) (x : ℤ) → value_of r a ≡ Ok x
    → cell_of r (ToElement array (More a End) site) ≡ and_then (ordinal_of (r.shape array) (x ∷ (pos 0 ∷ []))) (λ n. Ok (ElementCell array n))
cell-row r array site a x first = rw first refl

-- by two subscripts
pub cell-grid : (r : Readings) (array site : ℕ) (a b : Expression) (x y : ℤ) → value_of r a ≡ Ok x → value_of r b ≡ Ok y
    → cell_of r (ToElement array (More a (More b End)) site) ≡ and_then (ordinal_of (r.shape array) (x ∷ (y ∷ []))) (λ n. Ok (ElementCell array n))
cell-grid r array site a b x y first second = rw (first, second) refl

-- the shape of an array that there is
pub shape-read : (p : CheckedProgram) (array : ℕ) (d : Array) → array < length p.arrays → shape_of p array ≡ (get_or p.arrays array d).shape
shape-read p array d within = ap (λ o. unwrap_or (option_map (λ (a : Array). a.shape) o) no_shape) (slice_get-get_or p.arrays array d within)

-- the number of the element whose place is known
pub value-placed : (r : Readings) (array : ℕ) (site : Option ℕ) (subs : List ℤ) (shape : Shape) (place : Option ℕ) (found : Result ℤ FaultKind) → r.shape array ≡ shape → ordinal_of shape subs ≡ ok_or place Bounds
    → and_then (ok_or place Bounds) (λ n. Ok (r.element array site n)) ≡ found → element_value r array site subs ≡ found
value-placed r array site subs shape place found same placed number = rw (same, placed) number
