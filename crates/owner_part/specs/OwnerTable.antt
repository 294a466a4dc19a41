-- The text of the owner table of a program.
use Rattle.std.specs.Prelude.{ℕ, List, [], ◌++◌, flat_map, codes, nat_eq, if◌then◌else◌}
use Rattle.std.specs.List.{range_with_len}
use Rattle.std.specs.Fmt.{decimal, signed_decimal}
use Rattle.fd_base.specs.declared.shapes.Shape.{Shape}
use Rattle.fd_base.specs.Places.{Place, Whole, Unset, Split, local_in, owner_in, subscript_at}
use Rattle.fd_base.specs.Shapes.{size_of}
use Rattle.fd_prog.specs.declared.program.Array.{Array}
use Rattle.fd_prog.specs.Programs.{CheckedProgram}
use Rattle.fd_prog.specs.Placing.{place_of_array}

-- the subscripts of an element, with a comma between two
abbrev pub subscripts_text : Shape → ℕ → List ℕ
subscripts_text shape element =
    if nat_eq shape.dims 1 then signed_decimal (subscript_at shape 0 element)
    else signed_decimal (subscript_at shape 0 element) ++ (codes "," ++ signed_decimal (subscript_at shape 1 element))

-- an element: NAME(subscripts)
abbrev pub element_text : Array → ℕ → List ℕ
element_text a element = a.name ++ (codes "(" ++ (subscripts_text a.shape element ++ codes ")"))

-- the line of an element: the element, its owner and its local number with a blank before each, and LF
abbrev pub element_line : Array → List ℕ → ℕ → List ℕ
element_line a owners element =
    element_text a element ++ (codes " " ++ (decimal (owner_in owners element) ++ (codes " " ++ (decimal (local_in owners element) ++ codes "\n"))))

-- NAME irregular, and LF
abbrev pub irregular_line : Array → List ℕ
irregular_line a = a.name ++ codes " irregular\n"

-- the lines of an array by its place: none where it is replicated, a line for each element in column-major order where it is split over the ranks, and one
-- line where a statement of the run places it
abbrev pub array_lines : Array → Place → List ℕ
array_lines a Whole = []
array_lines a Unset = irregular_line a
array_lines a (Split owners) = flat_map (element_line a owners) (range_with_len 0 (size_of a.shape))

-- the lines of all arrays in order of declaration
abbrev pub owner_table : CheckedProgram → ℕ → List ℕ
owner_table p ranks = flat_map (λ a. array_lines a (place_of_array p ranks a)) p.arrays
