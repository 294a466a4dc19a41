-- The names of a program by their numbers, in upper case as the program keeps them. A number that the program has no name for gives no bytes.
use Rattle.std.specs.Prelude.{ℕ, List, [], slice_get, option_map, unwrap_or, codes}
use Rattle.fd_prog.specs.declared.expression.Func.{Func}
use Rattle.fd_prog.specs.declared.expression.Func.TheVariants.{Mod, Abs, Min, Max}
use Rattle.fd_prog.specs.declared.program.Array.{Array}
use Rattle.fd_prog.specs.declared.program.Decomp.{Decomp}
use Rattle.fd_prog.specs.Programs.{CheckedProgram}

abbrev pub scalar_name : CheckedProgram → ℕ → List ℕ
scalar_name p scalar = unwrap_or (slice_get p.scalars scalar) []

abbrev pub array_name : CheckedProgram → ℕ → List ℕ
array_name p array = unwrap_or (option_map (λ (a : Array). a.name) (slice_get p.arrays array)) []

abbrev pub decomp_name : CheckedProgram → ℕ → List ℕ
decomp_name p decomp = unwrap_or (option_map (λ (d : Decomp). d.name) (slice_get p.decomps decomp)) []

abbrev pub function_name : Func → List ℕ
function_name Mod = codes "MOD"
function_name Abs = codes "ABS"
function_name Min = codes "MIN"
function_name Max = codes "MAX"
