-- The texts of items.
use Rattle.std.specs.Prelude.{ℕ, List, ◌++◌, flat_map, codes}
use Rattle.fd_prog.specs.Programs.{CheckedProgram}
use Rattle.fd_prog.specs.Homes.{Executor, EveryRank, RankZero, OwnerOf}
use Rattle.fd_prog.specs.Items.{LinearItem, LinearLoop}
use Rattle.place_text.specs.Names.{array_name, decomp_name}
use Rattle.place_text.specs.FormTexts.{in_parentheses, arguments_text, form_text, forms_texts}

-- a widened loop by its first and last value and its step
abbrev pub loop_text : CheckedProgram → LinearLoop → List ℕ
loop_text p l = codes " do " ++ (form_text p l.first ++ (codes "," ++ (form_text p l.last ++ (codes "," ++ form_text p l.step))))

-- all ranks, rank 0, or a decomposition with the form of its subscript along the distributed dimension
abbrev pub home_text : CheckedProgram → Executor → List ℕ
home_text p EveryRank = codes "all"
home_text p RankZero = codes "root"
home_text p (OwnerOf l) = decomp_name p l.decomp ++ in_parentheses (form_text p l.form)

-- an item: its array and subscripts, its loops with the outermost first, and its home
abbrev pub item_text : CheckedProgram → LinearItem → List ℕ
item_text p x = array_name p x.array ++ (arguments_text (forms_texts p x.subs) ++ (flat_map (loop_text p) x.loops ++ (codes " at " ++ home_text p x.home)))
