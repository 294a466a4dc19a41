-- Where a program's arrays and decompositions are placed before it runs, on a number of ranks.
use Rattle.std.specs.Prelude.{ℕ, pos, ◌∷◌, [], option_map, unwrap_or}
use Rattle.fd_base.specs.declared.shapes.Along.{Along}
use Rattle.fd_base.specs.declared.shapes.Along.TheVariants.{Dim}
use Rattle.fd_base.specs.declared.shapes.Dist.{Dist}
use Rattle.fd_base.specs.declared.shapes.Dist.TheVariants.{Block, Cyclic, BlockCyclic, Irregular, Later}
use Rattle.fd_base.specs.declared.shapes.Shape.{Shape}
use Rattle.fd_base.specs.Places.{Place, Whole, Unset, Split, regular_owners}
use Rattle.fd_base.specs.Shapes.{extent_of}
use Rattle.fd_prog.specs.declared.program.Array.{Array}
use Rattle.fd_prog.specs.declared.program.Decomp.{Decomp}
use Rattle.fd_prog.specs.Programs.{CheckedProgram}
use Rattle.fd_prog.specs.Homes.{Distribution, distribution_of}

-- the place that an attribute gives to the elements of a shape: one that a statement of the run gives later isn't set yet
abbrev pub place_by : Dist → Shape → Along → ℕ → ℕ → Place
place_by Block shape along extent ranks = Split (regular_owners shape along extent Block ranks)
place_by Cyclic shape along extent ranks = Split (regular_owners shape along extent Cyclic ranks)
place_by (BlockCyclic size) shape along extent ranks = Split (regular_owners shape along extent (BlockCyclic size) ranks)
place_by Irregular shape along extent ranks = Unset
place_by Later shape along extent ranks = Unset

-- the place of an array: whole on every rank where it is replicated
abbrev pub place_of_array : CheckedProgram → ℕ → Array → Place
place_of_array p ranks a =
    unwrap_or (option_map (λ (d : Distribution). place_by d.dist a.shape d.along d.extent ranks) (distribution_of p a)) Whole

-- the positions of a dimension as an array of one dimension, with an element for each
abbrev pub line_of_positions : ℕ → Shape
line_of_positions extent = record { dims = 1; low = pos 0 ∷ (pos 0 ∷ []); extent = extent ∷ (1 ∷ []) }

-- the place of the distributed dimension of a decomposition
abbrev pub place_of_decomp : ℕ → Decomp → Place
place_of_decomp ranks d =
    unwrap_or (option_map (λ (dist : Dist). place_by dist (line_of_positions (extent_of d.shape d.dim)) (Dim 0 (pos 0)) (extent_of d.shape d.dim) ranks) d.dist) Whole
