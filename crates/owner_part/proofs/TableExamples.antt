-- The owner table of small programs, by computing with the definition.
use Rattle.std.proofs.Common.{◌≡◌, refl, ℕ, pos, negsuc, List, [], ◌∷◌, codes, Some, None}
use Rattle.std.specs.Fmt.{digits}
use Rattle.fd_base.specs.declared.shapes.Along.TheVariants.{Dim}
use Rattle.fd_base.specs.declared.shapes.Dist.TheVariants.{Block, Cyclic, BlockCyclic, Irregular}
use Rattle.fd_base.specs.declared.shapes.Shape.{Shape}
use Rattle.fd_base.specs.Places.{regular_owners}
use Rattle.fd_prog.specs.declared.program.Array.{Array}
use Rattle.fd_prog.specs.declared.program.Decomp.{Decomp}
use Rattle.fd_prog.specs.Programs.{CheckedProgram}
use Rattle.fd_prog.specs.Statements.{Empty}
use Rattle.owner_part.specs.OwnerTable.{owner_table}

abbrev line_of : ℕ → Shape
line_of n = record { dims = 1; low = pos 1 ∷ (pos 0 ∷ []); extent = n ∷ (1 ∷ []) }

abbrev grid_of : ℕ → ℕ → Shape
grid_of m n = record { dims = 2; low = pos 1 ∷ (pos 1 ∷ []); extent = m ∷ (n ∷ []) }

abbrev program : List Array → List Decomp → CheckedProgram
program arrays decomps = record { scalars = []; arrays = arrays; decomps = decomps; body = Empty; end_line = record { 0 = 1 }; rest = 0; sites = 0 }

-- A(4) and B(7), each one place further on in D(5) by CYCLIC and in E(8) by BLOCK_CYCLIC(3), on 2 ranks
cyclic-table : owner_table (program
    (record { name = 65 ∷ []; shape = line_of 4; decomp = Some 0; along = Dim 0 (pos 0) } ∷ (record { name = 66 ∷ []; shape = line_of 7; decomp = Some 1; along = Dim 0 (pos 0) } ∷ []))
    (record { name = []; shape = line_of 5; dim = 0; dist = Some Cyclic } ∷ (record { name = []; shape = line_of 8; dim = 0; dist = Some (BlockCyclic 3) } ∷ []))) 2
    ≡ codes "A(1) 1 0\nA(2) 0 0\nA(3) 1 1\nA(4) 0 1\nB(1) 0 0\nB(2) 0 1\nB(3) 1 0\nB(4) 1 1\nB(5) 1 2\nB(6) 0 2\nB(7) 0 3\n"
unfolding regular_owners digits
cyclic-table = refl

-- A(2,4) by (:,BLOCK) on 2 ranks
columns-table : owner_table (program
    (record { name = 65 ∷ []; shape = grid_of 2 4; decomp = Some 0; along = Dim 1 (negsuc 0) } ∷ [])
    (record { name = []; shape = grid_of 2 4; dim = 1; dist = Some Block } ∷ [])) 2
    ≡ codes "A(1,1) 0 0\nA(2,1) 0 1\nA(1,2) 0 2\nA(2,2) 0 3\nA(1,3) 1 0\nA(2,3) 1 1\nA(1,4) 1 2\nA(2,4) 1 3\n"
unfolding regular_owners digits
columns-table = refl

-- a map array places A later, and B is replicated
irregular-table : owner_table (program
    (record { name = 65 ∷ []; shape = line_of 4; decomp = Some 0; along = Dim 0 (negsuc 0) } ∷ (record { name = 66 ∷ []; shape = line_of 4; decomp = None; along = Dim 0 (pos 0) } ∷ []))
    (record { name = []; shape = line_of 4; dim = 0; dist = Some Irregular } ∷ [])) 2 ≡ codes "A irregular\n"
irregular-table = refl
