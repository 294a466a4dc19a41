-- The deck of a mesh of so many nodes, whose neighbours are read through an index array and whose owners through a map,
-- with its input.
use Rattle.std.specs.Prelude.{ℕ, List, [], ◌∷◌, ◌++◌, codes, decimal, flat_map}
use Rattle.fd_gen.specs.Draws.{draws_modulo, permutation, state_after}

-- what stands before the size
unfoldable pub before_size : List ℕ
before_size = codes "PROGRAM MESH\n" ++ codes "PARAMETER (N = "

-- what stands behind the size
unfoldable pub behind_size : List ℕ
behind_size =
    codes ", NT = 50)\n" ++ codes "INTEGER X(N), Y(N), IA(N), M(N), S\n"
    ++ codes "DECOMPOSITION D(N)\n" ++ codes "ALIGN X WITH D\n" ++ codes "ALIGN Y WITH D\n" ++ codes "ALIGN IA WITH D\n"
    ++ codes "DO I = 1, N\n" ++ codes "READ *, M(I)\n" ++ codes "ENDDO\n"
    ++ codes "DISTRIBUTE D(M)\n"
    ++ codes "DO I = 1, N\n" ++ codes "READ *, IA(I)\n" ++ codes "X(I) = I\n" ++ codes "ENDDO\n"
    ++ codes "DO K = 1, NT\n"
    ++ codes "DO I = 1, N\n" ++ codes "Y(I) = X(IA(I))\n" ++ codes "ENDDO\n"
    ++ codes "DO I = 1, N\n" ++ codes "X(I) = Y(I)\n" ++ codes "ENDDO\n"
    ++ codes "ENDDO\n"
    ++ codes "DO I = 1, N\n" ++ codes "S = S + X(I)\n" ++ codes "ENDDO\n"
    ++ codes "PRINT *, S\n" ++ codes "END\n"

-- the program
unfoldable pub mesh_program : ℕ → List ℕ
mesh_program size = before_size ++ decimal size ++ behind_size

-- one number a line
abbrev pub number_lines : List ℕ → List ℕ
number_lines numbers = flat_map (λ n. decimal n ++ 10 ∷ []) numbers

-- the neighbour of each node, in a drawn order behind the draws of the map
abbrev pub neighbours : ℕ → ℕ → List ℕ
neighbours size start = permutation (state_after start size) size

-- the program; a value of the map for each node, drawn modulo 1,000; and the neighbour of each node
unfoldable pub mesh_text : ℕ → ℕ → List ℕ
mesh_text size start =
    mesh_program size
    ++ number_lines (draws_modulo 1000 start size)
    ++ number_lines (neighbours size start)
