-- The nodes of small programs, by computing with the definitions.
use Rattle.std.proofs.Common.{◌≡◌, refl, ℕ, pos, List, [], ◌∷◌, map, true, IsTrue}
use Rattle.fd_base.specs.declared.numbering.Line.{Line}
use Rattle.fd_prog.specs.declared.statement.Remapped.TheVariants.{Map}
use Rattle.fd_prog.specs.Expressions.{Number}
use Rattle.fd_prog.specs.Conditions.{Fixed}
use Rattle.fd_prog.specs.Statements.{ToScalar, Statement, Assign, If, Do, Read, Print, Distribute, Statements, Empty, Then}
use Rattle.fd_prog.specs.Programs.{CheckedProgram}
use Rattle.fd_prog.specs.Nodes.{Node, nodes_of, node_count}
use Rattle.fd_prog.specs.Flow.{Way, Next, Fork, Jump, Around, Back, Nowhere, way_of, graph_of}

-- of a program only its statements and its END line have nodes
abbrev program : Statements → ℕ → CheckedProgram
program body end_line = record { scalars = []; arrays = []; decomps = []; body = body; end_line = record { 0 = end_line }; rest = 0; sites = 0 }

abbrev line : ℕ → Line
line n = record { 0 = n }

abbrev assigns : ℕ → Statement
assigns n = Assign (line n) (ToScalar 0) (Number (pos 1))

abbrev reads : ℕ → Statement
reads n = Read (line n) (ToScalar 0)

abbrev prints : ℕ → Statement
prints n = Print (line n) []

abbrev loops : ℕ → Statements → Statement
loops n body = Do (line n) 1 (Number (pos 1)) (Number (pos 8)) (Number (pos 1)) body

abbrev tests : ℕ → Statements → Statements → Statement
tests n so otherwise = If (line n) (Fixed true) so otherwise

-- a node by its line and where it leads
abbrev shape : Node → ℕ × Way
shape node = (node.line.0, way_of node.role)

abbrev shapes : CheckedProgram → List (ℕ × Way)
shapes p = map shape (nodes_of p)

-- two loops of one statement, and a PRINT: the second loop is node 5, and the PRINT node 9
abbrev two_loops : CheckedProgram
two_loops = program (Then (loops 6 (Then (assigns 7) Empty)) (Then (loops 9 (Then (assigns 10) Empty)) (Then (prints 12) Empty))) 13

two_loops-shapes : shapes two_loops ≡ (0, Next)
    ∷ (6, Around 4) ∷ (6, Next) ∷ (7, Next) ∷ (6, Back 1)
    ∷ (9, Around 8) ∷ (9, Next) ∷ (10, Next) ∷ (9, Back 5)
    ∷ (12, Next) ∷ (13, Nowhere) ∷ []
two_loops-shapes = refl

two_loops-count : node_count two_loops ≡ 11
two_loops-count = refl

-- with a third loop between them the last loop is node 9 and the PRINT node 13
three_loops : shapes (program (Then (loops 7 (Then (assigns 8) Empty)) (Then (loops 10 (Then (assigns 11) Empty)) (Then (loops 13 (Then (assigns 14) Empty)) (Then (prints 16) Empty)))) 17) ≡ (0, Next)
    ∷ (7, Around 4) ∷ (7, Next) ∷ (8, Next) ∷ (7, Back 1)
    ∷ (10, Around 8) ∷ (10, Next) ∷ (11, Next) ∷ (10, Back 5)
    ∷ (13, Around 12) ∷ (13, Next) ∷ (14, Next) ∷ (13, Back 9)
    ∷ (16, Next) ∷ (17, Nowhere) ∷ []
three_loops = refl

-- an assignment, and a loop with an IF in it that has no ELSE: the loop is node 2
loop_with_if : shapes (program (Then (assigns 3) (Then (loops 4 (Then (tests 5 (Then (assigns 6) Empty) Empty) Empty)) (Then (assigns 9) (Then (prints 10) Empty)))) 11) ≡ (0, Next)
    ∷ (3, Next)
    ∷ (4, Around 11) ∷ (4, Next)
    ∷ (5, Fork 8) ∷ (5, Next) ∷ (6, Next) ∷ (5, Jump 10) ∷ (5, Next) ∷ (5, Next) ∷ (5, Next)
    ∷ (4, Back 2)
    ∷ (9, Next) ∷ (10, Next) ∷ (11, Nowhere) ∷ []
loop_with_if = refl

-- an IF without ELSE between assignments: the yes side is node 4, the last pad of the no side node 7, and paths over the no side are 0 1 2 6 7 8 ..
abbrev one_if : CheckedProgram
one_if = program (Then (assigns 3) (Then (tests 4 (Then (assigns 5) Empty) Empty) (Then (assigns 7) (Then (prints 8) Empty)))) 9

one_if-shapes : shapes one_if ≡ (0, Next)
    ∷ (3, Next)
    ∷ (4, Fork 6) ∷ (4, Next) ∷ (5, Next) ∷ (4, Jump 8) ∷ (4, Next) ∷ (4, Next) ∷ (4, Next)
    ∷ (7, Next) ∷ (8, Next) ∷ (9, Nowhere) ∷ []
one_if-shapes = refl

one_if-branches : IsTrue ((graph_of (nodes_of one_if)).forward 2 6)
one_if-branches = refl

-- two loops that read, with a DISTRIBUTE between them, a loop around two loops, a loop that sums and a PRINT: the loop around others is node 11, its top
-- pad node 12, the first loop in it node 13, and the sum's loop node 22
mesh : shapes (program
    (Then (loops 8 (Then (reads 9) Empty)) (Then (Distribute (line 11) 0 (Map 3)) (Then (loops 12 (Then (reads 13) (Then (assigns 14) Empty)))
    (Then (loops 16 (Then (loops 17 (Then (assigns 18) Empty)) (Then (loops 20 (Then (assigns 21) Empty)) Empty)))
    (Then (loops 24 (Then (assigns 25) Empty)) (Then (prints 27) Empty)))))) 28) ≡ (0, Next)
    ∷ (8, Around 4) ∷ (8, Next) ∷ (9, Next) ∷ (8, Back 1)
    ∷ (11, Next)
    ∷ (12, Around 10) ∷ (12, Next) ∷ (13, Next) ∷ (14, Next) ∷ (12, Back 6)
    ∷ (16, Around 21) ∷ (16, Next)
    ∷ (17, Around 16) ∷ (17, Next) ∷ (18, Next) ∷ (17, Back 13)
    ∷ (20, Around 20) ∷ (20, Next) ∷ (21, Next) ∷ (20, Back 17)
    ∷ (16, Back 11)
    ∷ (24, Around 25) ∷ (24, Next) ∷ (25, Next) ∷ (24, Back 22)
    ∷ (27, Next) ∷ (28, Nowhere) ∷ []
mesh = refl
