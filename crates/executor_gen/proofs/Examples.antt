-- The code of small programs, by computing with the layout.
use Rattle.std.proofs.Common.{◌≡◌, refl, ℕ, pos, true, List, [], ◌∷◌, codes, get_or, ◌==◌, if◌then◌else◌}
use Rattle.fd_base.specs.declared.numbering.ItemNo.{ItemNo}
use Rattle.fd_base.specs.declared.numbering.Line.{Line}
use Rattle.fd_prog.specs.Conditions.{Fixed}
use Rattle.fd_prog.specs.Expressions.{Number, Scalar}
use Rattle.fd_prog.specs.Nodes.{nodes_of}
use Rattle.fd_prog.specs.Programs.{CheckedProgram}
use Rattle.fd_prog.specs.Statements as statements
use Rattle.fd_prog.specs.Statements.{Value, Statement, Empty, Then}
use Rattle.exec_code.specs.Instructions.{Instruction, Print, Skip, Test, Start, Turn, Jump, Send, Recv, Stop}
use Rattle.executor_gen.specs.Layout.{Spots}
use Rattle.executor_gen.specs.Blocks.{blocks_from, ends_from}

-- a program of one statement
abbrev one : Statement → CheckedProgram
one s = record { scalars = codes "I" ∷ []; arrays = []; decomps = []; body = Then s Empty; end_line = record { 0 = 9 }; rest = 0; sites = 0 }

-- its code with these operations
abbrev code : Spots → Statement → List Instruction
code o s = blocks_from o (λ n. get_or (0 ∷ ends_from o 0 0 (nodes_of (one s))) n 0) 0 0 (nodes_of (one s))

abbrev line : Line
line = record { 0 = 1 }

-- operations at one node alone
abbrev at_node : ℕ → List Instruction → ℕ → List Instruction
at_node node is n = if n == node then is else []

abbrev none : Spots
none = record { ins = λ n. []; outs = λ n. [] }

abbrev x : ItemNo
x = record { 0 = 1 }

-- DO I = 1, 2 with a PRINT of I
abbrev loop : Statement
loop = statements.Do line 0 (Number (pos 1)) (Number (pos 2)) (Number (pos 1)) (Then (statements.Print line (Value (Scalar 0) ∷ [])) Empty)

plain_loop : code none loop ≡ Start 0 (Number (pos 1)) (Number (pos 2)) (Number (pos 1)) ∷ (Turn 0 4 ∷ (Print (Value (Scalar 0) ∷ []) ∷ (Jump 1 ∷ (Stop ∷ []))))
plain_loop = refl

-- what is done behind the loop is done once, and what is done at its beginning isn't done again
loop_with_operations : code (record { ins = at_node 1 (Send x ∷ []); outs = at_node 1 (Recv x ∷ []) }) loop
    ≡ Send x ∷ (Start 0 (Number (pos 1)) (Number (pos 2)) (Number (pos 1)) ∷ (Turn 0 5 ∷ (Print (Value (Scalar 0) ∷ []) ∷ (Jump 2 ∷ (Recv x ∷ (Stop ∷ []))))))
loop_with_operations = refl

-- what is done behind a test is done on both sides
fork_with_operations : code (record { ins = at_node 99 []; outs = at_node 1 (Send x ∷ []) }) (statements.If line (Fixed true) (Then (statements.Continue line) Empty) Empty)
    ≡ Test (Fixed true) 3 ∷ (Send x ∷ (Jump 5 ∷ (Send x ∷ (Jump 7 ∷ (Skip ∷ (Jump 7 ∷ (Stop ∷ [])))))))
fork_with_operations = refl
