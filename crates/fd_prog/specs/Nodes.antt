-- The nodes of a program's flow graph, numbered from 0 in source order.
use Rattle.std.specs.Prelude.{ℕ, ◌+◌, List, [], ◌∷◌, ◌++◌, get_or}
use Rattle.fd_base.specs.declared.numbering.Line.{Line}
use Rattle.fd_prog.specs.Conditions.{Condition}
use Rattle.fd_prog.specs.Statements.{Statement, Assign, If, Do, While, Read, Print, Continue, Distribute, Statements, Empty, Then}
use Rattle.fd_prog.specs.Programs.{CheckedProgram}

-- what a node is there for
pub data Role : Type 0 where
  Start : Role
  -- an assignment, READ, PRINT, CONTINUE or DISTRIBUTE
  Simple : Statement → Role
  -- the test of an IF, and the number of the first pad of its no side
  Branch : Condition → ℕ → Role
  -- a pad that leads to the next node
  Pad : Role
  -- the last pad of a yes side, and the number of the Join that it leads to
  YesEnd : ℕ → Role
  Join : Role
  -- the beginning of a DO or DO WHILE, and the number of its latch
  Loop : Statement → ℕ → Role
  -- the end of the body of a DO or DO WHILE, and the number of its beginning
  Latch : Statement → ℕ → Role
  End : Role

-- a node, with the line that it is told by
pub record Node : Type 0 where
  pub line : Line
  pub role : Role

abbrev pub at_line : Line → Role → Node
at_line line role = record { line = line; role = role }

abbrev mutual
  -- how many nodes a statement has, with all that stands in it
  pub nodes_in : Statement → ℕ
  nodes_in (Assign line target e) = 1
  nodes_in (If line c so otherwise) = nodes_among so + nodes_among otherwise + 6
  nodes_in (Do line var first last by body) = nodes_among body + 3
  nodes_in (While line c body) = nodes_among body + 3
  nodes_in (Read line target) = 1
  nodes_in (Print line items) = 1
  nodes_in (Continue line) = 1
  nodes_in (Distribute line decomp given) = 1

  pub nodes_among : Statements → ℕ
  nodes_among Empty = 0
  nodes_among (Then s ss) = nodes_in s + nodes_among ss

-- an IF whose Branch has the number a: Branch, pad, the yes side, pad, pad, the no side, pad, Join; all are told by the line of the IF.
-- Each side is given by how many nodes it has, and by what these are from a number on
abbrev pub fork_from : ℕ → Line → Condition → ℕ → (ℕ → List Node) → ℕ → (ℕ → List Node) → List Node
fork_from a line c m so n otherwise =
    at_line line (Branch c (a + m + 3)) ∷ (at_line line Pad ∷ (so (a + 2)
    ++ (at_line line (YesEnd (a + m + n + 5)) ∷ (at_line line Pad ∷ (otherwise (a + m + 4)
    ++ (at_line line Pad ∷ (at_line line Join ∷ [])))))))

-- a loop whose beginning has the number a: Loop, pad, the body, Latch; all are told by the line of the DO
abbrev pub loop_from : ℕ → Line → Statement → ℕ → (ℕ → List Node) → List Node
loop_from a line s inside body =
    at_line line (Loop s (a + inside + 2)) ∷ (at_line line Pad ∷ (body (a + 2) ++ (at_line line (Latch s a) ∷ [])))

abbrev mutual
  -- the nodes of a statement whose first node has the number a
  pub nodes_from : ℕ → Statement → List Node
  nodes_from a (Assign line target e) = at_line line (Simple (Assign line target e)) ∷ []
  nodes_from a (If line c so otherwise) =
      fork_from a line c (nodes_among so) (λ b. all_nodes_from b so) (nodes_among otherwise) (λ b. all_nodes_from b otherwise)
  nodes_from a (Do line var first last by body) =
      loop_from a line (Do line var first last by body) (nodes_among body) (λ b. all_nodes_from b body)
  nodes_from a (While line c body) =
      loop_from a line (While line c body) (nodes_among body) (λ b. all_nodes_from b body)
  nodes_from a (Read line target) = at_line line (Simple (Read line target)) ∷ []
  nodes_from a (Print line items) = at_line line (Simple (Print line items)) ∷ []
  nodes_from a (Continue line) = at_line line (Simple (Continue line)) ∷ []
  nodes_from a (Distribute line decomp given) = at_line line (Simple (Distribute line decomp given)) ∷ []

  -- the nodes of statements, one statement after the other
  pub all_nodes_from : ℕ → Statements → List Node
  all_nodes_from a Empty = []
  all_nodes_from a (Then s ss) = nodes_from a s ++ all_nodes_from (a + nodes_in s) ss

-- the beginning of the program, told by line 0
abbrev pub start_node : Node
start_node = record { line = record { 0 = 0 }; role = Start }

-- the nodes of a program in order of their numbers: Start, those of its statements, End
abbrev pub nodes_of : CheckedProgram → List Node
nodes_of p = start_node ∷ (all_nodes_from 1 p.body ++ (at_line p.end_line End ∷ []))

-- how many nodes a program has
abbrev pub node_count : CheckedProgram → ℕ
node_count p = nodes_among p.body + 2

-- the node of a number; behind the last node the program has ended
abbrev pub node_at : List Node → ℕ → Node
node_at nodes n = get_or nodes n (at_line (record { 0 = 0 }) End)
