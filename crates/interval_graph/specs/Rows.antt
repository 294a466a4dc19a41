-- The rows that tell a program's nodes.
use Rattle.std.specs.Prelude.{◌≡◌, ℕ, ◌+◌, ◌≤◌, List, [], ◌∷◌, ◌++◌, map, get_or}
use Rattle.fd_base.specs.declared.numbering.Line.{Line}
use Rattle.fd_prog.specs.Programs.{CheckedProgram}
use Rattle.fd_prog.specs.Nodes as nodes
use Rattle.fd_prog.specs.Nodes.{Role, Node, nodes_of, node_count}
use Rattle.fd_prog.specs.Flow as flow
use Rattle.fd_prog.specs.Flow.{FlowGraph, graph_by}
use Rattle.interval_graph.specs.declared.node.NodeKind.{NodeKind}
use Rattle.interval_graph.specs.declared.node.NodeKind.TheVariants.{Start, End, Simple, Branch, Pad, Join, Loop, Latch}
use Rattle.interval_graph.specs.declared.node.Way.{Way}
use Rattle.interval_graph.specs.declared.node.Way.TheVariants.{Next, Fork, Jump, Around, Back, Nowhere}
use Rattle.interval_graph.specs.declared.node.Row.{Row}

abbrev pub kind_of : Role → NodeKind
kind_of nodes.Start = Start
kind_of (nodes.Simple s) = Simple
kind_of (nodes.Branch c no_side) = Branch
kind_of nodes.Pad = Pad
kind_of (nodes.YesEnd join) = Pad
kind_of nodes.Join = Join
kind_of (nodes.Loop s latch) = Loop
kind_of (nodes.Latch s loop) = Latch
kind_of nodes.End = End

-- a way, told by numbers of nodes
abbrev pub told : flow.Way → Way
told flow.Next = Next
told (flow.Fork n) = Fork (record { 0 = n })
told (flow.Jump n) = Jump (record { 0 = n })
told (flow.Around n) = Around (record { 0 = n })
told (flow.Back n) = Back (record { 0 = n })
told flow.Nowhere = Nowhere

-- the way that is told
abbrev pub way_in : Way → flow.Way
way_in Next = flow.Next
way_in (Fork n) = flow.Fork n.0
way_in (Jump n) = flow.Jump n.0
way_in (Around n) = flow.Around n.0
way_in (Back n) = flow.Back n.0
way_in Nowhere = flow.Nowhere

-- the row of a node
abbrev pub row_of : Node → Row
row_of node = record { kind = kind_of node.role; line = node.line; way = told (flow.way_of node.role) }

abbrev pub rows_of : List Node → List Row
rows_of ns = map row_of ns

-- the row of a number; behind the last the program has ended
abbrev pub row_at : List Row → ℕ → Row
row_at rows n = get_or rows n (record { kind = End; line = record { 0 = 0 }; way = Nowhere })

-- where the node of a number leads
abbrev pub leads_at : List Row → ℕ → flow.Way
leads_at rows n = way_in (row_at rows n).way

-- the flow graph that rows tell
abbrev pub flow_of : List Row → FlowGraph
flow_of rows = graph_by (leads_at rows)

-- rows are those of a program's nodes
abbrev pub AreRows : List Row → Type 0
AreRows rows = (p : CheckedProgram) × (rows ≡ rows_of (nodes_of p)) × (node_count p ≤ 30000)

abbrev pub row : NodeKind → Line → Way → Row
row kind line way = record { kind = kind; line = line; way = way }

-- the rows of one side of an IF, with its two pads
abbrev pub side_rows : Line → List Row → Way → List Row
side_rows line side last = row Pad line Next ∷ (side ++ (row Pad line last ∷ []))

-- the rows of a loop whose first node has the number a, by the rows of its body and how many nodes that has
abbrev pub loop_rows : ℕ → Line → ℕ → List Row → List Row
loop_rows a line m body = row Loop line (Around (record { 0 = a + m + 2 })) ∷ (row Pad line Next ∷ (body ++ (row Latch line (Back (record { 0 = a })) ∷ [])))
