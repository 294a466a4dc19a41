-- What is built, solved and written is a program's listing.
use Rattle.std.proofs.Common.{◌≡◌, ◌<◌, ◌+◌, ◌^◌, ℕ, List, [], ◌∷◌, map, length, Result, Ok, Err, IfOk, refl, sym, ◌∙◌, ap, subst, arith}
use Rattle.std.proofs.lemmas.List.{length-map}
use Rattle.fd_base.specs.declared.memory.Memory.{Memory}
use Rattle.fd_base.specs.declared.numbering.Line.{Line}
use Rattle.fd_sets.specs.Sets.{Subset}
use Rattle.fd_prog.specs.Programs.{CheckedProgram}
use Rattle.fd_prog.specs.Flow.{graph_of}
use Rattle.fd_prog.specs.Items.{LinearItem}
use Rattle.fd_prog.specs.Nodes.{Node, nodes_of, nodes_among, node_count}
use Rattle.fd_prog.specs.PathConditions.{IsGoodPlan}
use Rattle.fd_prog.specs.Paths.{Marks, Places}
use Rattle.interval_graph.proofs.Inside.{few}
use Rattle.interval_graph.proofs.Laid.{flow, last, length_program}
use Rattle.fd_prog.specs.Uses.{items_of, takes, steals}
use Rattle.interval_graph.specs.declared.node.Row.{Row}
use Rattle.interval_graph.specs.Rows.{AreRows, row_of, rows_of, flow_of}
use Rattle.section_num.specs.Tables as numbered
use Rattle.gnt_solver.specs.declared.solving.Placement.{Placement}
use Rattle.gnt_solver.specs.Columns.{size_of, uses_of}
use Rattle.gnt_solver.specs.Equations.{AreSolved}
use Rattle.gnt_solver.specs.Placed.{AreTables}
use Rattle.gnt_solver.specs.Same.{AreSameUses}
use Rattle.gnt_solver.proofs.Alike.{solved_alike, rows_graph}
use Rattle.gnt_solver.proofs.Items.{is_good}
use Rattle.place_text.specs.Listings.{listing}
use Rattle.place_text.specs.Tables.{HasNodes, lines_of}
use Rattle.program_laws.specs.Plans.{node_uses, plan_of}
use Rattle.fdc_main.specs.Plans.{IsListing}

pub lines_same : (ns : List Node) → lines_of (rows_of ns) ≡ map (λ (n : Node). n.line) ns
lines_same [] = refl
lines_same (n ∷ ns) = ap (λ (ls : List Line). n.line ∷ ls) (lines_same ns)

pub uses_same : (p : CheckedProgram) (items : ℕ) (take steal : List Subset) → numbered.IsTable (node_count p) items (takes p) take → numbered.IsTable (node_count p) items (steals p) steal
    → AreSameUses (uses_of take steal) (node_uses p)
uses_same p items take steal t s = record { take = λ n x. t.members n x; steal = λ n x. s.members n x }

-- the places of every solution are good
good : (p : CheckedProgram) (places : Places) → AreSolved (graph_of (nodes_of p)) (node_uses p) places → IsGoodPlan (plan_of p places) (nodes_among p.body + 1)
good p places solved = is_good (plan_of p places) (nodes_among p.body + 1) (flow p) (last p) solved

pub listed : (p : CheckedProgram) (rows : List Row) (items : ℕ) (take steal : List Subset) (xs : List LinearItem) (places : Places) (text : List ℕ)
    → rows ≡ rows_of (nodes_of p) → numbered.IsTable (node_count p) items (takes p) take → numbered.IsTable (node_count p) items (steals p) steal
    → AreSolved (flow_of rows) (uses_of take steal) places → xs ≡ items_of p → text ≡ listing p xs (lines_of rows) places → IsListing p text
listed p rows items take steal xs places text e t s solved is told =
    let solves = solved_alike (flow_of (rows_of (nodes_of p))) (graph_of (nodes_of p)) (uses_of take steal) (node_uses p) places (rows_graph (nodes_of p)) (uses_same p items take steal t s)
    (subst (λ (r : List Row). AreSolved (flow_of r) (uses_of take steal) places) e solved) in
    record {
      places = places;
      solved = solves;
      good = good p places solves;
      is = told ∙ ap (λ (r : List Row). listing p xs (lines_of r) places) e
          ∙ ap (λ (ls : List Line). listing p xs ls places) (lines_same (nodes_of p))
          ∙ ap (λ (ys : List LinearItem). listing p ys (map (λ (n : Node). n.line) (nodes_of p)) places) is;
    }

-- ---- the tables have the sizes that solving and writing need

pub rows_count : (p : CheckedProgram) (rows : List Row) → rows ≡ rows_of (nodes_of p) → length rows ≡ node_count p
rows_count p rows e = ap length e ∙ length-map (nodes_of p) row_of ∙ length_program p

pub as_many : (p : CheckedProgram) (rows : List Row) (items : ℕ) (marks : Marks) (t : List Subset) → rows ≡ rows_of (nodes_of p) → numbered.IsTable (node_count p) items marks t → length t ≡ length rows
as_many p rows items marks t e is = is.table.long ∙ sym (rows_count p rows e)

pub few_rows : (rows : List Row) → AreRows rows → length rows < 2 ^ 16
few_rows rows are = let n = few rows are in omega (arith, n)

pub have_nodes : (p : CheckedProgram) (rows : List Row) (items : ℕ) (marks : Marks) (t : List Subset) (placement : Placement) → rows ≡ rows_of (nodes_of p) → numbered.IsTable (node_count p) items marks t
    → AreTables (size_of t) placement → HasNodes placement (length rows)
have_nodes p rows items marks t placement e is tables =
    let same = as_many p rows items marks t e is in
    record {
      send_in = tables.send_in.long ∙ same;
      send_out = tables.send_out.long ∙ same;
      recv_in = tables.recv_in.long ∙ same;
      recv_out = tables.recv_out.long ∙ same;
      hoists = tables.hoists.long ∙ same;
    }

-- ---- what is written

pub plan_fits : (result : Result (List ℕ) Memory) (p : CheckedProgram) (rows : List Row) (items : ℕ) (take steal : List Subset) (xs : List LinearItem) (places : Places)
    → rows ≡ rows_of (nodes_of p) → numbered.IsTable (node_count p) items (takes p) take → numbered.IsTable (node_count p) items (steals p) steal
    → AreSolved (flow_of rows) (uses_of take steal) places → xs ≡ items_of p → IfOk result (λ text. text ≡ listing p xs (lines_of rows) places) → IfOk result (IsListing p)
plan_fits (Ok text) p rows items take steal xs places e t s solved is told = listed p rows items take steal xs places text e t s solved is told
plan_fits (Err m) p rows items take steal xs places e t s solved is told = tt
