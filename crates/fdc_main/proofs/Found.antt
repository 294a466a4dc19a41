-- What is built, read and judged is what there is to find in a text.
use Rattle.std.proofs.Common.{◌≡◌, ℕ, ◌+◌, ◌-◌, List, map, length, sym, ◌∙◌, ap, subst, arith}
use Rattle.std.specs.Prelude.{get_or}
use Rattle.std.proofs.lemmas.List.{length-map}
use Rattle.fd_base.specs.declared.numbering.Line.{Line}
use Rattle.fd_sets.specs.Tables.{no_items}
use Rattle.fd_prog.specs.Programs.{CheckedProgram}
use Rattle.fd_prog.specs.Flow.{graph_of}
use Rattle.fd_prog.specs.Items.{linear_item_of}
use Rattle.fd_prog.specs.Nodes.{Node, nodes_of, nodes_among, node_count}
use Rattle.fd_prog.specs.Paths.{Marks, Plan, taken_inside}
use Rattle.fd_prog.specs.Uses.{items_of, takes}
use Rattle.interval_graph.specs.declared.node.Row.{Row}
use Rattle.interval_graph.specs.Rows.{rows_of, flow_of}
use Rattle.section_num.specs.declared.numbering.Items.{Items}
use Rattle.gnt_solver.specs.declared.solving.Placement.{Placement}
use Rattle.gnt_solver.specs.declared.tables.Size.{Size}
use Rattle.gnt_solver.specs.Columns.{IsTable, at, col, size_of, uses_of}
use Rattle.gnt_solver.specs.Placed.{AreTables, places_of}
use Rattle.gnt_solver.proofs.Alike.{rows_graph}
use Rattle.place_text.specs.Readings.{Layout, IsReadAs, IsFirstWrong, NamesLine, layout_by, lines_in, opening, size_by}
use Rattle.place_text.specs.Tables.{lines_of}
use Rattle.place_text.specs.declared.refusal.ListingRefusal.{ListingRefusal}
use Rattle.place_text.specs.declared.refusal.ListingRefusal.TheVariants as refused
use Rattle.place_check.specs.Columns as judged
use Rattle.place_check.specs.declared.verdict.Verdict.{Verdict}
use Rattle.place_check.specs.Verdicts.{IsVerdict}
use Rattle.program_laws.specs.Plans.{node_uses, plan_of}
use Rattle.fdc_main.specs.Plans.{AreItems}
use Rattle.fdc_main.specs.Checks.{IsJudged, front_of, layout_of}
use Rattle.fdc_main.proofs.Planned.{lines_same, rows_count, uses_same}
use Rattle.fdc_main.proofs.Same.{same_graphs, same_uses}

-- ---- what is told of a program's graph and items is the program's

graph_same : (p : CheckedProgram) (rows : List Row) → rows ≡ rows_of (nodes_of p) → flow_of rows ≡ graph_of (nodes_of p)
graph_same p rows e = ap flow_of e ∙ same_graphs (flow_of (rows_of (nodes_of p))) (graph_of (nodes_of p)) (rows_graph (nodes_of p))

as_many_items : (p : CheckedProgram) (x : Items) → AreItems p x → length x.items ≡ length (items_of p)
as_many_items p x are = sym (length-map x.items linear_item_of) ∙ ap length are.items

front_same : (p : CheckedProgram) (x : Items) → AreItems p x → opening p (map linear_item_of x.items) ≡ front_of p
front_same p x are = ap (opening p) are.items

layout_same : (p : CheckedProgram) (rows : List Row) (x : Items) → rows ≡ rows_of (nodes_of p) → AreItems p x → layout_by rows x.items x.take ≡ layout_of p
layout_same p rows x e are =
    let lines : lines_of rows ≡ map (λ (n : Node). n.line) (nodes_of p) = ap lines_of e ∙ lines_same (nodes_of p) in
    let many : length x.items ≡ length (items_of p) = as_many_items p x are in
    let graph : flow_of rows ≡ graph_of (nodes_of p) = graph_same p rows e in
    let take : ◌≡◌ {A = Marks} (λ n y. at (col x.take y) n) (takes p) = λ i n y. are.take.members n y i in
    λ i. record { lines = lines i; items = many i; taken = taken_inside (graph i) (take i) }

plan_same : (p : CheckedProgram) (rows : List Row) (x : Items) (placement : Placement) → rows ≡ rows_of (nodes_of p) → AreItems p x → judged.plan_of rows x.take x.steal placement ≡ plan_of p (places_of placement)
plan_same p rows x placement e are =
    let graph : flow_of rows ≡ graph_of (nodes_of p) = graph_same p rows e in
    let many : (size_of x.take).items ≡ length (items_of p) = are.take.table.sizes 0 (omega arith) ∙ as_many_items p x are in
    let uses : uses_of x.take x.steal ≡ node_uses p = same_uses (uses_of x.take x.steal) (node_uses p) (uses_same p (length x.items) x.take x.steal are.take are.steal) in
    λ i. record { graph = graph i; items = many i; uses = uses i; places = places_of placement }

last_same : (p : CheckedProgram) (rows : List Row) → rows ≡ rows_of (nodes_of p) → length rows - 1 ≡ nodes_among p.body + 1
last_same p rows e = let n : length rows ≡ node_count p = rows_count p rows e in omega (arith, n)

-- ---- the tables have the sizes that reading and judging need

pub read_takes : (p : CheckedProgram) (rows : List Row) (x : Items) → rows ≡ rows_of (nodes_of p) → AreItems p x → IsTable (size_by rows x.items) x.take
read_takes p rows x e are = subst (λ (n : ℕ). IsTable (record { nodes = n; items = length x.items }) x.take) (sym (rows_count p rows e)) are.take.table

sizes_same : (p : CheckedProgram) (rows : List Row) (x : Items) → rows ≡ rows_of (nodes_of p) → AreItems p x → size_by rows x.items ≡ size_of x.take
sizes_same p rows x e are =
    let nodes : length rows ≡ length x.take = rows_count p rows e ∙ sym are.take.table.long in
    let items : length x.items ≡ (get_or x.take 0 no_items).size = sym (are.take.table.sizes 0 (omega arith)) in
    λ i. record { nodes = nodes i; items = items i }

pub judged_tables : (p : CheckedProgram) (rows : List Row) (x : Items) (placement : Placement) → rows ≡ rows_of (nodes_of p) → AreItems p x → AreTables (size_by rows x.items) placement → AreTables (size_of x.take) placement
judged_tables p rows x placement e are = subst (λ (s : Size). AreTables s placement) (sizes_same p rows x e are)

-- ---- what is found

pub found_verdict : (p : CheckedProgram) (rows : List Row) (x : Items) (text : List ℕ) (placement : Placement) (v : Verdict) → rows ≡ rows_of (nodes_of p) → AreItems p x
    → IsReadAs (opening p (map linear_item_of x.items)) (layout_by rows x.items x.take) (lines_in text) (places_of placement)
    → IsVerdict (judged.plan_of rows x.take x.steal placement) (length rows - 1) v → IsJudged p text v
found_verdict p rows x text placement v e are read verdict = record {
  places = places_of placement;
  read = subst (λ (y : Layout). IsReadAs (front_of p) y (lines_in text) (places_of placement)) (layout_same p rows x e are)
      (subst (λ (front : List (List ℕ)). IsReadAs front (layout_by rows x.items x.take) (lines_in text) (places_of placement)) (front_same p x are) read);
  verdict = subst (λ (last : ℕ). IsVerdict (plan_of p (places_of placement)) last v) (last_same p rows e)
      (subst (λ (q : Plan). IsVerdict q (length rows - 1) v) (plan_same p rows x placement e are) verdict);
}

pub found_line : (p : CheckedProgram) (rows : List Row) (x : Items) (text : List ℕ) (refusal : ListingRefusal) (line : Line) → rows ≡ rows_of (nodes_of p) → AreItems p x → refusal ≡ refused.Bad line
    → NamesLine refusal (IsFirstWrong (opening p (map linear_item_of x.items)) (layout_by rows x.items x.take) (lines_in text)) → IsFirstWrong (front_of p) (layout_of p) (lines_in text) line.0
found_line p rows x text refusal line e are is wrong =
    subst (λ (y : Layout). IsFirstWrong (front_of p) y (lines_in text) line.0) (layout_same p rows x e are)
    (subst (λ (front : List (List ℕ)). IsFirstWrong front (layout_by rows x.items x.take) (lines_in text) line.0) (front_same p x are)
    (subst (λ (r : ListingRefusal). NamesLine r (IsFirstWrong (opening p (map linear_item_of x.items)) (layout_by rows x.items x.take) (lines_in text))) is wrong))
