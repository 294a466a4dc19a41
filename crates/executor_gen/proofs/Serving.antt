-- The code of a program serves every input, number of ranks and limit.
use Rattle.std.proofs.Common.{◌≡◌, ℕ, zero, suc, ◌+◌, ◌*◌, ◌^◌, ◌<◌, ◌≤◌, ℤ, List, [], ◌∷◌, length, refl, sym, ap, ◌∙◌, subst, arith, length-append}
use Rattle.std.specs.Prelude.{replicate}
use Rattle.std.proofs.lemmas.List.{length-map}
use Rattle.fd_prog.proofs.Sizes.{few_among}
use Rattle.fd_prog.specs.Checked.{IsCheckedProgram, size_among}
use Rattle.fd_prog.specs.Items.{linear_item_of}
use Rattle.fd_prog.specs.Nodes.{Node, nodes_of, node_count}
use Rattle.fd_prog.specs.Paths.{Places, Plan}
use Rattle.fd_prog.specs.Programs.{CheckedProgram}
use Rattle.fd_prog.specs.Uses.{items_of}
use Rattle.interval_graph.proofs.Laid.{length_program}
use Rattle.interval_graph.specs.declared.node.Row.{Row}
use Rattle.interval_graph.specs.Rows.{row_of, rows_of}
use Rattle.section_num.specs.declared.numbering.Items.{Items}
use Rattle.exec_code.specs.Instructions.{FlatCode}
use Rattle.exec_code.specs.Sound.{Follows, AreItemsOf, AreGoodPlaces, IsSoundJob}
use Rattle.program_laws.specs.Accepted.{IsAcceptedProgram}
use Rattle.program_laws.specs.Plans.{plan_of}
use Rattle.exec_code.specs.Trails.{is_distribute}
use Rattle.executor_gen.specs.Layout.{Spots, spots_of, node_block}
use Rattle.gnt_solver.specs.Placed.{places_of, AreTables}
use Rattle.gnt_solver.specs.declared.solving.Placement.{Placement}
use Rattle.executor_gen.specs.declared.operations.Operations.{Operations}
use Rattle.executor_gen.specs.Blocks.{blocks_from, lines_from, operations_among, AreOperations, IsLaid}
use Rattle.executor_gen.specs.Jobs.{job_with}
use Rattle.executor_gen.specs.Told.{AreTold}
use Rattle.executor_gen.proofs.Bounds.{code_small}
use Rattle.executor_gen.proofs.Bridge.{plan_is_of}
use Rattle.executor_gen.proofs.Laid.{length_replicate}
use Rattle.executor_gen.proofs.Members.{few_operations, told_operations}
use Rattle.executor_gen.proofs.Whole.{follows_program}

-- ---- sizes

-- there are few nodes
pub few_nodes : (p : CheckedProgram) → size_among p.body ≤ 4096 → node_count p ≤ 30000
few_nodes p h = let few = few_among p.body in omega (arith, few, h)

pub rows_counted : (p : CheckedProgram) (rows : List Row) → rows ≡ rows_of (nodes_of p) → length rows ≡ node_count p
rows_counted p rows e = ap length e ∙ length-map (nodes_of p) row_of ∙ length_program p

pub few_rows : (p : CheckedProgram) (rows : List Row) → rows ≡ rows_of (nodes_of p) → size_among p.body ≤ 4096 → length rows < 2 ^ 16
few_rows p rows e h = let same = rows_counted p rows e in let few = few_nodes p h in omega (arith, same, few)

-- a plan has as many items as were numbered
pub items_counted : (p : CheckedProgram) (items : Items) → AreItemsOf p items.items items.of_site → length (items_of p) ≡ length items.items
items_counted p items h = sym (ap length h.items) ∙ length-map items.items linear_item_of

-- tables of the sizes that are told by other numbers
pub tables_sized : (placement : Placement) (a b m n : ℕ) → m ≡ a → n ≡ b → AreTables (record { nodes = a; items = b }) placement → AreTables (record { nodes = m; items = n }) placement
tables_sized placement a b m n e f h =
    subst (λ (x : ℕ). AreTables (record { nodes = x; items = n }) placement) (sym e) (subst (λ (x : ℕ). AreTables (record { nodes = a; items = x }) placement) (sym f) h)

-- the operations that are read from the tables of a placement are those of the program's plan
pub plan_told : (p : CheckedProgram) (items : Items) (placement : Placement) (os ps : List Operations) (nodes count : ℕ) → AreItemsOf p items.items items.of_site → count ≡ length items.items
    → AreTables (record { nodes = nodes; items = count }) placement → length os ≡ nodes → AreTold (places_of placement) count 0 os → ps ≡ os → AreOperations (plan_of p (places_of placement)) ps
plan_told p items placement os ps nodes count numbered e tables long told same =
    subst (AreOperations (plan_of p (places_of placement))) (sym same)
    (told_operations (plan_of p (places_of placement)) placement count nodes os (items_counted p items numbered ∙ sym e) refl tables long told)

-- each instruction has a line
lines_counted : (o : Spots) (place : ℕ → ℕ) (ns : List Node) (k a : ℕ) → length (lines_from o place k a ns) ≡ length (blocks_from o place k a ns)
lines_counted o place [] k a = refl
lines_counted o place (n ∷ ns) k a =
    let block = node_block o place k a n.role in
    length-append (replicate (length block) n.line) (lines_from o place (k + is_distribute n.role) (suc a) ns) ∙ ap (λ m. m + length (lines_from o place (k + is_distribute n.role) (suc a) ns)) (length_replicate (length block) n.line)
    ∙ ap (λ m. length block + m) (lines_counted o place ns (k + is_distribute n.role) (suc a)) ∙ sym (length-append block (blocks_from o place (k + is_distribute n.role) (suc a) ns))

few_among_nodes : (o : Spots) → ((n : ℕ) → length (o.ins n) ≤ 1024) → ((n : ℕ) → length (o.outs n) ≤ 1024) → (a n : ℕ) → operations_among o a n ≤ 2048 * n
few_among_nodes o ins outs a zero = omega arith
few_among_nodes o ins outs a (suc n) = let x = ins a in let y = outs a in let rest = few_among_nodes o ins outs (suc a) n in omega (arith, x, y, rest)

plan_few : (p : Plan) → p.items ≤ 512 → (a n : ℕ) → operations_among (spots_of p) a n ≤ 2048 * n
plan_few p few = few_among_nodes (spots_of p)
    (λ n. let h = few_operations p.items (p.places.send_in n) (p.places.recv_in n) in omega (arith, h, few))
    (λ n. let h = few_operations p.items (p.places.send_out n) (p.places.recv_out n) in omega (arith, h, few))

-- ---- what the code is worth

pub code_bounded : (p : CheckedProgram) (places : Places) (code : FlatCode) → IsLaid (plan_of p places) (nodes_of p) code
    → length code.instructions ≤ 3 * node_count p + 2 * operations_among (spots_of (plan_of p places)) 0 (node_count p)
code_bounded p places code laid =
    let small = code_small (plan_of p places) p code laid in
    subst (λ n. length code.instructions ≤ 3 * n + 2 * operations_among (spots_of (plan_of p places)) 0 n) (length_program p) small

code_short : (p : CheckedProgram) (places : Places) (code : FlatCode) → IsLaid (plan_of p places) (nodes_of p) code → size_among p.body ≤ 4096 → length (items_of p) ≤ 512 → length code.instructions < 2 ^ 32
code_short p places code laid size few =
    let small = code_bounded p places code laid in
    let nodes = few_nodes p size in
    let operations = plan_few (plan_of p places) few 0 (node_count p) in
    omega (arith, small, nodes, operations)

pub code_follows : (p : CheckedProgram) (items : Items) (places : Places) (code : FlatCode) (input : List ℤ) (ranks limit : ℕ) → IsCheckedProgram p → AreItemsOf p items.items items.of_site
    → IsLaid (plan_of p places) (nodes_of p) code → Follows (job_with p items code input ranks limit) (plan_of p places)
code_follows p items places code input ranks limit rules numbered laid =
    let j = job_with p items code input ranks limit in
    follows_program j (plan_of p places) laid (plan_is_of j places rules numbered)

pub code_sound : (p : CheckedProgram) (items : Items) (places : Places) (code : FlatCode) (input : List ℤ) (ranks limit : ℕ) → IsAcceptedProgram p → AreItemsOf p items.items items.of_site
    → IsLaid (plan_of p places) (nodes_of p) code → AreGoodPlaces p places → 1 ≤ ranks → ranks ≤ 16 → 1 ≤ limit → limit ≤ 100000000 → IsSoundJob (job_with p items code input ranks limit)
code_sound p items places code input ranks limit accepted numbered laid good a b c d =
    let rules = accepted.checked in
    let few : length (items_of p) ≤ 512 = let same = items_counted p items numbered in let h = numbered.few in omega (arith, same, h) in
    record {
      accepted = accepted;
      items = numbered;
      some_ranks = a;
      few_ranks = b;
      some_steps = c;
      few_steps = d;
      short = code_short p places code laid rules.statements few;
      lines = ap length laid.lines ∙ lines_counted (spots_of (plan_of p places)) laid.place (nodes_of p) 0 0 ∙ sym (ap length laid.instructions);
      places = places;
      good = good;
      follows = code_follows p items places code input ranks limit rules numbered laid;
    }
