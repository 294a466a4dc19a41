use Rattle.std.proofs.Common.{◌≤◌, length, arith}
use Rattle.std.proofs.lemmas.List.{length-map}
use Rattle.fd_prog.specs.Nodes.{nodes_of}
use Rattle.fd_prog.specs.Programs.{program_of}
use Rattle.fd_prog.specs.Uses.{items_of}
use Rattle.gnt_solver.specs.Placed.{places_of}
use Rattle.exec_code.specs.Instructions.{code_of, instruction_of}
use Rattle.program_laws.specs.Plans.{plan_of}
use Rattle.executor_gen.specs.Blocks.{IsLaid}
use Rattle.executor_gen.proofs.Serving.{few_nodes, few_rows, items_counted, tables_sized, plan_told, code_bounded, code_follows, code_sound}
use Rattle.executor_gen.proofs.Members.{few_told}
use Rattle.executor_gen.proofs.generating.generate.Goals as goal
use Rattle.executor_gen.proofs.generating.generate.Goals.{After-drop-operations-2}

pub count-nodes-requires : goal.count-nodes-requires
count-nodes-requires c = few_rows (program_of c.args.program.now) c.args.graph.now.rows.items c.requires.rows c.requires.accepted.checked.statements

pub operations_of-requires-clause-tables : goal.operations_of-requires-clause-tables
operations_of-requires-clause-tables c = tables_sized c.args.p.now _ _ _ _ c.count-nodes.ensures c.len-count.ensures c.requires.tables

pub code_with-requires-clause-nodes : goal.code_with-requires-clause-nodes
code_with-requires-clause-nodes c = few_nodes (program_of c.args.program.now) c.requires.accepted.checked.statements

pub code_with-requires-clause-few : goal.code_with-requires-clause-few
code_with-requires-clause-few c =
    let p = program_of c.args.program.now in
    let tables = tables_sized c.args.p.now _ _ _ _ c.count-nodes.ensures c.len-count.ensures c.requires.tables in
    let told = plan_told p c.args.items.now c.args.p.now c.in_ok-operations.operations.items c.as_slice.result.now c.count-nodes.result c.len-count.result c.requires.numbered c.len-count.ensures tables
    c.in_ok-operations.ensures.count c.in_ok-operations.ensures.told c.as_slice.ensures.value in
    let same = items_counted p c.args.items.now c.requires.numbered in
    let few : length (items_of p) ≤ 512 = omega (arith, same, c.requires.numbered.few) in
    few_told (plan_of p (places_of c.args.p.now)) c.as_slice.result.now told few

laid : (c : After-drop-operations-2) → IsLaid (plan_of (program_of c.args.program.now) (places_of c.args.p.now)) (nodes_of (program_of c.args.program.now)) (code_of c.in_ok-code.code)
laid c =
    let p = program_of c.args.program.now in
    let tables = tables_sized c.args.p.now _ _ _ _ c.count-nodes.ensures c.len-count.ensures c.requires.tables in
    c.in_ok-code.ensures (plan_of p (places_of c.args.p.now))
    (plan_told p c.args.items.now c.args.p.now c.in_ok-operations.operations.items c.as_slice.result.now c.count-nodes.result c.len-count.result c.requires.numbered c.len-count.ensures tables
    c.in_ok-operations.ensures.count c.in_ok-operations.ensures.told c.as_slice.ensures.value)

pub returns-clause-runs : goal.returns-clause-runs
returns-clause-runs c = λ input ranks limit.
    code_follows (program_of c.args.program.now) c.args.items.now (places_of c.args.p.now) (code_of c.in_ok-code.code) input ranks limit c.requires.accepted.checked c.requires.numbered (laid c)

pub returns-clause-sound : goal.returns-clause-sound
returns-clause-sound c = λ good input ranks limit a b d e.
    code_sound (program_of c.args.program.now) c.args.items.now (places_of c.args.p.now) (code_of c.in_ok-code.code) input ranks limit c.requires.accepted c.requires.numbered (laid c) good a b d e

pub returns-clause-small : goal.returns-clause-small
returns-clause-small c =
    let bound = code_bounded (program_of c.args.program.now) (places_of c.args.p.now) (code_of c.in_ok-code.code) (laid c) in
    let same = length-map c.in_ok-code.code.instrs instruction_of in
    omega (arith, bound, same)
