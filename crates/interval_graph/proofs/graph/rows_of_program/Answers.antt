use Rattle.std.proofs.Common.{◌≡◌, List, [], ◌∷◌, ◌++◌, sym, ap, arith}
use Rattle.std.proofs.lemmas.List.{map-append}
use Rattle.fd_prog.specs.Statements.{statements_of}
use Rattle.fd_prog.specs.Programs.{CheckedProgram, program_of}
use Rattle.fd_prog.specs.Nodes.{End, at_line, start_node, all_nodes_from, nodes_of}
use Rattle.interval_graph.specs.declared.node.Row.{Row}
use Rattle.interval_graph.specs.Rows.{row_of, rows_of}
use Rattle.fd_prog.proofs.Sizes.{few_among}
use Rattle.interval_graph.proofs.graph.rows_of_program.Goals as goal

-- the start, the nodes of the statements and the end are the nodes of a program
whole : (p : CheckedProgram) (r0 r1 r2 r3 : List Row) → r0 ≡ [] → r1 ≡ r0 ++ (row_of start_node ∷ []) → r2 ≡ r1 ++ rows_of (all_nodes_from 1 p.body)
    → r3 ≡ r2 ++ (row_of (at_line p.end_line End) ∷ []) → r3 ≡ rows_of (nodes_of p)
whole p r0 r1 r2 r3 e0 e1 e2 e3 =
    rw (e3, e2, e1, e0) (ap (λ (rs : List Row). row_of start_node ∷ rs) (sym (map-append row_of (all_nodes_from 1 p.body) (at_line p.end_line End ∷ []))))

pub lay_all-requires : goal.lay_all-requires
lay_all-requires c = omega (arith, few_among (statements_of c.args.program.now.body), c.requires)

pub returns-clause-rows : goal.returns-clause-rows
returns-clause-rows c = (
  program_of c.args.program.now,
  whole (program_of c.args.program.now) c.new-rows.result.items c.add.new.rows.items c.lay_all.new.rows.items c.add-2.new.rows.items c.new-rows.ensures.items c.in_ok-add.ensures c.in_ok-lay_all.ensures c.in_ok-add-2.ensures,
  omega (arith, few_among (statements_of c.args.program.now.body), c.requires),
)
