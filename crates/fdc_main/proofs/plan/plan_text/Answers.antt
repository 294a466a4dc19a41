use Rattle.std.proofs.Common.{map}
use Rattle.fd_prog.specs.Items.{linear_item_of}
use Rattle.fd_prog.specs.Programs.{program_of}
use Rattle.gnt_solver.specs.Placed.{places_of}
use Rattle.fdc_main.proofs.Planned.{as_many, few_rows, have_nodes, plan_fits}
use Rattle.fdc_main.proofs.plan.plan_text.Goals as goal

pub solve-requires-clause-nodes : goal.solve-requires-clause-nodes
solve-requires-clause-nodes c = as_many (program_of c.args.program.now) c.in_ok-graph.graph.rows.items _ _ c.args.items.now.take c.in_ok-graph.ensures.nodes c.requires.items.take

pub write_listing-requires-clause-nodes : goal.write_listing-requires-clause-nodes
write_listing-requires-clause-nodes c = few_rows c.in_ok-graph.graph.rows.items c.in_ok-graph.ensures.rows

pub write_listing-requires-clause-tables : goal.write_listing-requires-clause-tables
write_listing-requires-clause-tables c =
    have_nodes (program_of c.args.program.now) c.in_ok-graph.graph.rows.items _ _ c.args.items.now.take c.in_ok-placement.placement c.in_ok-graph.ensures.nodes c.requires.items.take c.in_ok-placement.ensures.tables

pub returns : goal.returns
returns c =
    plan_fits c.write_listing.result (program_of c.args.program.now) c.in_ok-graph.graph.rows.items _ c.args.items.now.take c.args.items.now.steal (map linear_item_of c.args.items.now.items) (places_of c.in_ok-placement.placement)
    c.in_ok-graph.ensures.nodes c.requires.items.take c.requires.items.steal c.in_ok-placement.ensures.solved c.requires.items.items c.write_listing.ensures
