use Rattle.fd_prog.specs.Programs.{program_of}
use Rattle.fdc_main.proofs.Found.{read_takes}
use Rattle.fdc_main.proofs.Planned.{few_rows}
use Rattle.fdc_main.proofs.rows.calls.verdict_text.Goals as goal

pub read_listing-requires-clause-takes : goal.read_listing-requires-clause-takes
read_listing-requires-clause-takes c = read_takes (program_of c.args.program.now) c.in_ok-graph.graph.rows.items c.args.items.now c.in_ok-graph.ensures.nodes c.requires.items

pub count-requires : goal.count-requires
count-requires c = few_rows c.in_ok-graph.graph.rows.items c.in_ok-graph.ensures.rows
