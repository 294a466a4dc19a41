use Rattle.fd_prog.specs.Programs.{program_of}
use Rattle.fdc_main.proofs.Found.{read_takes, judged_tables, found_verdict, found_line}
use Rattle.fdc_main.proofs.Planned.{as_many}
use Rattle.fdc_main.proofs.check.check_listing.Goals as goal

pub read_listing-requires-clause-takes : goal.read_listing-requires-clause-takes
read_listing-requires-clause-takes c = read_takes (program_of c.args.program.now) c.in_ok-graph.graph.rows.items c.args.items.now c.in_ok-graph.ensures.nodes c.requires.items

pub judge-requires-clause-nodes : goal.judge-requires-clause-nodes
judge-requires-clause-nodes c = as_many (program_of c.args.program.now) c.in_ok-graph.graph.rows.items _ _ c.args.items.now.take c.in_ok-graph.ensures.nodes c.requires.items.take

pub judge-requires-clause-tables : goal.judge-requires-clause-tables
judge-requires-clause-tables c =
    judged_tables (program_of c.args.program.now) c.in_ok-graph.graph.rows.items c.args.items.now c.in-Ok.placement c.in_ok-graph.ensures.nodes c.requires.items c.in-Ok.ensures.tables

pub returns-in-Ok : goal.returns-in-Ok
returns-in-Ok c =
    found_verdict (program_of c.args.program.now) c.in_ok-graph.graph.rows.items c.args.items.now c.args.text.now c.in-Ok.placement c.in_ok-verdict-in-Ok.verdict c.in_ok-graph.ensures.nodes c.requires.items
    c.in-Ok.ensures.read c.in_ok-verdict-in-Ok.ensures

pub returns-in-Err-Bad : goal.returns-in-Err-Bad
returns-in-Err-Bad c =
    rw c.in-Err-Bad.field-0-is
    (found_line (program_of c.args.program.now) c.in_ok-graph.graph.rows.items c.args.items.now c.args.text.now c.in-Err-Bad.field-0 c.in-Err-Bad.line c.in_ok-graph.ensures.nodes c.requires.items
    c.in-Err-Bad.field-0-is c.in-Err-Bad.ensures.wrong)
