use Rattle.fdc_main.proofs.Planned.{few_rows}
use Rattle.fdc_main.proofs.rows.calls.graph_text.Goals as goal

pub count-n-end-requires : goal.count-n-end-requires
count-n-end-requires c = few_rows c.in_ok-graph.graph.rows.items c.in_ok-graph.ensures.rows
