use Rattle.interval_graph.proofs.Laid.{flow, last}
use Rattle.interval_graph.proofs.laws.nodes_are_flow.Goals as goal

pub returns : goal.returns
returns c = record { flow = flow; last = last }
