use Rattle.interval_graph.specs.Rows.{leads_at}
use Rattle.interval_graph.proofs.EdgeLaws.{tells_forward, tells_entry, tells_cycle, tells_before}
use Rattle.interval_graph.proofs.laws.edges_are_told.Goals as goal

pub returns : goal.returns
returns c = record {
  forward = λ rows n s. tells_forward (leads_at rows n) n s;
  entry = λ rows n s. tells_entry (leads_at rows n) n s;
  cycle = λ rows n s h. tells_cycle rows n s h;
  both = tells_before;
}
