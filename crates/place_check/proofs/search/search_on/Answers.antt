use Rattle.std.proofs.Common.{length, arith}
use Rattle.interval_graph.specs.Rows.{flow_of}
use Rattle.place_check.specs.Columns.{machine_of}
use Rattle.place_check.proofs.First.{none_found}
use Rattle.place_check.proofs.search.search_on.Goals as goal

pub returns : goal.returns
returns c =
    none_found (flow_of c.args.graph.now.rows.items) (machine_of c.args.column.now) (length c.args.graph.now.rows.items) c.loop-next.search c.loop-next.next c.loop-next.invariant
    (omega (arith, c.len.ensures, c.loop-next-test.false, c.loop-next.search.reached.ok.0))
