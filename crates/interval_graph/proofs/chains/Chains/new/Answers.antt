use Rattle.std.proofs.Common.{sym, subst}
use Rattle.interval_graph.specs.Chained.{AreChained}
use Rattle.interval_graph.proofs.Chained.{no_edges}
use Rattle.interval_graph.proofs.chains.Chains.new.Goals as goal

pub invariant_of-result : goal.invariant_of-result
invariant_of-result c = subst (AreChained c.in_ok-links.links) (sym c.new-2.ensures.items) (no_edges c.in_ok-links.links _ c.in_ok-links.ensures)
